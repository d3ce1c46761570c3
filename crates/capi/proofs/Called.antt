-- A call's answer and its block, by the way that it went.
use mathlib.Core.Bool.{Bool, true, false, not, ◌&&◌, false≢true}
use mathlib.Core.List.{List}
use mathlib.Core.Path.{◌≡◌, refl, sym, ap, ◌∙◌}
use Prim.Native.Nat.{ℕ}
use lib.Dec.{eqb}
use lib.ListN.{length}
use borrow.Author.Tests.{eq-eqb, ne_eqb}
use Rattle.std.proofs.Common.{Result, Ok, Err}
use Rattle.base.specs.Base.{pick}
use Rattle.base.proofs.Choices.{Is, Not, and-not}
use Rattle.model.specs.Refusals.{code}
use Rattle.model.specs.Step.{refusal, step}
use Rattle.model.specs.Shown.{is_read}
use Rattle.model.specs.declared.Controller.{Controller}
use Rattle.model.specs.declared.Stepped.{Stepped}
use Rattle.model.specs.declared.Refusal.{Refusal}
use Rattle.model.specs.declared.Core.{Core}
use Rattle.model.specs.declared.Step as steps
use Rattle.model.specs.declared.Step.TheVariants.{Reset, Read, Write, Idle, BitTimes, Activity, Start, Outcome, Receive, ReceiveError}
use Rattle.model.proofs.RefusalNumbers.{refused}
use Rattle.writes.specs.Places.{is_nothing, changed}
use Rattle.controller.specs.After.{write_after, core_step, core_step_at, whole, whole-step}
use Rattle.controller.specs.declared.CoreStepped.{CoreStepped}
use Rattle.block.specs.Block.{block_length}
use Rattle.block.specs.Loading.{right_length, accepts, banks_loaded, loaded, save_code, saved_over, core_saved_over, banks_saved_over}
use Rattle.block.proofs.Exactly.{accepted-length}
use Rattle.block_load.specs.Loaded.{loaded_core, loaded_whole}
use Rattle.block_load.proofs.Loads.{was_accepted, was_refused, whole-loaded}
use Rattle.block_save.proofs.Over.{same_size, over}
use Rattle.capi.specs.Calls.{is_board, takes, packed, answer, changes, block_after}

abbrev pub Gives : ℕ → List ℕ → steps.Step → ℕ → List ℕ → Type 0
Gives board b e r d = (r ≡ answer board b e) × (d ≡ block_after board b e)

not_taken : (board : ℕ) (b : List ℕ) (e : steps.Step) → Not (takes board b) → Gives board b e 10 b
unfolding answer block_after
not_taken board b e h = (rw h, rw h)

pub no_board : (board : ℕ) (b : List ℕ) (e : steps.Step) → (board ≡ 0 → ⊥) → Gives board b e 10 b
unfolding takes is_board
no_board board b e h = not_taken board b e (rw (ne_eqb board 0 h))

pub not-loaded : (board : ℕ) (b : List ℕ) (e : steps.Step) (r : Refusal) → Err r ≡ loaded_core b → Gives board b e (code r) b
unfolding takes
not-loaded board b e r p =
    let w = was_refused b r p in
    let g = not_taken board b e (and-not (is_board board) (accepts b) w.0) in
    (ap code w.1 ∙ g.0, g.1)

-- a block of the right length is saved to
never_refused : (r : Refusal) (x : List ℕ) → Is (right_length x) → code r ≡ save_code x → ⊥
unfolding save_code
never_refused r x h e =
    let k : code r ≡ 0 = e ∙ ap (λ (t : Bool). pick t 0 10) h in
    false≢true (sym (refused r) ∙ ap (λ (n : ℕ). eqb n 0) k)

pub not_read : (e : steps.Step) → ((o : ℕ) → e ≡ Read o → ⊥) → Not (is_read e)
not_read Reset h = refl
not_read (Read o) h = absurd (h o refl)
not_read (Write o w) h = refl
not_read Idle h = refl
not_read (BitTimes n) h = refl
not_read Activity h = refl
not_read Start h = refl
not_read (Outcome r) h = refl
not_read (Receive x) h = refl
not_read (ReceiveError k n) h = refl

-- ---- a block that is taken, its core, its banks' words, and the step of these

module _ (board : ℕ) (b : List ℕ) (e : steps.Step) (h : board ≡ 0) (l : Core) (p : Ok l ≡ loaded_core b) (v : List ℕ) (q : v ≡ banks_loaded b) (s : CoreStepped) (t : s ≡ core_step l v e) where
  taken : Is (accepts b)
  taken = (was_accepted b l p).0

  right : Is (right_length b)
  unfolding right_length
  right = eq-eqb (length b) block_length (accepted-length b taken)

  board_taken : Is (takes board b)
  unfolding takes is_board
  board_taken = rw (eq-eqb board 0 h, taken)

  state : ◌≡◌ {A = Controller} (record { core = l; banks = v }) (loaded b)
  unfolding loaded_whole
  state =
      let z : Controller = record { core = l; banks = v } in
      let w : ◌≡◌ {A = Result Controller Refusal} (Ok z) (Ok (loaded b)) = whole-loaded b l v p q ∙ rw taken in
      cc

  stepped : whole (loaded b) s ≡ step (loaded b) e
  stepped = ap (λ (r : CoreStepped). whole (loaded b) r) (t ∙ ap (λ (z : Controller). core_step z.core z.banks e) state) ∙ whole-step (loaded b) e

  pub answered : packed s.answer.code s.answer.lines s.answer.word ≡ answer board b e
  unfolding answer
  answered = rw board_taken (ap (λ (r : Stepped). packed r.code r.lines r.word) stepped)

  code_is : s.answer.code ≡ (step (loaded b) e).code
  code_is = ap (λ (r : Stepped). r.code) stepped

  -- neither saving is refused
  pub core-saved : (r : Refusal) → code r ≡ save_code b → ⊥
  core-saved r = never_refused r b right

  pub banks-saved : (r : Refusal) (x : List ℕ) → x ≡ core_saved_over b s.core → code r ≡ save_code x → ⊥
  banks-saved r x k = never_refused r x (ap right_length k ∙ same_size b s.core ∙ right)

  -- a refused step leaves the block, and so does a read
  pub refused_leaves : (s.answer.code ≡ 0 → ⊥) → b ≡ block_after board b e
  unfolding block_after
  refused_leaves n = rw (board_taken, sym (ap (λ (c : ℕ). eqb c 0) code_is) ∙ ne_eqb s.answer.code 0 n)

  pub read_leaves : Is (is_read e) → b ≡ block_after board b e
  unfolding block_after
  read_leaves r = rw (and-not (takes board b) (changes b e) (and-not (eqb (step (loaded b) e).code 0) (not (is_read e)) (rw r)))

  module _ (z : s.answer.code ≡ 0) (n : Not (is_read e)) where
    changing : Is (takes board b && changes b e)
    changing = rw (board_taken, sym (ap (λ (c : ℕ). eqb c 0) code_is) ∙ eq-eqb s.answer.code 0 z, n)

    write_is : s.banks ≡ write_after e
    unfolding core_step core_step_at
    write_is =
        let c : refusal l e ≡ 0 = sym (ap (λ (r : CoreStepped). r.answer.code) t) ∙ z in
        ap (λ (r : CoreStepped). r.banks) t ∙ rw (eq-eqb (refusal l e) 0 c)

    core_is : s.core ≡ (step (loaded b) e).controller.core
    core_is = ap (λ (r : Stepped). r.controller.core) stepped

    -- all but the banks' words
    pub core-written : (d : List ℕ) → is_nothing s.banks ≡ true → d ≡ core_saved_over b s.core → d ≡ block_after board b e
    unfolding block_after core_saved_over
    core-written d w x = x ∙ rw (right, changing, core_is, sym (ap is_nothing write_is) ∙ w)

    banks_are : changed v s.banks ≡ (step (loaded b) e).controller.banks
    banks_are = ap (λ (y : Controller). changed y.banks s.banks) state ∙ ap (λ (r : Stepped). r.controller.banks) stepped

    -- all
    pub all_written_lem : (d u : List ℕ) → is_nothing s.banks ≡ false → u ≡ changed v s.banks → length u ≡ 28 → d ≡ banks_saved_over (core_saved_over b s.core) u → d ≡ block_after board b e
    unfolding block_after saved_over
    all_written_lem d u w x m y =
        let o : Controller = record { core = s.core; banks = u } in
        let f : o ≡ (step (loaded b) e).controller = λ i. record { core = core_is i; banks = (x ∙ banks_are) i } in
        y ∙ over b o m ∙ rw (right, changing, sym (ap is_nothing write_is) ∙ w, f)
