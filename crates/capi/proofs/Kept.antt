-- What the calls promise, from states within the ranges.
use mathlib.Core.Bool.{Bool, true, false, not, ◌&&◌, ◌||◌, true≢false}
use mathlib.Core.List.{List, [], ◌∷◌, ◌++◌}
use mathlib.Core.Path.{◌≡◌, refl, sym, subst, ap, ◌∙◌}
use Prim.Native.Nat.{ℕ, ◌+◌, ◌*◌, ◌<◌}
use native.Mathlib.Omega.{arith}
use lib.Dec.{eqb}
use lib.ListN.{length}
use lib.Seq.{sets}
use borrow.Author.Tests.{eq-eqb, ne_eqb, eqb-true}
use Rattle.base.specs.Base.{pick, bit, one}
use Rattle.base.proofs.Choices.{Is, Not, and_l, one-le, and-not}
use Rattle.model.specs.Control.{mode_next, is_initialization, is_sleep, inrq, sleep, boff, entered, status_line}
use Rattle.model.specs.Control as control
use Rattle.model.specs.Reception.{fifo_line}
use Rattle.model.specs.Registers.{reset, is_free, with_control}
use Rattle.model.specs.Step.{refusal, step, answered, core_after, banks_after, applied, banks_applied, settled, any_rqcp, lines_of}
use Rattle.model.specs.Shown.{is_read}
use Rattle.model.specs.Reachable.{InRange, StepsRange}
use Rattle.model.specs.Records.{Bytes}
use Rattle.model.specs.Requests.{start_word, after, entries}
use Rattle.model.specs.declared.Mode.{Mode}
use Rattle.model.specs.declared.Mode.TheVariants.{Sleep, Initialization, Normal}
use Rattle.model.specs.declared.Control.{Control}
use Rattle.model.specs.declared.Core.{Core}
use Rattle.model.specs.declared.Controller.{Controller}
use Rattle.model.specs.declared.Stepped as answers
use Rattle.model.specs.declared.Step as steps
use Rattle.model.specs.declared.Step.TheVariants.{Reset, Read, Write, Idle, BitTimes, Activity, Start, Outcome, Receive, ReceiveError}
use Rattle.model.proofs.Coded.{codes, refused}
use Rattle.model.proofs.Reached.{reset-in_range, step-in_range, after-in_range}
use Rattle.model.proofs.FromAnywhere.{from-state, hardware_reset}
use Rattle.writes.specs.Places.{is_nothing, changed-nothing}
use Rattle.controller.specs.After.{write_after, core_step, core_step_at, whole-step}
use Rattle.block.specs.Block.{block_length, core_bytes, banks_bytes, saved}
use Rattle.block.specs.Loading.{right_length, accepts, load_code, loaded, Saves}
use Rattle.block.proofs.Lengths.{core-length}
use Rattle.block.proofs.Stores.{past_head}
use Rattle.block.proofs.Exactly.{blocks, saved-loads, code-zero}
use Rattle.capi.specs.Calls.{is_board, block_size, fits, takes, packed, answer, block_after, reset_answer, block_reset}
use Rattle.capi.specs.Promises.{code_in, lines_in, unused_in, word_in, BlockRefused, BlockStepped, Resets, block_behind, call_entries, Called, Promises}
use Rattle.capi.proofs.Called.{no_board}

-- ---- a read changes nothing, since the mode has followed INRQ and SLEEP

module _ (k : Control) (off : Bool) where
  same-recovery : (m : Mode) → pick (is_initialization m && not (is_initialization m)) 0 k.recovery ≡ k.recovery
  same-recovery Sleep = refl
  same-recovery Initialization = refl
  same-recovery Normal = refl

  same-entry : (m : Mode) (f : Bool) → (f || (is_initialization m && not (is_initialization m) && off)) ≡ f
  same-entry m true = refl
  same-entry Sleep false = refl
  same-entry Initialization false = refl
  same-entry Normal false = refl

  same-slaki : (m : Mode) (f x : Bool) → pick (is_sleep m) (f || (not (is_sleep m) && x)) (f && not (is_sleep m)) ≡ f
  same-slaki Sleep true x = refl
  same-slaki Sleep false x = refl
  same-slaki Initialization true x = refl
  same-slaki Initialization false x = refl
  same-slaki Normal true x = refl
  same-slaki Normal false x = refl

  same-mode : entered k k.mode off ≡ k
  unfolding entered
  same-mode = λ i. record {
    mcr = k.mcr;
    ier = k.ier;
    btr = k.btr;
    timer = k.timer;
    mode = k.mode;
    recovery = same-recovery k.mode i;
    reinitialized = same-entry k.mode k.reinitialized i;
    erri = k.erri;
    wkui = k.wkui;
    slaki = same-slaki k.mode k.slaki (bit 17 k.ier) i;
  }

  settled-stays : (free : Bool) → (free ≡ true → mode_next k.mode (inrq k) (sleep k) ≡ k.mode) → control.settled k free off ≡ k
  unfolding control.settled
  settled-stays true h = ap (λ (m : Mode). entered k m off) (h refl) ∙ same-mode
  settled-stays false h = refl

read_unmoved : (z : Controller) (o : ℕ) → InRange z → (step z (Read o)).controller ≡ z
unfolding step answered core_after banks_after settled applied banks_applied
read_unmoved z o r = go (eqb (refusal z.core (Read o)) 0)
  where
    go : (t : Bool) → ◌≡◌ {A = Controller} (record { core = pick t (settled z.core) z.core; banks = pick t z.banks z.banks }) z
    go true = ap (λ (k : Control). record { core = with_control z.core k; banks = z.banks }) (settled-stays z.core.control (boff z.core.errors) (is_free z.core) r.mode)
    go false = refl

-- ---- the parts of an answer

four-lines : (a b c d : Bool) → one a + one b * 2 + one c * 4 + one d * 8 < 256
four-lines a b c d = omega (arith, one-le a, one-le b, one-le c, one-le d)

lines_small : (z : Controller) (e : steps.Step) → (step z e).lines < 256
unfolding step answered lines_of
lines_small z e =
    let c : Core = core_after z.core z.banks e (refusal z.core e) in
    four-lines (bit 0 c.control.ier && any_rqcp c.transmit) (fifo_line c.fifo0 1 c.control.ier) (fifo_line c.fifo1 4 c.control.ier) (status_line c.control)

module _ (c l w : ℕ) (lc : c < 256) (ll : l < 256) where
  code_in_lem : code_in (packed c l w) ≡ c
  code_in_lem = omega arith

  lines_in_lem : lines_in (packed c l w) ≡ l
  lines_in_lem = omega arith

  unused_in_lem : unused_in (packed c l w) ≡ 0
  unused_in_lem = omega arith

  word_in_lem : word_in (packed c l w) ≡ w
  word_in_lem = omega arith

-- ---- the block

-- a list as long as the front of another, in its place
front : (xs ys r : List ℕ) → length xs ≡ length ys → sets (xs ++ r) 0 ys ≡ ys ++ r
front [] [] r e = refl
front [] (y ∷ ys) r e = absurd (omega arith)
front (x ∷ xs) [] r e = absurd (omega arith)
front (x ∷ xs) (y ∷ ys) r e = past_head y ys (xs ++ r) 0 ∙ ap (λ (l : List ℕ). y ∷ l) (front xs ys r (omega arith))

-- a step that writes no bank's word keeps them all
banks-kept : (z : Controller) (e : steps.Step) → (step z e).code ≡ 0 → is_nothing (write_after e) ≡ true → (step z e).controller.banks ≡ z.banks
unfolding core_step core_step_at step answered
banks-kept z e k p =
    sym (ap (λ (r : answers.Stepped). r.controller.banks) (whole-step z e))
    ∙ rw (eq-eqb (refusal z.core e) 0 k) (changed-nothing z.banks (write_after e) p)

module _ (z : Controller) (r : InRange z) where
  loads : loaded (saved z) ≡ z
  loads = (saved-loads z).back r

  accepted_here : Is (accepts (saved z))
  unfolding load_code
  accepted_here = code-zero (accepts (saved z)) ((saved-loads z).code r)

  taken : Is (takes 0 (saved z))
  unfolding takes is_board
  taken = rw accepted_here

  -- every field but that of the banks is that of the next state
  core-over : (c : Core) → sets (saved z) 0 (core_bytes c) ≡ saved (record { core = c; banks = z.banks })
  unfolding saved
  core-over c = front (core_bytes z.core) (core_bytes c) (banks_bytes z.banks) (core-length z.core ∙ sym (core-length c))

  unmoved : (e : steps.Step) → Not (eqb (step z e).code 0 && not (is_read e)) → (step z e).controller ≡ z
  unmoved e h = by_code (eqb (step z e).code 0) refl h
    where
      by_read : (e : steps.Step) → Not (not (is_read e)) → (step z e).controller ≡ z
      by_read Reset h = absurd (true≢false h)
      by_read (Read o) h = read_unmoved z o r
      by_read (Write o w) h = absurd (true≢false h)
      by_read Idle h = absurd (true≢false h)
      by_read (BitTimes n) h = absurd (true≢false h)
      by_read Activity h = absurd (true≢false h)
      by_read Start h = absurd (true≢false h)
      by_read (Outcome n) h = absurd (true≢false h)
      by_read (Receive x) h = absurd (true≢false h)
      by_read (ReceiveError k n) h = absurd (true≢false h)

      by_code : (t : Bool) → eqb (step z e).code 0 ≡ t → Not (t && not (is_read e)) → (step z e).controller ≡ z
      by_code true q h = by_read e h
      by_code false q h = (refused z e q).kept

  block-next : (e : steps.Step) → block_after 0 (saved z) e ≡ saved (step z e).controller
  unfolding block_after
  block-next e =
      rw (taken, loads) (by_change (eqb (step z e).code 0 && not (is_read e)) refl (is_nothing (write_after e)) refl)
    where
      changed-one : (t : Bool) → is_nothing (write_after e) ≡ t → Is (eqb (step z e).code 0 && not (is_read e))
          → pick t (sets (saved z) 0 (core_bytes (step z e).controller.core)) (saved (step z e).controller) ≡ saved (step z e).controller
      changed-one true q h =
          core-over (step z e).controller.core
          ∙ ap (λ (v : List ℕ). saved (record { core = (step z e).controller.core; banks = v })) (sym (banks-kept z e (eqb-true _ _ (and_l (eqb (step z e).code 0) _ h)) q))
      changed-one false q h = refl

      by_change : (t : Bool) → eqb (step z e).code 0 && not (is_read e) ≡ t → (p : Bool) → is_nothing (write_after e) ≡ p
          → pick t (pick p (sets (saved z) 0 (core_bytes (step z e).controller.core)) (saved (step z e).controller)) (saved z) ≡ saved (step z e).controller
      by_change true q p f = changed-one p f q
      by_change false q p f = sym (ap saved (unmoved e q))

  code_small : (e : steps.Step) → (step z e).code < 256
  code_small e = omega (arith, (codes z e).at_most)

  answer_is : (e : steps.Step) → answer 0 (saved z) e ≡ packed (step z e).code (step z e).lines (step z e).word
  unfolding answer
  answer_is e = rw (taken, loads)

  code_is : (e : steps.Step) → code_in (answer 0 (saved z) e) ≡ (step z e).code
  code_is e = ap code_in (answer_is e) ∙ code_in_lem _ _ (step z e).word (code_small e) (lines_small z e)

  here : (e : steps.Step) → step z e ≡ step (loaded (saved z)) e
  here e = ap (λ (y : Controller). step y e) (sym loads)

  next_is : (e : steps.Step) → (step z e).controller ≡ (step (loaded (saved z)) e).controller
  next_is e = ap (λ (a : answers.Stepped). a.controller) (here e)

  stepped : (e : steps.Step) → BlockStepped (saved z) e
  stepped e = record {
    code = code_is e ∙ ap (λ (a : answers.Stepped). a.code) (here e);
    lines = ap lines_in (answer_is e) ∙ lines_in_lem _ _ (step z e).word (code_small e) (lines_small z e) ∙ ap (λ (a : answers.Stepped). a.lines) (here e);
    word = ap word_in (answer_is e) ∙ word_in_lem _ _ (step z e).word (code_small e) (lines_small z e) ∙ ap (λ (a : answers.Stepped). a.word) (here e);
    unused = ap unused_in (answer_is e) ∙ unused_in_lem _ _ (step z e).word (code_small e) (lines_small z e);
    block = block-next e ∙ ap saved (next_is e);
    stays = λ h. block-next e ∙ ap saved (refused z e (ap (λ (c : ℕ). eqb c 0) (sym (code_is e)) ∙ h)).kept;
    next = λ q. ap loaded (block-next e) ∙ (saved-loads (step z e).controller).back (step-in_range z e r q) ∙ next_is e;
    accepted = λ q. record { state = (step z e).controller; ranges = step-in_range z e r q; bytes = sym (block-next e) };
  }

-- a list of calls, one step after the other
behind-from : (l : List steps.Step) (z : Controller) → InRange z → StepsRange l → block_behind (saved z) l ≡ saved (after z l)
unfolding block_behind after
behind-from [] z r q = refl
behind-from (e ∷ l) z r q =
    ap (λ (x : List ℕ). block_behind x l) (block-next z r e) ∙ behind-from l (step z e).controller (step-in_range z e r q.0) q.1

fed-from : (l : List steps.Step) (z : Controller) → InRange z → StepsRange l → call_entries (saved z) l ≡ entries z l
unfolding call_entries entries
fed-from [] z r q = refl
fed-from (e ∷ l) z r q =
    let t = stepped z r e in
    let c : code_in (answer 0 (saved z) e) ≡ (step z e).code = code_is z r e in
    let w : word_in (answer 0 (saved z) e) ≡ (step z e).word = t.word ∙ ap (λ (a : answers.Stepped). a.word) (sym (here z r e)) in
    let f : call_entries (block_after 0 (saved z) e) l ≡ entries (step z e).controller l = ap (λ (x : List ℕ). call_entries x l) (block-next z r e) ∙ fed-from l (step z e).controller (step-in_range z e r q.0) q.1 in
    λ i. record { step = e; code = c i; word = start_word e (w i) } ∷ f i

-- ---- of any bytes

module _ (b : List ℕ) (s : Saves b) where
  from-saved : (e : steps.Step) → BlockStepped b e
  from-saved e = subst (λ (x : List ℕ). BlockStepped x e) s.bytes (stepped s.state s.ranges e)

  state_is : loaded b ≡ s.state
  state_is = ap loaded (sym s.bytes) ∙ loads s.state s.ranges

  behind : (l : List steps.Step) → StepsRange l → block_behind b l ≡ saved (after (loaded b) l)
  behind l q =
      ap (λ (x : List ℕ). block_behind x l) (sym s.bytes)
      ∙ (behind-from l s.state s.ranges q ∙ ap (λ (z : Controller). saved (after z l)) (sym state_is))

  ranges_here : InRange (loaded b)
  ranges_here = subst InRange (sym state_is) s.ranges

  called : (l : List steps.Step) → Called b l
  called l = record {
    block = behind l;
    accepted = λ q. record { state = after (loaded b) l; ranges = after-in_range (loaded b) l ranges_here q; bytes = sym (behind l q) };
    fed = λ q. ap (λ (x : List ℕ). call_entries x l) (sym s.bytes) ∙ (fed-from l s.state s.ranges q ∙ ap (λ (z : Controller). entries z l) (sym state_is));
    demand = from-state (loaded b) l;
  }

taken-saves : (b : List ℕ) → Bytes b → Is (takes 0 b) → Saves b
unfolding takes is_board load_code
taken-saves b bytes h = ((blocks b).exact bytes).accepted (rw h)

-- ---- refused blocks

never_ten : (b : List ℕ) (e : steps.Step) → Saves b → code_in (answer 0 b e) ≡ 10 → ⊥
never_ten b e s h = omega (arith, (codes (loaded b) e).at_most, sym (from-saved b s e).code ∙ h)

ten : (board : ℕ) (b : List ℕ) (e : steps.Step) → Not (takes board b) → answer board b e ≡ 10
unfolding answer
ten board b e h = rw h

left_alone : (board : ℕ) (b : List ℕ) (e : steps.Step) → Not (takes board b) → block_after board b e ≡ b
unfolding block_after
left_alone board b e h = rw h

not_saved : (board : ℕ) (b : List ℕ) → Bytes b → (Saves b → ⊥) → Not (takes board b)
unfolding takes load_code
not_saved board b bytes h = go (accepts b) refl
  where
    go : (t : Bool) → accepts b ≡ t → Not (is_board board && t)
    go true q = absurd (h (((blocks b).exact bytes).accepted (rw q)))
    go false q = and-not (is_board board) false refl

board_zero : (board : ℕ) (b : List ℕ) → Is (takes board b) → board ≡ 0
unfolding takes is_board
board_zero board b h = eqb-true _ _ (and_l (eqb board 0) _ h)

-- code 10 comes from the block alone
not_taken : (board : ℕ) (b : List ℕ) (e : steps.Step) → Bytes b → code_in (answer board b e) ≡ 10 → Not (takes board b)
not_taken board b e bytes h = go (takes board b) refl
  where
    go : (t : Bool) → takes board b ≡ t → Not t
    go true q =
        let n = board_zero board b q in
        absurd (never_ten b e (taken-saves b bytes (subst (λ (k : ℕ). Is (takes k b)) n q)) (subst (λ (k : ℕ). code_in (answer k b e) ≡ 10) n h))
    go false q = refl

refusals : (board : ℕ) (b : List ℕ) (e : steps.Step) → Bytes b → BlockRefused board b e
refusals board b e bytes = record {
  code = λ h k s. never_ten b e s (subst (λ (n : ℕ). code_in (answer n b e) ≡ 10) k h);
  unknown = λ h. sym (no_board board b e h).0;
  block = λ h. ten board b e (not_saved board b bytes h);
  alone = λ h. ten board b e (not_taken board b e bytes h);
  kept = λ h. left_alone board b e (not_taken board b e bytes (ap code_in h));
}

-- ---- a reset

resets-right : (board : ℕ) (b : List ℕ) → Is (fits board b) → (reset_answer board b ≡ 0) × (block_reset board b ≡ saved reset)
unfolding reset_answer block_reset
resets-right board b h = (rw h, rw h)

resets-wrong : (board : ℕ) (b : List ℕ) → Not (fits board b) → (reset_answer board b ≡ 10) × (block_reset board b ≡ b)
unfolding reset_answer block_reset
resets-wrong board b h = (rw h, rw h)

same-reset : (b : List ℕ) → Saves b → (reset_answer 0 b ≡ answer 0 b Reset) × (block_reset 0 b ≡ block_after 0 b Reset)
unfolding fits is_board right_length
same-reset b s =
    let n : length b ≡ block_length = ap length (sym s.bytes) ∙ (saved-loads s.state).size s.ranges in
    let r = resets-right 0 b (rw (eq-eqb (length b) block_length n)) in
    let z : Controller = s.state in
    let k : answer 0 b Reset ≡ packed (step z Reset).code (step z Reset).lines (step z Reset).word = ap (λ (x : List ℕ). answer 0 x Reset) (sym s.bytes) ∙ answer_is z s.ranges Reset in
    let h = hardware_reset z in
    let p : packed (step z Reset).code (step z Reset).lines (step z Reset).word ≡ 0 = rw (h.code, h.lines, h.word) in
    (r.0 ∙ sym (k ∙ p), r.1 ∙ sym ((from-saved b s Reset).block ∙ ap saved (hardware_reset (loaded b)).controller))

resets : (board : ℕ) (b : List ℕ) → Resets board b
unfolding fits is_board right_length block_size
resets board b = record {
  right = λ k n. let e = eq-eqb board 0 k in resets-right board b (rw (e, eq-eqb (length b) block_length (n ∙ rw e)));
  wrong = λ n. resets-wrong board b (go (eqb board 0) refl n);
  none = λ h. resets-wrong board b (rw (ne_eqb board 0 h));
  step = λ z. (hardware_reset z).controller;
  accepted = record { state = reset; ranges = reset-in_range; bytes = refl };
  same = same-reset b;
}
  where
    go : (t : Bool) → eqb board 0 ≡ t → (length b ≡ block_size board → ⊥) → Not (t && eqb (length b) block_length)
    go true q n = ne_eqb (length b) block_length (λ e. n (e ∙ rw q))
    go false q n = refl

sizes : (board : ℕ) → (block_size 0 ≡ 354) × ((board ≡ 0 → ⊥) → block_size board ≡ 0)
unfolding block_size is_board
sizes board = (refl, λ h. rw (ne_eqb board 0 h))

-- ---- the promises

pub promises : Promises
promises = record {
  refused = refusals;
  stepped = λ b e s. from-saved b s e;
  resets = resets;
  size = ((sizes 0).0, λ board. (sizes board).1);
  called = λ b l s. called b s l;
}
