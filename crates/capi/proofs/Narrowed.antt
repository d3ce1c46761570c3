-- A number that is too wide for a step, and the one that stands for it, are refused alike.
use mathlib.Core.Bool.{Bool, true, false, not, ◌&&◌, ◌||◌}
use mathlib.Core.List.{List}
use mathlib.Core.Path.{◌≡◌, refl, sym, ap, ◌∙◌}
use Prim.Native.Nat.{ℕ, ◌+◌, ◌*◌, ◌%◌, ◌≤◌, ◌<◌}
use native.Mathlib.Omega.{arith}
use lib.Dec.{eqb, ltb, leb}
use borrow.Author.Tests.{eqb-true, ltb-true, ne_eqb, lt-leb, lt-ltb, le-ltb}
use Rattle.base.specs.Base.{pick, bit, bits}
use Rattle.base.proofs.Choices.{Is, Not, and-not}
use Rattle.model.specs.Registers.{bank_count}
use Rattle.model.specs.Step.{step}
use Rattle.model.specs.Codes.{in_map, not_mapped, out_of_range}
use Rattle.model.specs.declared.Controller.{Controller}
use Rattle.model.specs.declared.Frame.{Frame}
use Rattle.model.specs.declared.Stepped.{Stepped}
use Rattle.model.specs.declared.Step as steps
use Rattle.model.specs.declared.Step.TheVariants.{Read, Write, BitTimes, Outcome, Receive, ReceiveError}
use Rattle.model.proofs.Coded.{codes, refused}
use Rattle.block.specs.Loading.{loaded}
use Rattle.capi.specs.Calls.{takes, packed, answer, changes, block_after}
use Rattle.capi.specs.Narrow as narrow
use Rattle.capi.proofs.Called.{Gives}

-- two steps with the same code, which is not 0, are one
same_step : (z : Controller) (s t : steps.Step) (k : ℕ) → eqb k 0 ≡ false → (step z s).code ≡ k → (step z t).code ≡ k → step z s ≡ step z t
same_step z s t k n p q =
    let f = refused z s (ap (λ (c : ℕ). eqb c 0) p ∙ n) in
    let g = refused z t (ap (λ (c : ℕ). eqb c 0) q ∙ n) in
    λ i. record { controller = (f.kept ∙ sym g.kept) i; code = (p ∙ sym q) i; lines = (f.lines ∙ sym g.lines) i; word = (f.word ∙ sym g.word) i }

-- the call of a refused step leaves the block
left : (board : ℕ) (b : List ℕ) (s : steps.Step) → Not (eqb (step (loaded b) s).code 0) → block_after board b s ≡ b
unfolding block_after
left board b s h = rw (and-not (takes board b) (changes b s) (rw h))

answered_as : (board : ℕ) (b : List ℕ) (s t : steps.Step) → step (loaded b) s ≡ step (loaded b) t → answer board b s ≡ answer board b t
unfolding answer
answered_as board b s t e = ap (λ (r : Stepped). pick (takes board b) (packed r.code r.lines r.word) 10) e

-- the calls of two such steps are one
alike : (board : ℕ) (b : List ℕ) (s t : steps.Step) (k r : ℕ) (d : List ℕ) → eqb k 0 ≡ false → (step (loaded b) s).code ≡ k → (step (loaded b) t).code ≡ k → Gives board b s r d → Gives board b t r d
alike board b s t k r d n p q g = (
  g.0 ∙ answered_as board b s t (same_step (loaded b) s t k n p q),
  g.1 ∙ left board b s (ap (λ (c : ℕ). eqb c 0) p ∙ n) ∙ sym (left board b t (ap (λ (c : ℕ). eqb c 0) q ∙ n)),
)

not_mapped_lem : (board : ℕ) (b : List ℕ) (s t : steps.Step) (r : ℕ) (d : List ℕ) → Is (not_mapped s) → Is (not_mapped t) → Gives board b s r d → Gives board b t r d
not_mapped_lem board b s t r d p q = alike board b s t 1 r d refl (eqb-true _ _ ((codes (loaded b) s).one ∙ p)) (eqb-true _ _ ((codes (loaded b) t).one ∙ q))

out_of_range_lem : (board : ℕ) (b : List ℕ) (s t : steps.Step) (r : ℕ) (d : List ℕ) → Is (out_of_range s) → Is (out_of_range t) → Gives board b s r d → Gives board b t r d
out_of_range_lem board b s t r d p q = alike board b s t 5 r d refl (eqb-true _ _ ((codes (loaded b) s).five ∙ p)) (eqb-true _ _ ((codes (loaded b) t).five ∙ q))

-- ---- each number

none_left : (a b c : Bool) → Not (a && (false || (b && false) || false || false || false || false || false || (c && false)))
none_left true true true = refl
none_left true true false = refl
none_left true false true = refl
none_left true false false = refl
none_left false b c = refl

-- no register is above 65534
far : (o : ℕ) → 65535 ≤ o → Not (in_map bank_count o)
far o h =
    rw (
      lt-leb o 0x01C (omega arith),
      lt-leb o 0x1CC (omega arith),
      ne_eqb o 0x200 (λ e. omega arith),
      ne_eqb o 0x204 (λ e. omega arith),
      ne_eqb o 0x20C (λ e. omega arith),
      ne_eqb o 0x214 (λ e. omega arith),
      ne_eqb o 0x21C (λ e. omega arith),
      le-ltb o (0x240 + 8 * bank_count) (omega arith),
    ) (none_left (eqb (o % 4) 0) (leb 0x180 o) (leb 0x240 o))

gone : (a x : Bool) → Is (not (a && false && x))
gone true x = refl
gone false x = refl

or-true : (a b : Bool) → Is b → Is (a || b)
or-true true b h = refl
or-true false b h = h

by_width : (n top : ℕ) (P : ℕ → Type 0) (other : ℕ) → P (pick (ltb top n) other n) → (top < n → P other → P n) → P n
by_width n top P other p f = go (ltb top n) refl p
  where
    go : (t : Bool) → ltb top n ≡ t → P (pick t other n) → P n
    go true e x = f (ltb-true top n e) x
    go false e x = x

module _ (board : ℕ) (b : List ℕ) (r : ℕ) (d : List ℕ) where
  pub read_narrowed : (o : ℕ) → Gives board b (Read (narrow.offset o)) r d → Gives board b (Read o) r d
  unfolding narrow.offset
  read_narrowed o g = by_width o 65535 (λ n. Gives board b (Read n) r d) 65535 g (λ h. not_mapped_lem board b (Read 65535) (Read o) r d refl (ap not (far o (omega arith))))

  pub write_narrowed : (o w : ℕ) → Gives board b (Write (narrow.offset o) w) r d → Gives board b (Write o w) r d
  unfolding narrow.offset
  write_narrowed o w g = by_width o 65535 (λ n. Gives board b (Write n w) r d) 65535 g (λ h. not_mapped_lem board b (Write 65535 w) (Write o w) r d refl (ap not (far o (omega arith))))

  pub count_narrowed : (n : ℕ) → Gives board b (BitTimes (narrow.count n)) r d → Gives board b (BitTimes n) r d
  unfolding narrow.count
  count_narrowed n g = by_width n 65535 (λ n. Gives board b (BitTimes n) r d) 0 g (λ h. out_of_range_lem board b (BitTimes 0) (BitTimes n) r d refl (many n h))
    where
      many : (n : ℕ) → 65535 < n → Is (out_of_range (BitTimes n))
      many n h = rw (lt-leb n 65535 h) (ap not (and-not (leb 1 n) false refl))

  pub result_narrowed : (n : ℕ) → Gives board b (Outcome (narrow.byte n)) r d → Gives board b (Outcome n) r d
  unfolding narrow.byte
  result_narrowed n g = by_width n 255 (λ n. Gives board b (Outcome n) r d) 255 g (λ h. out_of_range_lem board b (Outcome 255) (Outcome n) r d refl (lt-ltb 8 n (omega arith)))

  pub frame_narrowed : (i l h n : ℕ) → Gives board b (Receive (record { identifier = i; low = l; high = h; length = narrow.byte n })) r d
      → Gives board b (Receive (record { identifier = i; low = l; high = h; length = n })) r d
  unfolding narrow.byte
  frame_narrowed i l h n g =
      by_width n 255 (λ m. Gives board b (Receive (record { identifier = i; low = l; high = h; length = m })) r d) 255 g
      (λ w. out_of_range_lem board b (Receive (frame 255)) (Receive (frame n)) r d (long 255 (omega arith)) (long n (omega arith)))
    where
      frame : ℕ → Frame
      frame m = record { identifier = i; low = l; high = h; length = m }

      long : (m : ℕ) → 15 < m → Is (out_of_range (Receive (frame m)))
      long m w = or-true (bit 0 i || (not (bit 2 i) && not (eqb (bits 3 18 i) 0))) (ltb 15 m) (lt-ltb 15 m w)

  pub code_narrowed : (k n : ℕ) → Gives board b (ReceiveError (narrow.byte k) n) r d → Gives board b (ReceiveError k n) r d
  unfolding narrow.byte
  code_narrowed k n g = by_width k 255 (λ k. Gives board b (ReceiveError k n) r d) 255 g (λ h. out_of_range_lem board b (ReceiveError 255 n) (ReceiveError k n) r d refl (rw (lt-leb k 6 (omega arith)) (gone (leb 1 k) (eqb n 1 || eqb n 8))))

  pub step_narrowed : (k n : ℕ) → Gives board b (ReceiveError k (narrow.byte n)) r d → Gives board b (ReceiveError k n) r d
  unfolding narrow.byte
  step_narrowed k n g =
      by_width n 255 (λ n. Gives board b (ReceiveError k n) r d) 255 g
      (λ h. out_of_range_lem board b (ReceiveError k 255) (ReceiveError k n) r d (ap not (and-not (leb 1 k && leb k 6) false refl)) (rw (ne_eqb n 1 (λ e. omega arith), ne_eqb n 8 (λ e. omega arith)) (ap not (and-not (leb 1 k && leb k 6) false refl))))
