-- FIFO 1 after FIFO 0's match: the banks that are left out can't win, and the others are all that is compared. Assumes nothing.
use Rattle.std.proofs.Common.{◌≡◌, ℕ, ◌+◌, ◌-◌, ◌*◌, ◌%◌, ◌^◌, ◌<◌, ◌≤◌, Bool, true, false, ltb, List, sym, refl, ap, ◌∙◌, inl, inr, arith, ltb-false, le-ltb, Option, Some, None}
use Rattle.model.specs.Banks.{bank, filter_number, first_number}
use Rattle.model.specs.Search.{first, searched, tried, hit_at, hit_in, first_hit, better, acceptance}
use Rattle.model.specs.declared.Filters.{Filters}
use Rattle.model.specs.declared.Bank.{Bank}
use Rattle.model.specs.declared.Fifo.TheVariants.{F0, F1}
use Rattle.model.specs.declared.FilterNumber.{FilterNumber}
use Rattle.model.specs.declared.FilterClass.{FilterClass}
use Rattle.model.proofs.FirstHit.{lower as below, first-at, FirstOfRow, nowhere, at, first_of-row}
use Rattle.model.proofs.FilterNumbers.{first_number_lem}
use Rattle.model.proofs.LowestNumber.{number-in_bank}
use Rattle.filter.specs.Compared.{tried_after, compared}
use Rattle.filter.specs.Places.{hit_of, number_at, among, limited, first_of, FirstIn, Best, OneLess, CanWin, winner_of, lower, result_of}
use Rattle.filter.specs.declared.FirstMatch.{FirstMatch}
use Rattle.filter.specs.declared.BestClass.{BestClass}
use Rattle.filter.proofs.BankWords.{no_bit}
use Rattle.filter.proofs.Candidates.{of_banks-same}
use Rattle.filter.proofs.Classes.{hit-found, first_of-same, nothing-found, nothing-compared}
use Rattle.filter.proofs.Numbered.{numbers_below_up}
use Rattle.filter.proofs.Passed.{nothing_below, none_either_way, limited-none}
use Rattle.filter.proofs.Winners.{number-found, lower-wins}

-- ---- what is left out can't win

module _ (g : Filters) (v : List ℕ) (w : ℕ) (k : FilterClass) (x : FilterNumber) where
  -- the match of a bank of FIFO 1, and what is found of it after FIFO 0's match x
  abbrev whole : ℕ → Option FilterNumber
  whole i = first (hit_at 14 g v w k F1 (bank i)) (tried g k F1 (bank i))

  abbrev part : ℕ → Option FilterNumber
  part i = first (hit_at 14 g v w k F1 (bank i)) (tried_after 14 g k (Some x) (bank i))

  abbrev low : ℕ → Bool
  low i = ltb (first_number 14 g F1 (bank i)).0 x.0

  kept : (i : ℕ) → low i ≡ true → part i ≡ whole i
  unfolding tried_after
  kept i e = rw e

  left_out : (i : ℕ) → low i ≡ false → part i ≡ None
  unfolding tried_after first
  left_out i e = rw e

  still-nothing : (i : ℕ) → whole i ≡ None → part i ≡ None
  still-nothing i e = go (low i) refl
    where
      go : (b : Bool) → low i ≡ b → part i ≡ None
      go true d = kept i d ∙ e
      go false d = left_out i d

  -- a match has no lower number than the first of its bank
  number-from : (i : ℕ) (y : FilterNumber) → whole i ≡ Some y → (first_number 14 g F1 (bank i)).0 ≤ y.0
  unfolding hit_in
  number-from i y e = (number-in_bank 14 g v w k F1 (bank i) y e).0

  -- behind a bank that is left out all are
  none_after : (i : ℕ) → low i ≡ false → ((j : ℕ) → j < i → whole j ≡ None) → (j : ℕ) → j < 14 → part j ≡ None
  none_after i e none j h = elim (below j i) [
    | inl l ↦ still-nothing j (none j l)
    | inr l ↦ let start = ltb-false (first_number 14 g F1 (bank i)).0 x.0 e in
        let up = numbers_below_up g F1 i j l in
        left_out j
        (le-ltb (first_number 14 g F1 (bank j)).0 x.0
        (omega (arith, first_number_lem 14 g F1 (bank i) (omega arith), first_number_lem 14 g F1 (bank j) (omega arith))))
  ]

  -- so the better of FIFO 0's match and what is found is the better one of both matches
  pub left_out_loses : better (Some x) (first_hit 14 g v w k F1) ≡ better (Some x) (first_of g v w k F1 (tried_after 14 g k (Some x)))
  unfolding first_hit hit_in first_of
  left_out_loses = row (first_of-row whole 14)
    where
      at-bank : (i : ℕ) (y : FilterNumber) (b : Bool) → i < 14 → whole i ≡ Some y → first whole 14 ≡ Some y
          → ((j : ℕ) → j < i → whole j ≡ None) → low i ≡ b → better (Some x) (first whole 14) ≡ better (Some x) (first part 14)
      at-bank i y true l d s none e =
          rw (s, first-at part 14 i y l (nothing_below part i (λ j m. still-nothing j (none j m))) (kept i e ∙ d))
      at-bank i y false l d s none e =
          let start = ltb-false (first_number 14 g F1 (bank i)).0 x.0 e in
          rw (s, nothing_below part 14 (none_after i e none), le-ltb y.0 x.0 (omega (arith, number-from i y d)))

      row : FirstOfRow whole 14 → better (Some x) (first whole 14) ≡ better (Some x) (first part 14)
      row (nowhere s none) = rw (s, nothing_below part 14 (λ j l. still-nothing j (none j l)))
      row (at i y l d s none) = at-bank i y (low i) l d s none refl

-- ---- the result

module _ (g : Filters) (v : List ℕ) (w : ℕ) (b : BestClass) (s : Best g v w b) (found : b.leading.f0.0 < 128) where
  abbrev after : Bank → ℕ
  after = tried_after 14 g b.class (hit_of g F0 b.leading.f0)

  -- the banks of FIFO 1 that can win have the filters that are looked at
  pub can_win-tried : (n y m : ℕ) → n ≡ number_at g F0 b.leading.f0 → CanWin g n b.leading.rest y → m < 2 ^ 32 → OneLess m n
      → (i : ℕ) → i < 14 → limited m (among b.class y) (bank i) ≡ after (bank i)
  can_win-tried n y m e h fits less i l =
      let f = hit-found g F0 b.leading.f0 found in
      let number = e ∙ number-found g F0 b.leading.f0 f.0 f.1 in
      h b.class m (s.rest found) fits less i l
      ∙ ap (λ (t : Option FilterNumber). tried_after 14 g b.class t (bank i)) (ap (λ (t : ℕ). Some (filter_number t)) number ∙ sym f.1)

  -- with none of them no filter is looked at
  pub none-can_win : (n y : ℕ) → n < 2 ^ 32 → n ≡ number_at g F0 b.leading.f0 → CanWin g n b.leading.rest y
      → y ≡ 0 → (i : ℕ) → i < 14 → after (bank i) ≡ 0
  none-can_win n y small e h z i l =
      let none : among b.class y (bank i) ≡ 0 = rw (z, no_bit i) in
      sym (can_win-tried n y ((n + (2 ^ 32 - 1)) % 2 ^ 32) e h (omega arith) (omega arith) i l) ∙ limited-none _ (among b.class y) (bank i) none

  pub none_left : b.leading.rest ≡ 0 → (i : ℕ) → i < 14 → after (bank i) ≡ 0
  unfolding tried_after tried
  none_left z i l =
      let f = hit-found g F0 b.leading.f0 found in
      let out : searched g b.class F1 (bank i) ≡ false = sym (s.rest found (bank i) l) ∙ rw z (no_bit i) in
      rw (f.1, out) (none_either_way (ltb (first_number 14 g F1 (bank i)).0 f.0.0))

  -- FIFO 0's match and what is found in FIFO 1 decide
  decided : better (hit_of g F0 b.leading.f0) (first_of g v w b.class F1 after) ≡ acceptance 14 g v w
  decided =
      let f = hit-found g F0 b.leading.f0 found in
      let all = s.accepted0 found in
      rw f.1 (sym (left_out_loses g v w b.class f.0) ∙ (rw f.1 at all))

  -- FIFO 0 alone, where no bank of FIFO 1 can win
  pub alone : (n : ℕ) → n ≡ number_at g F0 b.leading.f0 → ((i : ℕ) → i < 14 → after (bank i) ≡ 0)
      → record { winner = record { 0 = 2 * n }; compared = b.leading.compared } ≡ result_of g v w
  unfolding result_of winner_of
  alone n e none =
      let f = hit-found g F0 b.leading.f0 found in
      let same = e ∙ number-found g F0 b.leading.f0 f.0 f.1 in
      let won = rw (nothing-found g v w b.class F1 after none, f.1) at decided in
      let count : b.leading.compared ≡ compared 14 g v w =
      omega (arith, s.compared0 found, nothing-compared g v w b.class F1 after none) in
      rw (← won, ← count, same)

  -- both, where some can
  pub of_two : (n y m : ℕ) (p : FirstMatch) → n ≡ number_at g F0 b.leading.f0
      → ((i : ℕ) → i < 14 → limited m (among b.class y) (bank i) ≡ after (bank i)) → FirstIn v w b.class y m p
      → record { winner = lower n (number_at g F1 p.place); compared = b.leading.compared + p.compared } ≡ result_of g v w
  unfolding result_of
  of_two n y m p e tries q =
      let hit = q.hit g F1 ∙ first_of-same g v w b.class F1 (limited m (among b.class y)) after tries in
      let accepted : better (hit_of g F0 b.leading.f0) (hit_of g F1 p.place) ≡ acceptance 14 g v w = rw hit decided in
      let won = lower-wins g b.leading.f0 p.place ∙ ap winner_of accepted in
      let listed = of_banks-same (limited m (among b.class y)) after 14 tries in
      let count : b.leading.compared + p.compared ≡ compared 14 g v w = omega (arith, s.compared0 found, rw listed at q.compared) in
      rw (e, won, count)
