-- The banks of FIFO 1 in the order of their first numbers: a walk that adds up their widths knows which lie below a number. Assumes nothing.
use Rattle.std.proofs.Common.{◌≡◌, ℕ, zero, suc, ◌+◌, ◌-◌, ◌*◌, ◌/◌, ◌%◌, ◌^◌, ◌<◌, ◌≤◌, Bool, true, false, not, ◌&&◌, ◌||◌, eqb, ltb, leb, ◌⊎◌, sym, refl, ap, ◌∙◌, inl, inr, arith, shr-shr, ltb-true, le-ltb, lt-ltb, eqb-true, le-leb, leb-false, leb-true, Some}
use borrow.Author.Tests.{eqb-false, lt-leb}
use lib.Bits.{bit_and, and_le_l}
use lib.Count.{count_trailing_zeros}
use lib.Pow.{shr_le}
use Rattle.base.specs.Base.{pick, bit, sum}
use Rattle.model.specs.Banks.{bank, filter_number, class_of, class_by, width, belongs, share, numbers_below, first_number}
use Rattle.model.specs.Search.{searched, tried}
use Rattle.model.specs.declared.Filters.{Filters}
use Rattle.model.specs.declared.Bank.{Bank}
use Rattle.model.specs.declared.FilterClass.{FilterClass}
use Rattle.model.specs.declared.Fifo.{Fifo}
use Rattle.model.specs.declared.Fifo.TheVariants.{F1}
use Rattle.model.proofs.Digits.{for_digit}
use Rattle.model.proofs.FirstHit.{lower}
use Rattle.model.proofs.FilterNumbers.{first_number_lem, numbers_below-le}
use Rattle.model.proofs.LowestNumber.{searched_is, tried-share}
use Rattle.filter.specs.Compared.{tried_after}
use Rattle.filter.specs.Places.{among, limited, Rest, OneLess}
use Rattle.filter.proofs.BankWords.{and-bit, not-bit, no_bit}
use Rattle.filter.proofs.Candidates.{sum_same, sum_skip, sum-le}
use Rattle.filter.proofs.Passed.{limited-none, limited-all}
use Rattle.filter.proofs.LeftBanks.{without, below_lowest, From, from_first, none_between, lowest-from, lowest_in, from_next}

-- ---- the width of a bank from its two bits

pub width-from-digits : (s m : ℕ) → s < 2 → m < 2 → 1 * 2 ^ (m + (1 - s)) % 2 ^ 32 ≡ width (class_by (eqb s 1) (eqb m 1))
width-from-digits s m hs hm =
    for_digit (λ (s : ℕ). 1 * 2 ^ (m + (1 - s)) % 2 ^ 32 ≡ width (class_by (eqb s 1) (eqb m 1)))
    (for_digit (λ (m : ℕ). 1 * 2 ^ (m + (1 - 0)) % 2 ^ 32 ≡ width (class_by (eqb 0 1) (eqb m 1))) refl refl m hm)
    (for_digit (λ (m : ℕ). 1 * 2 ^ (m + (1 - 1)) % 2 ^ 32 ≡ width (class_by (eqb 1 1) (eqb m 1))) refl refl m hm)
    s hs

-- ---- numbers go up with the banks

pub numbers_below_up : (g : Filters) (f : Fifo) (i m : ℕ) → i ≤ m → numbers_below f g i ≤ numbers_below f g m
numbers_below_up g f = sum-le (λ (j : ℕ). share f g (bank j))

-- ---- two tests at once

pub either : (i j m n : ℕ) → (leb i j || leb m n) ≡ true → (i ≤ j) ⊎ (m ≤ n)
either i j m n = go (leb i j) refl
  where
    go : (t : Bool) → leb i j ≡ t → (t || leb m n) ≡ true → (i ≤ j) ⊎ (m ≤ n)
    go true e h = inl (leb-true i j e)
    go false e h = inr (leb-true m n h)

pub neither : (i j m n : ℕ) → (leb i j || leb m n) ≡ false → (j < i) × (n < m)
neither i j m n = go (leb i j) refl
  where
    go : (t : Bool) → leb i j ≡ t → (t || leb m n) ≡ false → (j < i) × (n < m)
    go true e h = let z : ◌≡◌ {A = ℕ} 0 1 = cc in absurd (omega arith)
    go false e h = (leb-false i j e, leb-false m n h)

-- ---- the walk

-- y are the banks of FIFO 1 that are left; the others begin below number n, and take m numbers
pub record Low (g : Filters) (n y m : ℕ) : Type 0 where
  pub next : ℕ
  pub within : next ≤ 14
  pub fits : y < 2 ^ 32
  pub from : From g.assignment next y
  pub number : m ≡ numbers_below F1 g next
  pub low : (b : Bank) → b.0 < next → belongs F1 g b ≡ true → numbers_below F1 g b.0 < n

pub none-low : (g : Filters) (n : ℕ) → g.assignment < 2 ^ 32 → Low g n g.assignment 0
unfolding sum
none-low g n h = record {
  next = 0;
  within = omega arith;
  fits = h;
  from = from_first g.assignment;
  number = refl;
  low = λ b l. absurd (omega arith);
}

other-fifo : (g : Filters) (i : ℕ) → bit i g.assignment ≡ false → share F1 g (bank i) ≡ 0
other-fifo g i e = rw e

module _ (g : Filters) (n y m : ℕ) (s : Low g n y m) where
  module _ (h : count_trailing_zeros 32 y < 14) where
    -- what the passed banks take is the first number of the lowest that is left
    pub number_here : m ≡ numbers_below F1 g (count_trailing_zeros 32 y)
    number_here =
        s.number
        ∙ sym
        (sum_skip _ s.next (count_trailing_zeros 32 y) (lowest-from g.assignment s.next y s.from (omega arith))
        (λ j p q. other-fifo g j (none_between g.assignment s.next y s.from j p q (omega arith))))

    -- if that is below n, this bank is passed too
    pub one-low : m < n → Low g n (without y (count_trailing_zeros 32 y)) (m + width (class_of g (bank (count_trailing_zeros 32 y))))
    unfolding sum
    one-low l = record {
      next = suc (count_trailing_zeros 32 y);
      within = omega arith;
      fits = omega (arith, s.fits, and_le_l y ((2 ^ 32 - 1) - 1 * 2 ^ count_trailing_zeros 32 y % 2 ^ 32));
      from = from_next g.assignment s.next y s.from (omega arith);
      number = rw (number_here, lowest_in g.assignment s.next y s.from (omega arith));
      low = λ b p o. elim (lower b.0 s.next) [
        | inl q ↦ s.low b q o
        | inr q ↦ elim (lower b.0 (count_trailing_zeros 32 y)) [
          | inl r ↦ let none = none_between g.assignment s.next y s.from b.0 q r (omega arith) in
              let z : ◌≡◌ {A = ℕ} 0 1 = cc in absurd (omega arith)
          | inr r ↦ let same : b.0 ≡ count_trailing_zeros 32 y = omega arith in rw same (omega (arith, number_here))
        ]
      ];
    }

  -- at the end the banks that are left don't begin below n
  pub all-low : (14 ≤ count_trailing_zeros 32 y) ⊎ (n ≤ m) → (x : ℕ)
      → ((b : Bank) → b.0 < 14 → bit b.0 x ≡ true → belongs F1 g b ≡ true)
      → (b : Bank) → b.0 < 14 → bit b.0 (bit_and x ((2 ^ 32 - 1) - y)) ≡ (bit b.0 x && ltb (first_number 14 g F1 b).0 n)
  all-low end x own b h =
      rw (and-bit b.0 x ((2 ^ 32 - 1) - y), not-bit b.0 y (omega arith) s.fits, first_number_lem 14 g F1 b (omega arith))
      (go (bit b.0 x) refl)
    where
      left_here : (14 ≤ count_trailing_zeros 32 y) ⊎ (n ≤ m) → s.next ≤ b.0 → bit b.0 y ≡ true → n ≤ numbers_below F1 g b.0
      left_here (inl l) p e = let none = below_lowest y b.0 (omega arith) in let z : ◌≡◌ {A = ℕ} 0 1 = cc in absurd (omega arith)
      left_here (inr l) p e = omega (arith, numbers_below_up g F1 s.next b.0 p, s.number)

      go : (t : Bool) → bit b.0 x ≡ t → (t && not (bit b.0 y)) ≡ (t && ltb (numbers_below F1 g b.0) n)
      go false e = refl
      go true e = elim (lower b.0 s.next) [
        | inl l ↦ rw (s.from.passed b.0 l (omega arith), lt-ltb _ _ (s.low b l (own b h e)))
        | inr l ↦ let here = s.from.left b.0 l (omega arith) ∙ own b h e in rw (here, le-ltb _ _ (left_here end l here))
      ]

-- ---- banks that need no look

no_high-bit : (x i j : ℕ) → x / 2 ^ i ≡ 0 → i ≤ j → bit j x ≡ false
no_high-bit x i j e h =
    let whole : j ≡ i + (j - i) = omega arith in
    let none : x / 2 ^ j ≡ 0 =
    ap (λ (d : ℕ). x / 2 ^ d) whole ∙ sym (shr-shr x i (j - i)) ∙ (let small = shr_le (x / 2 ^ i) (j - i) in omega arith) in
    rw none

-- a bank below n / 4 begins below number n
pub surely_low : (g : Filters) (n x : ℕ) → x / 2 ^ ((n + 3) / 4) ≡ 0 → (b : Bank) → b.0 < 14
    → bit b.0 x ≡ (bit b.0 x && ltb (first_number 14 g F1 b).0 n)
surely_low g n x e b h = go (bit b.0 x) refl
  where
    go : (t : Bool) → bit b.0 x ≡ t → t ≡ (t && ltb (first_number 14 g F1 b).0 n)
    go false d = refl
    go true d = elim (lower b.0 ((n + 3) / 4)) [
      | inl l ↦ let low : numbers_below F1 g b.0 < n = omega (arith, numbers_below-le F1 g b.0) in rw (first_number_lem 14 g F1 b (omega arith), lt-ltb (numbers_below F1 g b.0) n low)
      | inr l ↦ let none = no_high-bit x ((n + 3) / 4) b.0 e l in let z : ◌≡◌ {A = ℕ} 0 1 = cc in absurd (omega arith)
    ]

-- ---- the banks of FIFO 1 that are searched

-- they are in FIFO 1
pub rest_in_fifo1 : (g : Filters) (k : FilterClass) (x : ℕ) → Rest g k x
    → (b : Bank) → b.0 < 14 → bit b.0 x ≡ true → belongs F1 g b ≡ true
rest_in_fifo1 g k x rest b l e = (searched_is g k F1 b (sym (rest b l) ∙ e)).1

-- the code's test that no other bank is, and that n is not 0
pub all_in_word : (g : Filters) (n : ℕ) (k : FilterClass) (x : ℕ) → Rest g k x → x < 2 ^ 32
    → (eqb (bit_and g.assignment ((2 ^ 32 - 1) - x)) 0 && not (eqb n 0)) ≡ true
    → ((b : Bank) → b.0 < 14 → belongs F1 g b ≡ bit b.0 x) × (n ≡ 0 → ⊥)
all_in_word g n k x rest fits e = go (eqb (bit_and g.assignment ((2 ^ 32 - 1) - x)) 0) (eqb n 0) refl refl e
  where
    none_else : bit_and g.assignment ((2 ^ 32 - 1) - x) ≡ 0 → (b : Bank) → b.0 < 14 → belongs F1 g b ≡ bit b.0 x
    none_else z b l =
        same (bit b.0 g.assignment) (bit b.0 x) refl refl
        (sym (and-bit b.0 g.assignment ((2 ^ 32 - 1) - x) ∙ rw (not-bit b.0 x (omega arith) fits)) ∙ rw (z, no_bit b.0))
      where
        same : (a o : Bool) → bit b.0 g.assignment ≡ a → bit b.0 x ≡ o → (a && not o) ≡ false → a ≡ o
        same true true c d h = refl
        same true false c d h = h
        same false true c d h = sym c ∙ rest_in_fifo1 g k x rest b l d
        same false false c d h = refl

    go : (a o : Bool) → eqb (bit_and g.assignment ((2 ^ 32 - 1) - x)) 0 ≡ a → eqb n 0 ≡ o → (a && not o) ≡ true
        → ((b : Bank) → b.0 < 14 → belongs F1 g b ≡ bit b.0 x) × (n ≡ 0 → ⊥)
    go true false d f h = (none_else (eqb-true (bit_and g.assignment ((2 ^ 32 - 1) - x)) 0 d), eqb-false n 0 f)
    go true true d f h = let z : ◌≡◌ {A = ℕ} 0 1 = cc in absurd (omega arith)
    go false o d f h = let z : ◌≡◌ {A = ℕ} 0 1 = cc in absurd (omega arith)

-- ---- what is looked at after number n of FIFO 0

sum_mono : (s t : ℕ → ℕ) (n : ℕ) → ((i : ℕ) → i < n → s i ≤ t i) → sum s n ≤ sum t n
unfolding sum
sum_mono s t zero h = omega arith
sum_mono s t (suc n) h = omega (arith, sum_mono s t n (λ i l. h i (omega arith)), h n (omega arith))

of_both : (a b : Bool) (m : ℕ) → pick (a && b) m 0 ≡ pick b (pick a m 0) 0
of_both true true m = refl
of_both true false m = refl
of_both false true m = refl
of_both false false m = refl

-- below n is at most one less
one_less : (a m n : ℕ) → m < 2 ^ 32 → OneLess m n → (n ≡ 0 → ⊥) → leb a m ≡ ltb a n
one_less a m n h o z = elim (lower a n) [
  | inl l ↦ rw (lt-ltb a n l, le-leb a m (omega arith))
  | inr l ↦ rw (le-ltb a n l, lt-leb a m (omega arith))
]

module _ (g : Filters) (n x : ℕ) (k : FilterClass) (m : ℕ) (rest : Rest g k x) (fits : m < 2 ^ 32) (less : OneLess m n) where
  -- of the searched banks those that begin below n
  module _ (y : ℕ) (exact : (b : Bank) → b.0 < 14 → bit b.0 y ≡ (bit b.0 x && ltb (first_number 14 g F1 b).0 n)) where
    looked_at : (i : ℕ) → i < 14 → among k y (bank i) ≡ tried_after 14 g k (Some (filter_number n)) (bank i)
    unfolding tried_after tried
    looked_at i l =
        rw (exact (bank i) l, rest (bank i) l) (of_both (searched g k F1 (bank i)) (ltb (first_number 14 g F1 (bank i)).0 n) (width k))

    no_more : (i : ℕ) → i < 14 → among k y (bank i) ≤ share F1 g (bank i)
    unfolding tried_after
    no_more i l = rw (looked_at i l) (go (ltb (first_number 14 g F1 (bank i)).0 n))
      where
        go : (t : Bool) → pick t (tried g k F1 (bank i)) 0 ≤ share F1 g (bank i)
        go true = tried-share g k F1 (bank i)
        go false = omega arith

    -- with no more than m filters before them
    pub begin_below : (i : ℕ) → i < 14 → limited m (among k y) (bank i) ≡ tried_after 14 g k (Some (filter_number n)) (bank i)
    begin_below i l = go (bit i x) (ltb (first_number 14 g F1 (bank i)).0 n) refl (exact (bank i) l)
      where
        out : bit i y ≡ false → limited m (among k y) (bank i) ≡ tried_after 14 g k (Some (filter_number n)) (bank i)
        out e = let none : among k y (bank i) ≡ 0 = rw e in limited-none m (among k y) (bank i) none ∙ sym none ∙ looked_at i l

        go : (a b : Bool) → ltb (first_number 14 g F1 (bank i)).0 n ≡ b → bit i y ≡ (a && b)
            → limited m (among k y) (bank i) ≡ tried_after 14 g k (Some (filter_number n)) (bank i)
        go false b d e = out e
        go true false d e = out e
        go true true d e =
            let low = ltb-true (first_number 14 g F1 (bank i)).0 n d in
            let sums = sum_mono (λ (j : ℕ). among k y (bank j)) (λ (j : ℕ). share F1 g (bank j)) i (λ j p. no_more j (omega arith)) in
            limited-all m (among k y) (bank i) (omega (arith, first_number_lem 14 g F1 (bank i) (omega arith))) ∙ looked_at i l

  -- where all banks of FIFO 1 are searched, the filters before a bank are its first number
  module _ (all : (b : Bank) → b.0 < 14 → belongs F1 g b ≡ bit b.0 x) (z : (n ≡ 0 → ⊥)) where
    whole-bank : (i : ℕ) → i < 14 → among k x (bank i) ≡ share F1 g (bank i)
    whole-bank i l = go (bit i x) refl
      where
        go : (t : Bool) → bit i x ≡ t → pick t (width k) 0 ≡ share F1 g (bank i)
        go true e = let is = searched_is g k F1 (bank i) (sym (rest (bank i) l) ∙ e) in rw (all (bank i) l ∙ e, is.2)
        go false e = rw (all (bank i) l ∙ e)

    pub begin_whole : (i : ℕ) → i < 14 → limited m (among k x) (bank i) ≡ tried_after 14 g k (Some (filter_number n)) (bank i)
    unfolding limited tried_after tried
    begin_whole i l =
        let sums : sum (λ (j : ℕ). among k x (bank j)) i ≡ numbers_below F1 g i = sum_same _ _ i (λ j p. whole-bank j (omega arith)) in
        rw (sums, one_less (numbers_below F1 g i) m n fits less z, first_number_lem 14 g F1 (bank i) (omega arith), rest (bank i) l)
