-- The numbers of filters go up from 0 by the widths of their FIFO's banks, and that of an accepted frame is below four times the number of
-- banks. Assumes nothing.
use Rattle.std.proofs.Common.{Some}
use mathlib.Core.Logic.{inl, inr}
use mathlib.Core.Path.{◌≡◌, refl, sym, ap, ◌∙◌}
use mathlib.Core.Bool.{Bool, true, false}
use mathlib.Core.List.{List}
use Prim.Native.Nat.{ℕ, zero, suc, ◌+◌, ◌*◌, ◌≤◌, ◌<◌}
use native.Mathlib.Nat.{add-zero, le_antisymm}
use native.Mathlib.Numerals.{add-one}
use native.Mathlib.Omega.{arith}
use borrow.Author.Tests.{lt-ltb, le-ltb}
use Rattle.base.specs.Base.{pick, sum}
use Rattle.model.specs.Banks.{bank, filter_number, class_of, width, belongs, share, numbers_below, banks_below, first_number, number_of}
use Rattle.model.specs.Search.{acceptance}
use Rattle.model.specs.Filtering.{with_active, Numbers}
use Rattle.model.specs.declared.Filters.{Filters}
use Rattle.model.specs.declared.Bank.{Bank}
use Rattle.model.specs.declared.Fifo.{Fifo}
use Rattle.model.specs.declared.Fifo.TheVariants.{F0, F1}
use Rattle.model.specs.declared.FilterNumber.{FilterNumber}
use Rattle.model.proofs.FirstHit.{lower, width-le, filter-within}
use Rattle.model.proofs.LowestNumber.{sum_up}
use Rattle.model.proofs.Numbering.{first_number-from-counts}
use Rattle.model.proofs.Acceptances.{accepted_iff_first}

-- ---- upward from 0

-- i banks come before bank i, up to the next one after the last
banks-before : (n i : ℕ) → i ≤ n → banks_below n (bank i) ≡ i
banks-before n i h = elim (lower i n) [
  | inl l ↦ rw (lt-ltb i n l)
  | inr l ↦ let same : n ≡ i = omega arith in rw (le-ltb i n l) same
]

module _ (n : ℕ) (g : Filters) (f : Fifo) where
  pub first_number_lem : (b : Bank) → b.0 ≤ n → (first_number n g f b).0 ≡ numbers_below f g b.0
  unfolding first_number
  first_number_lem b h = ap (numbers_below f g) (banks-before n b.0 h)

  next-number : (b : Bank) → b.0 < n → (first_number n g f (bank (b.0 + 1))).0 ≡ (first_number n g f b).0 + share f g b
  unfolding sum
  next-number b h =
      first_number_lem (bank (b.0 + 1)) (omega arith)
      ∙ (rw (add-one b.0) (ap (λ (x : ℕ). x + share f g b) (sym (first_number_lem b (omega arith)))))

  from_zero_lem : (first_number n g f (bank 0)).0 ≡ 0
  unfolding sum
  from_zero_lem = first_number_lem (bank 0) (omega arith)

  past-last : (b : Bank) → n ≤ b.0 → first_number n g f b ≡ first_number n g f (bank n)
  unfolding first_number
  past-last b h = rw (le-ltb b.0 n h, le-ltb n n (omega arith))

  -- the numbers of a bank end before those of a higher one begin
  ends-before : (a b : Bank) → a.0 < b.0 → b.0 ≤ n → belongs f g a ≡ true → (first_number n g f a).0 + width (class_of g a) ≤ (first_number n g f b).0
  ends-before a b h l e =
      rw (first_number_lem a (omega arith), first_number_lem b l) (rw e at (sum_up (λ (i : ℕ). share f g (bank i)) a.0 b.0 h))

  distinct : (a b : Bank) (i j : ℕ) → a.0 < n → b.0 < n → belongs f g a ≡ true → belongs f g b ≡ true
      → i < width (class_of g a) → j < width (class_of g b) → number_of n g f a i ≡ number_of n g f b j → (a ≡ b) × (i ≡ j)
  distinct a b i j la lb ea eb hi hj e = elim (lower a.0 b.0) [
    | inl l ↦ absurd (omega (arith, number, ends-before a b l (omega arith) ea))
    | inr l ↦ elim (lower b.0 a.0) [
      | inl k ↦ absurd (omega (arith, number, ends-before b a k (omega arith) eb))
      | inr k ↦ let same : a ≡ b = ap bank (le_antisymm k l) in (same, omega (arith, number, ap (λ (x : Bank). (first_number n g f x).0) same))
    ]
  ]
    where
      number : (first_number n g f a).0 + i ≡ (first_number n g f b).0 + j
      number = ap (λ (x : FilterNumber). x.0) e

inactive_too : (n : ℕ) (g : Filters) (f : Fifo) (a : ℕ) (b : Bank) → first_number n (with_active g a) f b ≡ first_number n g f b
unfolding first_number class_of
inactive_too n g F0 a b = refl
inactive_too n g F1 a b = refl

pub numbers : (n : ℕ) (g : Filters) (f : Fifo) → Numbers n g f
numbers n g f = record {
  from_zero = from_zero_lem n g f;
  own = λ b h e. rw e at (next-number n g f b h);
  other = λ b h e. ap filter_number (rw e at (next-number n g f b h) ∙ add-zero _);
  past = past-last n g f;
  inactive = inactive_too n g f;
  in_bank = λ b j. refl;
  distinct = distinct n g f;
  counts = λ ha hs l b. first_number-from-counts g f ha hs n b l;
}

-- ---- how high

share-le : (f : Fifo) (g : Filters) (b : Bank) → share f g b ≤ 4
share-le f g b = go (belongs f g b)
  where
    go : (o : Bool) → pick o (width (class_of g b)) 0 ≤ 4
    go true = width-le (class_of g b)
    go false = omega arith

-- each FIFO has at most four numbers for each bank
pub numbers_below-le : (f : Fifo) (g : Filters) (n : ℕ) → numbers_below f g n ≤ 4 * n
unfolding sum
numbers_below-le f g zero = omega arith
numbers_below-le f g (suc n) = omega (arith, numbers_below-le f g n, share-le f g (bank n))

-- FMI of a frame that goes into a FIFO is below 4 n with n banks: 56 with 14
pub fmi_small : (n : ℕ) (g : Filters) (v : List ℕ) (w : ℕ) (f : Fifo) (x : FilterNumber) → acceptance n g v w ≡ Some (f, x) → x.0 < 4 * n
unfolding first_number
fmi_small n g v w f x a =
    let t = (accepted_iff_first n g v w f x).0 a in
    let m = t.active in
    let within = filter-within t.class _ _ t.filter w m.takes in
    let all : numbers_below f g t.bank.0 + width t.class ≤ numbers_below f g n =
    rw (m.assigned, m.class) at (sum_up (λ (i : ℕ). share f g (bank i)) t.bank.0 n m.within) in
    rw (t.number, lt-ltb t.bank.0 n m.within) (omega (arith, numbers_below-le f g n))
