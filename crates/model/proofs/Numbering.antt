-- The number of a bank's first filter is four counts of ones, whatever the number of banks up to 32. Assumes nothing.
use mathlib.Core.Path.{◌≡◌, refl, sym}
use mathlib.Core.Bool.{Bool, true, false, not}
use Prim.Native.Nat.{ℕ, zero, suc, ◌+◌, ◌-◌, ◌/◌, ◌%◌, ◌^◌, ◌≤◌, ◌<◌, min}
use native.Mathlib.Omega.{arith}
use borrow.Author.Tests.{ltb-true}
use lib.Dec.{eqb, ltb}
use lib.Bits.{bit_and}
use Rattle.base.specs.Base.{pick, bit, sum}
use Rattle.model.specs.Banks.{bank, filter_number, class_by, class_of, width, belongs, own, share, numbers_below, banks_below, first_number, four_counts}
use Rattle.model.specs.declared.Filters.{Filters}
use Rattle.model.specs.declared.Bank.{Bank}
use Rattle.model.specs.declared.Fifo.{Fifo}
use Rattle.model.specs.declared.Fifo.TheVariants.{F0, F1}
use Rattle.model.proofs.Digits.{for_digit, and-digit, not_digit, ones_below_lem}

-- ---- one bank

-- x: the bank is of the FIFO, y: its mode bit, z: its scale bit
abbrev Numbers : ℕ → ℕ → ℕ → Type 0
Numbers x y z = x + min x y + min x (1 - z) + min (min x y) (1 - z) ≡ pick (eqb x 1) (width (class_by (eqb z 1) (eqb y 1))) 0

-- a bank takes one number, one more if it is a list, and as many again if it is 16-bit
by_digits : (x y z : ℕ) → x < 2 → y < 2 → z < 2 → Numbers x y z
by_digits x y z hx hy hz =
    for_digit (λ (x : ℕ). Numbers x y z)
    (for_digit (λ (y : ℕ). Numbers 0 y z) (for_digit (Numbers 0 0) refl refl z hz) (for_digit (Numbers 0 1) refl refl z hz) y hy)
    (for_digit (λ (y : ℕ). Numbers 1 y z) (for_digit (Numbers 1 0) refl refl z hz) (for_digit (Numbers 1 1) refl refl z hz) y hy)
    x hx

other-digit : (x : ℕ) → x < 2 → eqb (1 - x) 1 ≡ not (eqb x 1)
other-digit = for_digit (λ (x : ℕ). eqb (1 - x) 1 ≡ not (eqb x 1)) refl refl

-- the word `own` has a 1 for just the banks of the FIFO
pub own-digit : (f : Fifo) (g : Filters) (b : Bank) → b.0 < 32 → g.assignment < 2 ^ 32 → bit b.0 (own f g) ≡ belongs f g b
own-digit F1 g b l h = refl
own-digit F0 g b l h = rw (not_digit b.0 g.assignment l h) (other-digit (g.assignment / 2 ^ b.0 % 2) (omega arith))

-- ---- the banks below

-- never more than n
pub banks_below-le : (n : ℕ) (b : Bank) → banks_below n b ≤ n
banks_below-le n b = go (ltb b.0 n) refl
  where
    go : (t : Bool) → ltb b.0 n ≡ t → pick t b.0 n ≤ n
    go true e = omega (arith, ltb-true b.0 n e)
    go false e = omega arith

four_sums : (p q r s t : ℕ → ℕ) (i : ℕ) → ((j : ℕ) → j < i → p j + q j + r j + s j ≡ t j)
    → sum p i + sum q i + sum r i + sum s i ≡ sum t i
unfolding sum
four_sums p q r s t zero h = refl
four_sums p q r s t (suc i) h = omega (arith, four_sums p q r s t i (λ j l. h j (omega arith)), h i (omega arith))

module _ (g : Filters) (f : Fifo) (ha : g.assignment < 2 ^ 32) (hs : g.scale < 2 ^ 32) where
  one-bank : (j : ℕ) → j < 32
      → own f g / 2 ^ j % 2 + bit_and (own f g) g.mode / 2 ^ j % 2 + bit_and (own f g) ((2 ^ 32 - 1) - g.scale) / 2 ^ j % 2
      + bit_and (bit_and (own f g) g.mode) ((2 ^ 32 - 1) - g.scale) / 2 ^ j % 2 ≡ share f g (bank j)
  unfolding class_of
  one-bank j h =
      rw (
        and-digit j (bit_and (own f g) g.mode) ((2 ^ 32 - 1) - g.scale),
        and-digit j (own f g) g.mode,
        and-digit j (own f g) ((2 ^ 32 - 1) - g.scale),
        not_digit j g.scale h hs,
        ← (own-digit f g (bank j) h ha),
      )
      (by_digits (own f g / 2 ^ j % 2) (g.mode / 2 ^ j % 2) (g.scale / 2 ^ j % 2) (omega arith) (omega arith) (omega arith))

  -- the four counts are the numbers that the i lowest banks take
  pub counts_are_sum : (i : ℕ) → i ≤ 32 → four_counts i g f ≡ numbers_below f g i
  counts_are_sum i l =
      rw (
        ones_below_lem i (own f g),
        ones_below_lem i (bit_and (own f g) g.mode),
        ones_below_lem i (bit_and (own f g) ((2 ^ 32 - 1) - g.scale)),
        ones_below_lem i (bit_and (bit_and (own f g) g.mode) ((2 ^ 32 - 1) - g.scale)),
      )
      (four_sums _ _ _ _ _ i (λ j h. one-bank j (omega arith)))

  -- the number of a bank's first filter, of n banks, is the four counts of ones below the bank; a bank past the last counts as if it
  -- came next
  pub first_number-from-counts : (n : ℕ) (b : Bank) → n ≤ 32 → (first_number n g f b).0 ≡ four_counts (banks_below n b) g f
  unfolding first_number
  first_number-from-counts n b l = sym (counts_are_sum (banks_below n b) (omega (arith, banks_below-le n b)))

-- 14 banks, all with 16-bit lists in FIFO 0: bank 13 starts at 52
pub bank_13_starts-at_52 : first_number 14 (record { mode = 0x3fff; scale = 0; assignment = 0; activation = 0; finit = false }) F0 (bank 13) ≡ filter_number 52
unfolding first_number sum class_of
bank_13_starts-at_52 = refl
