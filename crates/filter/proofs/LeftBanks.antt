-- A walk over the banks of a word that takes the lowest of those that are left, and then clears its bit. Assumes nothing.
use Rattle.std.proofs.Common.{◌≡◌, ℕ, zero, suc, ◌+◌, ◌-◌, ◌*◌, ◌/◌, ◌%◌, ◌^◌, ◌<◌, ◌≤◌, Bool, true, false, not, ◌&&◌, eqb, sym, refl, ap, ◌∙◌, inl, inr, one-mul, pow-suc, div-one, arith, pow-add}
use native.Mathlib.Nat.{div-eq_of_lt}
use lib.Bits.{bit_and, and_le_l}
use lib.Count.{count_trailing_zeros, under}
use lib.Pow.{pow-lt, shl-shr}
use Rattle.base.specs.Base.{bit}
use Rattle.model.proofs.Digits.{digit_of_half, one_shifted}
use Rattle.model.proofs.FirstHit.{lower}
use Rattle.filter.proofs.BankWords.{and-bit, not-bit}

-- ---- the lowest digit that is 1

-- the digits below it are 0
trailing_low : (k n j : ℕ) → j < count_trailing_zeros k n → n / 2 ^ j % 2 ≡ 0
unfolding count_trailing_zeros
trailing_low zero n j h = absurd (omega arith)
trailing_low (suc k) n j h = go (trailing_low k (n / 2)) (n % 2) refl j h
  where
    go : ((j : ℕ) → j < count_trailing_zeros k (n / 2) → n / 2 / 2 ^ j % 2 ≡ 0) → (d : ℕ) → n % 2 ≡ d → (j : ℕ) → j < under d (count_trailing_zeros k (n / 2)) → n / 2 ^ j % 2 ≡ 0
    go ih (suc d) e j h = absurd (omega arith)
    go ih zero e zero h = rw div-one e
    go ih zero e (suc j) h = digit_of_half n j ∙ ih j (omega arith)

-- it is 1, if there is one
trailing_at : (k n : ℕ) → count_trailing_zeros k n < k → n / 2 ^ count_trailing_zeros k n % 2 ≡ 1
unfolding count_trailing_zeros
trailing_at zero n h = absurd (omega arith)
trailing_at (suc k) n h = go (trailing_at k (n / 2)) (n % 2) refl h
  where
    go : (count_trailing_zeros k (n / 2) < k → n / 2 / 2 ^ count_trailing_zeros k (n / 2) % 2 ≡ 1) → (d : ℕ) → n % 2 ≡ d → under d (count_trailing_zeros k (n / 2)) < suc k → n / 2 ^ under d (count_trailing_zeros k (n / 2)) % 2 ≡ 1
    go ih zero e h = digit_of_half n (count_trailing_zeros k (n / 2)) ∙ ih (omega arith)
    go ih (suc d) e h = rw div-one (omega arith)

-- the lowest bank of a word has its bit set
pub lowest_set : (x : ℕ) → count_trailing_zeros 32 x < 32 → bit (count_trailing_zeros 32 x) x ≡ true
lowest_set x h = ap (λ (d : ℕ). eqb d 1) (trailing_at 32 x h)

-- and the banks below have not
pub below_lowest : (x j : ℕ) → j < count_trailing_zeros 32 x → bit j x ≡ false
below_lowest x j h = ap (λ (d : ℕ). eqb d 1) (trailing_low 32 x j h)

-- ---- a bit cleared

-- the code's `x & !(1 << i)`
abbrev pub without : ℕ → ℕ → ℕ
without x i = bit_and x ((2 ^ 32 - 1) - 1 * 2 ^ i % 2 ^ 32)

power_own : (i : ℕ) → bit i (2 ^ i) ≡ true
power_own i = ap (λ (x : ℕ). eqb (x % 2) 1) (ap (λ (x : ℕ). x / 2 ^ i) (sym (one-mul (2 ^ i))) ∙ shl-shr 1 i)

power_below : (i j : ℕ) → j < i → bit j (2 ^ i) ≡ false
power_below i j h =
    let whole : i ≡ suc (i - suc j) + j = omega arith in
    let even : 2 ^ suc (i - suc j) % 2 ≡ 0 = rw pow-suc (omega arith) in
    ap (λ (e : ℕ). bit j (2 ^ e)) whole
    ∙ ap (λ (x : ℕ). eqb (x / 2 ^ j % 2) 1) (pow-add 2 (suc (i - suc j)) j)
    ∙ ap (λ (x : ℕ). eqb (x % 2) 1) (shl-shr (2 ^ suc (i - suc j)) j)
    ∙ ap (λ (x : ℕ). eqb x 1) even

power_above : (i j : ℕ) → i < j → bit j (2 ^ i) ≡ false
power_above i j h = ap (λ (x : ℕ). eqb (x % 2) 1) (div-eq_of_lt (pow-lt h))

module _ (x i : ℕ) (h : i < 32) where
  without-bit : (j : ℕ) → j < 32 → bit j (without x i) ≡ (bit j x && not (bit j (2 ^ i)))
  without-bit j l = rw (one_shifted i h, and-bit j x ((2 ^ 32 - 1) - 2 ^ i), not-bit j (2 ^ i) l (pow-lt h))

  and-not_true : (b : Bool) → (b && not true) ≡ false
  and-not_true true = refl
  and-not_true false = refl

  and-not_false : (b : Bool) → (b && not false) ≡ b
  and-not_false true = refl
  and-not_false false = refl

  without-own : bit i (without x i) ≡ false
  without-own = without-bit i h ∙ rw (power_own i) (and-not_true (bit i x))

  without_other : (j : ℕ) → j < 32 → bit j (2 ^ i) ≡ false → bit j (without x i) ≡ bit j x
  without_other j l e = without-bit j l ∙ rw e (and-not_false (bit j x))

  -- so the word gets smaller
  pub without_less : bit i x ≡ true → without x i < x
  without_less e = elim (lower (without x i) x) [
    | inl l ↦ l
    | inr l ↦ let same : without x i ≡ x = omega (arith, and_le_l x ((2 ^ 32 - 1) - 1 * 2 ^ i % 2 ^ 32)) in
        let own : bit i x ≡ false = rw same at without-own in let z : ◌≡◌ {A = ℕ} 0 1 = cc in absurd (omega arith)
  ]

-- ---- the walk

-- of the banks of the word x, those from bank i on are left in y
pub record From (x i y : ℕ) : Type 0 where
  pub passed : (j : ℕ) → j < i → j < 32 → bit j y ≡ false
  pub left : (j : ℕ) → i ≤ j → j < 32 → bit j y ≡ bit j x

pub from_first : (x : ℕ) → From x 0 x
from_first x = record { passed = λ j l h. absurd (omega arith); left = λ j l h. refl }

module _ (x i y : ℕ) (s : From x i y) where
  -- a bank of x from i on below the lowest that is left is none of x
  pub none_between : (j : ℕ) → i ≤ j → j < count_trailing_zeros 32 y → j < 32 → bit j x ≡ false
  none_between j l m h = sym (s.left j l h) ∙ below_lowest y j m

  module _ (h : count_trailing_zeros 32 y < 32) where
    pub lowest-from : i ≤ count_trailing_zeros 32 y
    lowest-from = elim (lower (count_trailing_zeros 32 y) i) [
      | inl l ↦ let gone = s.passed (count_trailing_zeros 32 y) l h in
          let here = lowest_set y h in let z : ◌≡◌ {A = ℕ} 0 1 = cc in absurd (omega arith)
      | inr l ↦ l
    ]

    pub lowest_in : bit (count_trailing_zeros 32 y) x ≡ true
    lowest_in = sym (s.left (count_trailing_zeros 32 y) lowest-from h) ∙ lowest_set y h

    pub from_next : From x (suc (count_trailing_zeros 32 y)) (without y (count_trailing_zeros 32 y))
    from_next = record {
      passed = λ j l b. elim (lower j (count_trailing_zeros 32 y)) [
        | inl m ↦ without_other y (count_trailing_zeros 32 y) h j b (power_below (count_trailing_zeros 32 y) j m) ∙ below_lowest y j m
        | inr m ↦ let same : j ≡ count_trailing_zeros 32 y = omega arith in rw same (without-own y (count_trailing_zeros 32 y) h)
      ];
      left = λ j l b. without_other y (count_trailing_zeros 32 y) h j b (power_above (count_trailing_zeros 32 y) j l) ∙ s.left j (omega (arith, lowest-from)) b;
    }
