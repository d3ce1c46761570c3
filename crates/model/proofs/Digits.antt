-- Digits of words: of `a & b`, of `!a`, and the count of those that are 1 below a place. Assumes nothing.
use mathlib.Core.Path.{◌≡◌, refl, sym, ap, ap₂, ◌∙◌}
use Prim.Native.Nat.{ℕ, zero, suc, ◌+◌, ◌-◌, ◌*◌, ◌/◌, ◌%◌, ◌^◌, ◌≤◌, ◌<◌, min}
use native.Mathlib.Nat.{mod-lt, mod-one, add_comm, pow-suc, one-mul, lt_of_le_of_lt}
use native.Mathlib.Numerals.{one-add}
use native.Mathlib.Omega.{arith}
use lib.Bits.{bit_and, bit_xor, differ, and_step, xor_step, and_shr, xor_shr, and_mask, and_le_l, xor_add_and}
use lib.Count.{ones, ones_cat, ones-le}
use lib.Pow.{pow_pos, shl_exact, shr-shr, mod-pow-add, ones_split, high, ones_lt}
use Rattle.base.specs.Base.{sum}
use Rattle.model.specs.Banks.{ones_below}

-- what is shown of 0 and of 1 holds of every digit
pub for_digit : (P : ℕ → Type 0) → P 0 → P 1 → (x : ℕ) → x < 2 → P x
for_digit P a b zero h = a
for_digit P a b (suc zero) h = b
for_digit P a b (suc (suc x)) h = absurd (omega arith)

-- a higher digit is one of the half
pub digit_of_half : (n i : ℕ) → n / 2 ^ suc i % 2 ≡ n / 2 / 2 ^ i % 2
digit_of_half n i = ap (λ (e : ℕ). n / 2 ^ e % 2) (sym (one-add i)) ∙ ap (λ (x : ℕ). x % 2) (sym (shr-shr n 1 i))

same_below : (k a b : ℕ) → a < 2 ^ k → b < 2 ^ k → ((i : ℕ) → a / 2 ^ i % 2 ≡ b / 2 ^ i % 2) → a ≡ b
same_below zero a b la lb h = omega arith
same_below (suc k) a b la lb h =
    let half : a / 2 ≡ b / 2 = same_below k (a / 2) (b / 2) (omega (arith, pow-suc 2 k)) (omega (arith, pow-suc 2 k)) (λ i. sym (digit_of_half a i) ∙ h (suc i) ∙ digit_of_half b i) in
    let low : a % 2 ≡ b % 2 = omega (arith, h 0) in
    omega arith

below_power : (n : ℕ) → n < 2 ^ n
below_power zero = omega arith
below_power (suc n) = omega (arith, below_power n, pow-suc 2 n)

-- numbers with the same digits are the same
pub same_digits : (a b : ℕ) → ((i : ℕ) → a / 2 ^ i % 2 ≡ b / 2 ^ i % 2) → a ≡ b
same_digits a b h =
    same_below (a + b) a b (lt_of_le_of_lt (omega arith) (below_power (a + b))) (lt_of_le_of_lt (omega arith) (below_power (a + b))) h

-- ---- `a & b` and `!a`

-- a digit of `a & b` is the smaller of the digits of a and b
pub and-digit : (i a b : ℕ) → bit_and a b / 2 ^ i % 2 ≡ min (a / 2 ^ i % 2) (b / 2 ^ i % 2)
and-digit i a b = ap (λ (x : ℕ). x % 2) (and_shr a b i ∙ and_step (a / 2 ^ i) (b / 2 ^ i)) ∙ omega arith

all_ones : (j i : ℕ) → (2 ^ (suc j + i) - 1) / 2 ^ i % 2 ≡ 1
all_ones j i = rw (ones_split (suc j) i, high (2 ^ suc j - 1) i (ones_lt i), pow-suc 2 j) (omega (arith, pow_pos j))

not-xor : (a : ℕ) → a < 2 ^ 32 → (2 ^ 32 - 1) - a ≡ bit_xor a (2 ^ 32 - 1)
not-xor a h = omega (arith, xor_add_and a (2 ^ 32 - 1), and_mask a 32)

differ_one : (x y : ℕ) → x < 2 → y ≡ 1 → differ x y ≡ 1 - x
differ_one x y h e = rw e (for_digit (λ (x : ℕ). differ x 1 ≡ 1 - x) refl refl x h)

-- a digit of the 32-bit `!a` is the other one than that of a
pub not_digit : (i a : ℕ) → i < 32 → a < 2 ^ 32 → ((2 ^ 32 - 1) - a) / 2 ^ i % 2 ≡ 1 - a / 2 ^ i % 2
not_digit i a hi h =
    let whole : 32 ≡ suc (31 - i) + i = omega arith in
    let one : (2 ^ 32 - 1) / 2 ^ i % 2 ≡ 1 = ap (λ (e : ℕ). (2 ^ e - 1) / 2 ^ i % 2) whole ∙ all_ones (31 - i) i in
    let other = differ_one (a / 2 ^ i % 2) ((2 ^ 32 - 1) / 2 ^ i % 2) (omega arith) one in
    ap (λ (x : ℕ). x / 2 ^ i % 2) (not-xor a h)
    ∙ ap (λ (x : ℕ). x % 2) (xor_shr a (2 ^ 32 - 1) i ∙ xor_step (a / 2 ^ i) ((2 ^ 32 - 1) / 2 ^ i))
    ∙ rw other (omega arith)

-- ---- counts of ones

ones_of_digit : (x : ℕ) → x < 2 → ones x ≡ x
unfolding ones
ones_of_digit = for_digit (λ (x : ℕ). ones x ≡ x) refl refl

ones_of_rest : (w i : ℕ) → ones (w % 2 ^ i) ≡ sum (λ (j : ℕ). w / 2 ^ j % 2) i
unfolding sum ones
ones_of_rest w zero = rw mod-one
ones_of_rest w (suc i) =
    ap (λ (e : ℕ). ones (w % 2 ^ e)) (sym (one-add i))
    ∙ ap ones (mod-pow-add w 1 i)
    ∙ ones_cat i (w / 2 ^ i % 2) (w % 2 ^ i) (mod-lt w (pow_pos i))
    ∙ ap₂ (λ (x y : ℕ). x + y) (ones_of_digit (w / 2 ^ i % 2) (omega arith)) (ones_of_rest w i)
    ∙ add_comm _ _

-- the ones below place i are the sum of the i lowest digits
pub ones_below_lem : (i w : ℕ) → ones_below i w ≡ sum (λ (j : ℕ). w / 2 ^ j % 2) i
ones_below_lem i w = ap ones (and_mask w i) ∙ ones_of_rest w i

-- the code's `1 << i` is 2 ^ i
pub one_shifted : (i : ℕ) → i < 32 → 1 * 2 ^ i % 2 ^ 32 ≡ 2 ^ i
one_shifted i h = shl_exact {a = 1} 1 i 32 (omega arith) (omega arith) ∙ one-mul (2 ^ i)

-- the code's `u32::count_ones(w & ((1 << i) - 1))` counts the ones below place i, and gives 32 at the most
pub count-ones_below : (i w : ℕ) → i < 32 → w < 2 ^ 32
    → (ones (bit_and w (1 * 2 ^ i % 2 ^ 32 - 1)) ≡ ones_below i w) × (ones (bit_and w (1 * 2 ^ i % 2 ^ 32 - 1)) ≤ 32)
count-ones_below i w h f = (
  rw (one_shifted i h),
  ones-le 32 (bit_and w (1 * 2 ^ i % 2 ^ 32 - 1)) (lt_of_le_of_lt (and_le_l w (1 * 2 ^ i % 2 ^ 32 - 1)) f),
)
