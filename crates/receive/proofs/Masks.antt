-- A mask of the first n of eight bytes: its two words of four keep the bytes that a stored frame keeps.
use mathlib.Core.Path.{◌≡◌, ◌∙◌, refl, sym, ap}
use Prim.Native.Nat.{ℕ, zero, suc, ◌*◌, ◌-◌, ◌/◌, ◌%◌, ◌^◌, ◌<◌, ◌≤◌}
use native.Mathlib.Nat.{one-mul, mod-eq_of_lt, mod-le, lt_of_le_of_lt, lt_of_lt_of_le}
use native.Mathlib.Omega.{arith}
use lib.Bits.{bit_and, and_mod, and_mask}
use lib.Dec.{leb}
use lib.Pow.{pow_mono, pow-lt, ones_lt, ones_split, high}
use borrow.Author.Tests.{leb-true, leb-false}
use Rattle.base.proofs.Choices.{pick_cases}
use Rattle.base.specs.Base.{bit}
use Rattle.model.specs.Reception.{data_bytes, bytes_kept}
use Rattle.model.specs.declared.Frame.{Frame}

-- the code's `1 << s`
pub one_shifted : (s : ℕ) → s < 64 → 1 * 2 ^ s % 2 ^ 64 ≡ 2 ^ s
one_shifted s h = simp one-mul (mod-eq_of_lt (pow-lt h))

pub data_bytes-le : (x : Frame) → data_bytes x ≤ 8
unfolding data_bytes
data_bytes-le x =
    pick_cases (λ (n : ℕ). n ≤ 8) (bit 1 x.identifier) _ _
    (λ _. omega arith)
    (λ _. pick_cases (λ (n : ℕ). n ≤ 8) (leb 8 x.length) _ _ (λ _. omega arith) (λ e. omega (arith, leb-false 8 x.length e)))

-- from four bytes on the word is kept whole
kept : (n w : ℕ) → w < 2 ^ 32 → w % 2 ^ (8 * n) ≡ bytes_kept n w
unfolding bytes_kept
kept n w l =
    pick_cases (λ (x : ℕ). w % 2 ^ (8 * n) ≡ x) (leb 4 n) _ _
    (λ e. mod-eq_of_lt (lt_of_lt_of_le l (pow_mono {i = 32} {j = 8 * n} (omega (arith, leb-true 4 n e)))))
    (λ _. refl)

pub low_masked : (n w : ℕ) → w < 2 ^ 32 → bit_and w ((2 ^ (8 * n) - 1) % 2 ^ 32) ≡ bytes_kept n w
low_masked n w l =
    ap (λ (x : ℕ). bit_and x ((2 ^ (8 * n) - 1) % 2 ^ 32)) (sym (mod-eq_of_lt l))
    ∙ sym (and_mod w (2 ^ (8 * n) - 1) 32)
    ∙ ap (λ (x : ℕ). x % 2 ^ 32) (and_mask w (8 * n))
    ∙ mod-eq_of_lt (lt_of_le_of_lt (mod-le w (2 ^ (8 * n))) l)
    ∙ kept n w l

ones_past_four : (n : ℕ) → (2 ^ (8 * n) - 1) / 2 ^ 32 ≡ 2 ^ (8 * (n - 4)) - 1
ones_past_four zero = refl
ones_past_four (suc zero) = refl
ones_past_four (suc (suc zero)) = refl
ones_past_four (suc (suc (suc zero))) = refl
ones_past_four (suc (suc (suc (suc m)))) =
    ap (λ (k : ℕ). (2 ^ k - 1) / 2 ^ 32) (omega arith)
    ∙ ap (λ (x : ℕ). x / 2 ^ 32) (ones_split (8 * m) 32)
    ∙ high (2 ^ (8 * m) - 1) 32 (ones_lt 32)
    ∙ ap (λ (k : ℕ). 2 ^ (8 * k) - 1) (omega arith)

pub high_masked : (n w : ℕ) → w < 2 ^ 32 → bit_and w ((2 ^ (8 * n) - 1) / 2 ^ 32) ≡ bytes_kept (n - 4) w
high_masked n w l = ap (bit_and w) (ones_past_four n) ∙ and_mask w (8 * (n - 4)) ∙ kept (n - 4) w l
