-- Enable bits and flags side by side: what `&` keeps of them.
use mathlib.Core.Bool.{Bool, true, false, not, ◌&&◌, ◌||◌}
use mathlib.Core.Path.{◌≡◌, refl, ap, ◌∙◌}
use Prim.Native.Nat.{ℕ, ◌+◌, ◌*◌, ◌/◌, ◌%◌, ◌^◌, ◌<◌, min}
use native.Mathlib.Omega.{arith}
use lib.Bits.{bit_and, and_step, and_zero_r}
use lib.Dec.{eqb}
use lib.Pow.{shr-shr}
use Rattle.base.specs.Base.{bit, one}
use Rattle.model.proofs.Digits.{for_digit}

one-lt : (b : Bool) → one b < 2
one-lt true = omega arith
one-lt false = omega arith

kept : (b : Bool) (x : ℕ) → x < 2 → min x (one b) ≡ one (eqb x 1 && b)
kept true = for_digit (λ (x : ℕ). min x 1 ≡ one (eqb x 1 && true)) refl refl
kept false = for_digit (λ (x : ℕ). min x 0 ≡ one (eqb x 1 && false)) refl refl

-- a flag at the lowest place, and the places above
flag-first : (e n : ℕ) (b : Bool) → bit_and e (one b + n * 2) ≡ bit_and (e / 2) n * 2 + one (bit 0 e && b)
flag-first e n b =
    let h : (one b + n * 2) / 2 ≡ n = omega (arith, one-lt b) in
    let d : (one b + n * 2) % 2 ≡ one b = omega (arith, one-lt b) in
    let z : e / 2 ^ 0 % 2 ≡ e % 2 = omega arith in
    and_step e (one b + n * 2)
    ∙ rw (h, d, z, kept b (e % 2) (omega arith))

pub one-flag : (e : ℕ) (b : Bool) → bit_and e (one b) ≡ one (bit 0 e && b)
one-flag e b =
    let i : one b ≡ one b + 0 * 2 = omega arith in
    ap (bit_and e) i ∙ flag-first e 0 b ∙ rw (and_zero_r (e / 2)) (omega arith)

three-flags : (e : ℕ) (a b c : Bool) → bit_and e (one a + one b * 2 + one c * 4) ≡ one (bit 0 e && a) + one (bit 1 e && b) * 2 + one (bit 2 e && c) * 4
three-flags e a b c =
    let i : one a + one b * 2 + one c * 4 ≡ one a + (one b + one c * 2) * 2 = omega arith in
    let y : e / 2 / 2 ^ 0 % 2 ≡ e / 2 ^ 1 % 2 = omega arith in
    let z : e / 2 / 2 / 2 ^ 0 % 2 ≡ e / 2 ^ 2 % 2 = omega arith in
    ap (bit_and e) i ∙ rw (flag-first e (one b + one c * 2) a, flag-first (e / 2) (one c) b, one-flag (e / 2 / 2) c, y, z) (omega arith)

any_flag : (a b c : Bool) → not (eqb (one a + one b * 2 + one c * 4) 0) ≡ (a || b || c)
any_flag true true true = refl
any_flag true true false = refl
any_flag true false true = refl
any_flag true false false = refl
any_flag false true true = refl
any_flag false true false = refl
any_flag false false true = refl
any_flag false false false = refl

-- a line is up where a flag is set whose enable bit, from bit i of IER on, is set
pub line_up : (i e : ℕ) (a b c : Bool)
    → not (eqb (bit_and (e / 2 ^ i) (one a + one b * 2 + one c * 4)) 0) ≡ ((bit i e && a) || (bit (i + 1) e && b) || (bit (i + 2) e && c))
line_up i e a b c =
    let z : e / 2 ^ i / 2 ^ 0 % 2 ≡ e / 2 ^ i % 2 = omega arith in
    rw (three-flags (e / 2 ^ i) a b c, any_flag (bit 0 (e / 2 ^ i) && a) (bit 1 (e / 2 ^ i) && b) (bit 2 (e / 2 ^ i) && c), z, shr-shr e i 1, shr-shr e i 2)
