-- Bits of a word made of fields: a field keeps the bits of its place, and a mask made of the same fields says which.
use mathlib.Core.Bool.{Bool, true, false, ◌&&◌}
use mathlib.Core.Path.{◌≡◌, refl, sym, ap, ap₂, subst, ◌∙◌}
use Prim.Native.Nat.{ℕ, zero, suc, ◌+◌, ◌*◌, ◌-◌, ◌/◌, ◌%◌, ◌^◌, ◌<◌, ◌≤◌, min}
use native.Mathlib.Omega.{arith}
use lib.Dec.{eqb, ltb}
use lib.Bits.{and_mask}
use lib.Pow.{shr-shr, high, low, field, mod-mod-pow}
use borrow.Author.Tests.{ltb-true, ltb-false}
use Rattle.base.specs.Base.{bit, bits}
use Rattle.model.specs.Control.{mcr_masked, ier_masked, btr_masked}
use Rattle.model.specs.Mailboxes.{tdt_masked}
use Rattle.model.specs.Registers.{filter_masked}
use Rattle.model.specs.ReadBack.{Within}
use Rattle.model.proofs.Digits.{for_digit, and-digit}

-- ---- bit i of a word is one of its k low bits, or one of the rest

digit_low : (j i x : ℕ) → x / 2 ^ i % 2 ≡ x % 2 ^ (suc j + i) / 2 ^ i % 2
digit_low j i x =
    sym (mod-mod-pow (x / 2 ^ i) j 1)
    ∙ ap (λ (e : ℕ). x / 2 ^ i % 2 ^ e % 2) (let e : j + 1 ≡ suc j = omega arith in e)
    ∙ ap (λ (y : ℕ). y % 2) (sym (field x (suc j) i))

pub bit-low : (k i x : ℕ) → i < k → bit i x ≡ bit i (x % 2 ^ k)
bit-low k i x h =
    let e : suc (k - suc i) + i ≡ k = omega arith in
    ap (λ (d : ℕ). eqb d 1) (digit_low (k - suc i) i x ∙ ap (λ (n : ℕ). x % 2 ^ n / 2 ^ i % 2) e)

pub bit_high : (k i x : ℕ) → k ≤ i → bit i x ≡ bit (i - k) (x / 2 ^ k)
bit_high k i x h =
    let e : k + (i - k) ≡ i = omega arith in
    ap (λ (y : ℕ). eqb (y % 2) 1) (ap (λ (n : ℕ). x / 2 ^ n) (sym e) ∙ sym (shr-shr x k (i - k)))

pub next_bit : (i x : ℕ) → bit (suc i) x ≡ bit i (x / 2)
next_bit i x = let e : suc i - 1 ≡ i = omega arith in bit_high 1 (suc i) x (omega arith) ∙ ap (λ (n : ℕ). bit n (x / 2)) e

pub no_bit : (i : ℕ) → bit i 0 ≡ false
no_bit zero = refl
no_bit (suc i) = next_bit i 0 ∙ no_bit i

-- ---- masks

and-bit : (x y : ℕ) → x < 2 → y < 2 → eqb (min x y) 1 ≡ eqb y 1 && eqb x 1
and-bit x y h k = for_digit (λ (x : ℕ). eqb (min x y) 1 ≡ eqb y 1 && eqb x 1) (for_digit (λ (y : ℕ). eqb (min 0 y) 1 ≡ eqb y 1 && false) refl refl y k) (for_digit (λ (y : ℕ). eqb (min 1 y) 1 ≡ eqb y 1 && true) refl refl y k) x h

-- the n low bits
pub low_bits : (n w : ℕ) → Within (2 ^ n - 1) w (w % 2 ^ n)
low_bits n w i =
    ap (λ (x : ℕ). bit i x) (sym (and_mask w n))
    ∙ ap (λ (d : ℕ). eqb d 1) (and-digit i w (2 ^ n - 1))
    ∙ and-bit (w / 2 ^ i % 2) ((2 ^ n - 1) / 2 ^ i % 2) (omega arith) (omega arith)

-- a mask of two parts
module _ (k a c w x y : ℕ) (lc : c < 2 ^ k) (ly : y < 2 ^ k) (above : Within a (w / 2 ^ k) x) (below : Within c w y) where
  pub two_parts : Within (a * 2 ^ k + c) w (x * 2 ^ k + y)
  two_parts i = go (ltb i k) refl
    where
      go : (b : Bool) → ltb i k ≡ b → bit i (x * 2 ^ k + y) ≡ bit i (a * 2 ^ k + c) && bit i w
      go true e =
          let l : i < k = ltb-true i k e in
          bit-low k i (x * 2 ^ k + y) l
          ∙ ap (λ (n : ℕ). bit i n) (low x k ly)
          ∙ below i
          ∙ ap (λ (b : Bool). b && bit i w) (sym (bit-low k i (a * 2 ^ k + c) l ∙ ap (λ (n : ℕ). bit i n) (low a k lc)))
      go false e =
          let l : k ≤ i = ltb-false i k e in
          bit_high k i (x * 2 ^ k + y) l
          ∙ ap (λ (n : ℕ). bit (i - k) n) (high x k ly)
          ∙ above (i - k)
          ∙ ap₂ (λ (p q : Bool). p && q)
          (sym (bit_high k i (a * 2 ^ k + c) l ∙ ap (λ (n : ℕ). bit (i - k) n) (high a k lc)))
          (sym (bit_high k i w l))

pub mcr-bits : (w : ℕ) → Within 0x000100FF w (mcr_masked w)
mcr-bits w = two_parts 16 1 0xFF w (bits 16 1 w) (w % 256) (omega arith) (omega arith) (low_bits 1 (w / 2 ^ 16)) (low_bits 8 w)

pub filter-bits : (w : ℕ) → Within 0x3FFF w (filter_masked w)
filter-bits w = low_bits 14 w

pub tdt-bits : (w : ℕ) → Within 0xFFFF010F w (tdt_masked w)
tdt-bits w =
    let e : tdt_masked w ≡ (bits 16 16 w * 2 ^ 8 + bits 8 1 w) * 2 ^ 8 + w % 16 = omega arith in
    let d : w / 2 ^ 16 ≡ w / 2 ^ 8 / 2 ^ 8 = omega arith in
    subst (λ (x : ℕ). Within 0xFFFF010F w x) (sym e)
    (two_parts 8 0xFFFF01 0x0F w (bits 16 16 w * 2 ^ 8 + bits 8 1 w) (w % 16) (omega arith) (omega arith)
    (two_parts 8 0xFFFF 0x01 (w / 2 ^ 8) (bits 16 16 w) (bits 8 1 w) (omega arith) (omega arith)
    (subst (λ (v : ℕ). Within 0xFFFF (w / 2 ^ 8 / 2 ^ 8) (v % 2 ^ 16)) (sym d) (low_bits 16 (w / 2 ^ 8 / 2 ^ 8)))
    (low_bits 1 (w / 2 ^ 8)))
    (low_bits 4 w))

pub ier-bits : (w : ℕ) → Within 0x00038F7F w (ier_masked w)
ier-bits w =
    let e : ier_masked w ≡ (bits 15 3 w * 2 ^ 7 + bits 8 4 w) * 2 ^ 8 + w % 128 = omega arith in
    let d : w / 2 ^ 15 ≡ w / 2 ^ 8 / 2 ^ 7 = omega arith in
    subst (λ (x : ℕ). Within 0x00038F7F w x) (sym e)
    (two_parts 8 0x038F 0x7F w (bits 15 3 w * 2 ^ 7 + bits 8 4 w) (w % 128) (omega arith) (omega arith)
    (two_parts 7 0x7 0x0F (w / 2 ^ 8) (bits 15 3 w) (bits 8 4 w) (omega arith) (omega arith)
    (subst (λ (v : ℕ). Within 0x7 (w / 2 ^ 8 / 2 ^ 7) (v % 2 ^ 3)) (sym d) (low_bits 3 (w / 2 ^ 8 / 2 ^ 7)))
    (low_bits 4 (w / 2 ^ 8)))
    (low_bits 7 w))

pub btr-bits : (w : ℕ) → Within 0xC37F03FF w (btr_masked w)
btr-bits w =
    let e : btr_masked w ≡ ((bits 30 2 w * 2 ^ 6 + bits 24 2 w) * 2 ^ 8 + bits 16 7 w) * 2 ^ 16 + w % 1024 = omega arith in
    let d : w / 2 ^ 24 ≡ w / 2 ^ 16 / 2 ^ 8 = omega arith in
    let f : w / 2 ^ 30 ≡ w / 2 ^ 16 / 2 ^ 8 / 2 ^ 6 = omega arith in
    let v : ℕ = w / 2 ^ 16 in
    subst (λ (x : ℕ). Within 0xC37F03FF w x) (sym e)
    (two_parts 16 0xC37F 0x03FF w ((bits 30 2 w * 2 ^ 6 + bits 24 2 w) * 2 ^ 8 + bits 16 7 w) (w % 1024) (omega arith) (omega arith)
    (two_parts 8 0xC3 0x7F v (bits 30 2 w * 2 ^ 6 + bits 24 2 w) (bits 16 7 w) (omega arith) (omega arith)
    (two_parts 6 0x3 0x3 (v / 2 ^ 8) (bits 30 2 w) (bits 24 2 w) (omega arith) (omega arith)
    (subst (λ (u : ℕ). Within 0x3 (v / 2 ^ 8 / 2 ^ 6) (u % 2 ^ 2)) (sym f) (low_bits 2 (v / 2 ^ 8 / 2 ^ 6)))
    (subst (λ (u : ℕ). Within 0x3 (v / 2 ^ 8) (u % 2 ^ 2)) (sym d) (low_bits 2 (v / 2 ^ 8))))
    (low_bits 7 v))
    (low_bits 10 w))
