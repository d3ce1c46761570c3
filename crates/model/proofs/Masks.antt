-- A mask applied twice is the mask, and what a mask or a cleared bit leaves of the other bits.
use mathlib.Core.Path.{◌≡◌, refl, sym, ap, ◌∙◌}
use Prim.Native.Nat.{ℕ, zero, ◌+◌, ◌*◌, ◌-◌, ◌/◌, ◌%◌, ◌^◌, ◌<◌, ◌≤◌}
use native.Mathlib.Omega.{arith}
use native.Mathlib.Nat.{mul-add-div_right, div-eq_of_lt, mul-add-mod_self_right, mod-eq_of_lt, add-zero}
use lib.Dec.{eqb}
use borrow.Author.Tests.{eqb-true}
use Rattle.base.specs.Base.{bit, bits}
use Rattle.model.specs.Control.{mcr_masked, ier_masked, btr_masked, sleep_cleared}
use Rattle.model.specs.Mailboxes.{tdt_masked}
use Rattle.model.specs.Registers.{filter_masked}
use Rattle.base.proofs.Choices.{pick_cases}

-- ---- the parts of a word that is a sum

module _ (k a c : ℕ) (l : c < k) where
  pub above : (a * k + c) / k ≡ a
  above = let z : zero < k = omega arith in rw (mul-add-div_right z a c, div-eq_of_lt l) (add-zero a)

  pub below : (a * k + c) % k ≡ c
  below = mul-add-mod_self_right a k c ∙ mod-eq_of_lt l

-- the field b, below m, between a above and c below it
pub field : (k m x a b c : ℕ) → x ≡ (a * m + b) * k + c → c < k → b < m → x / k % m ≡ b
field k m x a b c e lc lb = ap (λ (y : ℕ). y / k % m) e ∙ (ap (λ (y : ℕ). y % m) (above k (a * m + b) c lc) ∙ below m a b lb)

pub lowest : (k x a c : ℕ) → x ≡ a * k + c → c < k → x % k ≡ c
lowest k x a c e l = ap (λ (y : ℕ). y % k) e ∙ below k a c l

-- ---- words made of the parts of a mask

pub mcr_parts : (a b : ℕ) → a < 2 → b < 256 → mcr_masked (a * 65536 + b) ≡ a * 65536 + b
mcr_parts a b l k =
    let x : ℕ = a * 65536 + b in
    λ i. field 65536 2 x 0 a b (omega arith) (omega arith) l i * 65536 + lowest 256 x (a * 256) b (omega arith) k i

pub ier_parts : (a b c : ℕ) → a < 8 → b < 16 → c < 128 → ier_masked (a * 32768 + b * 256 + c) ≡ a * 32768 + b * 256 + c
ier_parts a b c l k j =
    let x : ℕ = a * 32768 + b * 256 + c in
    λ i. field 32768 8 x 0 a (b * 256 + c) (omega arith) (omega arith) l i * 32768
    + field 256 16 x (a * 8) b c (omega arith) (omega arith) k i * 256
    + lowest 128 x (a * 256 + b * 2) c (omega arith) j i

pub btr_parts : (a b c d : ℕ) → a < 4 → b < 4 → c < 128 → d < 1024
    → btr_masked (a * 2 ^ 30 + b * 2 ^ 24 + c * 65536 + d) ≡ a * 2 ^ 30 + b * 2 ^ 24 + c * 65536 + d
btr_parts a b c d la lb lc ld =
    let x : ℕ = a * 2 ^ 30 + b * 2 ^ 24 + c * 65536 + d in
    λ i. field (2 ^ 30) 4 x 0 a (b * 2 ^ 24 + c * 65536 + d) (omega arith) (omega arith) la i * 2 ^ 30
    + field (2 ^ 24) 4 x (a * 16) b (c * 65536 + d) (omega arith) (omega arith) lb i * 2 ^ 24
    + field 65536 128 x (a * 128 + b * 2) c d (omega arith) (omega arith) lc i * 65536
    + lowest 1024 x (a * 2 ^ 20 + b * 2 ^ 14 + c * 64) d (omega arith) ld i

pub tdt_parts : (a b c : ℕ) → a < 65536 → b < 2 → c < 16 → tdt_masked (a * 65536 + b * 256 + c) ≡ a * 65536 + b * 256 + c
tdt_parts a b c l k j =
    let x : ℕ = a * 65536 + b * 256 + c in
    λ i. field 65536 65536 x 0 a (b * 256 + c) (omega arith) (omega arith) l i * 65536
    + field 256 2 x (a * 128) b c (omega arith) (omega arith) k i * 256
    + lowest 16 x (a * 4096 + b * 16) c (omega arith) j i

-- ---- a mask applied twice

pub mcr_masked_lem : (w : ℕ) → mcr_masked (mcr_masked w) ≡ mcr_masked w
mcr_masked_lem w = mcr_parts (bits 16 1 w) (w % 256) (omega arith) (omega arith)

pub ier_masked_lem : (w : ℕ) → ier_masked (ier_masked w) ≡ ier_masked w
ier_masked_lem w = ier_parts (bits 15 3 w) (bits 8 4 w) (w % 128) (omega arith) (omega arith) (omega arith)

pub btr_masked_lem : (w : ℕ) → btr_masked (btr_masked w) ≡ btr_masked w
btr_masked_lem w = btr_parts (bits 30 2 w) (bits 24 2 w) (bits 16 7 w) (w % 1024) (omega arith) (omega arith) (omega arith) (omega arith)

pub tdt_masked_lem : (w : ℕ) → tdt_masked (tdt_masked w) ≡ tdt_masked w
tdt_masked_lem w = tdt_parts (bits 16 16 w) (bits 8 1 w) (w % 16) (omega arith) (omega arith) (omega arith)

pub filter_masked_lem : (w : ℕ) → filter_masked (filter_masked w) ≡ filter_masked w
filter_masked_lem w = omega arith

-- TIME put into TDT
pub tdt-timed : (w t : ℕ) → tdt_masked w ≡ w → t < 65536 → tdt_masked (w % 65536 + t * 65536) ≡ w % 65536 + t * 65536
tdt-timed w t h l =
    let a : ℕ = bits 16 16 w in
    let b : ℕ = bits 8 1 w in
    let c : ℕ = w % 16 in
    let e : w % 65536 ≡ b * 256 + c = lowest 65536 w a (b * 256 + c) (sym h ∙ omega arith) (omega arith) in
    let s : w % 65536 + t * 65536 ≡ t * 65536 + b * 256 + c = omega arith in
    rw s (tdt_parts t b c l (omega arith) (omega arith))

-- ---- TTCM

-- it is among the bits of MCR
pub ttcm_masked : (w : ℕ) → bit 7 (mcr_masked w) ≡ bit 7 w
ttcm_masked w =
    let e : mcr_masked w / 2 ^ 7 % 2 ≡ w / 2 ^ 7 % 2 = omega arith in
    ap (λ (x : ℕ). eqb x 1) e

-- with SLEEP cleared the word still holds only bits of MCR, and the same TTCM
pub sleep_cleared_lem : (w : ℕ) → mcr_masked w ≡ w → mcr_masked (sleep_cleared w) ≡ sleep_cleared w
sleep_cleared_lem w h =
    pick_cases (λ (x : ℕ). mcr_masked x ≡ x) (bit 1 w) (w - 2) w
    (λ e. let d : w / 2 ^ 1 % 2 ≡ 1 = eqb-true _ _ e in
    let l : 2 ≤ w % 256 = omega arith in
    let s : w - 2 ≡ bits 16 1 w * 65536 + (w % 256 - 2) = omega arith in
    rw s (mcr_parts (bits 16 1 w) (w % 256 - 2) (omega arith) (omega arith)))
    (λ _. h)

pub ttcm-kept : (w : ℕ) → bit 7 (sleep_cleared w) ≡ bit 7 w
ttcm-kept w =
    pick_cases (λ (x : ℕ). bit 7 x ≡ bit 7 w) (bit 1 w) (w - 2) w
    (λ e. let d : w / 2 ^ 1 % 2 ≡ 1 = eqb-true _ _ e in
    let l : 2 ≤ w % 128 = omega arith in
    let s : (w - 2) / 2 ^ 7 ≡ w / 2 ^ 7 = omega arith in
    ap (λ (x : ℕ). eqb (x % 2) 1) s)
    (λ _. refl)
