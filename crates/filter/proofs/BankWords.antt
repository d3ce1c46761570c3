-- Words with a bit for each bank: of a class, and of those that a search looks at. Assumes nothing.
use Rattle.std.proofs.Common.{◌≡◌, ℕ, ◌-◌, ◌/◌, ◌%◌, ◌^◌, ◌<◌, ◌≤◌, min, Bool, true, false, not, ◌&&◌, eqb, ltb, refl, arith, ltb-false}
use lib.Bits.{bit_and}
use lib.Pow.{shr_le}
use Rattle.base.specs.Base.{pick, bit}
use Rattle.model.specs.Banks.{banks_below, is_active, class_by, class_of, rank, belongs, own}
use Rattle.model.specs.Search.{searched}
use Rattle.model.specs.declared.Filters.{Filters}
use Rattle.model.specs.declared.Bank.{Bank}
use Rattle.model.specs.declared.Fifo.{Fifo}
use Rattle.model.specs.declared.FilterClass.{FilterClass}
use Rattle.model.specs.declared.FilterClass.TheVariants.{List32, Mask32, List16, Mask16}
use Rattle.model.proofs.Digits.{for_digit, and-digit, not_digit}
use Rattle.model.proofs.Numbering.{own-digit}

-- ---- a bit of `a & b` and of the 32-bit `!a`

both-digits : (x y : ℕ) → x < 2 → y < 2 → eqb (min x y) 1 ≡ (eqb x 1 && eqb y 1)
both-digits x y hx hy =
    for_digit (λ (x : ℕ). eqb (min x y) 1 ≡ (eqb x 1 && eqb y 1))
    (for_digit (λ (y : ℕ). eqb (min 0 y) 1 ≡ (eqb 0 1 && eqb y 1)) refl refl y hy)
    (for_digit (λ (y : ℕ). eqb (min 1 y) 1 ≡ (eqb 1 1 && eqb y 1)) refl refl y hy)
    x hx

other-digit : (x : ℕ) → x < 2 → eqb (1 - x) 1 ≡ not (eqb x 1)
other-digit = for_digit (λ (x : ℕ). eqb (1 - x) 1 ≡ not (eqb x 1)) refl refl

pub and-bit : (i a b : ℕ) → bit i (bit_and a b) ≡ (bit i a && bit i b)
and-bit i a b = rw (and-digit i a b) (both-digits (a / 2 ^ i % 2) (b / 2 ^ i % 2) (omega arith) (omega arith))

pub not-bit : (i a : ℕ) → i < 32 → a < 2 ^ 32 → bit i ((2 ^ 32 - 1) - a) ≡ not (bit i a)
not-bit i a h l = rw (not_digit i a h l) (other-digit (a / 2 ^ i % 2) (omega arith))

-- the word 0 has no bit
pub no_bit : (i : ℕ) → bit i 0 ≡ false
no_bit i = let none : 0 / 2 ^ i ≡ 0 = omega (arith, shr_le 0 i) in rw none

-- ---- the banks of a class, from the words g.scale and g.mode

-- what is shown of the four cases of two flags holds of every two
for_flags : (P : Bool → Bool → Type 0) → P true true → P true false → P false true → P false false → (s m : Bool) → P s m
for_flags P a b c d true true = a
for_flags P a b c d true false = b
for_flags P a b c d false true = c
for_flags P a b c d false false = d

-- the word with a 1 for each bank of the class
abbrev pub of_class : FilterClass → Filters → ℕ
of_class List32 g = bit_and g.scale g.mode
of_class Mask32 g = bit_and g.scale ((2 ^ 32 - 1) - g.mode)
of_class List16 g = bit_and ((2 ^ 32 - 1) - g.scale) g.mode
of_class Mask16 g = bit_and ((2 ^ 32 - 1) - g.scale) ((2 ^ 32 - 1) - g.mode)

-- two flags make a bank one of the class
abbrev Is : FilterClass → Bool → Bool → Bool
Is k s m = eqb (rank (class_by s m)) (rank k)

module _ (g : Filters) (b : Bank) (h : b.0 < 32) (hs : g.scale < 2 ^ 32) (hm : g.mode < 2 ^ 32) where
  pub of_class-bit : (k : FilterClass) → bit b.0 (of_class k g) ≡ eqb (rank (class_of g b)) (rank k)
  unfolding class_of
  of_class-bit List32 =
      rw (and-bit b.0 g.scale g.mode)
      (for_flags (λ (s m : Bool). (s && m) ≡ Is List32 s m) refl refl refl refl (bit b.0 g.scale) (bit b.0 g.mode))
  of_class-bit Mask32 =
      rw (and-bit b.0 g.scale ((2 ^ 32 - 1) - g.mode), not-bit b.0 g.mode h hm)
      (for_flags (λ (s m : Bool). (s && not m) ≡ Is Mask32 s m) refl refl refl refl (bit b.0 g.scale) (bit b.0 g.mode))
  of_class-bit List16 =
      rw (and-bit b.0 ((2 ^ 32 - 1) - g.scale) g.mode, not-bit b.0 g.scale h hs)
      (for_flags (λ (s m : Bool). (not s && m) ≡ Is List16 s m) refl refl refl refl (bit b.0 g.scale) (bit b.0 g.mode))
  of_class-bit Mask16 =
      rw (and-bit b.0 ((2 ^ 32 - 1) - g.scale) ((2 ^ 32 - 1) - g.mode), not-bit b.0 g.scale h hs, not-bit b.0 g.mode h hm)
      (for_flags (λ (s m : Bool). (not s && not m) ≡ Is Mask16 s m) refl refl refl refl (bit b.0 g.scale) (bit b.0 g.mode))

-- ---- the banks that a search looks at

of_three : (a o x : Bool) → ((a && x) && o) ≡ (a && (o && x))
of_three false o x = refl
of_three true o x = for_flags (λ (o x : Bool). (x && o) ≡ (o && x)) refl refl refl refl o x

-- x is the word of the banks of the class
pub searched-bit : (g : Filters) (k : FilterClass) (f : Fifo) (x : ℕ) (b : Bank) → b.0 < 32 → g.assignment < 2 ^ 32
    → bit b.0 x ≡ eqb (rank (class_of g b)) (rank k) → bit b.0 (bit_and (bit_and g.activation x) (own f g)) ≡ searched g k f b
unfolding searched
searched-bit g k f x b h ha e =
    rw (and-bit b.0 (bit_and g.activation x) (own f g), and-bit b.0 g.activation x, own-digit f g b h ha, e)
    (of_three (is_active g b) (belongs f g b) (eqb (rank (class_of g b)) (rank k)))

-- ---- how many of the 14 banks lie below one

pub banks_below-same : (b : Bank) → b.0 ≤ 14 → banks_below 14 b ≡ b.0
banks_below-same b h = go (ltb b.0 14) refl
  where
    go : (t : Bool) → ltb b.0 14 ≡ t → pick t b.0 14 ≡ b.0
    go true e = refl
    go false e = omega (arith, ltb-false b.0 14 e)
