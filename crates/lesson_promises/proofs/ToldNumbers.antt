-- The digits of a number of 32 bits are read as the number.
use mathlib.Core.Bool.{Bool, true, false, false≢true}
use Rattle.std.specs.Prelude.{Option, Some, None}
use mathlib.Core.Path.{◌≡◌, refl, ap}
use Prim.Native.Nat.{ℕ, ◌+◌, ◌*◌, ◌/◌, ◌%◌, ◌^◌, ◌<◌}
use native.Mathlib.Omega.{arith}
use lib.Dec.{eqb}
use borrow.Author.Tests.{eqb-true, lt-ltb}
use Rattle.model.proofs.Bounded.{all_below, each_below}
use Rattle.names.specs.Scan.{byte_at, digit_of, base_of, with_digit, value_on, value}
use Rattle.names.specs.Table.{bytes}
use Rattle.lesson_promises.specs.Told.{digit, hex_digits, decimal_digits, Numbers}

abbrev is_value : Option ℕ → ℕ → Bool
is_value None v = false
is_value (Some w) v = eqb w v

valued : (x : Option ℕ) (v : ℕ) → is_value x v ≡ true → x ≡ Some v
valued None v e = absurd (false≢true e)
valued (Some w) v e = ap Some (eqb-true w v e)

digit-back : (v : ℕ) → v < 16 → digit_of (digit v) ≡ Some v
unfolding digit_of all_below
digit-back v h = valued (digit_of (digit v)) v (each_below (λ (v : ℕ). is_value (digit_of (digit v)) v) 16 refl v h)

base_small : (hex : Bool) → base_of hex < 17
base_small true = omega arith
base_small false = omega arith

-- a number x with the digit v more is y
one_more : (hex : Bool) (x v y : ℕ) → v < base_of hex → x * base_of hex + v ≡ y → y < 2 ^ 32 → with_digit (Some x) (digit v) hex ≡ Some y
unfolding with_digit
one_more hex x v y h e l = rw (digit-back v (omega (arith, base_small hex)), lt-ltb v (base_of hex) h, e, lt-ltb y (2 ^ 32) l)

module _ (n : ℕ) (h : n < 2 ^ 32) where
  hex_read_lem : value (hex_digits n) 0 8 true ≡ Some n
  unfolding value value_on byte_at
  hex_read_lem = rw (
    one_more true 0 (n / 16 ^ 7 % 16) (n / 16 ^ 7) (omega arith) (omega arith) (omega arith),
    one_more true (n / 16 ^ 7) (n / 16 ^ 6 % 16) (n / 16 ^ 6) (omega arith) (omega arith) (omega arith),
    one_more true (n / 16 ^ 6) (n / 16 ^ 5 % 16) (n / 16 ^ 5) (omega arith) (omega arith) (omega arith),
    one_more true (n / 16 ^ 5) (n / 16 ^ 4 % 16) (n / 16 ^ 4) (omega arith) (omega arith) (omega arith),
    one_more true (n / 16 ^ 4) (n / 16 ^ 3 % 16) (n / 16 ^ 3) (omega arith) (omega arith) (omega arith),
    one_more true (n / 16 ^ 3) (n / 16 ^ 2 % 16) (n / 16 ^ 2) (omega arith) (omega arith) (omega arith),
    one_more true (n / 16 ^ 2) (n / 16 % 16) (n / 16) (omega arith) (omega arith) (omega arith),
    one_more true (n / 16) (n % 16) n (omega arith) (omega arith) (omega arith),
  )

  decimal_read_lem : value (decimal_digits n) 0 10 false ≡ Some n
  unfolding value value_on byte_at
  decimal_read_lem = rw (
    one_more false 0 (n / 10 ^ 9 % 10) (n / 10 ^ 9) (omega arith) (omega arith) (omega arith),
    one_more false (n / 10 ^ 9) (n / 10 ^ 8 % 10) (n / 10 ^ 8) (omega arith) (omega arith) (omega arith),
    one_more false (n / 10 ^ 8) (n / 10 ^ 7 % 10) (n / 10 ^ 7) (omega arith) (omega arith) (omega arith),
    one_more false (n / 10 ^ 7) (n / 10 ^ 6 % 10) (n / 10 ^ 6) (omega arith) (omega arith) (omega arith),
    one_more false (n / 10 ^ 6) (n / 10 ^ 5 % 10) (n / 10 ^ 5) (omega arith) (omega arith) (omega arith),
    one_more false (n / 10 ^ 5) (n / 10 ^ 4 % 10) (n / 10 ^ 4) (omega arith) (omega arith) (omega arith),
    one_more false (n / 10 ^ 4) (n / 10 ^ 3 % 10) (n / 10 ^ 3) (omega arith) (omega arith) (omega arith),
    one_more false (n / 10 ^ 3) (n / 10 ^ 2 % 10) (n / 10 ^ 2) (omega arith) (omega arith) (omega arith),
    one_more false (n / 10 ^ 2) (n / 10 % 10) (n / 10) (omega arith) (omega arith) (omega arith),
    one_more false (n / 10) (n % 10) n (omega arith) (omega arith) (omega arith),
  )

pub numbers : Numbers
unfolding value value_on byte_at digit_of with_digit bytes
numbers = record {
  hex_read = hex_read_lem;
  decimal_read = decimal_read_lem;
  largest = refl;
  too_large = refl;
  much_too_large = refl;
  largest_hex = refl;
  too_large_hex = refl;
  letters = refl;
  no_letters = refl;
  no_digit = refl;
}
