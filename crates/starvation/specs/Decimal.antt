-- What is promised of the number that is given to the program: a text of decimal digits alone, and below 2^32.
use Rattle.std.specs.Prelude.{◌≡◌, ℕ, ◌+◌, ◌-◌, ◌*◌, ◌^◌, Bool, true, not, ◌&&◌, List, [], ◌∷◌, length, ◌==◌, nat_le, nat_lt}
use Rattle.base.specs.Base.{pick}
use Rattle.starvation.specs.Number.{numeral_numbers, parsed}

-- the characters 0 to 9
unfoldable pub all_digits : List ℕ → Bool
all_digits [] = true
all_digits (c ∷ s) = nat_le 48 c && nat_le c 57 && all_digits s

-- the digits of n and then those of a text, as one number
unfoldable pub decimal_from : ℕ → List ℕ → ℕ
decimal_from n [] = n
decimal_from n (c ∷ s) = decimal_from (n * 10 + (c - 48)) s

-- a text is a number exactly when it has a digit, nothing but digits, and the number fits 32 bits
pub record Decimal (s : List ℕ) : Type 0 where
  pub value : numeral_numbers (parsed s) ≡ pick (not (length s == 0) && all_digits s && nat_lt (decimal_from 0 s) (2 ^ 32)) (1 ∷ decimal_from 0 s ∷ []) (0 ∷ [])
