-- Choices, bits, fields and sums.
use Rattle.std.specs.Prelude.{Bool, true, false, ℕ, zero, suc, ◌+◌, ◌/◌, ◌%◌, ◌^◌, eqb}

-- the one conditional
abbrev pub pick : {A : Type 0} → Bool → A → A → A
pick true a b = a
pick false a b = b

-- bit i of w
abbrev pub bit : ℕ → ℕ → Bool
bit i w = eqb (w / 2 ^ i % 2) 1

-- n bits of w from bit i on
abbrev pub bits : ℕ → ℕ → ℕ → ℕ
bits i n w = w / 2 ^ i % 2 ^ n

-- a flag as a number
abbrev pub one : Bool → ℕ
one true = 1
one false = 0

-- f 0 + .. + f (n - 1)
unfoldable pub sum : (ℕ → ℕ) → ℕ → ℕ
sum f zero = 0
sum f (suc n) = sum f n + f n
