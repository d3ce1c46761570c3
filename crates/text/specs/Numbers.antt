-- Numbers as text.
use Rattle.std.specs.Prelude.{ℕ, zero, suc, eqb, ◌+◌, ◌*◌, ◌/◌, ◌%◌, ◌^◌, List, [], ◌∷◌, ◌++◌, nat_lt}
use Rattle.base.specs.Base.{pick}

-- 0 to 9, A to F
abbrev pub digit : ℕ → ℕ
digit d = pick (nat_lt d 10) (48 + d) (55 + d)

-- hex digit j of a word, counted from the lowest
abbrev pub digit_at : ℕ → ℕ → ℕ
digit_at w j = digit (w / 2 ^ (4 * j) % 16)

-- the lowest k hex digits of a word, the highest first
unfoldable pub digits : ℕ → ℕ → List ℕ
digits w zero = []
digits w (suc k) = digit_at w k ∷ digits w k

-- 0x in front of them
abbrev pub hex : ℕ → ℕ → List ℕ
hex w k = 48 ∷ 120 ∷ digits w k

-- a number below 10^k, with no zero in front
unfoldable pub decimal_on : ℕ → ℕ → List ℕ
decimal_on zero n = []
decimal_on (suc k) n = pick (nat_lt n 10) ((48 + n) ∷ []) (decimal_on k (n / 10) ++ ((48 + n % 10) ∷ []))

-- a number of 64 bits has 20 digits at most
abbrev pub decimal : ℕ → List ℕ
decimal n = decimal_on 20 n

-- a byte of a text that tells a number: a percent sign is the number
abbrev pub letter : ℕ → ℕ → List ℕ
letter b n = pick (eqb b 37) (decimal n) (b ∷ [])

unfoldable pub said : List ℕ → ℕ → List ℕ
said [] n = []
said (b ∷ s) n = letter b n ++ said s n
