-- A number of 32 bits as decimal digits.
use Rattle.std.specs.Prelude.{ℕ, ◌+◌, ◌-◌, ◌*◌, List, [], ◌∷◌, length, ◌==◌, nat_lt, Option, Some, None}
use Rattle.base.specs.Base.{pick}

-- the cases as numbers: 0 no number; 1 a number, and which
abbrev pub numeral_numbers : Option ℕ → List ℕ
numeral_numbers None = 0 ∷ []
numeral_numbers (Some n) = 1 ∷ n ∷ []

-- 48 is the digit 0, 57 the digit 9
unfoldable pub with_digit : ℕ → ℕ → Option ℕ
with_digit n c =
    pick (nat_lt c 48) None
    (pick (nat_lt 57 c) None
    (pick (nat_lt 4294967295 (n * 10 + (c - 48))) None (Some (n * 10 + (c - 48)))))

unfoldable pub next : Option ℕ → ℕ → Option ℕ
next (Some n) c = with_digit n c
next None c = None

unfoldable pub read_on : Option ℕ → List ℕ → Option ℕ
read_on p [] = p
read_on p (c ∷ s) = read_on (next p c) s

-- one digit or more, and nothing else
unfoldable pub parsed : List ℕ → Option ℕ
parsed s = pick (length s == 0) None (read_on (Some 0) s)
