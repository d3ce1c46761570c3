-- Words, letters and numbers in a row of bytes: docs/LESSONS.md, "Lines and words". A place past the end holds a blank; places are
-- numbers of 64 bits.
use Rattle.std.specs.Prelude.{Bool, not, ◌&&◌, ◌||◌, List, ℕ, zero, suc, ◌+◌, ◌-◌, ◌*◌, ◌%◌, ◌^◌, eqb, ltb, leb, length, get_or, Option, Some, None, is_some}
use Rattle.base.specs.Base.{pick}
use Rattle.names.specs.declared.scan.Class.{Class}
use Rattle.names.specs.declared.scan.Class.TheVariants.{Blank, NoBlank, HexDigit, Digit, Letter}
use Rattle.names.specs.declared.scan.Word.{Word}

unfoldable pub byte_at : List ℕ → ℕ → ℕ
byte_at s i = get_or s i 32

-- n places on
abbrev pub behind : ℕ → ℕ → ℕ
behind i n = (i + n) % 2 ^ 64

-- ---- classes of bytes

-- space, tab, carriage return
abbrev pub is_blank : ℕ → Bool
is_blank c = eqb c 32 || eqb c 9 || eqb c 13

abbrev pub is_within : ℕ → ℕ → ℕ → Bool
is_within a b c = leb a c && leb c b

-- the value of 0 to 9, A to F, a to f
unfoldable pub digit_of : ℕ → Option ℕ
digit_of c =
    pick (is_within 48 57 c) (Some (c - 48))
    (pick (is_within 65 70 c) (Some (c - 55))
    (pick (is_within 97 102 c) (Some (c - 87)) None))

unfoldable pub is_of : Class → ℕ → Bool
is_of Blank c = is_blank c
is_of NoBlank c = not (is_blank c)
is_of HexDigit c = is_some (digit_of c)
is_of Digit c = is_within 48 57 c
is_of Letter c = not (is_blank c) && not (is_within 48 57 c)

-- from place i over bytes of a class, at most n
unfoldable pub run_on : List ℕ → ℕ → Class → ℕ → ℕ
run_on s i k zero = i
run_on s i k (suc n) = pick (is_of k (byte_at s i)) (run_on s (i + 1) k n) i

unfoldable pub run_end : List ℕ → ℕ → Class → ℕ
run_end s i k = run_on s i k (length s - i)

-- ---- numbers

abbrev pub base_of : Bool → ℕ
base_of hex = pick hex 16 10

-- the digit is one of the base, and the number is one of 32 bits
abbrev pub shifted : ℕ → ℕ → Option ℕ → Option ℕ
shifted a b None = None
shifted a b (Some d) = pick (ltb d b && ltb (a * b + d) (2 ^ 32)) (Some (a * b + d)) None

-- a number with one digit more; where there is no number, there stays none
unfoldable pub with_digit : Option ℕ → ℕ → Bool → Option ℕ
with_digit None c hex = None
with_digit (Some a) c hex = shifted a (base_of hex) (digit_of c)

-- the number a, with n digits more from place i on
unfoldable pub value_on : List ℕ → ℕ → Bool → ℕ → Option ℕ → Option ℕ
value_on s i hex zero a = a
value_on s i hex (suc n) a = value_on s (i + 1) hex n (with_digit a (byte_at s i) hex)

unfoldable pub value : List ℕ → ℕ → ℕ → Bool → Option ℕ
value s i j hex = value_on s i hex (j - i) (Some 0)

-- ---- words

abbrev pub empty_at : ℕ → Word
empty_at i = record { from = i; digits = i; rest = i; to = i }

abbrev pub digits_end : List ℕ → ℕ → ℕ → ℕ → Word
digits_end s i d j = record { from = i; digits = d; rest = run_end s d Digit; to = j }

-- the first word at or behind a place; '#' begins a comment, where it stands as the first letter of a word
unfoldable pub word_at : List ℕ → ℕ → Word
word_at s p =
    pick (eqb (byte_at s (run_end s p Blank)) 35) (empty_at (run_end s p Blank))
    (digits_end s (run_end s p Blank) (run_end s (run_end s p Blank) Letter) (run_end s (run_end s p Blank) NoBlank))
