-- Hex text: what bytes it gives, where it stops and why. The reader takes one character after the other; a text is read by a
-- fold of `taken` over its characters, so that it may come in pieces.
use Rattle.std.specs.Prelude.{ℕ, ◌+◌, ◌-◌, ◌*◌, ◌%◌, ◌^◌, Bool, ◌&&◌, ◌||◌, List, [], ◌∷◌, ◌++◌, length, ◌==◌, nat_le, slice_set, Option, Some, None}
use Rattle.base.specs.Base.{pick}
use Rattle.hex_text.specs.declared.Kind.{Kind}
use Rattle.hex_text.specs.declared.Kind.TheVariants.{Digit, Blank, LineEnd, Hash, Other}
use Rattle.hex_text.specs.declared.Fault.{Fault}
use Rattle.hex_text.specs.declared.Fault.TheVariants.{Character, LoneDigit}
use Rattle.hex_text.specs.declared.Place.{Place}
use Rattle.hex_text.specs.declared.Place.TheVariants.{Between, Inside, Comment, Stopped}
use Rattle.hex_text.specs.declared.Reader.{Reader}
use Rattle.hex_text.specs.declared.Advance.{Advance}
use Rattle.hex_text.specs.declared.Piece.{Piece}

-- ---- the cases as numbers, each with its values; what is given is told by its bytes, `bytes_of`

abbrev pub kind_numbers : Kind → List ℕ
kind_numbers (Digit v) = 0 ∷ v ∷ []
kind_numbers Blank = 1 ∷ []
kind_numbers LineEnd = 2 ∷ []
kind_numbers Hash = 3 ∷ []
kind_numbers Other = 4 ∷ []

abbrev pub fault_numbers : Fault → List ℕ
fault_numbers (Character c) = 0 ∷ c ∷ []
fault_numbers LoneDigit = 1 ∷ []

abbrev pub place_numbers : Place → List ℕ
place_numbers Between = 0 ∷ []
place_numbers (Inside h) = 1 ∷ h ∷ []
place_numbers Comment = 2 ∷ []
place_numbers (Stopped f) = 3 ∷ fault_numbers f

-- ---- characters

abbrev pub is_within : ℕ → ℕ → ℕ → Bool
is_within a b c = nat_le a c && nat_le c b

-- 0 to 9, A to F, a to f; '#'; line feed; blank, tab, carriage return
unfoldable pub kind_of : ℕ → Kind
kind_of c =
    pick (is_within 48 57 c) (Digit (c - 48))
    (pick (is_within 65 70 c) (Digit (c - 55))
    (pick (is_within 97 102 c) (Digit (c - 87))
    (pick (c == 35) Hash
    (pick (c == 10) LineEnd
    (pick (c == 32 || c == 9 || c == 13) Blank Other)))))

-- ---- places

abbrev pub at : Reader → Place → Reader
at r p = record { line = r.line; column = r.column; place = p }

-- n columns on; lines and columns are numbers of 64 bits
abbrev pub along : Reader → ℕ → Place → Reader
along r n p = record { line = r.line; column = (r.column + n) % 2 ^ 64; place = p }

abbrev pub next_line : Reader → Reader
next_line r = record { line = (r.line + 1) % 2 ^ 64; column = 1; place = Between }

-- ---- one character

-- between two bytes
unfoldable pub after_byte : Reader → ℕ → Kind → Reader
after_byte r c (Digit v) = at r (Inside v)
after_byte r c Blank = along r 1 Between
after_byte r c LineEnd = next_line r
after_byte r c Hash = along r 1 Comment
after_byte r c Other = at r (Stopped (Character c))

-- behind the first digit of a byte: the column is that digit's until the second one comes
unfoldable pub after_digit : Reader → ℕ → Kind → Reader
after_digit r c (Digit v) = along r 2 Between
after_digit r c Blank = at r (Stopped LoneDigit)
after_digit r c LineEnd = at r (Stopped LoneDigit)
after_digit r c Hash = at r (Stopped LoneDigit)
after_digit r c Other = along r 1 (Stopped (Character c))

unfoldable pub in_comment : Reader → Kind → Reader
in_comment r (Digit v) = along r 1 Comment
in_comment r Blank = along r 1 Comment
in_comment r LineEnd = next_line r
in_comment r Hash = along r 1 Comment
in_comment r Other = along r 1 Comment

-- at a fault the reader stays
unfoldable pub reader_after : Place → Reader → ℕ → Kind → Reader
reader_after Between r c k = after_byte r c k
reader_after (Inside h) r c k = after_digit r c k
reader_after Comment r c k = in_comment r k
reader_after (Stopped f) r c k = r

-- the remainders never act: digits are below 16
unfoldable pub second_digit : ℕ → Kind → Option ℕ
second_digit h (Digit v) = Some (h % 16 * 16 + v % 16)
second_digit h Blank = None
second_digit h LineEnd = None
second_digit h Hash = None
second_digit h Other = None

unfoldable pub given_by : Place → Kind → Option ℕ
given_by Between k = None
given_by (Inside h) k = second_digit h k
given_by Comment k = None
given_by (Stopped f) k = None

unfoldable pub taken : Reader → ℕ → Advance
taken r c = record { reader = reader_after r.place r c (kind_of c); given = given_by r.place (kind_of c) }

-- ---- a text

abbrev pub start : Reader
start = record { line = 1; column = 1; place = Between }

abbrev pub bytes_of : Option ℕ → List ℕ
bytes_of (Some b) = b ∷ []
bytes_of None = []

abbrev pub stored : Option ℕ → ℕ → List ℕ → List ℕ
stored (Some b) n l = slice_set l n b
stored None n l = l

-- the reader behind the characters read so far, and the bytes that they gave
pub record Progress : Type 0 where
  pub reader : Reader
  pub bytes : List ℕ

abbrev pub advanced : Progress → Advance → Progress
advanced x t = record { reader = t.reader; bytes = x.bytes ++ bytes_of t.given }

unfoldable pub read_on : Progress → List ℕ → Progress
read_on x [] = x
read_on x (c ∷ s) = read_on (advanced x (taken x.reader c)) s

unfoldable pub unhexed : Reader → List ℕ → Progress
unhexed r s = read_on (record { reader = r; bytes = [] }) s

abbrev pub piece_of : Progress → Piece
piece_of x = record { reader = x.reader; count = length x.bytes }

-- the end of a text
unfoldable pub ended : Place → Reader → Reader
ended Between r = r
ended (Inside h) r = at r (Stopped LoneDigit)
ended Comment r = r
ended (Stopped f) r = r

-- a whole text: its bytes, and the reader at its end, which stands at a fault exactly where the text is not hex text
unfoldable pub read : List ℕ → Progress
read s = record { reader = ended (unhexed start s).reader.place (unhexed start s).reader; bytes = (unhexed start s).bytes }
