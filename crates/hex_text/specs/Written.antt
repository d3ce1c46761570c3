-- What is promised of hex text: which characters are digits, what a character does at each place, that what is written is read
-- back, and that a text may come in pieces. Document 01 has no hex text; lessons/README.md says what it is.
use Rattle.std.specs.Prelude.{◌≡◌, ℕ, ◌+◌, ◌-◌, ◌*◌, ◌/◌, ◌%◌, ◌<◌, true, false, ◌||◌, List, [], ◌∷◌, ◌++◌, ◌==◌, nat_lt, Option, None}
use Rattle.base.specs.Base.{pick}
use Rattle.model.specs.Records.{Bytes}
use Rattle.hex_text.specs.Text.{kind_numbers, fault_numbers, place_numbers, kind_of, taken, bytes_of, unhexed, read}
use Rattle.hex_text.specs.declared.Kind.{Kind}
use Rattle.hex_text.specs.declared.Fault.{Fault}
use Rattle.hex_text.specs.declared.Place.{Place}
use Rattle.hex_text.specs.declared.Reader.{Reader}

-- the numbers tell every two cases apart
pub record CasesApart : Type 0 where
  pub kinds : (x y : Kind) → kind_numbers x ≡ kind_numbers y → x ≡ y
  pub faults : (x y : Fault) → fault_numbers x ≡ fault_numbers y → x ≡ y
  pub places : (x y : Place) → place_numbers x ≡ place_numbers y → x ≡ y
  pub given : (x y : Option ℕ) → bytes_of x ≡ bytes_of y → x ≡ y

-- ---- digits

-- the character of a digit: 0 to 9, then A to F or a to f
abbrev pub upper_digit : ℕ → ℕ
upper_digit v = pick (nat_lt v 10) (48 + v) (65 + (v - 10))

abbrev pub lower_digit : ℕ → ℕ
lower_digit v = pick (nat_lt v 10) (48 + v) (97 + (v - 10))

-- these characters are digits, and no others
pub record Digits : Type 0 where
  pub upper : (v : ℕ) → v < 16 → kind_numbers (kind_of (upper_digit v)) ≡ 0 ∷ v ∷ []
  pub lower : (v : ℕ) → v < 16 → kind_numbers (kind_of (lower_digit v)) ≡ 0 ∷ v ∷ []
  pub only : (c v : ℕ) → kind_numbers (kind_of c) ≡ 0 ∷ v ∷ [] → (v < 16) × ((c == upper_digit v || c == lower_digit v) ≡ true)

-- ---- one character at each place

pub record Places (r : Reader) (c : ℕ) : Type 0 where
  -- between bytes: a first digit, a comment, and blanks and line ends, which are passed over
  pub first : (v : ℕ) → place_numbers r.place ≡ 0 ∷ [] → kind_numbers (kind_of c) ≡ 0 ∷ v ∷ [] → place_numbers (taken r c).reader.place ≡ 1 ∷ v ∷ []
  pub hash : place_numbers r.place ≡ 0 ∷ [] → kind_numbers (kind_of c) ≡ 3 ∷ [] → place_numbers (taken r c).reader.place ≡ 2 ∷ []
  pub blank : place_numbers r.place ≡ 0 ∷ [] → kind_numbers (kind_of c) ≡ 1 ∷ [] → place_numbers (taken r c).reader.place ≡ 0 ∷ []
  pub line_end : place_numbers r.place ≡ 0 ∷ [] → kind_numbers (kind_of c) ≡ 2 ∷ [] → place_numbers (taken r c).reader.place ≡ 0 ∷ []
  -- a second digit gives a byte
  pub second : (h v : ℕ) → h < 16 → place_numbers r.place ≡ 1 ∷ h ∷ [] → kind_numbers (kind_of c) ≡ 0 ∷ v ∷ [] → bytes_of (taken r c).given ≡ (h * 16 + v) ∷ []
  -- a character that has no place in hex text, between bytes or behind a first digit
  pub wrong : place_numbers r.place ≡ 0 ∷ [] → kind_numbers (kind_of c) ≡ 4 ∷ [] → place_numbers (taken r c).reader.place ≡ 3 ∷ 0 ∷ c ∷ []
  pub wrong_inside : (h : ℕ) → place_numbers r.place ≡ 1 ∷ h ∷ [] → kind_numbers (kind_of c) ≡ 4 ∷ [] → place_numbers (taken r c).reader.place ≡ 3 ∷ 0 ∷ c ∷ []
  -- a first digit without a second one
  pub lone : (h k : ℕ) → place_numbers r.place ≡ 1 ∷ h ∷ [] → kind_numbers (kind_of c) ≡ k ∷ [] → (k == 4) ≡ false → place_numbers (taken r c).reader.place ≡ 3 ∷ 1 ∷ []
  -- a comment goes to the end of its line
  pub comment : place_numbers r.place ≡ 2 ∷ [] → place_numbers (taken r c).reader.place ≡ pick (c == 10) (0 ∷ []) (2 ∷ [])
  -- at a fault the reader stays
  pub stays : (f : List ℕ) → place_numbers r.place ≡ 3 ∷ f → taken r c ≡ record { reader = r; given = None }

-- ---- a text

-- bytes written as two digits each
unfoldable pub hex_of : List ℕ → List ℕ
hex_of [] = []
hex_of (b ∷ l) = upper_digit (b / 16) ∷ upper_digit (b % 16) ∷ hex_of l

-- bytes that are written are read back, without a fault
pub record ReadBack (l : List ℕ) : Type 0 where
  pub bytes : Bytes l → (read (hex_of l)).bytes ≡ l
  pub place : Bytes l → place_numbers (read (hex_of l)).reader.place ≡ 0 ∷ []

-- two pieces give what the whole gives
pub record TwoPieces (r : Reader) (s t : List ℕ) : Type 0 where
  pub bytes : (unhexed r (s ++ t)).bytes ≡ (unhexed r s).bytes ++ (unhexed (unhexed r s).reader t).bytes
  pub reader : (unhexed r (s ++ t)).reader ≡ (unhexed (unhexed r s).reader t).reader

-- at a fault nothing more is read
pub record StaysAtFault (r : Reader) (s : List ℕ) : Type 0 where
  pub stays : (f : List ℕ) → place_numbers r.place ≡ 3 ∷ f → unhexed r s ≡ record { reader = r; bytes = [] }
