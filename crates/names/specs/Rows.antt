-- The rows of the table of names, of 14 bytes each:
--
--     bytes 0 to 7   the name; a percent sign stands for a number from 0 up to the count
--     bytes 8, 9     the place: a register's offset, a field's lowest bit, the number that a word stands for
--     byte 10        the size: bytes from one register to the next, the width of a field
--     byte 11        the count: how many there are, one behind the other
--     byte 12        of a field how many hex digits its number has in print, 0 for a decimal number; of a register the row of its
--                    first field
--     byte 13        of a field when it is shown: 0 always, 1 while IDE is 0, 2 while it is 1; of a register how many rows of fields
--                    it has
use Rattle.std.specs.Prelude.{Bool, false, ◌&&◌, ◌||◌, not, List, ℕ, zero, suc, ◌+◌, ◌-◌, ◌*◌, ◌/◌, ◌%◌, eqb, ltb, leb, get_or, Option, Some, None}
use Rattle.base.specs.Base.{pick}
use Rattle.names.specs.Scan.{byte_at, value}
use Rattle.names.specs.Listing.{text}
use Rattle.names.specs.declared.scan.Word.{Word}
use Rattle.names.specs.declared.rows.Found.{Found}
use Rattle.names.specs.declared.rows.Numbers.{Numbers}

abbrev pub found : ℕ → ℕ → Found
found row i = record { row = row; index = i }

-- ---- numbers

unfoldable pub numbers : ℕ → Numbers
numbers row = record {
  place = get_or (text row) 8 0 * 256 + get_or (text row) 9 0;
  size = get_or (text row) 10 0;
  count = get_or (text row) 11 0;
  digits = get_or (text row) 12 0;
  shown = get_or (text row) 13 0;
}

-- ---- by name

-- the word from place p on is a name t from letter k on, of which n letters are left; a percent sign is the word's digits
unfoldable pub same_on : List ℕ → Word → List ℕ → ℕ → ℕ → ℕ → Bool
same_on s w t k p zero = eqb p w.to
same_on s w t k p (suc n) =
    pick (eqb (byte_at t k) 32) (eqb p w.to)
    (pick (eqb (byte_at t k) 37) (pick (not (eqb p w.digits)) false (same_on s w t (k + 1) w.rest n))
    (pick (leb w.to p || not (eqb (byte_at s p) (byte_at t k))) false (same_on s w t (k + 1) (p + 1) n)))

-- a word is a name, with digits where the name has a percent sign
unfoldable pub is_named : List ℕ → Word → List ℕ → Bool
is_named s w t = same_on s w t 0 w.from 8

-- the first of n rows from this one on that has the name
unfoldable pub find_on : List ℕ → Word → ℕ → ℕ → Option ℕ
find_on s w row zero = None
find_on s w row (suc n) = pick (is_named s w (text row)) (Some row) (find_on s w (row + 1) n)

-- a word has digits, and they are a number as it is written: with no zero in front
abbrev pub is_plain : List ℕ → Word → Bool
is_plain s w = eqb (w.rest - w.digits) 1 || (not (eqb (w.rest - w.digits) 0) && not (eqb (byte_at s w.digits) 48))

-- the number is one of the row's
abbrev pub counted : ℕ → Option ℕ → Option Found
counted row None = None
counted row (Some i) = pick (leb (numbers row).count i) None (Some (found row i))

-- a row by name, with the number in the word where there are several
unfoldable pub indexed : List ℕ → Word → Option ℕ → Option Found
indexed s w None = None
indexed s w (Some row) =
    pick (leb (numbers row).count 1) (Some (found row 0))
    (pick (is_plain s w) (counted row (value s w.digits w.rest false)) None)

-- ---- by offset

-- how many sizes an offset is behind a place, where it is so many that are counted
abbrev pub index_in : ℕ → ℕ → ℕ → ℕ → Option ℕ
index_in p s c o =
    pick (ltb o p || eqb s 0) None
    (pick (not (eqb ((o - p) % s) 0) || leb c ((o - p) / s)) None (Some ((o - p) / s)))

unfoldable pub index_at : ℕ → ℕ → Option ℕ
index_at row o = index_in (numbers row).place (numbers row).size (numbers row).count o

-- a row where it has an index, or else what is found behind it
abbrev pub or_behind : ℕ → Option ℕ → Option Found → Option Found
or_behind row None x = x
or_behind row (Some i) x = Some (found row i)

-- the first of n rows from this one on that is at the offset
unfoldable pub register_on : ℕ → ℕ → ℕ → Option Found
register_on o row zero = None
register_on o row (suc n) = or_behind row (index_at row o) (register_on o (row + 1) n)
