-- Registers and the fields of a word as text, by the table of names.
use Rattle.std.specs.Prelude.{Bool, not, ◌&&◌, ◌||◌, List, [], ◌∷◌, ◌++◌, ℕ, zero, suc, ◌+◌, ◌-◌, ◌*◌, ◌^◌, eqb, leb, get_or, Option, Some, None}
use Rattle.base.specs.Base.{pick, bit, bits}
use Rattle.names.specs.Listing.{text}
use Rattle.names.specs.Rows.{numbers}
use Rattle.names.specs.Table.{rows_of, place, register_at}
use Rattle.names.specs.declared.rows.Found.{Found}
use Rattle.names.specs.declared.Span.{Span}
use Rattle.names.specs.declared.Group.TheVariants.{Fields}
use Rattle.text.specs.Lines.{put_all}
use Rattle.text.specs.Numbers.{decimal, hex}
use Rattle.text.specs.declared.Line.{Line}
use Rattle.phrases.specs.declared.Field.{Field}
use Rattle.phrases.specs.declared.Said.{Said}

-- ---- names

-- a percent sign is the index
unfoldable pub letter_text : ℕ → ℕ → List ℕ
letter_text b i = pick (eqb b 37) (decimal i) (b ∷ [])

-- n letters of a name, from letter k on; a name ends at a blank, and where no row is there are zeros
unfoldable pub name_on : List ℕ → ℕ → ℕ → ℕ → List ℕ
name_on t i k zero = []
name_on t i k (suc n) = pick (leb (get_or t k 0) 32) [] (letter_text (get_or t k 0) i ++ name_on t i (k + 1) n)

unfoldable pub name_text : ℕ → ℕ → List ℕ
name_text row i = name_on (text row) i 0 8

-- a word in front of another
abbrev pub leading : ℕ → List ℕ
leading row = name_text row 0 ++ (32 ∷ [])

-- where no register is, the offset; it has 16 bits
abbrev pub register_of : Option Found → ℕ → List ℕ
register_of None o = hex o 4
register_of (Some f) o = name_text f.row f.index

unfoldable pub register_text : ℕ → List ℕ
register_text o = register_of (register_at o) o

-- ---- a field

-- STID is not shown while IDE is 1, EXID not while it is 0
abbrev pub is_other : ℕ → ℕ → Bool
is_other shown w = (eqb shown 1 && bit 2 w) || (eqb shown 2 && not (bit 2 w))

-- the number of a field; 0 where it is not shown
abbrev pub field_value : Found → ℕ → ℕ
field_value f w = pick (is_other (numbers f.row).shown w) 0 (bits (place f) (numbers f.row).size w)

-- where it stands in the word
abbrev pub placed : Found → ℕ → ℕ
placed f w = field_value f w * 2 ^ place f

-- what is shown of a field, which is nothing where its number is 0
unfoldable pub field_of : Found → ℕ → Option Field
field_of f w = pick (eqb (field_value f w) 0) None (Some (record { value = field_value f w; placed = placed f w }))

-- a field of one bit has no number behind its name
unfoldable pub amount_text : ℕ → ℕ → ℕ → List ℕ
amount_text size d n = pick (eqb size 1) [] (32 ∷ pick (eqb d 0) (decimal n) (hex n d))

abbrev pub number_of : Found → ℕ → List ℕ
number_of f n = amount_text (numbers f.row).size (numbers f.row).digits n

-- a field that is 0 is not told
unfoldable pub field_text : Found → ℕ → List ℕ
field_text f w = pick (eqb (field_value f w) 0) [] (32 ∷ (name_text f.row f.index ++ number_of f (field_value f w)))

-- ---- the fields of a register

-- n fields of a row, from index i on
unfoldable pub row_on : ℕ → ℕ → ℕ → List Found
row_on row i zero = []
row_on row i (suc n) = record { row = row; index = i } ∷ row_on row (i + 1) n

unfoldable pub row_fields : ℕ → List Found
row_fields row = row_on row 0 (numbers row).count

-- those of n rows, from this one on
unfoldable pub fields_on : ℕ → ℕ → List Found
fields_on row zero = []
fields_on row (suc n) = row_fields row ++ fields_on (row + 1) n

-- those of a group
unfoldable pub fields_of : Span → List Found
fields_of x = fields_on x.first x.count

-- those of the register at an offset
abbrev pub fields_at : ℕ → List Found
fields_at o = fields_of (rows_of (Fields (register_at o)))

-- ---- several fields

unfoldable pub all_text : List Found → ℕ → List ℕ
all_text [] w = []
all_text (f ∷ l) w = field_text f w ++ all_text l w

-- what fields leave of a word, where they are taken out of r
unfoldable pub rest_of : List Found → ℕ → ℕ → ℕ
rest_of [] w r = r
rest_of (f ∷ l) w r = rest_of l w (r - placed f w)

unfoldable pub fields_text : ℕ → ℕ → List ℕ
fields_text o w = all_text (fields_at o) w

-- the fields say all of the word
unfoldable pub is_said : ℕ → ℕ → Bool
is_said o w = eqb (rest_of (fields_at o) w w) 0

-- ---- a line to which fields are added, with what they leave of the word

unfoldable pub with_field : Said → Found → ℕ → Said
with_field s f w = record { line = put_all s.line (field_text f w); rest = s.rest - placed f w }

unfoldable pub with_fields : Said → List Found → ℕ → Said
with_fields s [] w = s
with_fields s (f ∷ l) w = with_fields (with_field s f w) l w

unfoldable pub said_of : Line → List Found → ℕ → Said
said_of l fs w = record { line = put_all l (all_text fs w); rest = rest_of fs w w }
