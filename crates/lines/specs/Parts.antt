-- Words of a line that are as many as there are: the fields of a written word, interrupt lines. docs/LESSONS.md, "Steps", VALUE, and
-- "What is expected".
use Rattle.std.specs.Prelude.{Bool, true, false, ◌&&◌, ◌||◌, not, List, ℕ, ◌-◌, zero, suc, ◌+◌, ◌*◌, ◌/◌, ◌%◌, ◌^◌, eqb, ltb, leb, length, Option, Some, None, Result, Ok, Err}
use Rattle.base.specs.Base.{pick}
use Rattle.names.specs.Scan.{word_at}
use Rattle.names.specs.Rows.{numbers}
use Rattle.names.specs.Table as tables
use Rattle.names.specs.declared.scan.Word.{Word}
use Rattle.names.specs.declared.rows.Found.{Found}
use Rattle.names.specs.declared.Group.TheVariants.{Fields, Lines}
use Rattle.lines.specs.Numbers.{number_of, numeral}
use Rattle.lines.specs.Meanings.{bad}
use Rattle.lines.specs.declared.Rule.TheVariants.{WantsNumber, WantsField, Twice, OtherValue, WantsLines}
use Rattle.lines.specs.declared.Fault.{Fault}
use Rattle.lines.specs.declared.numbers.Sense.{Sense}
use Rattle.lines.specs.declared.numbers.Sense.TheVariants.{Numeral, Name, Unknown}
use Rattle.lines.specs.declared.numbers.Term.{Term}
use Rattle.lines.specs.declared.parts.Amount.{Amount}
use Rattle.lines.specs.declared.parts.Kind.{Kind}
use Rattle.lines.specs.declared.parts.Part.{Part}

-- the fields of the register at an offset, which must agree with a number in front of them
abbrev pub fields_of : ℕ → Option ℕ → Kind
fields_of o whole =
    record { group = Fields (tables.register_at o); last = 31; rule = WantsField o; alone = false; whole = whole }

-- interrupt lines
abbrev pub line_names : Kind
line_names = record { group = Lines; last = 3; rule = WantsLines; alone = true; whole = None }

abbrev pub part : ℕ → ℕ → ℕ → Part
part p w given = record { place = p; word = w; given = given }

abbrev pub amount : ℕ → ℕ → ℕ → Option ℕ → Amount
amount p q r n = record { name = p; from = q; to = r; number = n }

-- ---- a field

-- a number that fits, in the bits from the one worth `bit` on, which have so many values
abbrev pub added : Part → Amount → ℕ → ℕ → ℕ → Part
added x a n bit range = part a.to (x.word % 2 ^ 32 + n * bit) (x.given % 2 ^ 32 + (range - 1) * bit)

-- another number than in the whole word
abbrev pub agreed : Part → Option ℕ → Amount → ℕ → ℕ → ℕ → Result Part Fault
agreed x None a n bit range = Ok (added x a n bit range)
agreed x (Some w) a n bit range =
    pick (eqb (w / bit % range) n) (Ok (added x a n bit range)) (bad a.name (OtherValue (w / bit % range)))

-- a number that the bits can't hold, or none
abbrev pub fitting : Part → Option ℕ → Amount → Option ℕ → ℕ → ℕ → Result Part Fault
fitting x whole a None bit range = bad a.from (WantsNumber (range - 1))
fitting x whole a (Some n) bit range =
    pick (leb n (range - 1)) (agreed x whole a n bit range) (bad a.from (WantsNumber (range - 1)))

-- bits that are given already
abbrev pub with_values : Part → Option ℕ → Amount → ℕ → ℕ → Result Part Fault
with_values x whole a bit range =
    pick (eqb (x.given / bit % range) 0) (fitting x whole a a.number bit range) (bad a.name Twice)

-- from bit b on, so many bits; the remainders never act: no field goes past bit 31
unfoldable pub with_bits : Part → Option ℕ → Amount → ℕ → ℕ → Result Part Fault
with_bits x whole a b size = with_values x whole a (2 ^ (b % 32)) (2 ^ (size % 32))

abbrev pub is_numeral : Sense → Bool
is_numeral (Numeral n) = true
is_numeral (Name n) = false
is_numeral Unknown = false

-- a field of one bit is 1 where no number stands behind its name, which v is then not
unfoldable pub amount_of : Kind → Word → Term → ℕ → Amount
amount_of k w v size =
    pick (eqb size 1 && (k.alone || not (is_numeral v.sense))) (amount w.from w.to w.to (Some 1))
    (amount w.from v.from v.to (number_of v.sense))

abbrev pub field_of : List ℕ → Kind → Part → Word → Option Found → Result Part Fault
field_of s k x w None = bad w.from k.rule
field_of s k x w (Some f) =
    pick (ltb k.last (tables.place f)) (bad w.from k.rule)
    (with_bits x k.whole (amount_of k w (numeral s w.to) (numbers f.row).size) (tables.place f) (numbers f.row).size)

unfoldable pub field : List ℕ → Kind → Part → Word → Result Part Fault
field s k x w = field_of s k x w (tables.named s w k.group)

-- ---- all words

-- up to n words more
unfoldable pub words_on : List ℕ → Kind → Result Part Fault → ℕ → Result Part Fault
words_on s k x zero = x
words_on s k (Err f) (suc n) = Err f
words_on s k (Ok x) (suc n) =
    pick (leb (word_at s x.place).to (word_at s x.place).from) (Ok x) (words_on s k (field s k x (word_at s x.place)) n)

-- a line has no more words than bytes
unfoldable pub all_words : List ℕ → Kind → ℕ → Result Part Fault
all_words s k p = words_on s k (Ok (part p 0 0)) (length s)
