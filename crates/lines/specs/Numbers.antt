-- Words as numbers, and names that stand for numbers: docs/LESSONS.md, "Lines and words".
use Rattle.std.specs.Prelude.{Bool, true, false, ◌&&◌, ◌||◌, List, ℕ, ◌+◌, ◌^◌, eqb, ltb, leb, Option, Some, None, Result, Ok, Err}
use Rattle.base.specs.Base.{pick}
use Rattle.names.specs.Scan.{byte_at, word_at, value}
use Rattle.names.specs.Table.{named, place}
use Rattle.names.specs.declared.scan.Word.{Word}
use Rattle.names.specs.declared.rows.Found.{Found}
use Rattle.names.specs.declared.Group.{Group}
use Rattle.lines.specs.declared.Rule.{Rule}
use Rattle.lines.specs.declared.Fault.{Fault}
use Rattle.lines.specs.declared.numbers.Sense.{Sense}
use Rattle.lines.specs.declared.numbers.Sense.TheVariants.{Numeral, Name, Unknown}
use Rattle.lines.specs.declared.numbers.Term.{Term}

abbrev pub fault : ℕ → Rule → Fault
fault p r = record { place = p; rule = r }

abbrev pub term : Word → Sense → Term
term w x = record { from = w.from; to = w.to; sense = x }

-- nothing stands there
abbrev pub is_empty : Term → Bool
is_empty t = leb t.to t.from

abbrev pub number_of : Sense → Option ℕ
number_of (Numeral n) = n
number_of (Name n) = Some n
number_of Unknown = None

abbrev pub name_of : Sense → Option ℕ
name_of (Numeral n) = None
name_of (Name n) = Some n
name_of Unknown = None

-- a number up to a limit
abbrev pub limited : Option ℕ → ℕ → Fault → Result ℕ Fault
limited None most f = Err f
limited (Some n) most f = pick (leb n most) (Ok n) (Err f)

abbrev pub up_to : Term → ℕ → Rule → Result ℕ Fault
up_to t most r = limited (number_of t.sense) most (fault t.from r)

-- '0', 'x' and a digit or more
abbrev pub is_hex : List ℕ → Word → Bool
is_hex s w = eqb (byte_at s w.from) 48 && eqb (byte_at s (w.from + 1)) 120 && ltb (w.from + 2) w.to

abbrev pub digits_of : List ℕ → Word → Option ℕ
digits_of s w = pick (is_hex s w) (value s (w.from + 2) w.to true) (value s w.from w.to false)

-- no decimal digit
abbrev pub is_other : ℕ → Bool
is_other c = ltb c 48 || ltb 57 c

-- a number begins with a decimal digit, and no name does
unfoldable pub sense_of : List ℕ → Word → Sense
sense_of s w = pick (is_other (byte_at s w.from)) Unknown (Numeral (digits_of s w))

unfoldable pub numeral : List ℕ → ℕ → Term
numeral s p = term (word_at s p) (sense_of s (word_at s p))

-- a number of 32 bits
abbrev pub called : ℕ → Sense
called n = pick (ltb n (2 ^ 32)) (Name n) Unknown

abbrev pub found_sense : Option Found → Sense
found_sense None = Unknown
found_sense (Some f) = called (place f)

-- what a name of a group stands for
unfoldable pub named_sense : List ℕ → Word → Group → Sense
named_sense s w g = found_sense (named s w g)

-- a number, or else what a name stands for
abbrev pub or_name : List ℕ → Word → Group → Sense → Sense
or_name s w g (Numeral n) = Numeral n
or_name s w g (Name n) = named_sense s w g
or_name s w g Unknown = named_sense s w g

unfoldable pub by_name : List ℕ → ℕ → Group → Term
by_name s p g = term (word_at s p) (or_name s (word_at s p) g (sense_of s (word_at s p)))
