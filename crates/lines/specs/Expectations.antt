-- What a step must answer: docs/LESSONS.md, "What is expected".
use Rattle.std.specs.Prelude.{Bool, false, ◌&&◌, List, ℕ, ◌%◌, eqb, Option, Some, None, is_some, Result, Ok, Err}
use Rattle.base.specs.Base.{pick}
use Rattle.names.specs.declared.Group.TheVariants.{Lines, Expectations}
use Rattle.lines.specs.Numbers.{is_empty, up_to, numeral, by_name}
use Rattle.lines.specs.Parts.{line_names, all_words}
use Rattle.lines.specs.Meanings.{bad, alone}
use Rattle.lines.specs.declared.Rule.{Rule}
use Rattle.lines.specs.declared.Rule.TheVariants.{WantsNumber, WantsExpectation, WantsLines, WantsRefusal, WantsLinesOrEnd}
use Rattle.lines.specs.declared.Fault.{Fault}
use Rattle.lines.specs.declared.numbers.Sense.{Sense}
use Rattle.lines.specs.declared.numbers.Sense.TheVariants.{Numeral, Name, Unknown}
use Rattle.lines.specs.declared.numbers.Term.{Term}
use Rattle.lines.specs.declared.parts.Part.{Part}
use Rattle.expected.specs.declared.Response.{Response}
use Rattle.lines.specs.declared.Meaning.{Meaning}
use Rattle.lines.specs.declared.Meaning.TheVariants.{Expect}

abbrev pub response : ℕ → ℕ → Option Response
response code word = Some (record { code = code; word = word })

abbrev pub expected : Option Response → Option ℕ → Meaning
expected x lines = Expect (record { response = x; lines = lines })

-- the word is the name with this number
abbrev pub is_named : Sense → ℕ → Bool
is_named (Numeral n) k = false
is_named (Name n) k = eqb n k
is_named Unknown k = false

abbrev pub lines_of : Option Response → Result Part Fault → Result Meaning Fault
lines_of x (Err f) = Err f
lines_of x (Ok q) = Ok (expected x (Some (q.word % 256)))

-- none alone, or some lines
abbrev pub lines_from : List ℕ → ℕ → Option Response → Term → Result Meaning Fault
lines_from s p x t =
    pick (is_named t.sense 4) (alone s t.to (expected x (Some 0)))
    (pick (is_empty t) (bad t.from WantsLines) (lines_of x (all_words s line_names p)))

-- behind the word `lines`
unfoldable pub with_lines : List ℕ → ℕ → Option Response → Result Meaning Fault
with_lines s p x = lines_from s p x (by_name s p Lines)

abbrev pub lines_at : List ℕ → Option Response → Rule → Term → Result Meaning Fault
lines_at s x rule t =
    pick (is_some x && is_empty t) (Ok (expected x None))
    (pick (is_named t.sense 2) (with_lines s t.to x) (bad t.from rule))

-- behind a response nothing, or lines; where none is given, lines
unfoldable pub lines_behind : List ℕ → ℕ → Option Response → Rule → Result Meaning Fault
lines_behind s p x rule = lines_at s x rule (by_name s p Expectations)

-- a code from 1 to 255; a refusal has the word 0
abbrev pub refused_as : List ℕ → Term → Result ℕ Fault → Result Meaning Fault
refused_as s v (Err f) = Err f
refused_as s v (Ok code) =
    pick (eqb code 0) (bad v.from WantsRefusal) (lines_behind s v.to (response code 0) WantsLinesOrEnd)

unfoldable pub refused : List ℕ → ℕ → Result Meaning Fault
refused s p = refused_as s (numeral s p) (up_to (numeral s p) 255 WantsRefusal)

-- a word comes with the code 0
abbrev pub word_expected : List ℕ → Term → Result ℕ Fault → Result Meaning Fault
word_expected s t (Err f) = Err f
word_expected s t (Ok word) = lines_behind s t.to (response 0 word) WantsLinesOrEnd

-- a refusal, a word, or neither
abbrev pub expect_at : List ℕ → ℕ → Term → Sense → Result Meaning Fault
expect_at s p t (Numeral n) = word_expected s t (up_to t 4294967295 (WantsNumber 4294967295))
expect_at s p t (Name n) = pick (eqb n 1) (refused s t.to) (lines_behind s p None WantsExpectation)
expect_at s p t Unknown = lines_behind s p None WantsExpectation

unfoldable pub expect_line : List ℕ → ℕ → Result Meaning Fault
expect_line s p = expect_at s p (by_name s p Expectations) (by_name s p Expectations).sense
