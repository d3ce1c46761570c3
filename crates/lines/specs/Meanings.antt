-- What a line can mean, and where it is no line of a lesson.
use Rattle.std.specs.Prelude.{List, [], ◌∷◌, ◌++◌, ℕ, leb, Option, Some, None, Result, Ok, Err}
use Rattle.base.specs.Base.{pick}
use Rattle.model.specs.Writer.{wide_numbers}
use Rattle.names.specs.Scan.{word_at}
use Rattle.names.specs.declared.scan.Word.{Word}
use Rattle.lines.specs.Numbers.{fault}
use Rattle.expected.specs.declared.Response.{Response}
use Rattle.expected.specs.declared.Expected.{Expected}
use Rattle.lines.specs.declared.Rule.{Rule}
use Rattle.lines.specs.declared.Rule.TheVariants.{WantsStep, WantsEnd, WantsNumber, WantsRegister, WantsValue, WantsField, Twice, OtherValue, WantsResult, WantsIdentifier, WantsHash, NoFd, WantsData, WantsCode, WantsPairs, WantsExpectation, WantsLines, WantsRefusal, WantsLinesOrEnd}
use Rattle.lines.specs.declared.Fault.{Fault}
use Rattle.lines.specs.declared.Meaning.{Meaning}
use Rattle.lines.specs.declared.Meaning.TheVariants.{Step, Bytes, Expect, Repeat, Done}

-- ---- the cases as numbers, each with its values

-- a rule, and the number that it speaks of; 0 where it speaks of none
abbrev pub rule_numbers : Rule → List ℕ
rule_numbers WantsStep = 1 ∷ 0 ∷ []
rule_numbers WantsEnd = 2 ∷ 0 ∷ []
rule_numbers (WantsNumber n) = 3 ∷ n ∷ []
rule_numbers WantsRegister = 4 ∷ 0 ∷ []
rule_numbers (WantsValue n) = 5 ∷ n ∷ []
rule_numbers (WantsField n) = 6 ∷ n ∷ []
rule_numbers Twice = 7 ∷ 0 ∷ []
rule_numbers (OtherValue n) = 8 ∷ n ∷ []
rule_numbers WantsResult = 9 ∷ 0 ∷ []
rule_numbers WantsIdentifier = 10 ∷ 0 ∷ []
rule_numbers WantsHash = 11 ∷ 0 ∷ []
rule_numbers NoFd = 12 ∷ 0 ∷ []
rule_numbers WantsData = 13 ∷ 0 ∷ []
rule_numbers WantsCode = 14 ∷ 0 ∷ []
rule_numbers WantsPairs = 15 ∷ 0 ∷ []
rule_numbers WantsExpectation = 16 ∷ 0 ∷ []
rule_numbers WantsLines = 17 ∷ 0 ∷ []
rule_numbers WantsRefusal = 18 ∷ 0 ∷ []
rule_numbers WantsLinesOrEnd = 19 ∷ 0 ∷ []

-- code and word, or the lines: 1 in front where they are given, 0 and zeros where not
abbrev pub response_numbers : Option Response → List ℕ
response_numbers None = 0 ∷ 0 ∷ 0 ∷ []
response_numbers (Some x) = 1 ∷ x.code ∷ x.word ∷ []

abbrev pub line_numbers : Option ℕ → List ℕ
line_numbers None = 0 ∷ 0 ∷ []
line_numbers (Some up) = 1 ∷ up ∷ []

abbrev pub expected_numbers : Expected → List ℕ
expected_numbers x = response_numbers x.response ++ line_numbers x.lines

abbrev pub meaning_numbers : Result (Option Meaning) Fault → List ℕ
meaning_numbers (Ok None) = 0 ∷ []
meaning_numbers (Ok (Some (Step e))) = 1 ∷ wide_numbers e
meaning_numbers (Ok (Some (Bytes p))) = 2 ∷ p ∷ []
meaning_numbers (Ok (Some (Expect x))) = 3 ∷ expected_numbers x
meaning_numbers (Ok (Some (Repeat n))) = 4 ∷ n ∷ []
meaning_numbers (Ok (Some Done)) = 5 ∷ []
meaning_numbers (Err f) = 6 ∷ f.place ∷ rule_numbers f.rule

-- ---- meanings

abbrev pub bad : {A : Type 0} → ℕ → Rule → Result A Fault
bad p r = Err (fault p r)

abbrev pub ended : Word → Meaning → Result Meaning Fault
ended w m = pick (leb w.to w.from) (Ok m) (bad w.from WantsEnd)

-- a meaning that is whole: nothing follows
unfoldable pub alone : List ℕ → ℕ → Meaning → Result Meaning Fault
alone s p m = ended (word_at s p) m
