-- What a line of a lesson means: docs/LESSONS.md. A line comes without its line end.
use Rattle.std.specs.Prelude.{Bool, ◌||◌, not, List, ℕ, zero, suc, ◌-◌, ◌%◌, ◌^◌, eqb, ltb, leb, length, Option, Some, None, Result, Ok, Err, unwrap_or}
use Rattle.base.specs.Base.{pick}
use Rattle.model.specs.declared.WideStep.TheVariants.{Reset, Read, Write, Idle, BitTimes, Activity, Start, Outcome, ReceiveError}
use Rattle.names.specs.Scan.{run_end, word_at}
use Rattle.names.specs.declared.scan.Word.{Word}
use Rattle.names.specs.declared.scan.Class.TheVariants.{HexDigit}
use Rattle.names.specs.declared.Group.TheVariants.{Registers, Steps, Results}
use Rattle.lines.specs.Numbers.{is_empty, name_of, up_to, numeral, by_name}
use Rattle.lines.specs.Parts.{fields_of, all_words}
use Rattle.lines.specs.Meanings.{bad, alone}
use Rattle.lines.specs.Frames.{frame_line}
use Rattle.lines.specs.Expectations.{expect_line}
use Rattle.lines.specs.declared.Rule.TheVariants.{WantsStep, WantsNumber, WantsRegister, WantsValue, WantsResult, WantsPairs}
use Rattle.lines.specs.declared.Fault.{Fault}
use Rattle.lines.specs.declared.numbers.Sense.{Sense}
use Rattle.lines.specs.declared.numbers.Sense.TheVariants.{Numeral, Name, Unknown}
use Rattle.lines.specs.declared.numbers.Term.{Term}
use Rattle.lines.specs.declared.parts.Part.{Part}
use Rattle.lines.specs.declared.Meaning.{Meaning}
use Rattle.lines.specs.declared.Meaning.TheVariants.{Step, Bytes, Repeat, Done}

-- ---- lines with numbers

-- what a number makes, with nothing behind its word
abbrev pub made : List ℕ → Term → (ℕ → Meaning) → Result ℕ Fault → Result Meaning Fault
made s t m (Err f) = Err f
made s t m (Ok n) = alone s t.to (m n)

-- a register is a name or a number of 16 bits
abbrev pub read_of : List ℕ → Term → Result Meaning Fault
read_of s t = made s t (λ n. Step (Read n)) (up_to t 65535 WantsRegister)

abbrev pub bits_of : List ℕ → Term → Result Meaning Fault
bits_of s t = made s t (λ n. Step (BitTimes n)) (up_to t 65535 (WantsNumber 65535))

abbrev pub end_of : List ℕ → Term → Result Meaning Fault
end_of s t = made s t (λ n. Step (Outcome n)) (up_to t 255 WantsResult)

abbrev pub error_of : List ℕ → Term → Result ℕ Fault → Result Meaning Fault
error_of s u (Err f) = Err f
error_of s u (Ok k) = made s u (λ n. Step (ReceiveError k n)) (up_to u 255 (WantsNumber 255))

abbrev pub repeat_of : List ℕ → Term → Result Meaning Fault
repeat_of s t = made s t Repeat (up_to t 4294967295 (WantsNumber 4294967295))

-- by the number of the first word
unfoldable pub number_line : List ℕ → ℕ → ℕ → Result Meaning Fault
number_line s n p =
    pick (eqb n 2) (read_of s (by_name s p Registers))
    (pick (eqb n 5) (bits_of s (numeral s p))
    (pick (eqb n 8) (end_of s (by_name s p Results))
    (pick (eqb n 10) (error_of s (numeral s (numeral s p).to) (up_to (numeral s p) 255 (WantsNumber 255)))
    (repeat_of s (numeral s p)))))

-- ---- what a register is written

-- the number in front of the fields, or else what they make
abbrev pub written_as : ℕ → Option ℕ → Result Part Fault → Result Meaning Fault
written_as o whole (Err f) = Err f
written_as o whole (Ok q) = Ok (Step (Write o (unwrap_or whole (q.word % 2 ^ 32))))

unfoldable pub written : List ℕ → ℕ → Option ℕ → ℕ → Result Meaning Fault
written s o whole p = written_as o whole (all_words s (fields_of o whole) p)

-- a number first, or fields alone
abbrev pub value_in : List ℕ → ℕ → Term → Sense → Result Meaning Fault
value_in s o v (Numeral None) = bad v.from (WantsNumber 4294967295)
value_in s o v (Numeral (Some n)) = written s o (Some n) v.to
value_in s o v (Name n) = written s o None v.from
value_in s o v Unknown = written s o None v.from

abbrev pub value_of : List ℕ → Term → Result ℕ Fault → Result Meaning Fault
value_of s v (Err f) = Err f
value_of s v (Ok o) = pick (is_empty v) (bad v.from (WantsValue o)) (value_in s o v v.sense)

abbrev pub write_of : List ℕ → Term → Result Meaning Fault
write_of s t = value_of s (numeral s t.to) (up_to t 65535 WantsRegister)

unfoldable pub write_line : List ℕ → ℕ → Result Meaning Fault
write_line s p = write_of s (by_name s p Registers)

-- ---- bytes of a script

-- a word that has hex digits up to place q: others follow, or one has no second
abbrev pub is_unpaired : Word → ℕ → Bool
is_unpaired w q = ltb q w.to || not (eqb ((w.to - w.from) % 2) 0)

-- n words more; one may not be of pairs of hex digits
unfoldable pub bytes_on : List ℕ → ℕ → Word → ℕ → Result Meaning Fault
bytes_on s p w zero = Ok (Bytes p)
bytes_on s p w (suc n) =
    pick (leb w.to w.from) (Ok (Bytes p))
    (pick (is_unpaired w (run_end s w.from HexDigit)) (bad w.from WantsPairs) (bytes_on s p (word_at s w.to) n))

-- hex text from the first pair on
abbrev pub bytes_from : List ℕ → Word → Result Meaning Fault
bytes_from s w = pick (leb w.to w.from) (bad w.from WantsPairs) (bytes_on s w.from w (length s))

unfoldable pub bytes_line : List ℕ → ℕ → Result Meaning Fault
bytes_line s p = bytes_from s (word_at s p)

-- ---- a line, by the number of its first word

abbrev pub is_numbered : ℕ → Bool
is_numbered n = eqb n 2 || eqb n 5 || eqb n 8 || eqb n 10 || eqb n 12

-- the word stands from p up to q
unfoldable pub line_of : List ℕ → ℕ → ℕ → ℕ → Result Meaning Fault
line_of s n p q =
    pick (eqb n 1) (alone s q (Step Reset))
    (pick (eqb n 3) (write_line s q)
    (pick (eqb n 4) (alone s q (Step Idle))
    (pick (eqb n 6) (alone s q (Step Activity))
    (pick (eqb n 7) (alone s q (Step Start))
    (pick (eqb n 9) (frame_line s q)
    (pick (eqb n 11) (expect_line s q)
    (pick (eqb n 13) (alone s q Done)
    (pick (eqb n 14) (bytes_line s q)
    (pick (is_numbered n) (number_line s n q)
    (bad p WantsStep))))))))))

abbrev pub said : Result Meaning Fault → Result (Option Meaning) Fault
said (Err f) = Err f
said (Ok m) = Ok (Some m)

abbrev pub line_at : List ℕ → Term → Option ℕ → Result (Option Meaning) Fault
line_at s t None = bad t.from WantsStep
line_at s t (Some n) = said (line_of s n t.from t.to)

abbrev pub meaning_at : List ℕ → Term → Result (Option Meaning) Fault
meaning_at s t = pick (is_empty t) (Ok None) (line_at s t (name_of t.sense))

unfoldable pub meaning_of : List ℕ → Result (Option Meaning) Fault
meaning_of s = meaning_at s (by_name s 0 Steps)
