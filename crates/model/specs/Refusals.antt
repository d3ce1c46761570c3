-- The numbers of the refusals. Document 01: "Refusal numbers"; 10 and 11 are document 02's, Q-2 and Q-1.
use Rattle.std.specs.Prelude.{ℕ, Result, Ok, Err}
use Rattle.model.specs.declared.Refusal.{Refusal}
use Rattle.model.specs.declared.Refusal.TheVariants.{NotMapped, NotWritable, ReadOnly, NotNow, OutOfRange, Short, UnknownTag, WrongLength, NoSpace, BadBlock, NotOpened}

abbrev pub code : Refusal → ℕ
code NotMapped = 1
code NotWritable = 2
code ReadOnly = 3
code NotNow = 4
code OutOfRange = 5
code Short = 6
code UnknownTag = 7
code WrongLength = 8
code NoSpace = 9
code BadBlock = 10
code NotOpened = 11

-- 0 is done
abbrev pub code_of : {A : Type 0} → Result A Refusal → ℕ
code_of (Ok a) = 0
code_of (Err r) = code r
