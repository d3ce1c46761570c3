-- A record put to a space. Document 02, Q-1: too little space goes before a number that its place can't hold.
use Rattle.std.specs.Prelude.{Bool, List, [], ℕ, eqb, ltb, length, Result, Ok, Err}
use Rattle.base.specs.Base.{pick}
use Rattle.model.specs.Refusals.{code_of}
use Rattle.model.specs.Script.{overwritten}
use Rattle.model.specs.declared.Refusal.{Refusal}
use Rattle.model.specs.declared.Refusal.TheVariants.{NoSpace, OutOfRange}

-- how many of the n bytes of a record are put, or why none are
abbrev pub put : ℕ → Bool → ℕ → Result ℕ Refusal
put n fits space = pick (ltb space n) (Err NoSpace) (pick fits (Ok n) (Err OutOfRange))

abbrev pub space_after : List ℕ → Bool → List ℕ → List ℕ
space_after r fits space = overwritten (pick (eqb (code_of (put (length r) fits (length space))) 0) r []) space
