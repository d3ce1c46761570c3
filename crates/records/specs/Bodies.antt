-- Why the body of a record can't be read, behind a header of a tag that has n bytes.
use Rattle.std.specs.Prelude.{not, List, ℕ, ◌+◌, ◌-◌, eqb, ltb, length, Option, Some, None}
use Rattle.base.specs.Base.{pick}
use Rattle.model.specs.Script.{number16}
use Rattle.model.specs.declared.Refusal.{Refusal}
use Rattle.model.specs.declared.Refusal.TheVariants.{Short, WrongLength}

-- document 01, "Refusal numbers": a wrong length goes before a short body
abbrev pub refused : List ℕ → ℕ → ℕ → Option Refusal
refused s p n = pick (not (eqb (number16 s (p + 1)) n)) (Some WrongLength) (pick (ltb (length s - p) (3 + n)) (Some Short) None)
