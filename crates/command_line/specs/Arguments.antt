-- What a program is started with. Nothing here is of document 01.
use Rattle.std.specs.Prelude.{ℕ, ◌≤◌, Bool, true, false, cond, List, length, take, bytes_eq, Option, Some, None, Result, Ok, Err}
use Rattle.command_line.specs.declared.ArgumentsError.{ArgumentsError}
use Rattle.command_line.specs.declared.ArgumentsError.TheVariants.{Unknown}

-- an argument that is there lies within the space; which arguments there are is up to who starts the program
abbrev pub IsWithin : Result (Option ℕ) ArgumentsError → List ℕ → Type 0
IsWithin (Ok None) s = Unit {0}
IsWithin (Ok (Some n)) s = n ≤ length s
IsWithin (Err e) s = Unit {0}

-- whether the only argument is the word; another one is an error
abbrev pub asked_for : Result (Option ℕ) ArgumentsError → List ℕ → List ℕ → Result Bool ArgumentsError
asked_for (Ok None) s w = Ok false
asked_for (Ok (Some n)) s w = cond (bytes_eq (take n s) w) (Ok true) (Err Unknown)
asked_for (Err e) s w = Err e
