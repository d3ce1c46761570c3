-- A step that writes no word of the banks leaves them.
use native.Mathlib.Omega.{arith}
use Rattle.writes.specs.Places.{changed-nothing}
use Rattle.bench.proofs.store.Goals as goal

pub returns-else-not-is_nothing : goal.returns-else-not-is_nothing
returns-else-not-is_nothing c = grind (arith, changed-nothing)
