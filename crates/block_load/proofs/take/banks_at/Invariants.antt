use mathlib.Core.Path.{◌≡◌}
use Prim.Native.Nat.{ℕ, ◌+◌, ◌*◌, ◌<◌}
use lib.ListN.{get_or, length}
use Rattle.model.specs.Script.{number32}
use Rattle.block_load.proofs.take.banks_at.Given as goal

abbrev pub invariant-loop-j : goal.invariant-loop-j
invariant-loop-j l = (length l.w-items ≡ 28) × ((k : ℕ) → k < l.j → get_or l.w-items k 0 ≡ number32 l.b (242 + 4 * k))
