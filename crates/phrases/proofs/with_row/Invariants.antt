use mathlib.Core.Path.{◌≡◌}
use Prim.Native.Nat.{◌-◌}
use Rattle.phrases.specs.Names.{row_on, with_fields}
use Rattle.phrases.proofs.with_row.Given as goal

abbrev pub invariant-loop-index : goal.invariant-loop-index
invariant-loop-index l = with_fields l.said (row_on l.row l.index (l.n.count - l.index)) l.w ≡ with_fields l.initial.said (row_on l.row 0 l.n.count) l.w
