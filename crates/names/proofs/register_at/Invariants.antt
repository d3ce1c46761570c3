use Rattle.std.proofs.Common.{◌≡◌, ◌-◌}
use Rattle.names.specs.Rows as rows
use Rattle.names.specs.Table as tables
use Rattle.names.proofs.register_at.Given as goal

abbrev pub invariant-loop-row : goal.invariant-loop-row
invariant-loop-row l = rows.register_on l.offset l.row (53 - l.row) ≡ tables.register_at l.offset
