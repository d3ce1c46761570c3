use Rattle.std.proofs.Common.{◌≡◌, ◌-◌}
use Rattle.names.specs.Rows as rows
use Rattle.names.proofs.rows.find.Given as goal

abbrev pub invariant-loop-row : goal.invariant-loop-row
invariant-loop-row l = rows.find_on l.s l.w l.row (l.row-end - l.row) ≡ rows.find_on l.s l.w l.fn.first l.fn.count
