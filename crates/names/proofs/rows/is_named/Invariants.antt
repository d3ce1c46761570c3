use Rattle.std.proofs.Common.{◌≡◌, ◌-◌}
use Rattle.names.specs.Rows as rows
use Rattle.names.proofs.rows.is_named.Given as goal

abbrev pub invariant-loop-k : goal.invariant-loop-k
invariant-loop-k l = rows.same_on l.s l.w l.name l.k l.p (8 - l.k) ≡ rows.is_named l.s l.w l.name
