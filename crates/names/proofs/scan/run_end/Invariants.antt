use Rattle.std.proofs.Common.{◌≡◌, ◌-◌, length}
use Rattle.names.specs.Scan as scan
use Rattle.names.proofs.scan.run_end.Given as goal

abbrev pub invariant-loop-i : goal.invariant-loop-i
invariant-loop-i l = scan.run_on l.s l.i l.k (length l.s - l.i) ≡ scan.run_end l.s l.from l.k
