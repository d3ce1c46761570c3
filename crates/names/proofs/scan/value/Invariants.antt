use Rattle.std.proofs.Common.{◌≡◌, ◌-◌, Some}
use Rattle.names.specs.Scan as scan
use Rattle.names.proofs.scan.value.Given as goal

abbrev pub invariant-loop-i : goal.invariant-loop-i
invariant-loop-i l = scan.value_on l.s l.i l.hex (l.to - l.i) (Some l.n) ≡ scan.value l.s l.from l.to l.hex
