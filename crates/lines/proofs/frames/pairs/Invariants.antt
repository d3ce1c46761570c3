use Rattle.std.proofs.Common.{◌≡◌}
use Rattle.lines.specs.Frames.{pairs}
use Rattle.lines.proofs.frames.pairs.Given as goal

abbrev pub invariant-loop-i : goal.invariant-loop-i
invariant-loop-i l = l.n ≡ pairs l.s l.to l.i
