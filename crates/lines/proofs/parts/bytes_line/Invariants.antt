use Rattle.std.proofs.Common.{◌≡◌, ◌-◌, length}
use Rattle.lines.specs.Lines.{bytes_on, bytes_line}
use Rattle.lines.proofs.parts.bytes_line.Given as goal

abbrev pub invariant-loop-n : goal.invariant-loop-n
invariant-loop-n l = bytes_on l.s l.first l.w (length l.s - l._n) ≡ bytes_line l.s l.fn.place
