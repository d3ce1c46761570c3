use Rattle.std.proofs.Common.{◌≡◌}
use Rattle.text.specs.Lines.{put_all}
use Rattle.text.specs.Numbers.{digits}
use Rattle.text.proofs.Line.digits.Given as goal

abbrev pub invariant-loop-j : goal.invariant-loop-j
invariant-loop-j l = put_all l.line (digits l.w l.j) ≡ put_all l.fn.self (digits l.w l.k)
