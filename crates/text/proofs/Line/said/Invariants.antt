use Rattle.std.proofs.Common.{◌≡◌, drop}
use Rattle.text.specs.Lines.{put_all}
use Rattle.text.specs.Numbers.{said}
use Rattle.text.proofs.Line.said.Given as goal

abbrev pub invariant-loop-b : goal.invariant-loop-b
invariant-loop-b l = put_all l.line (said (drop l.b-index l.text) l.n) ≡ put_all l.fn.self (said l.text l.n)
