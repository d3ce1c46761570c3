use Rattle.std.proofs.Common.{◌≡◌, drop}
use Rattle.text.specs.Lines.{put_all}
use Rattle.text.proofs.Line.put.Given as goal

abbrev pub invariant-loop-b : goal.invariant-loop-b
invariant-loop-b l = put_all l.line (drop l.b-index l.text) ≡ put_all l.fn.self l.text
