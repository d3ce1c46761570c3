use Rattle.text.specs.Lines.{Extends}
use Rattle.text.proofs.Line.spaces.Given as goal

abbrev pub invariant-loop : goal.invariant-loop
invariant-loop l = Extends l.fn.self l.line
