use Rattle.std.proofs.Common.{not}
use Rattle.bench.specs.Lent.{is_over}
use Rattle.bench.proofs.Turns.{Turned, left}
use Rattle.bench.proofs.replay.Given as goal

abbrev pub invariant-loop-c : goal.invariant-loop-c
invariant-loop-c l = Turned l.initial.c l.script l.initial.replies (not (is_over l.p)) l.replies l.c l.p

abbrev pub decreases-loop-c : goal.decreases-loop-c
decreases-loop-c l = left l.initial.c l.script l.initial.replies (not (is_over l.p)) l.p.last.place
