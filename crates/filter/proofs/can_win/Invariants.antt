use Rattle.filter.proofs.Numbered.{Low}
use Rattle.filter.proofs.can_win.Given as goal

abbrev pub invariant-loop-number : goal.invariant-loop-number
invariant-loop-number l = Low l.g l.n l.left l.number

abbrev pub decreases-loop-number : goal.decreases-loop-number
decreases-loop-number l = l.left
