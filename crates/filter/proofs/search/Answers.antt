-- With no bank active nothing is found; without a match in FIFO 0 the class's match in FIFO 1 wins, if there is one.
use Rattle.std.proofs.Common.{arith}
use Rattle.filter.specs.Places.{result_of}
use Rattle.filter.proofs.Rule.{nothing-active}
use Rattle.filter.proofs.Winners.{number_at-le, lower_of_one}
use Rattle.filter.proofs.search.Goals as goal

pub returns-then-activation-eq0 : goal.returns-then-activation-eq0
returns-then-activation-eq0 c = nothing-active _ _ _ c.if-activation-eq0.true

pub lower-requires : goal.lower-requires
lower-requires c = (omega arith, rw c.number_at-n1.ensures (number_at-le _ _ _))

pub returns : goal.returns
unfolding result_of
returns c =
    let far = c.if-p-lt128.false in
    let best = c.best_class-b.ensures in
    rw (c.lower.ensures, c.number_at-n1.ensures, lower_of_one _ _, best.accepted1 far, best.compared1 far)
