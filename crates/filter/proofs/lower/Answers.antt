-- The smaller of the two numbers, as the definition picks it.
use Rattle.filter.specs.Places.{lower}
use Rattle.filter.proofs.lower.Goals as goal

pub returns : goal.returns
unfolding lower
returns c = rw c.pick.ensures
