-- The winner tells the acceptance: `accepted_winner`.
use Rattle.filter.proofs.Winners.{accepted_winner}
use Rattle.filter.proofs.acceptance.Goals as goal

pub returns : goal.returns
returns c = rw (c.accepted_by.ensures, c.winner.ensures) (accepted_winner c.args.g _ _)
