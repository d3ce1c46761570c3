-- The winner of the search tells the model's acceptance.
use Rattle.filter.proofs.Winners.{accepted_winner}
use Rattle.events.proofs.accepted.Goals as goal

pub returns : goal.returns
returns c = simp (c.accepted_by.ensures, c.winner.ensures, accepted_winner c.args.g c.args.banks.now)
