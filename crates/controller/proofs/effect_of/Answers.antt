-- A read of no register is refused.
use Rattle.controller.specs.After.{of_read}
use Rattle.controller.proofs.effect_of.Goals as goal

pub returns-in-Read : goal.returns-in-Read
returns-in-Read c = simp (c.on_core-in-Read.ensures, c.read_at.ensures, c.in-Read.is) (of_read _ _ _)
