-- The mode rule after an accepted step; a refused step leaves the core.
use Rattle.model.proofs.RefusalNumbers.{refused}
use Rattle.controller.specs.After.{finished-effect}
use Rattle.controller.proofs.core_step.Goals as goal

pub returns-in-Ok : goal.returns-in-Ok
returns-in-Ok c =
    simp (c.lines_of-lines.ensures, c.settled_if-core.ensures, c.is_ok.ensures.value, c.in-Ok.is)
    (simp c.in-Ok.is at (finished-effect c.effect_of-a.result _ _ _ c.effect_of-a.ensures))

pub returns-in-Err : goal.returns-in-Err
returns-in-Err c =
    simp (c.lines_of-lines.ensures, c.settled_if-core.ensures, c.is_ok.ensures.value, c.from.ensures, c.in-Err.is)
    (simp (c.in-Err.is, refused) at (finished-effect c.effect_of-a.result _ _ _ c.effect_of-a.ensures))
