-- Without space for a reply only the end is answered.
use mathlib.Core.Path.{sym, ◌∙◌}
use Rattle.script.proofs.Readings.{unanswered, answered}
use Rattle.script.proofs.readable.Goals as goal

pub returns-then-place-script : goal.returns-then-place-script
returns-then-place-script c = sym (unanswered _ _ _ c.if-space-lt9.true c.if-place-script.true)

pub returns : goal.returns
returns c = c.reading.ensures ∙ sym (answered _ _ _ c.else-space-lt9.either)
