-- The worked examples hold: both sides compute to the same numbers.
use mathlib.Core.Path.{refl}
use Rattle.model.specs.Requests.{after}
use Rattle.model.specs.Examples.{Examples}
use Rattle.model.specs.Scripts.{WholeScript}
use Rattle.model.specs.declared.Controller.{Controller}
use Rattle.model.proofs.Computed.{everything, replaying}

pub examples : Examples
unfolding after everything
examples = record { numbers = refl; reset_words = refl; full = refl; place = refl }

-- the whole script of document 01, from any controller
pub whole_script_lem : (z : Controller) → WholeScript z
unfolding replaying
whole_script_lem z = record { replies = refl; records = refl; ended = refl; place = refl }
