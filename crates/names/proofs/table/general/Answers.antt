-- The literal is the rows one behind the other, computed.

use mathlib.Core.Path.{refl, ◌∙◌}
use Rattle.base.proofs.Choices.{Is}
use Rattle.names.specs.Listing.{bytes, row, general}
use Rattle.names.proofs.Cutting.{spelled, is_full, cut_rows}
use Rattle.names.proofs.table.general.Goals as goal

full : Is (is_full general)
unfolding is_full general row bytes
full = refl

pub returns : goal.returns
unfolding spelled general row bytes
returns c = c.cut.ensures ∙ cut_rows general full c.args.i
