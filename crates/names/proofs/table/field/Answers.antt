-- The literal is the rows one behind the other, computed.

use mathlib.Core.Path.{refl, ◌∙◌}
use Rattle.base.proofs.Choices.{Is}
use Rattle.names.specs.Listing.{bytes, row, fields}
use Rattle.names.proofs.Cutting.{spelled, is_full, cut_rows}
use Rattle.names.proofs.table.field.Goals as goal

full : Is (is_full fields)
unfolding is_full fields row bytes
full = refl

pub returns : goal.returns
unfolding spelled fields row bytes
returns c = c.cut.ensures ∙ cut_rows fields full c.args.i
