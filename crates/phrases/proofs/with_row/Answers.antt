use mathlib.Core.Path.{◌∙◌}
use Rattle.phrases.specs.Names.{row_fields}
use Rattle.phrases.proofs.Putting.{row_on_lem, row-ended}
use Rattle.phrases.proofs.with_row.Goals as goal

pub loop-index-preserved : goal.loop-index-preserved
loop-index-preserved c =
    row_on_lem c.loop-index.said _ _ _ c.loop-index.index _ _ c.loop-index-test.true c.with_field-said.ensures c.loop-index.invariant

pub returns : goal.returns
unfolding row_fields
returns c =
    row-ended c.loop-index.said _ _ _ c.loop-index.index _ c.loop-index-test.false c.loop-index.invariant ∙ rw (← c.numbers_of-n.ensures)
