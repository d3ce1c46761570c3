use Rattle.phrases.proofs.Putting.{pairs-on, pairs-ended}
use Rattle.phrases.proofs.frames.pairs.Goals as goal

pub loop-b-preserved : goal.loop-b-preserved
loop-b-preserved c =
    pairs-on c.loop-b.line _ _ _ c.loop-b.b-index _ c.loop-b-test.true c.pair-line.ensures c.loop-b.invariant

pub returns : goal.returns
returns c =
    pairs-ended c.loop-b.line _ _ _ c.loop-b.b-index c.loop-b-test.false c.loop-b.invariant
