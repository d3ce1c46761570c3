use Rattle.std.proofs.Common.{refl, arith}
use Rattle.text.proofs.Putting.{says_extends, put_on, put_ended}
use Rattle.text.proofs.Line.put.Goals as goal

pub loop-b-init : goal.loop-b-init
loop-b-init c = refl

pub loop-b-preserved : goal.loop-b-preserved
loop-b-preserved c = put_on c.loop-b.line _ _ c.loop-b.b-index _ (omega arith) c.push.ensures.value c.loop-b.invariant

pub returns-clause-extends : goal.returns-clause-extends
returns-clause-extends c = says_extends _ _ _ (put_ended c.loop-b.line _ _ c.loop-b.b-index (omega arith) c.loop-b.invariant)

pub returns-clause-value : goal.returns-clause-value
returns-clause-value c = put_ended c.loop-b.line _ _ c.loop-b.b-index (omega arith) c.loop-b.invariant
