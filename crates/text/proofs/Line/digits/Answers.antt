use Rattle.std.proofs.Common.{ap, ◌∙◌, arith}
use Rattle.text.specs.Lines.{added}
use Rattle.text.proofs.Putting.{says_extends, digits-on, digits-ended}
use Rattle.text.proofs.Line.digits.Goals as goal

pub loop-j-preserved : goal.loop-j-preserved
loop-j-preserved c = digits-on c.loop-j.line _ _ c.loop-j.j _ (omega arith) (c.push.ensures.value ∙ ap (added c.loop-j.line) c.digit_at.ensures) c.loop-j.invariant

pub returns-clause-extends : goal.returns-clause-extends
returns-clause-extends c = says_extends _ _ _ (digits-ended c.loop-j.line _ _ c.loop-j.j (omega arith) c.loop-j.invariant)

pub returns-clause-value : goal.returns-clause-value
returns-clause-value c = digits-ended c.loop-j.line _ _ c.loop-j.j (omega arith) c.loop-j.invariant
