use Rattle.std.proofs.Common.{ap, ◌∙◌}
use Rattle.text.specs.Lines.{put_all}
use Rattle.text.specs.Numbers.{digits}
use Rattle.text.specs.declared.Line.{Line}
use Rattle.text.proofs.Line.hex.Goals as goal

pub returns-clause-value : goal.returns-clause-value
unfolding put_all
returns-clause-value c = c.digits.ensures.value ∙ ap (λ (m : Line). put_all m (digits c.args.w c.args.k)) c.put.ensures.value
