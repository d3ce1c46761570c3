use mathlib.Core.Path.{refl, ap, ◌∙◌}
use Prim.Native.Nat.{◌+◌}
use Rattle.text.specs.Lines.{put_all}
use Rattle.text.specs.declared.Line.{Line}
use Rattle.phrases.specs.Names.{name_text}
use Rattle.phrases.specs.Lines.{lines_text}
use Rattle.phrases.proofs.Lining.{line_up, line_down, lines_on_lem, lines-ended}
use Rattle.phrases.proofs.lines.Goals as goal
use Rattle.phrases.proofs.lines.Goals.{then-up-i-eq1, else-up-i-eq1}

pub loop-i-init : goal.loop-i-init
unfolding lines_text
loop-i-init c = refl

pub loop-i-preserved : goal.loop-i-preserved
loop-i-preserved c =
    let up = c.args.up in
    lines_on_lem c.loop-i.line up c.loop-i.i _ _ c.loop-i-test.true
    (elim c.if-up-i-eq1.branch [
      | then-up-i-eq1 w ↦ line_up c.loop-i.line up c.loop-i.i _ w.if-up-i-eq1.true (w.line-is ∙ (w.name-line.ensures ∙ ap (λ (x : Line). put_all x (name_text (23 + c.loop-i.i) 0)) w.byte.ensures.value))
      | else-up-i-eq1 w ↦ w.line-is ∙ line_down c.loop-i.line up c.loop-i.i w.if-up-i-eq1.false
    ]) c.loop-i.invariant

pub returns : goal.returns
returns c = lines-ended c.loop-i.line c.args.up c.loop-i.i _ c.loop-i-test.false c.loop-i.invariant
