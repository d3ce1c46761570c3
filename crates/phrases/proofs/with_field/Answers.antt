use Rattle.std.proofs.Common.{ℕ, ◌-◌, ap, ◌∙◌, refl}
use Rattle.text.specs.Lines.{put_all}
use Rattle.text.proofs.Putting.{behind, one_byte}
use Rattle.phrases.proofs.Putting.{hidden, shown}
use Rattle.phrases.proofs.Words.{number-said, not_shown, is_shown}
use Rattle.phrases.proofs.with_field.Goals as goal

pub returns-in_default : goal.returns-in_default
returns-in_default c = hidden _ _ _ _ refl (not_shown _ _ c.in_default.ensures)

pub returns : goal.returns
returns c =
    let x = is_shown _ _ _ c.in-Some.ensures in
    shown _ _ _ _ x.0 _ _ x.2
    (behind _ _ _ _ _ (one_byte _ _ _ c.byte.ensures.value) (behind _ _ _ _ _ c.name-line.ensures (c.amount.ensures ∙ ap (put_all c.name-line.result) (number-said _ _ _ _ x.0 c.requires))))
    (c.saturating_sub.ensures ∙ ap (λ (n : ℕ). c.args.s.rest - n) x.1)
