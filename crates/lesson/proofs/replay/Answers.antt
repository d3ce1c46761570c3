-- A script behind a good opening.
use mathlib.Core.Path.{◌∙◌, sym}
use Rattle.model.specs.Lesson.{lesson_at, lesson_replay}
use Rattle.lesson.proofs.replay.Goals as goal

pub returns-then-not-opens : goal.returns-then-not-opens
unfolding lesson_replay lesson_at
returns-then-not-opens c =
    let o = sym c.opens.ensures ∙ c.if-not-opens.true in
    record {
      value = rw (o, c.ends_with.ensures, c.refused.ensures.value);
      replies_after = rw o (rw c.refused.ensures.value at c.refused.ensures.reply_after);
    }

pub returns : goal.returns
unfolding lesson_replay lesson_at
returns c =
    let o = sym c.opens.ensures ∙ c.if-not-opens.false in
    record { value = rw o c.replay.ensures.0; replies_after = rw o c.replay.ensures.1 }
