-- A script behind a good opening.
use mathlib.Core.Path.{◌∙◌, sym}
use lib.ListN.{length}
use Rattle.model.specs.Lesson.{lesson_at}
use Rattle.script.specs.OneWay.{whole-record}
use Rattle.lesson.proofs.record.Goals as goal

pub returns-then-opens : goal.returns-then-opens
unfolding lesson_at
returns-then-opens c =
    let o = sym c.opens.ensures ∙ c.if-opens.true in
    record {
      value = rw (o, c.with_banks.ensures, c.core_replayed-a.ensures.value) (whole-record c.args.z c.args.lesson.now c.args.place (length c.args.reply.now));
      reply_after = rw c.with_banks.ensures c.core_replayed-a.ensures.reply_after;
    }

pub returns : goal.returns
unfolding lesson_at
returns c =
    let o = sym c.opens.ensures ∙ c.if-opens.false in
    record { value = rw (o, c.refused.ensures.value); reply_after = c.refused.ensures.reply_after }
