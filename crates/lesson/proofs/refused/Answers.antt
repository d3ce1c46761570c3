-- The reply is that of the refusal.
use lib.Dec.{ltb}
use lib.ListN.{length}
use Rattle.model.proofs.Lessons.{refused-writes}
use Rattle.lesson.proofs.refused.Goals as goal

pub returns : goal.returns
returns c =
    let l = c.lines_of-lines.ensures in
    record {
      value = rw (c.refuse_opening.ensures.value, l);
      reply_after = rw (c.refuse_opening.ensures.value, l, refused-writes (ltb (length c.args.reply.now) 9) c.args.z c.args.place) (rw l at c.refuse_opening.ensures.reply_after);
    }
