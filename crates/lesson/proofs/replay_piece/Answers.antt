-- A piece that is replayed, or an opening that is refused.
use Rattle.lesson.proofs.Taking.{admitted, refused}
use Rattle.lesson.proofs.replay_piece.Goals as goal

pub returns-then-opened-opens : goal.returns-then-opened-opens
returns-then-opened-opens c =
    rw c.opens-then-opened-opens.ensures (admitted c.args.k c.args.opened c.args.piece.now c.args.last c.args.replies.now _ c.replay_piece.result (rw c.opens.ensures at c.if-opened-opens.true) c.replay_piece.ensures)

pub returns : goal.returns
returns c =
    rw c.refused_turn.ensures (refused c.args.k c.args.opened c.args.piece.now c.args.last c.args.replies.now _ c.refused-a.result (rw c.opens.ensures at c.if-opened-opens.false) c.refused-a.ensures.value c.refused-a.ensures.reply_after)
