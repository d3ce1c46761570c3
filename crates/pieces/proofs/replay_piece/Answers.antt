use Rattle.std.proofs.Common.{length}
use Rattle.pieces.proofs.Running.{nine_bytes_lem, taken}
use Rattle.pieces.proofs.replay_piece.Goals as goal

pub turned-requires : goal.turned-requires
turned-requires c =
    rw c.replay.ensures.0 (nine_bytes_lem c.args.k.controller c.args.piece.now (length c.args.replies.now))

pub returns : goal.returns
returns c =
    taken c.args.k c.args.piece.now c.args.last c.args.replies.now _ c.replay.result _ c.replay.ensures.0 c.replay.ensures.1 c.turned.ensures
