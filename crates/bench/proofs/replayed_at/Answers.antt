-- The part of the reply space from the place on is lent to the record.
use mathlib.Core.Path.{◌≡◌, ap, ◌∙◌}
use Prim.Native.Nat.{◌-◌}
use native.Mathlib.Omega.{arith}
use lib.ListN.{length}
use Rattle.model.specs.Script.{reply_of}
use Rattle.script.specs.OneWay.{core_replayed, whole}
use Rattle.bench.proofs.Placed.{part_length, placed-part, least_left, least-placed}
use Rattle.bench.proofs.replayed_at.Goals as goal

pub returns : goal.returns
returns c =
    let n : length c.args.replies.now - c.min-from.result ≡ length c.args.replies.now - c.args.written = rw c.min-from.ensures (least_left c.args.written c.args.replies.now) in (
      c.core_replayed.ensures.value ∙ ap (core_replayed c.args.z c.args.script.now c.args.place) (part_length c.min-from.result c.args.replies.now (omega arith) ∙ n),
      placed-part c.min-from.result c.args.replies.now (omega arith) (reply_of (whole c.args.z c.core_replayed.result)) c.core_replayed.new.reply c.core_replayed.ensures.reply_after ∙ rw c.min-from.ensures (least-placed c.args.written c.args.replies.now (reply_of (whole c.args.z c.core_replayed.result))),
    )
