use Rattle.std.proofs.Common.{◌<◌, ◌≢◌, length, length-set, arith, get_or-set_other, get_or-set_same, below_more}
use Rattle.account.proofs.changes.Goals as goal

pub loop-i-preserved : goal.loop-i-preserved
loop-i-preserved c = record {
  whole = rw length-set c.loop-i.invariant.whole;
  each = below_more _ _
      (λ k h. let ne : k ≢ c.loop-i.i = omega arith in rw get_or-set_other (c.loop-i.invariant.each k h))
      (let lt : c.loop-i.i < length c.loop-i.seen-items = omega arith in rw get_or-set_same c.change.ensures);
}
