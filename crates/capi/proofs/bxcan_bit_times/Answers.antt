use mathlib.Core.Path.{sym}
use Rattle.capi.proofs.Narrowed.{count_narrowed}
use Rattle.capi.proofs.bxcan_bit_times.Goals as goal

pub returns : goal.returns
returns c =
    count_narrowed _ c.args.block.now _ _ c.args.n (rw (sym c.count.ensures) c.call.ensures)
