use mathlib.Core.Path.{sym}
use Rattle.capi.proofs.Narrowed.{result_narrowed}
use Rattle.capi.proofs.bxcan_own_end.Goals as goal

pub returns : goal.returns
returns c =
    result_narrowed _ c.args.block.now _ _ c.args.res (rw (sym c.byte.ensures) c.call.ensures)
