use mathlib.Core.Path.{sym}
use Rattle.capi.proofs.Narrowed.{frame_narrowed}
use Rattle.capi.proofs.bxcan_frame.Goals as goal

pub returns : goal.returns
returns c =
    frame_narrowed _ c.args.block.now _ _ c.args.identifier c.args.data_low c.args.data_high c.args.length (rw (sym c.byte.ensures) c.call.ensures)
