use mathlib.Core.Path.{sym}
use Rattle.capi.proofs.Narrowed.{read_narrowed}
use Rattle.capi.proofs.bxcan_read.Goals as goal

pub returns : goal.returns
returns c =
    read_narrowed _ c.args.block.now _ _ c.args.offset (rw (sym c.offset.ensures) c.call.ensures)
