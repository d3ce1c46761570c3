use mathlib.Core.Path.{sym}
use Rattle.capi.proofs.Narrowed.{write_narrowed}
use Rattle.capi.proofs.bxcan_write.Goals as goal

pub returns : goal.returns
returns c =
    write_narrowed _ c.args.block.now _ _ c.args.offset c.args.word (rw (sym c.offset.ensures) c.call.ensures)
