use mathlib.Core.Path.{sym}
use Rattle.capi.proofs.Narrowed.{code_narrowed, step_narrowed}
use Rattle.capi.proofs.bxcan_receive_error.Goals as goal

pub returns : goal.returns
returns c =
    code_narrowed _ c.args.block.now _ _ c.args.code c.args.step
    (step_narrowed _ c.args.block.now _ _ _ c.args.step (rw (sym c.byte.ensures, sym c.byte-2.ensures) c.call.ensures))
