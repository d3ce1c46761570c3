use Rattle.block.proofs.Lengths.{control-length, errors-length, transmit-length, fifo-length}
use Rattle.block.specs.Block.{control_bytes, errors_bytes, transmit_bytes, fifo_bytes, filters_bytes, core_bytes}
use mathlib.Core.List.{[], ◌∷◌}
use native.Mathlib.Omega.{arith}
use Rattle.block.proofs.Stores.{run, runs}
use Rattle.block_save.proofs.put_core.Goals as goal

pub returns : goal.returns
unfolding core_bytes
returns c =
    rw (
      c.put_filters.ensures,
      c.put_fifo-2.ensures,
      c.put_fifo.ensures,
      c.put_transmit.ensures,
      c.put_errors.ensures,
      c.put_control.ensures,
    ) (runs (control_bytes c.args.c.control) (run (23) (errors_bytes c.args.c.errors) ∷ run (30) (transmit_bytes c.args.c.transmit) ∷ run (109) (fifo_bytes 0x46 c.args.c.fifo0) ∷ run (164) (fifo_bytes 0x47 c.args.c.fifo1) ∷ run (219) (filters_bytes c.args.c.filters) ∷ []) c.args.b.now (0) (omega (arith, control-length c.args.c.control, errors-length c.args.c.errors, transmit-length c.args.c.transmit, fifo-length 0x46 c.args.c.fifo0, fifo-length 0x47 c.args.c.fifo1)))
