use Prim.Native.Nat.{◌+◌}
use mathlib.Core.List.{[], ◌∷◌}
use native.Mathlib.Omega.{arith}
use Rattle.base.specs.Base.{one}
use Rattle.block.specs.Block.{fifo_bytes, frame_bytes, bytes16}
use Rattle.block.proofs.Stores.{run, runs}
use Rattle.block_save.proofs.put.put_fifo.Goals as goal

pub returns : goal.returns
unfolding fifo_bytes
returns c =
    let q = c.args.q in
    rw (c.put_flags.ensures, c.put-2.ensures, c.to_le_bytes.ensures, c.put_frame-3.ensures, c.put_frame-2.ensures, c.put_frame.ensures, c.put.ensures)
    (runs (c.args.tag ∷ 52 ∷ 0 ∷ []) (run (c.args.i + 3) (frame_bytes q.first) ∷ run (c.args.i + 19) (frame_bytes q.second) ∷ run (c.args.i + 35) (frame_bytes q.third) ∷ run (c.args.i + 51) (bytes16 q.count) ∷ run (c.args.i + 53) (one q.full ∷ one q.fovr ∷ []) ∷ []) c.args.b.now c.args.i (omega arith))
