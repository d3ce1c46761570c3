use Prim.Native.Nat.{◌+◌}
use mathlib.Core.List.{[], ◌∷◌}
use native.Mathlib.Omega.{arith}
use Rattle.base.specs.Base.{one}
use Rattle.block.specs.Block.{mailbox_bytes, words4, word_bytes}
use Rattle.block.proofs.Stores.{run, runs}
use Rattle.block_save.proofs.put.put_mailbox.Goals as goal

pub returns : goal.returns
unfolding mailbox_bytes word_bytes
returns c =
    let x = c.args.x in
    rw (c.put_flags.ensures, c.put_words.ensures, c.put.ensures)
    (runs (c.args.tag ∷ 20 ∷ 0 ∷ []) (run (c.args.i + 3) (words4 x.ti x.tdt x.tdl x.tdh) ∷ run (c.args.i + 19) (one x.rqcp ∷ one x.txok ∷ one x.alst ∷ one x.terr ∷ []) ∷ []) c.args.b.now c.args.i (omega arith))
