use Rattle.block.proofs.Lengths.{mailbox-length}
use Rattle.block.specs.Block.{mailbox_bytes, queue_bytes, transmit_bytes}
use mathlib.Core.List.{[], ◌∷◌}
use native.Mathlib.Omega.{arith}
use Rattle.block.proofs.Stores.{run, runs}
use Rattle.block_save.proofs.put_transmit.Goals as goal

pub returns : goal.returns
unfolding transmit_bytes
returns c =
    rw (
      c.put_queue.ensures,
      c.put_mailbox-3.ensures,
      c.put_mailbox-2.ensures,
      c.put_mailbox.ensures,
    ) (runs (mailbox_bytes 0x42 c.args.t.mailboxes.m0) (run (53) (mailbox_bytes 0x43 c.args.t.mailboxes.m1) ∷ run (76) (mailbox_bytes 0x44 c.args.t.mailboxes.m2) ∷ run (99) (queue_bytes c.args.t.queue) ∷ []) c.args.b.now (30) (omega (arith, mailbox-length 0x42 c.args.t.mailboxes.m0, mailbox-length 0x43 c.args.t.mailboxes.m1, mailbox-length 0x44 c.args.t.mailboxes.m2)))
