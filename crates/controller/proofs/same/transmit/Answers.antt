-- Each part is the same, and so is the whole.
use Rattle.controller.proofs.same.transmit.Goals as goal

pub returns : goal.returns
returns c = simp (c.queue.ensures, c.mailbox-3.ensures, c.mailbox-2.ensures, c.mailbox.ensures)
