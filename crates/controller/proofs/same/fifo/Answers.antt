-- Each part is the same, and so is the whole.
use Rattle.controller.proofs.same.fifo.Goals as goal

pub returns : goal.returns
returns c = simp (c.frame-3.ensures, c.frame-2.ensures, c.frame.ensures)
