-- Each part is the same, and so is the whole.
use Rattle.controller.proofs.same.core.Goals as goal

pub returns : goal.returns
returns c = simp (c.filters.ensures, c.fifo-2.ensures, c.fifo.ensures, c.transmit.ensures, c.same_errors.ensures, c.same_control.ensures)
