-- Each part is the same, and so is the whole.
use Rattle.controller.proofs.same.queue.Goals as goal

pub returns : goal.returns
returns c = simp c.bits.ensures
