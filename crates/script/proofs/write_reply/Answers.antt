-- Nine bytes at the front, then what was there.
use Rattle.model.specs.Script.{reply}
use Rattle.script.proofs.write_reply.Goals as goal

pub returns : goal.returns
unfolding reply
returns c = simp (c.copy_from_slice.ensures.after, c.to_le_bytes.ensures)
