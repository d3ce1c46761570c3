-- The two words of the mask keep the first bytes of the frame.
use Rattle.model.specs.Reception.{data_bytes, stored_frame}
use native.Mathlib.Omega.{arith}
use Rattle.receive.proofs.Masks.{data_bytes-le, low_masked, high_masked}
use Rattle.receive.proofs.stored_frame.Goals as goal

pub bytes_mask-mask-requires : goal.bytes_mask-mask-requires
bytes_mask-mask-requires c = rw c.data_bytes.ensures (data_bytes-le _)

pub returns : goal.returns
unfolding stored_frame
returns c = simp (c.bytes_mask-mask.ensures, c.data_bytes.ensures, low_masked (data_bytes c.args.x) c.args.x.low (omega arith), high_masked (data_bytes c.args.x) c.args.x.high (omega arith))
