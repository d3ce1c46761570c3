-- One shifted by eight times n, less one: that many ones. Eight bytes are all ones, since a shift by 64 is none.
use Prim.Native.Nat.{◌*◌}
use native.Mathlib.Omega.{arith}
use lib.Pow.{pow_pos}
use Rattle.receive.proofs.Masks.{one_shifted}
use Rattle.receive.proofs.bytes_mask.Goals as goal

pub returns-then-n-eq8 : goal.returns-then-n-eq8
returns-then-n-eq8 c = simp c.if-n-eq8.true

pub overflow_sub-result : goal.overflow_sub-result
overflow_sub-result c = rw (one_shifted (8 * c.args.n) (omega arith)) (pow_pos (8 * c.args.n))

pub returns : goal.returns
returns c = simp (one_shifted (8 * c.args.n) (omega arith))
