use native.Mathlib.Omega.{arith}
use Rattle.block.proofs.Banks.{banks-read}
use Rattle.block_load.proofs.take.banks_at.Goals as goal

pub returns : goal.returns
returns c = banks-read c.args.b.now _ c.loop-j.j (omega arith) c.loop-j.invariant.0 c.loop-j.invariant.1
