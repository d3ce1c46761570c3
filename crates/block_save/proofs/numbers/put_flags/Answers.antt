use mathlib.Core.Path.{◌≡◌}
use native.Mathlib.Omega.{arith}
use lib.ListN.{length}
use borrow.Author.Rules.{rules}
use Rattle.block_save.proofs.Stored.{flag_more}
use Rattle.block_save.proofs.numbers.put_flags.Goals as goal

pub loop-k-preserved : goal.loop-k-preserved
loop-k-preserved g c =
    let n : length c.args.flags ≡ g.row.N = search rules in
    rw (c.from.ensures, c.loop-k.invariant) (flag_more c.args.flags c.args.b.now c.args.i c.loop-k.k (omega arith))
