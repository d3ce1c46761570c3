use mathlib.Core.Path.{◌≡◌}
use native.Mathlib.Omega.{arith}
use lib.ListN.{length}
use borrow.Author.Rules.{rules}
use Rattle.block_save.proofs.Stored.{stored}
use Rattle.block_save.proofs.numbers.put.Goals as goal

pub returns : goal.returns
returns g c =
    let n : length c.args.b.now ≡ 354 = search rules in
    stored c.args.b.now c.args.bytes _ c.args.i g.row.N c.copy_from_slice.ensures.after (search rules) (omega arith)
