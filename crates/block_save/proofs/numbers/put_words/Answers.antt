use mathlib.Core.Path.{◌≡◌, refl}
use native.Mathlib.Omega.{arith}
use lib.ListN.{length}
use borrow.Author.Rules.{rules}
use Rattle.block.specs.Block.{word_bytes}
use Rattle.block.proofs.Banks.{word_more}
use Rattle.block_save.proofs.numbers.put_words.Goals as goal

pub loop-k-init : goal.loop-k-init
unfolding word_bytes
loop-k-init g c = refl

pub loop-k-preserved : goal.loop-k-preserved
loop-k-preserved g c =
    let n : length c.args.words ≡ g.row.N = search rules in
    rw (c.put.ensures, c.to_le_bytes.ensures, c.loop-k.invariant) (word_more c.args.words c.args.b.now c.args.i c.loop-k.k (omega arith))
