use mathlib.Core.Path.{◌≡◌}
use lib.ListN.{take}
use lib.Seq.{sets}
use Rattle.block.specs.Block.{word_bytes}
use Rattle.block_save.proofs.numbers.put_words.Given as goal

abbrev pub invariant-loop-k : goal.invariant-loop-k
invariant-loop-k g l = l.b ≡ sets l.initial.b l.i (word_bytes (take l.k l.fn.words))
