use mathlib.Core.List.{map}
use mathlib.Core.Path.{◌≡◌}
use lib.ListN.{take}
use lib.Seq.{sets}
use Rattle.base.specs.Base.{one}
use Rattle.block_save.proofs.numbers.put_flags.Given as goal

abbrev pub invariant-loop-k : goal.invariant-loop-k
invariant-loop-k g l = l.b ≡ sets l.initial.b l.i (map one (take l.k l.fn.flags))
