-- The definition, read on from here, gives what it gives for the whole text.
use Rattle.hex_text.proofs.Reading.{Going}
use Rattle.hex_text.proofs.Reader.unhexed.Given as goal

abbrev pub invariant-loop-i : goal.invariant-loop-i
invariant-loop-i l = Going l.fn.self l.fn.text l.text l.reader l.count l.i
