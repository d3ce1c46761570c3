use Rattle.std.proofs.Common.{◌≡◌, ◌-◌, length, Ok}
use Rattle.lines.specs.Parts.{words_on, all_words}
use Rattle.lines.proofs.parts.all_words.Given as goal

abbrev pub invariant-loop-n : goal.invariant-loop-n
invariant-loop-n l = words_on l.s l.k (Ok l.p) (length l.s - l._n) ≡ all_words l.s l.k l.fn.place
