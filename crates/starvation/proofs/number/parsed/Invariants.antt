use Rattle.std.proofs.Common.{◌≡◌, drop, Some}
use Rattle.starvation.specs.Number.{read_on}
use Rattle.starvation.proofs.number.parsed.Given as goal

abbrev pub invariant-loop-c : goal.invariant-loop-c
invariant-loop-c l = read_on (Some l.n) (drop l.c-index l.text) ≡ read_on (Some 0) l.text
