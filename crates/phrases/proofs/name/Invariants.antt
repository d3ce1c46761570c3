use Rattle.std.proofs.Common.{◌≡◌, ◌-◌}
use Rattle.text.specs.Lines.{put_all}
use Rattle.phrases.specs.Names.{name_on}
use Rattle.phrases.proofs.name.Given as goal

abbrev pub invariant-loop-c : goal.invariant-loop-c
invariant-loop-c l = put_all l.line (name_on l.c-items l.index l.c-index (8 - l.c-index)) ≡ put_all l.initial.line (name_on l.c-items l.index 0 8)
