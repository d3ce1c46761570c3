use Rattle.std.proofs.Common.{◌≡◌, ◌-◌}
use Rattle.phrases.specs.Names.{fields_on, with_fields}
use Rattle.phrases.proofs.all_fields.Given as goal

abbrev pub invariant-loop-row : goal.invariant-loop-row
invariant-loop-row l = with_fields l.said (fields_on l.row (l.row-end - l.row)) l.w ≡ with_fields l.initial.said (fields_on l.first (l.row-end - l.first)) l.w
