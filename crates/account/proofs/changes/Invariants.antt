use Rattle.std.proofs.Common.{◌≡◌, ℕ, ◌<◌, None, length, get_or}
use Rattle.account.specs.Views.{Change, seen_at}
use Rattle.account.proofs.changes.Given as goal

abbrev pub invariant-loop-i : goal.invariant-loop-i
invariant-loop-i l = record {
  whole : length l.seen-items ≡ 12;
  each : (k : ℕ) → k < l.i → Change (seen_at l.old k) (seen_at l.new k) (get_or l.seen-items k None);
}
