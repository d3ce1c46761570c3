use Rattle.std.proofs.Common.{◌≡◌, ℕ, ◌+◌, ◌-◌, ◌<◌, ◌≤◌, false}
use Rattle.model.specs.Banks.{bank}
use Rattle.filter.specs.Compared.{candidate, takes_frame}
use Rattle.filter.proofs.Passed.{Passed}
use Rattle.filter.proofs.first_match.Given as goal

abbrev pub invariant-loop-j : goal.invariant-loop-j
invariant-loop-j l = (l.j ≤ l.m) × (l.compared ≡ l.initial.compared + l.j) × ((e : ℕ) → e < l.j → takes_frame l.banks l.w l.k (candidate (bank l.i) e) ≡ false)

abbrev pub decreases-loop-j : goal.decreases-loop-j
decreases-loop-j l = l.m - l.j

abbrev pub invariant-search : goal.invariant-search
invariant-search l = Passed l.banks l.w l.k l.part l.most l.left l.compared

abbrev pub decreases-search : goal.decreases-search
decreases-search l = l.left
