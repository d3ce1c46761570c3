-- Both loops: no filter, and no bank, that was passed takes the frame, and each was compared once. At a match this filter is the first of its
-- bank that takes it, and its bank the first of all.
use Rattle.std.proofs.Common.{ℕ, ◌+◌, List, length, sym, ap, ◌∙◌, le_antisymm, arith, below_more}
use Rattle.model.specs.declared.FilterClass.{FilterClass}
use Rattle.model.proofs.FirstHit.{width-le}
use Rattle.filter.specs.Compared.{takes_frame}
use Rattle.filter.specs.Places.{hit_of, among, limited, no_match, FirstIn}
use Rattle.filter.proofs.Candidates.{cut-nowhere, length_cut}
use Rattle.filter.proofs.LeftBanks.{lowest_set, without_less}
use Rattle.filter.proofs.Passed.{PassedTo, no_match_lem, match-at, all_left, at-lowest, all-tried, bank-passed, all-passed, rest_left_out}
use Rattle.filter.proofs.Winners.{hit_at-place}
use Rattle.filter.proofs.first_match.Goals as goal

-- nothing is found in the banks that are passed, or left out
module _ (v : List ℕ) (w : ℕ) (k : FilterClass) (x m c : ℕ) (to : PassedTo v w k x m 14 c) where
  nothing_there : FirstIn v w k x m (no_match c)
  unfolding no_match hit_of
  nothing_there = record {
    within = (omega arith, λ h. absurd (omega arith));
    hit = λ g f. sym (no_match_lem g v w k f (limited m (among k x)) to.none);
    compared = to.count ∙ ap length (sym (cut-nowhere (takes_frame v w k) (limited m (among k x)) 14 to.none));
    few = omega (arith, to.few);
  }

pub search-init : goal.search-init
search-init c = all_left _ _ _ _ _

pub loop-j-init : goal.loop-j-init
loop-j-init c = (omega arith, omega arith, λ e l. absurd (omega arith))

pub compare-c-requires : goal.compare-c-requires
compare-c-requires c =
    let to = at-lowest _ _ _ _ _ _ _ c.search.invariant (omega arith) in
    (c.requires, omega (arith, to.few, c.width-m.ensures, width-le c.args.k))

pub loop-j-preserved : goal.loop-j-preserved
loop-j-preserved c =
    let none = rw (c.compare-c.ensures.0, c.words_of-a.ensures) at c.if-c.false in
    (omega arith, omega (arith, c.compare-c.ensures.1), below_more _ _ c.loop-j.invariant.2 none)

pub search-smaller : goal.search-smaller
search-smaller c =
    without_less c.search.left _ (omega arith) (lowest_set c.search.left (omega arith))

pub search-preserved : goal.search-preserved
search-preserved c =
    let all = le_antisymm c.loop-j.invariant.0 c.loop-j-test.false ∙ c.width-m.ensures in
    let next = bank-passed _ _ _ _ _ _ _ c.search.invariant (omega arith) (omega arith) (λ j l. c.loop-j.invariant.2 j (rw all l)) in
    rw (c.loop-j.invariant.1 ∙ ap (λ (j : ℕ). c.search.compared + j) all) next

pub returns-then-i-ge14 : goal.returns-then-i-ge14
returns-then-i-ge14 c = rw c.no_match.ensures (nothing_there _ _ _ _ _ _ (all-passed _ _ _ _ _ _ _ c.search.invariant c.if-i-ge14.true))

pub returns-then-most-compared : goal.returns-then-most-compared
returns-then-most-compared c =
    rw c.no_match-then-most-compared.ensures (nothing_there _ _ _ _ _ _ (rest_left_out _ _ _ _ _ _ _ c.search.invariant c.if-most-compared.true))

pub returns-then-c : goal.returns-then-c
returns-then-c c =
    let to = at-lowest _ _ _ _ _ _ _ c.search.invariant (omega arith) in
    let tries = c.width-m.ensures ∙ sym (all-tried _ _ _ _ _ _ _ c.search.invariant (omega arith) (omega arith)) in
    let within = rw tries at c.loop-j-test.true in
    let here = rw (c.compare-c.ensures.0, c.words_of-a.ensures) at c.if-c.true in
    let small = width-le c.args.k in
    record {
      within = (omega (arith, c.width-m.ensures, small), λ h. omega (arith, c.width-m.ensures, small));
      hit = λ g f. hit_at-place g f _ c.loop-j.j (omega arith) (omega (arith, c.width-m.ensures, small))
          ∙ sym (match-at g _ _ _ f _ _ c.loop-j.j (omega arith) within to.none c.loop-j.invariant.2 here);
      compared = c.compare-c.ensures.1 ∙ sym (length_cut _ _ 14 _ c.loop-j.j (omega arith) within to.none c.loop-j.invariant.2 here ∙ omega (arith, to.count));
      few = omega (arith, c.compare-c.ensures.1, to.few, c.width-m.ensures, small);
    }
