-- A search that has passed some banks of a word: no filter of theirs takes the frame, and all of them have been compared. Assumes nothing.
use Rattle.std.proofs.Common.{◌≡◌, ℕ, zero, suc, ◌+◌, ◌*◌, ◌<◌, ◌≤◌, Bool, true, false, leb, List, length, sym, refl, ap, ◌∙◌, inl, inr, arith, le-leb, Option, Some, None}
use borrow.Author.Tests.{lt-leb}
use lib.Count.{count_trailing_zeros}
use Rattle.base.specs.Base.{pick, bit, sum}
use Rattle.model.specs.Banks.{bank, width, number_of}
use Rattle.model.specs.Search.{first, hit_at}
use Rattle.model.specs.declared.Filters.{Filters}
use Rattle.model.specs.declared.Bank.{Bank}
use Rattle.model.specs.declared.FilterClass.{FilterClass}
use Rattle.model.specs.declared.Fifo.{Fifo}
use Rattle.model.proofs.FirstHit.{lower, first-at, width-le, no_hit_lem, hit}
use Rattle.filter.specs.Compared.{candidate, of_banks, takes_frame}
use Rattle.filter.specs.Places.{among, limited, first_of}
use Rattle.filter.proofs.Candidates.{sum_same, sum_skip, sum-le, NoneOf, length-of_banks, of_banks_skip}
use Rattle.filter.proofs.LeftBanks.{without, From, from_first, none_between, lowest-from, lowest_in, from_next}
use Rattle.model.specs.declared.FilterNumber.{FilterNumber}

-- ---- the first match

pub nothing_below : (p : ℕ → Option FilterNumber) (n : ℕ) → ((j : ℕ) → j < n → p j ≡ None) → first p n ≡ None
unfolding first
nothing_below p zero h = refl
nothing_below p (suc n) h = rw (nothing_below p n (λ j l. h j (omega arith)), h n (omega arith))

module _ (g : Filters) (v : List ℕ) (w : ℕ) (k : FilterClass) (f : Fifo) (t : Bank → ℕ) where
  none_in : (b : Bank) (j : ℕ) → ((a : ℕ) → a < j → takes_frame v w k (candidate b a) ≡ false) → first (hit_at 14 g v w k f b) j ≡ None
  none_in b j h = nothing_below _ j (λ a l. no_hit_lem 14 g v w k f b a (h a l))

  none_so_far : (n : ℕ) → NoneOf (takes_frame v w k) t n → first (λ (i : ℕ). first (hit_at 14 g v w k f (bank i)) (t (bank i))) n ≡ None
  none_so_far n h = nothing_below _ n (λ i l. none_in (bank i) (t (bank i)) (λ j m. h i j l m))

  -- where no filter takes the frame there is no match
  pub no_match_lem : NoneOf (takes_frame v w k) t 14 → first_of g v w k f t ≡ None
  unfolding first_of
  no_match_lem h = none_so_far 14 h

  -- the first filter that takes it is the first match
  pub match-at : (i j : ℕ) → i < 14 → j < t (bank i) → NoneOf (takes_frame v w k) t i
      → ((a : ℕ) → a < j → takes_frame v w k (candidate (bank i) a) ≡ false) → takes_frame v w k (candidate (bank i) j) ≡ true
      → first_of g v w k f t ≡ Some (number_of 14 g f (bank i) j)
  unfolding first_of
  match-at i j l m none before here =
      first-at _ 14 i _ l (none_so_far i none) (first-at _ _ j _ m (none_in (bank i) j before) (hit 14 g v w k f (bank i) j here))

-- ---- the search

-- y are the banks of x that are left, c filters of the others have been compared; m is the limit
pub record Passed (v : List ℕ) (w : ℕ) (k : FilterClass) (x m y c : ℕ) : Type 0 where
  pub next : ℕ
  pub within : next ≤ 14
  pub from : From x next y
  pub same : (i : ℕ) → i < next → limited m (among k x) (bank i) ≡ among k x (bank i)
  pub none : NoneOf (takes_frame v w k) (limited m (among k x)) next
  pub few : c ≤ 4 * next
  pub count : c ≡ sum (λ (i : ℕ). among k x (bank i)) next

-- up to bank i
pub record PassedTo (v : List ℕ) (w : ℕ) (k : FilterClass) (x m i c : ℕ) : Type 0 where
  pub none : NoneOf (takes_frame v w k) (limited m (among k x)) i
  pub few : c ≤ 4 * i
  pub count : c ≡ length (of_banks (limited m (among k x)) i)

-- of a bank that isn't in the word no filter is looked at
outside : (k : FilterClass) (x i : ℕ) → bit i x ≡ false → among k x (bank i) ≡ 0
outside k x i e = rw e

pub none_either_way : (o : Bool) → pick {A = ℕ} o 0 0 ≡ 0
none_either_way true = refl
none_either_way false = refl

-- with the limit no more than without
pub limited-none : (m : ℕ) (t : Bank → ℕ) (b : Bank) → t b ≡ 0 → limited m t b ≡ 0
unfolding limited
limited-none m t b e = rw e (none_either_way (leb (sum (λ (i : ℕ). t (bank i)) b.0) m))

-- a bank with few enough filters before it is looked at
pub limited-all : (m : ℕ) (t : Bank → ℕ) (b : Bank) → sum (λ (i : ℕ). t (bank i)) b.0 ≤ m → limited m t b ≡ t b
unfolding limited
limited-all m t b h = rw (le-leb (sum (λ (i : ℕ). t (bank i)) b.0) m h)

limited_out : (m : ℕ) (t : Bank → ℕ) (b : Bank) → m < sum (λ (i : ℕ). t (bank i)) b.0 → limited m t b ≡ 0
unfolding limited
limited_out m t b h = rw (lt-leb (sum (λ (i : ℕ). t (bank i)) b.0) m h)

pub all_left : (v : List ℕ) (w : ℕ) (k : FilterClass) (x m : ℕ) → Passed v w k x m x 0
unfolding sum
all_left v w k x m = record {
  next = 0;
  within = omega arith;
  from = from_first x;
  same = λ i l. absurd (omega arith);
  none = λ i j l h. absurd (omega arith);
  few = omega arith;
  count = refl;
}

module _ (v : List ℕ) (w : ℕ) (k : FilterClass) (x m y c : ℕ) (s : Passed v w k x m y c) where
  -- banks without filters add none to the sum
  sum_to : (i : ℕ) → s.next ≤ i → ((j : ℕ) → s.next ≤ j → j < i → bit j x ≡ false) → c ≡ sum (λ (j : ℕ). among k x (bank j)) i
  sum_to i l out = s.count ∙ sym (sum_skip _ s.next i l (λ j p q. outside k x j (out j p q)))

  -- the banks up to i are passed, if none of those from the next on is looked at
  passed_to : (i : ℕ) → s.next ≤ i → ((j : ℕ) → s.next ≤ j → j < i → limited m (among k x) (bank j) ≡ 0) → PassedTo v w k x m i c
  passed_to i l out = record {
    none = λ a j h o. elim (lower a s.next) [
      | inl b ↦ s.none a j b o
      | inr b ↦ absurd (omega (arith, rw (out a b h) at o))
    ];
    few = omega (arith, s.few);
    count = s.count
        ∙ sym (sum_same _ _ s.next (λ j p. s.same j p))
        ∙ sym (length-of_banks (limited m (among k x)) s.next)
        ∙ ap length (sym (of_banks_skip (limited m (among k x)) s.next i l out));
  }

  -- at the lowest that is left
  module _ (h : count_trailing_zeros 32 y < 14) where
    between : (j : ℕ) → s.next ≤ j → j < count_trailing_zeros 32 y → bit j x ≡ false
    between j p q = none_between x s.next y s.from j p q (omega arith)

    from-next-on : s.next ≤ count_trailing_zeros 32 y
    from-next-on = lowest-from x s.next y s.from (omega arith)

    pub at-lowest : PassedTo v w k x m (count_trailing_zeros 32 y) c
    at-lowest = passed_to (count_trailing_zeros 32 y) from-next-on (λ j p q. limited-none m (among k x) (bank j) (outside k x j (between j p q)))

    -- with no more than m filters before it all its filters are looked at
    module _ (few : c ≤ m) where
      here_same : limited m (among k x) (bank (count_trailing_zeros 32 y)) ≡ among k x (bank (count_trailing_zeros 32 y))
      here_same = limited-all m (among k x) (bank (count_trailing_zeros 32 y)) (omega (arith, sum_to (count_trailing_zeros 32 y) from-next-on between))

      in_word : among k x (bank (count_trailing_zeros 32 y)) ≡ width k
      in_word = rw (lowest_in x s.next y s.from (omega arith))

      pub all-tried : limited m (among k x) (bank (count_trailing_zeros 32 y)) ≡ width k
      all-tried = here_same ∙ in_word

      -- a bank without a match is passed
      pub bank-passed : ((j : ℕ) → j < width k → takes_frame v w k (candidate (bank (count_trailing_zeros 32 y)) j) ≡ false)
          → Passed v w k x m (without y (count_trailing_zeros 32 y)) (c + width k)
      unfolding sum
      bank-passed e = record {
        next = suc (count_trailing_zeros 32 y);
        within = omega arith;
        from = from_next x s.next y s.from (omega arith);
        same = λ i l. elim (lower i s.next) [
          | inl b ↦ s.same i b
          | inr b ↦ elim (lower i (count_trailing_zeros 32 y)) [
            | inl a ↦ let none = outside k x i (between i b a) in limited-none m (among k x) (bank i) none ∙ sym none
            | inr a ↦ let same : i ≡ count_trailing_zeros 32 y = omega arith in rw same here_same
          ]
        ];
        none = λ a j l b. elim (lower a (count_trailing_zeros 32 y)) [
          | inl o ↦ at-lowest.none a j o b
          | inr o ↦ let same : a ≡ count_trailing_zeros 32 y = omega arith in rw same (e j (rw (same, all-tried) at b))
        ];
        few = omega (arith, at-lowest.few, width-le k);
        count = omega (arith, sum_to (count_trailing_zeros 32 y) from-next-on between, in_word);
      }

  -- with no bank left, all are passed
  pub all-passed : 14 ≤ count_trailing_zeros 32 y → PassedTo v w k x m 14 c
  all-passed h =
      passed_to 14 s.within
      (λ j p q. limited-none m (among k x) (bank j) (outside k x j (none_between x s.next y s.from j p (omega arith) (omega arith))))

  -- and with more than m filters passed the others are left out
  pub rest_left_out : m < c → PassedTo v w k x m 14 c
  rest_left_out h =
      passed_to 14 s.within
      (λ j p q. limited_out m (among k x) (bank j) (omega (arith, s.count, sum-le (λ (i : ℕ). among k x (bank i)) s.next j p)))
