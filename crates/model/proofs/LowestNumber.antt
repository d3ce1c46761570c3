-- The first hit of a class in a FIFO is the active filter with the lowest number that takes the word. Assumes nothing.
use Rattle.std.proofs.Common.{Some, None}
use mathlib.Core.Path.{◌≡◌, refl, sym, ap, ◌∙◌}
use mathlib.Core.Bool.{Bool, true, false, ◌&&◌}
use mathlib.Core.List.{List}
use Prim.Native.Nat.{ℕ, zero, suc, ◌+◌, ◌≤◌, ◌<◌}
use native.Mathlib.Nat.{le_refl}
use native.Mathlib.Decide.{le_ind}
use native.Mathlib.Omega.{arith}
use borrow.Author.Tests.{lt-ltb, eq-eqb, eqb-true}
use lib.Dec.{eqb}
use Rattle.base.specs.Base.{pick, sum}
use Rattle.model.specs.Banks.{bank, first_word, second_word, is_active, class_of, rank, width, matches, belongs, share, first_number, number_of}
use Rattle.model.specs.Search.{searched, tried, hit_at, hit_in, first_hit}
use Rattle.model.specs.Filtering.{ActiveMatch}
use Rattle.model.specs.declared.Filters.{Filters}
use Rattle.model.specs.declared.Bank.{Bank}
use Rattle.model.specs.declared.FilterClass.{FilterClass}
use Rattle.model.specs.declared.FilterClass.TheVariants.{List32, Mask32, List16, Mask16}
use Rattle.model.specs.declared.Fifo.{Fifo}
use Rattle.model.specs.declared.FilterNumber.{FilterNumber}
use Rattle.model.proofs.FirstHit.{FirstOfRow, nowhere, at, first_of-row, Ascending, first-lowest, nothing_no_filter, filter-within, hit}

-- ---- the banks that are searched

abbrev ranked : ℕ → FilterClass
ranked zero = List32
ranked (suc zero) = Mask32
ranked (suc (suc zero)) = List16
ranked (suc (suc (suc r))) = Mask16

ranked_rank : (k : FilterClass) → ranked (rank k) ≡ k
ranked_rank List32 = refl
ranked_rank Mask32 = refl
ranked_rank List16 = refl
ranked_rank Mask16 = refl

-- classes of the same rank are the same
pub rank_injective : (c k : FilterClass) → rank c ≡ rank k → c ≡ k
rank_injective c k e = sym (ranked_rank c) ∙ ap ranked e ∙ ranked_rank k

both_true : (a b : Bool) → (a && b) ≡ true → (a ≡ true) × (b ≡ true)
both_true true true e = (refl, refl)
both_true true false e = let z : ◌≡◌ {A = ℕ} 0 1 = cc in absurd (omega arith)
both_true false b e = let z : ◌≡◌ {A = ℕ} 0 1 = cc in absurd (omega arith)

module _ (g : Filters) (k : FilterClass) (f : Fifo) (b : Bank) where
  pub is_searched : is_active g b ≡ true → belongs f g b ≡ true → class_of g b ≡ k → searched g k f b ≡ true
  unfolding searched
  is_searched a o c = rw (a, o, c, eq-eqb (rank k) (rank k) refl)

  pub searched_is : searched g k f b ≡ true → (is_active g b ≡ true) × (belongs f g b ≡ true) × (class_of g b ≡ k)
  unfolding searched
  searched_is e =
      let s = both_true (is_active g b) (belongs f g b && eqb (rank (class_of g b)) (rank k)) e in
      let t = both_true (belongs f g b) (eqb (rank (class_of g b)) (rank k)) s.1 in
      (s.0, t.0, rank_injective (class_of g b) k (eqb-true (rank (class_of g b)) (rank k) t.1))

  pub tried-searched : (j : ℕ) → j < tried g k f b → searched g k f b ≡ true
  unfolding tried
  tried-searched j = go (searched g k f b) refl
    where
      go : (s : Bool) → searched g k f b ≡ s → j < pick s (width k) 0 → searched g k f b ≡ true
      go true e h = e
      go false e h = absurd (omega arith)

  -- a bank that is searched has as many filters as it takes numbers
  pub tried-share : tried g k f b ≤ share f g b
  unfolding tried
  tried-share = go (searched g k f b) refl
    where
      go : (s : Bool) → searched g k f b ≡ s → pick s (width k) 0 ≤ share f g b
      go false e = omega arith
      go true e = let s = searched_is e in rw (s.1, s.2) (le_refl (width k))

-- ---- their numbers

-- a sum up to j holds all of it up to i, and the term at i
pub sum_up : (s : ℕ → ℕ) (i j : ℕ) → i < j → sum s i + s i ≤ sum s j
unfolding sum
sum_up s i j h = le_ind (λ (m : ℕ). sum s i + s i ≤ sum s m) (le_refl _) (λ m l e. omega arith) j h

module _ (n : ℕ) (g : Filters) (v : List ℕ) (w : ℕ) (k : FilterClass) (f : Fifo) where
  pub numbers_up : (a b : Bank) → a.0 < b.0 → b.0 < n → (first_number n g f a).0 + tried g k f a ≤ (first_number n g f b).0
  unfolding first_number
  numbers_up a b h l =
      rw (lt-ltb a.0 n (omega arith), lt-ltb b.0 n l)
      (omega (arith, sum_up (λ (i : ℕ). share f g (bank i)) a.0 b.0 h, tried-share g k f a))

  hit_is : (b : Bank) (j : ℕ) (x : FilterNumber) → hit_at n g v w k f b j ≡ Some x
      → (matches k (first_word v b) (second_word v b) j w ≡ true) × (x ≡ number_of n g f b j)
  unfolding hit_at
  hit_is b j x = go (matches k (first_word v b) (second_word v b) j w)
    where
      go : (t : Bool) → pick t (Some (number_of n g f b j)) None ≡ Some x → (t ≡ true) × (x ≡ number_of n g f b j)
      go true e = (refl, cc)
      go false e = nothing_no_filter refl e

  bank-hit : (b : Bank) (x : FilterNumber) → hit_in n g v w k f b ≡ Some x
      → (j : ℕ) × (j < tried g k f b) × (hit_at n g v w k f b j ≡ Some x)
  unfolding hit_in
  bank-hit b x e = go (first_of-row (hit_at n g v w k f b) (tried g k f b))
    where
      go : FirstOfRow (hit_at n g v w k f b) (tried g k f b) → (j : ℕ) × (j < tried g k f b) × (hit_at n g v w k f b j ≡ Some x)
      go (nowhere s q) = nothing_no_filter s e
      go (at j y l d s q) = (j, l, cc)

  pub number-in_bank : (b : Bank) (x : FilterNumber) → hit_in n g v w k f b ≡ Some x
      → ((first_number n g f b).0 ≤ x.0) × (x.0 < (first_number n g f b).0 + tried g k f b)
  number-in_bank b x e =
      let h = bank-hit b x e in let is = hit_is b h.0 x h.2 in rw is.1 (omega arith, omega arith)

  banks_ascend : Ascending (λ (i : ℕ). hit_in n g v w k f (bank i)) n
  banks_ascend i j x y h l d e = omega (arith, number-in_bank (bank i) x d, number-in_bank (bank j) y e, numbers_up (bank i) (bank j) h l)

  bank_ascends : (b : Bank) → Ascending (hit_at n g v w k f b) (tried g k f b)
  bank_ascends b i j x y h l d e = rw ((hit_is b i x d).1, (hit_is b j y e).1) (omega arith)

  -- for every active filter of class k in FIFO f that takes the word, the first hit is a filter with a number no higher
  pub lowest : (b : Bank) (j : ℕ) → ActiveMatch n g v w k f b j
      → (x : FilterNumber) × (first_hit n g v w k f ≡ Some x) × (x.0 ≤ (number_of n g f b j).0)
  unfolding first_hit hit_in tried
  lowest b j m =
      let looked : j < tried g k f b = rw (is_searched g k f b m.active m.assigned m.class) (filter-within k _ _ j w m.takes) in
      let inner = first-lowest (hit_at n g v w k f b) (tried g k f b) (bank_ascends b) j _ looked (hit n g v w k f b j m.takes) in
      let outer = first-lowest (λ (i : ℕ). hit_in n g v w k f (bank i)) n banks_ascend b.0 inner.0 m.within inner.1 in
      (outer.0, outer.1, omega (arith, outer.2, inner.2))

  -- and the first hit is the number of an active filter of class k in FIFO f that takes the word
  pub first_hit-active : (x : FilterNumber) → first_hit n g v w k f ≡ Some x
      → (b : Bank) × (j : ℕ) × ActiveMatch n g v w k f b j × (x ≡ number_of n g f b j)
  unfolding first_hit
  first_hit-active x e = go (first_of-row (λ (i : ℕ). hit_in n g v w k f (bank i)) n)
    where
      go : FirstOfRow (λ (i : ℕ). hit_in n g v w k f (bank i)) n → (b : Bank) × (j : ℕ) × ActiveMatch n g v w k f b j × (x ≡ number_of n g f b j)
      go (nowhere s q) = nothing_no_filter s e
      go (at i y l d s q) =
          let h = bank-hit (bank i) x (cc) in
          let s = searched_is g k f (bank i) (tried-searched g k f (bank i) h.0 h.1) in
          let is = hit_is (bank i) h.0 x h.2 in
          (bank i, h.0, record { within = l; active = s.0; assigned = s.1; class = s.2; takes = is.0 }, is.1)
