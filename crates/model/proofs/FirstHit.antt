-- The first hit of a row, as a search from the low end meets it; and what the filters of a bank give to such a search. Assumes nothing.
use Rattle.std.proofs.Common.{Option, Some, None}
use mathlib.Core.Path.{◌≡◌, refl}
use mathlib.Core.Bool.{Bool, true, false}
use mathlib.Core.List.{List, [], ◌∷◌}
use mathlib.Core.Logic.{◌⊎◌, inl, inr}
use Prim.Native.Nat.{ℕ, zero, suc, ◌+◌, ◌≤◌, ◌<◌}
use native.Mathlib.Nat.{le_refl}
use native.Mathlib.Numerals.{add-one}
use native.Mathlib.Decide.{le_ind}
use native.Mathlib.Omega.{arith}
use borrow.Author.Tests.{ltb-true, ltb-false}
use lib.Dec.{ltb}
use lib.ListN.{length}
use Rattle.base.specs.Base.{pick}
use Rattle.model.specs.Banks.{first_word, second_word, width, filters, word_for, taken_at, matches, number_of}
use Rattle.model.specs.Banks as banks
use Rattle.model.specs.Search.{first, searched, tried, hit_at}
use Rattle.model.specs.declared.Filters.{Filters}
use Rattle.model.specs.declared.Bank.{Bank}
use Rattle.model.specs.declared.FilterClass.{FilterClass}
use Rattle.model.specs.declared.FilterClass.TheVariants.{List32, Mask32, List16, Mask16}
use Rattle.model.specs.declared.Fifo.{Fifo}
use Rattle.model.specs.declared.FilterNumber.{FilterNumber}

-- ---- a search that counts up

-- before it begins there is no hit
pub first-none : (p : ℕ → Option FilterNumber) → first p 0 ≡ None
unfolding first
first-none p = refl

-- with no hit so far and none at i, there is none up to i
pub first_more : (p : ℕ → Option FilterNumber) (i : ℕ) → first p i ≡ None → p i ≡ None → first p (i + 1) ≡ None
unfolding first
first_more p i e h = rw (add-one i, e, h)

-- with no hit so far, the hit at i is the first
pub first-at : (p : ℕ → Option FilterNumber) (n i : ℕ) (x : FilterNumber) → i < n → first p i ≡ None → p i ≡ Some x → first p n ≡ Some x
unfolding first
first-at p n i x l e h = le_ind (λ (m : ℕ). first p m ≡ Some x) (rw (e, h)) (λ m k s. rw s) n l

-- ---- where the first hit stands

-- a hit is not both nothing and a filter
pub nothing_no_filter : {h : (Option FilterNumber)} {x : FilterNumber} {G : Type 0} → h ≡ None → h ≡ Some x → G
nothing_no_filter e d = let z : ◌≡◌ {A = ℕ} 0 1 = cc in absurd (omega arith)

-- i is below n or not
pub lower : (i n : ℕ) → (i < n) ⊎ (n ≤ i)
lower i n = go (ltb i n) refl
  where
    go : (b : Bool) → ltb i n ≡ b → (i < n) ⊎ (n ≤ i)
    go true e = inl (ltb-true i n e)
    go false e = inr (ltb-false i n e)

-- no place below n has a hit, or place i is the lowest that has one
pub data FirstOfRow (p : ℕ → Option FilterNumber) (n : ℕ) : Type 0 where
  nowhere : first p n ≡ None → ((j : ℕ) → j < n → p j ≡ None) → FirstOfRow p n
  at : (i : ℕ) (x : FilterNumber) → i < n → p i ≡ Some x → first p n ≡ Some x → ((j : ℕ) → j < i → p j ≡ None) → FirstOfRow p n

-- `first` gives the hit of the lowest place that has one
pub first_of-row : (p : ℕ → Option FilterNumber) (n : ℕ) → FirstOfRow p n
unfolding first
first_of-row p zero = nowhere refl (λ j h. absurd (omega arith))
first_of-row p (suc n) = next (first_of-row p n) (p n) refl
  where
    all : ((j : ℕ) → j < n → p j ≡ None) → p n ≡ None → (j : ℕ) → j < suc n → p j ≡ None
    all q e j h = elim (lower j n) [ inl l ↦ q j l | inr g ↦ let same : j ≡ n = omega arith in rw same e ]

    next : FirstOfRow p n → (h : Option FilterNumber) → p n ≡ h → FirstOfRow p (suc n)
    next (at i x l e s q) h d = at i x (omega arith) e (rw s) q
    next (nowhere s q) (Some x) d = at n x (omega arith) d (rw (s, d)) q
    next (nowhere s q) None d = nowhere (rw (s, d)) (all q d)

-- a later hit has no lower number
abbrev pub Ascending : (ℕ → Option FilterNumber) → ℕ → Type 0
Ascending p n = (i j : ℕ) (x y : FilterNumber) → i < j → j < n → p i ≡ Some x → p j ≡ Some y → x.0 ≤ y.0

-- where the numbers ascend, the first hit has the lowest number
pub first-lowest : (p : ℕ → Option FilterNumber) (n : ℕ) → Ascending p n → (i : ℕ) (y : FilterNumber) → i < n → p i ≡ Some y
    → (x : FilterNumber) × (first p n ≡ Some x) × (x.0 ≤ y.0)
first-lowest p n o i y l e = go (first_of-row p n)
  where
    after : (m : ℕ) (x : FilterNumber) → p m ≡ Some x → ((j : ℕ) → j < m → p j ≡ None) → x.0 ≤ y.0
    after m x d q =
        elim (lower i m) [
          | inl h ↦ nothing_no_filter (q i h) e
          | inr h ↦ elim (lower m i) [
            | inl h₂ ↦ o m i x y h₂ l d e
            | inr h₂ ↦ let same : m ≡ i = omega arith in let both : x ≡ y = cc in rw both (le_refl y.0)
          ]
        ]

    go : FirstOfRow p n → (x : FilterNumber) × (first p n ≡ Some x) × (x.0 ≤ y.0)
    go (nowhere s q) = nothing_no_filter (q i l) e
    go (at m x h d s q) = (x, s, after m x d q)

-- ---- the filters of a bank

-- a bank has four filters at the most
pub width-le : (k : FilterClass) → width k ≤ 4
width-le List32 = omega arith
width-le Mask32 = omega arith
width-le List16 = omega arith
width-le Mask16 = omega arith

-- so no more are looked at
pub tried-le : (g : Filters) (k : FilterClass) (f : Fifo) (b : Bank) → tried g k f b ≤ 4
unfolding tried
tried-le g k f b = go (searched g k f b)
  where
    go : (s : Bool) → pick s (width k) 0 ≤ 4
    go false = omega arith
    go true = width-le k

none-past : (l : List banks.Filter) (j w : ℕ) → length l ≤ j → taken_at l j w ≡ false
none-past [] j w h = refl
none-past (x ∷ l) zero w h = absurd (omega arith)
none-past (x ∷ l) (suc j) w h = none-past l j w (omega arith)

-- no filter past a bank's last takes a word
pub no_filter : (k : FilterClass) (a b j w : ℕ) → width k ≤ j → matches k a b j w ≡ false
unfolding matches
no_filter List32 a b j w h = none-past (filters List32 a b) j (word_for List32 w) h
no_filter Mask32 a b j w h = none-past (filters Mask32 a b) j (word_for Mask32 w) h
no_filter List16 a b j w h = none-past (filters List16 a b) j (word_for List16 w) h
no_filter Mask16 a b j w h = none-past (filters Mask16 a b) j (word_for Mask16 w) h

-- so a filter that takes one is among the bank's
pub filter-within : (k : FilterClass) (a b j w : ℕ) → matches k a b j w ≡ true → j < width k
filter-within k a b j w e = elim (lower j (width k)) [
  | inl l ↦ l
  | inr h ↦ let none = no_filter k a b j w h in let z : ◌≡◌ {A = ℕ} 0 1 = cc in absurd (omega arith)
]

module _ (n : ℕ) (g : Filters) (v : List ℕ) (w : ℕ) (k : FilterClass) (f : Fifo) (b : Bank) (j : ℕ) where
  -- a filter that does not take the word is no hit
  pub no_hit_lem : matches k (first_word v b) (second_word v b) j w ≡ false → hit_at n g v w k f b j ≡ None
  unfolding hit_at
  no_hit_lem e = rw e

  -- one that takes it is a hit with its number
  pub hit : matches k (first_word v b) (second_word v b) j w ≡ true → hit_at n g v w k f b j ≡ Some (number_of n g f b j)
  unfolding hit_at
  hit e = rw e
