-- What a search finds in one class, and the class that wins. Assumes nothing.
use Rattle.std.proofs.Common.{◌≡◌, ℕ, zero, suc, ◌+◌, ◌/◌, ◌%◌, ◌^◌, ◌<◌, ◌≤◌, Bool, true, false, ◌||◌, eqb, ltb, List, [], ◌∷◌, length, sym, refl, ap, ◌∙◌, add-zero, arith, length-append, ltb-false, ltb-true, le-ltb, lt-ltb, Option, Some, None}
use lib.Bits.{bit_and, and_zero_l}
use Rattle.base.specs.Base.{pick, bit}
use Rattle.model.specs.Banks.{bank, class_of, rank, width, own, number_of}
use Rattle.model.specs.Search.{first, searched, tried, hit_at, hit_in, first_hit, better, or_next, chosen, acceptance}
use Rattle.model.specs.declared.Filters.{Filters}
use Rattle.model.specs.declared.Bank.{Bank}
use Rattle.model.specs.declared.Fifo.{Fifo}
use Rattle.model.specs.declared.Fifo.TheVariants.{F0, F1}
use Rattle.model.specs.declared.FilterNumber.{FilterNumber}
use Rattle.model.specs.declared.FilterClass.{FilterClass}
use Rattle.model.specs.declared.FilterClass.TheVariants.{List32, Mask32, List16, Mask16}
use Rattle.model.proofs.FirstHit.{width-le}
use Rattle.model.proofs.Preference.{last-class}
use Rattle.filter.specs.Compared.{Candidate, of_banks, row, up_to_first, takes_frame, up_to_match, compared_in, is_into, up_to_class, compared_filters, compared}
use Rattle.filter.specs.Places.{hit_of, among, limited, first_of, FirstIn, Leads, any_place, counted, Best}
use Rattle.filter.specs.declared.Place.{Place}
use Rattle.filter.specs.declared.FirstMatch.{FirstMatch}
use Rattle.filter.specs.declared.Leading.{Leading}
use Rattle.filter.proofs.BankWords.{no_bit, searched-bit}
use Rattle.filter.proofs.Candidates.{sum-four, of_banks-same, of_banks_skip}
use Rattle.filter.proofs.Comparing.{length-compared, compared_in-both}
use Rattle.filter.proofs.Passed.{no_match_lem, limited-all}

-- ---- the filter at a place, or none

pub hit-found : (g : Filters) (f : Fifo) (p : Place) → p.0 < 128 → (x : FilterNumber) × (hit_of g f p ≡ Some x)
unfolding hit_of
hit-found g f p h = (number_of 14 g f (bank (p.0 / 4)) (p.0 % 4), rw (lt-ltb p.0 128 h))

pub hit-none : (g : Filters) (f : Fifo) (p : Place) → 128 ≤ p.0 → hit_of g f p ≡ None
unfolding hit_of
hit-none g f p h = rw (le-ltb p.0 128 h)

-- ---- searches of the same filters

first-same : (p q : ℕ → Option FilterNumber) (n : ℕ) → ((i : ℕ) → i < n → p i ≡ q i) → first p n ≡ first q n
unfolding first
first-same p q zero e = refl
first-same p q (suc n) e = rw (first-same p q n (λ i l. e i (omega arith)), e n (omega arith))

pub first_of-same : (g : Filters) (v : List ℕ) (w : ℕ) (k : FilterClass) (f : Fifo) (s t : Bank → ℕ)
    → ((i : ℕ) → i < 14 → s (bank i) ≡ t (bank i)) → first_of g v w k f s ≡ first_of g v w k f t
unfolding first_of
first_of-same g v w k f s t e = first-same _ _ 14 (λ i l. ap (first (hit_at 14 g v w k f (bank i))) (e i l))

-- where no filter is looked at, nothing is found or compared
module _ (g : Filters) (v : List ℕ) (w : ℕ) (k : FilterClass) (f : Fifo) (t : Bank → ℕ) (none : (i : ℕ) → i < 14 → t (bank i) ≡ 0) where
  pub nothing-found : first_of g v w k f t ≡ None
  nothing-found = no_match_lem g v w k f t (λ i j l h. absurd (omega (arith, none i l)))

  pub nothing-compared : length (up_to_first (takes_frame v w k) (of_banks t 14)) ≡ 0
  unfolding of_banks row up_to_first
  nothing-compared = rw (of_banks_skip t 0 14 (omega arith) (λ j p q. none j q))

-- ---- one class

module _ (g : Filters) (v : List ℕ) (w : ℕ) (k : FilterClass) where
  first_of-tried : (f : Fifo) → first_of g v w k f (tried g k f) ≡ first_hit 14 g v w k f
  unfolding first_of first_hit hit_in
  first_of-tried f = refl

  among-tried : (f : Fifo) (x : ℕ) → ((b : Bank) → b.0 < 32 → bit b.0 x ≡ searched g k f b)
      → (i : ℕ) → i < 14 → among k x (bank i) ≡ tried g k f (bank i)
  unfolding tried
  among-tried f x e i h = rw (e (bank i) (omega arith))

  -- where nothing is left out
  unlimited : (x i : ℕ) → i < 14 → limited 0xffffffff (among k x) (bank i) ≡ among k x (bank i)
  unlimited x i h = limited-all 0xffffffff (among k x) (bank i) (omega (arith, sum-four (λ (j : ℕ). among k x (bank j)) i (λ j. few (bit j x))))
    where
      few : (b : Bool) → pick b (width k) 0 ≤ 4
      few true = width-le k
      few false = omega arith

  all-tried : (f : Fifo) (x : ℕ) → ((b : Bank) → b.0 < 32 → bit b.0 x ≡ searched g k f b)
      → (i : ℕ) → i < 14 → limited 0xffffffff (among k x) (bank i) ≡ tried g k f (bank i)
  all-tried f x e i h = unlimited x i h ∙ among-tried f x e i h

  -- the first match in the word of the banks that are searched is that of the class in the FIFO
  pub found_in : (f : Fifo) (x : ℕ) (p : FirstMatch) → FirstIn v w k x 0xffffffff p → ((b : Bank) → b.0 < 32 → bit b.0 x ≡ searched g k f b)
      → (hit_of g f p.place ≡ first_hit 14 g v w k f) × (p.compared ≡ length (up_to_match 14 g v w k f))
  unfolding up_to_match
  found_in f x p s e = (
    s.hit g f ∙ first_of-same g v w k f _ _ (all-tried f x e) ∙ first_of-tried f,
    s.compared ∙ ap (λ (l : List Candidate). length (up_to_first (takes_frame v w k) l)) (of_banks-same _ _ 14 (all-tried f x e)),
  )

  -- where no active bank is of the class; x is the word of the banks of the class
  module _ (x : ℕ) (e : (b : Bank) → b.0 < 32 → bit b.0 x ≡ eqb (rank (class_of g b)) (rank k)) (ha : g.assignment < 2 ^ 32)
      (z : bit_and g.activation x ≡ 0) where
    none_tried : (f : Fifo) (i : ℕ) → i < 14 → tried g k f (bank i) ≡ 0
    none_tried f i h =
        sym (among-tried f 0 (λ b l. rw (z, and_zero_l (own f g)) at (searched-bit g k f x b l ha (e b l))) i h) ∙ rw (no_bit i)

    pub none_of_class : (f : Fifo) → first_hit 14 g v w k f ≡ None
    none_of_class f = sym (first_of-tried f) ∙ nothing-found g v w k f _ (none_tried f)

    pub none-compared : length (compared_in 14 g v w k) ≡ 0
    unfolding up_to_match
    none-compared =
        compared_in-both 14 g v w k (none_of_class F0)
        ∙ omega (arith, nothing-compared g v w k F0 (tried g k F0) (none_tried F0), nothing-compared g v w k F1 (tried g k F1) (none_tried F1))

-- ---- the class that wins

pub into_any : (x : FilterNumber) (e : Option FilterNumber) → is_into (better (Some x) e) ≡ true
into_any x None = refl
into_any x (Some y) = go (ltb y.0 x.0)
  where
    go : (b : Bool) → is_into (pick b (Some (F1, y)) (Some (F0, x))) ≡ true
    go true = refl
    go false = refl

into_stays : (a b : Option (Fifo × FilterNumber)) → is_into a ≡ true → or_next a b ≡ a
into_stays (Some (f, x)) b e = refl
into_stays None b e = let z : ◌≡◌ {A = ℕ} 0 1 = cc in absurd (omega arith)

counted_none : (p : Leading) → counted p 0 ≡ p
unfolding counted
counted_none p = ap (λ (m : ℕ). record { f0 = p.f0; f1 = p.f1; rest = p.rest; compared = m }) (add-zero p.compared)

module _ (g : Filters) (v : List ℕ) (w : ℕ) where
  -- the classes of l are left, and m filters have been compared
  pub record Reaches (l : List FilterClass) (m : ℕ) : Type 0 where
    pub accepted : chosen (first_hit 14 g v w) l ≡ acceptance 14 g v w
    pub counts : m + length (up_to_class (first_hit 14 g v w) (compared_in 14 g v w) l) ≡ compared 14 g v w

  pub all_classes : Reaches (List32 ∷ Mask32 ∷ List16 ∷ Mask16 ∷ []) 0
  unfolding acceptance compared compared_filters
  all_classes = record { accepted = refl; counts = omega arith }

  module _ (k : FilterClass) (l : List FilterClass) (m : ℕ) (p : Leading) (h : Leads g v w k p) (s : Reaches (k ∷ l) m) where
    -- the better one of the two FIFOs
    abbrev here : Option (Fifo × FilterNumber)
    here = better (first_hit 14 g v w k F0) (first_hit 14 g v w k F1)

    length_here : length (up_to_class (first_hit 14 g v w) (compared_in 14 g v w) (k ∷ l))
        ≡ length (compared_in 14 g v w k)
        + length (pick (is_into here) [] (up_to_class (first_hit 14 g v w) (compared_in 14 g v w) l))
    unfolding up_to_class
    length_here =
        length-append (compared_in 14 g v w k) (pick (is_into here) [] (up_to_class (first_hit 14 g v w) (compared_in 14 g v w) l))

    -- a class without a match leaves the choice to those after it
    class_passes : any_place p ≡ false → Reaches l (p.compared + m)
    unfolding any_place chosen
    class_passes e = go (ltb p.f0.0 128) (ltb p.f1.0 128) refl refl e
      where
        go : (a b : Bool) → ltb p.f0.0 128 ≡ a → ltb p.f1.0 128 ≡ b → (a || b) ≡ false → Reaches l (p.compared + m)
        go true b d₀ d₁ e = let z : ◌≡◌ {A = ℕ} 0 1 = cc in absurd (omega arith)
        go false true d₀ d₁ e = let z : ◌≡◌ {A = ℕ} 0 1 = cc in absurd (omega arith)
        go false false d₀ d₁ e =
            let far = ltb-false p.f0.0 128 d₀ in
            let none₀ : first_hit 14 g v w k F0 ≡ None = sym h.hit0 ∙ hit-none g F0 p.f0 far in
            let none₁ : first_hit 14 g v w k F1 ≡ None = sym (h.hit1 far) ∙ hit-none g F1 p.f1 (ltb-false p.f1.0 128 d₁) in
            record {
              accepted = rw (none₀, none₁) at s.accepted;
              counts = omega (arith, s.counts, rw (none₀, none₁) at length_here, h.compared1 far);
            }

    -- one that is the last to be searched wins
    module _ (few : m ≤ 336) (last : or_next here (chosen (first_hit 14 g v w) l) ≡ here)
        (alone : pick (is_into here) [] (up_to_class (first_hit 14 g v w) (compared_in 14 g v w) l) ≡ []) where
      decided : here ≡ acceptance 14 g v w
      unfolding chosen
      decided = sym last ∙ s.accepted

      all-counted : m + length (compared_in 14 g v w k) ≡ compared 14 g v w
      all-counted = omega (arith, s.counts, rw alone at length_here)

      best : Best g v w (record { class = k; leading = counted p m })
      unfolding counted
      best = record {
        within0 = h.within0;
        within1 = h.within1;
        few = omega (arith, h.few);
        hit0 = h.hit0;
        rest = h.rest;
        accepted0 = λ f. rw h.hit0 decided;
        compared0 = λ f. rw h.hit0 (omega (arith, all-counted, length-compared 14 g v w k, h.compared0 f));
        accepted1 = λ f. rw (h.hit1 f, ← (sym h.hit0 ∙ hit-none g F0 p.f0 f)) decided;
        compared1 = λ f. omega (arith, all-counted, h.compared1 f);
      }

    -- so does one with a match
    class-wins : m ≤ 336 → any_place p ≡ true → Best g v w (record { class = k; leading = counted p m })
    unfolding any_place
    class-wins few e = best few (into_stays here _ into) (rw into)
      where
        go : (a b : Bool) → ltb p.f0.0 128 ≡ a → ltb p.f1.0 128 ≡ b → (a || b) ≡ true → is_into here ≡ true
        go true b d₀ d₁ e =
            let found = hit-found g F0 p.f0 (ltb-true p.f0.0 128 d₀) in rw (sym h.hit0 ∙ found.1) (into_any found.0 (first_hit 14 g v w k F1))
        go false true d₀ d₁ e =
            let far = ltb-false p.f0.0 128 d₀ in
            let found = hit-found g F1 p.f1 (ltb-true p.f1.0 128 d₁) in
            rw (sym h.hit0 ∙ hit-none g F0 p.f0 far, sym (h.hit1 far) ∙ found.1)
        go false false d₀ d₁ e = let z : ◌≡◌ {A = ℕ} 0 1 = cc in absurd (omega arith)

        into : is_into here ≡ true
        into = go (ltb p.f0.0 128) (ltb p.f1.0 128) refl refl e

  -- the same of a class with the comparisons of those before it
  module _ (k : FilterClass) (l : List FilterClass) (m : ℕ) (p q : Leading) (h : Leads g v w k p) (s : Reaches (k ∷ l) m) (e : q ≡ counted p m) where
    pub counted_passes : any_place q ≡ false → Reaches l q.compared
    unfolding counted any_place
    counted_passes none = rw e (class_passes k l m p h s (rw e at none))

    pub counted-few : q.compared ≤ 112 + m
    unfolding counted
    counted-few = rw e (omega (arith, h.few))

    pub counted-wins : m ≤ 336 → any_place q ≡ true → Best g v w (record { class = k; leading = q })
    unfolding counted any_place
    counted-wins few any = rw e (class-wins k l m p h s few (rw e at any))

  -- the first class has nothing before it
  pub first_passes : (k : FilterClass) (l : List FilterClass) (p : Leading) → Leads g v w k p → Reaches (k ∷ l) 0 → any_place p ≡ false
      → Reaches l p.compared
  first_passes k l p h s = counted_passes k l 0 p p h s (sym (counted_none p))

  pub first-wins : (k : FilterClass) (l : List FilterClass) (p : Leading) → Leads g v w k p → Reaches (k ∷ l) 0 → any_place p ≡ true
      → Best g v w (record { class = k; leading = p })
  first-wins k l p h s = counted-wins k l 0 p p h s (sym (counted_none p)) (omega arith)

  -- and behind the last there is none
  pub last-wins : (k : FilterClass) (m : ℕ) (p q : Leading) → Leads g v w k p → Reaches (k ∷ []) m → q ≡ counted p m → m ≤ 336
      → Best g v w (record { class = k; leading = q })
  unfolding chosen up_to_class
  last-wins k m p q h s e few =
      rw e (best k [] m p h s few (last-class (better (first_hit 14 g v w k F0) (first_hit 14 g v w k F1)))
      (nothing (is_into (better (first_hit 14 g v w k F0) (first_hit 14 g v w k F1)))))
    where
      nothing : (b : Bool) → pick {A = List Candidate} b [] [] ≡ []
      nothing true = refl
      nothing false = refl
