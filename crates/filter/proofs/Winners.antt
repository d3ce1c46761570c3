-- What stands at a place, and the number that stands for a winner and tells its acceptance. Assumes nothing.
use Rattle.std.proofs.Common.{◌≡◌, ℕ, ◌+◌, ◌*◌, ◌/◌, ◌%◌, ◌<◌, ◌≤◌, Bool, true, false, ltb, List, refl, ap, ◌∙◌, arith, ltb-false, ltb-true, le-ltb, lt-ltb, Option, Some, None}
use borrow.Author.Tests.{lt-leb}
use Rattle.base.specs.Base.{pick}
use Rattle.model.specs.Banks.{bank, class_of, banks_below, first_number, number_of}
use Rattle.model.specs.Search.{first, searched, tried, hit_at, hit_in, first_hit, better, chosen, acceptance}
use Rattle.model.specs.declared.Filters.{Filters}
use Rattle.model.specs.declared.Fifo.{Fifo}
use Rattle.model.specs.declared.Fifo.TheVariants.{F0, F1}
use Rattle.model.specs.declared.FilterNumber.{FilterNumber}
use Rattle.model.proofs.FirstHit.{nothing_no_filter}
use Rattle.model.proofs.FilterNumbers.{numbers_below-le, fmi_small}
use Rattle.model.proofs.Numbering.{banks_below-le}
use Rattle.filter.specs.Places.{Within, hit_of, number_at, winner_of, accepted_by, lower, filters_of}
use Rattle.filter.specs.declared.Place.{Place}

-- ---- the filter at a place

-- bank i and filter j come back from their place
pub hit_at-place : (g : Filters) (f : Fifo) (i j : ℕ) → i < 14 → j < 4 → hit_of g f (record { 0 = 4 * i + j }) ≡ Some (number_of 14 g f (bank i) j)
unfolding hit_of
hit_at-place g f i j hi hj =
    let bank-back : (4 * i + j) / 4 ≡ i = omega arith in
    let filter-back : (4 * i + j) % 4 ≡ j = omega arith in
    rw (lt-ltb (4 * i + j) 128 (omega arith), bank-back, filter-back)

-- the number of a hit, 255 for none
abbrev number_in : Option FilterNumber → ℕ
number_in (Some x) = x.0
number_in None = 255

module _ (g : Filters) (f : Fifo) (p : Place) where
  number_of-hit : number_at g f p ≡ number_in (hit_of g f p)
  unfolding number_at hit_of
  number_of-hit = go (ltb p.0 128)
    where
      go : (b : Bool) → pick b ((first_number 14 g f (bank (p.0 / 4))).0 + p.0 % 4) 255 ≡ number_in (pick b (Some (number_of 14 g f (bank (p.0 / 4)) (p.0 % 4))) None)
      go true = refl
      go false = refl

  hit_small : (x : FilterNumber) → hit_of g f p ≡ Some x → x.0 < 255
  unfolding hit_of first_number
  hit_small x e = go (ltb p.0 128) e
    where
      go : (b : Bool) → pick b (Some (number_of 14 g f (bank (p.0 / 4)) (p.0 % 4))) None ≡ Some x → x.0 < 255
      go false e = nothing_no_filter refl e
      go true e =
          let same : number_of 14 g f (bank (p.0 / 4)) (p.0 % 4) ≡ x = cc in
          let i = banks_below 14 (bank (p.0 / 4)) in
          rw (← same) (omega (arith, numbers_below-le f g i, banks_below-le 14 (bank (p.0 / 4))))

  -- numbers are 255 at the most
  pub number_at-le : number_at g f p ≤ 255
  number_at-le = rw number_of-hit (go (hit_of g f p) refl)
    where
      go : (h : Option FilterNumber) → hit_of g f p ≡ h → number_in h ≤ 255
      go (Some x) e = omega (arith, hit_small x e)
      go None e = omega arith

  -- the number of a filter that is found
  pub number-found : (x : FilterNumber) → hit_of g f p ≡ Some x → number_at g f p ≡ x.0
  number-found x e = number_of-hit ∙ rw e

  -- it is below 56
  pub number_small : Within p → p.0 < 128 → number_at g f p ≤ 56
  unfolding number_at first_number
  number_small h l =
      let i = banks_below 14 (bank (p.0 / 4)) in
      rw (lt-ltb p.0 128 l, lt-ltb (p.0 / 4) 14 (omega (arith, h.1 l))) (omega (arith, h.1 l, numbers_below-le f g (p.0 / 4)))

-- ---- the smaller of two winners

abbrev twice : Option FilterNumber → ℕ
twice h = 2 * number_in h

-- of the first matches in both FIFOs, whose numbers are below 255, the better one has the smaller number
smaller : (h e : Option FilterNumber) → ((x : FilterNumber) → h ≡ Some x → x.0 < 255) → ((y : FilterNumber) → e ≡ Some y → y.0 < 255)
    → record { 0 = pick (ltb (twice h) (twice e + 1)) (twice h) (twice e + 1) } ≡ winner_of (better h e)
unfolding winner_of
smaller (Some x) (Some y) hx hy = go (ltb y.0 x.0) refl
  where
    go : (b : Bool) → ltb y.0 x.0 ≡ b
        → record { 0 = pick (ltb (2 * x.0) (2 * y.0 + 1)) (2 * x.0) (2 * y.0 + 1) } ≡ winner_of (pick b (Some (F1, y)) (Some (F0, x)))
    go true e = let less = ltb-true y.0 x.0 e in rw (le-ltb (2 * x.0) (2 * y.0 + 1) (omega arith))
    go false e = let less = ltb-false y.0 x.0 e in rw (lt-ltb (2 * x.0) (2 * y.0 + 1) (omega arith))
smaller (Some x) None hx hy = let small = hx x refl in rw (lt-ltb (2 * x.0) 511 (omega arith))
smaller None (Some y) hx hy = let small = hy y refl in rw (le-ltb 510 (2 * y.0 + 1) (omega arith))
smaller None None hx hy = refl

-- so the winner of two places is that of their hits
pub lower-wins : (g : Filters) (p q : Place)
    → lower (number_at g F0 p) (number_at g F1 q) ≡ winner_of (better (hit_of g F0 p) (hit_of g F1 q))
unfolding lower
lower-wins g p q =
    rw (number_of-hit g F0 p, number_of-hit g F1 q) (smaller (hit_of g F0 p) (hit_of g F1 q) (hit_small g F0 p) (hit_small g F1 q))

-- without a match in FIFO 0
pub lower_of_one : (g : Filters) (q : Place) → lower 255 (number_at g F1 q) ≡ winner_of (better None (hit_of g F1 q))
unfolding lower
lower_of_one g q =
    rw (number_of-hit g F1 q) (smaller None (hit_of g F1 q) (λ x e. nothing_no_filter refl e) (hit_small g F1 q))

-- ---- the acceptance that a winner stands for

-- the number of an accepted frame's filter, and its FIFO, come back
told : (a : Option (Fifo × FilterNumber)) → ((f : Fifo) (x : FilterNumber) → a ≡ Some (f, x) → x.0 < 56) → accepted_by (winner_of a) ≡ a
unfolding accepted_by winner_of
told None h = refl
told (Some (F0, x)) h =
    let small : x.0 < 56 = h F0 x refl in
    let half : 2 * x.0 / 2 ≡ x.0 = omega arith in
    let even : 2 * x.0 % 2 ≡ 0 = omega arith in
    rw (lt-leb 510 (2 * x.0) (omega arith), half, even)
told (Some (F1, x)) h =
    let small : x.0 < 56 = h F1 x refl in
    let half : (2 * x.0 + 1) / 2 ≡ x.0 = omega arith in
    let odd : (2 * x.0 + 1) % 2 ≡ 1 = omega arith in
    rw (lt-leb 510 (2 * x.0 + 1) (omega arith), half, odd)

-- a search does not look at FINIT
without-finit : (g : Filters) (v : List ℕ) (w : ℕ) → acceptance 14 (filters_of g.mode g.scale g.assignment g.activation) v w ≡ acceptance 14 g v w
unfolding acceptance chosen first_hit hit_in hit_at tried searched class_of first_number first
without-finit g v w = refl

-- so the winner of a search tells its acceptance
pub accepted_winner : (g : Filters) (v : List ℕ) (w : ℕ)
    → accepted_by (winner_of (acceptance 14 (filters_of g.mode g.scale g.assignment g.activation) v w)) ≡ acceptance 14 g v w
accepted_winner g v w = ap (λ (a : Option (Fifo × FilterNumber)). accepted_by (winner_of a)) (without-finit g v w) ∙ told (acceptance 14 g v w) (fmi_small 14 g v w)
