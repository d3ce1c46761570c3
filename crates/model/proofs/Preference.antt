-- The choice among classes, of any type: the winner is one of the hits, and no hit comes before it by class, number, FIFO.
-- Assumes nothing.
use Rattle.std.proofs.Common.{Option, Some, None, unwrap_or}
use mathlib.Core.Path.{◌≡◌, refl, ap, ◌∙◌}
use mathlib.Core.Bool.{Bool, true, false}
use mathlib.Core.List.{List, [], ◌∷◌}
use mathlib.Core.Logic.{inl, inr, ◌↔◌}
use Prim.Native.Nat.{ℕ, zero, suc, ◌≤◌}
use native.Mathlib.Nat.{eq-or-lt_of_le}
use native.Mathlib.Omega.{arith}
use borrow.Author.Tests.{ltb-true, ltb-false}
use lib.Dec.{ltb}
use Rattle.base.specs.Base.{pick}
use Rattle.model.specs.Banks.{filter_number}
use Rattle.model.specs.Search.{better, or_next, chosen}
use Rattle.model.specs.Filtering.{NumberNoLater, NoLater}
use Rattle.model.specs.Shown.{fifo_number}
use Rattle.model.specs.declared.Fifo.{Fifo}
use Rattle.model.specs.declared.Fifo.TheVariants.{F0, F1}
use Rattle.model.specs.declared.FilterNumber.{FilterNumber}
use Rattle.model.proofs.FirstHit.{nothing_no_filter}

-- ---- the order of preference

-- what comes no later than a hit comes no later than one with a higher number
pub no_later_than_higher : (r s : ℕ) (x y z : FilterNumber) (f e : Fifo) → NoLater r x f s y e → y.0 ≤ z.0 → NoLater r x f s z e
no_later_than_higher r s x y z f e (inl p) l = inl p
no_later_than_higher r s x y z f e (inr (p, inl q)) l = inr (p, inl (omega arith))
no_later_than_higher r s x y z f e (inr (p, inr q)) l =
    inr (p, elim (eq-or-lt_of_le l) [ inl t ↦ inr (q.0 ∙ t, q.1) | inr t ↦ inl (omega (arith, q.0)) ])

-- FIFOs of the same number are the same
pub fifo_injective : (f e : Fifo) → fifo_number f ≡ fifo_number e → f ≡ e
fifo_injective F0 F0 h = refl
fifo_injective F1 F1 h = refl
fifo_injective F0 F1 h = absurd (omega arith)
fifo_injective F1 F0 h = absurd (omega arith)

-- of two hits neither of which comes later, number and FIFO are the same
pub no_later-both_ways : (r s : ℕ) (x y : FilterNumber) (f e : Fifo) → NoLater r x f s y e → NoLater s y e r x f → (f ≡ e) × (x ≡ y)
no_later-both_ways r s x y f e (inr (p, inr a)) (inr (q, inr b)) = (fifo_injective f e (omega arith), ap filter_number a.0)
no_later-both_ways r s x y f e (inr (p, inr a)) (inr (q, inl b)) = absurd (omega arith)
no_later-both_ways r s x y f e (inr (p, inr a)) (inl q) = absurd (omega arith)
no_later-both_ways r s x y f e (inr (p, inl a)) (inr (q, inr b)) = absurd (omega arith)
no_later-both_ways r s x y f e (inr (p, inl a)) (inr (q, inl b)) = absurd (omega arith)
no_later-both_ways r s x y f e (inr (p, inl a)) (inl q) = absurd (omega arith)
no_later-both_ways r s x y f e (inl p) (inr q) = absurd (omega (arith, q.0))
no_later-both_ways r s x y f e (inl p) (inl q) = absurd (omega arith)

-- where two frames go is the same: FIFO and filter are
pub into-eq : {e f : Fifo} {x y : FilterNumber} → ◌≡◌ {A = Option (Fifo × FilterNumber)} (Some (e, x)) (Some (f, y)) → (e ≡ f) × (x ≡ y)
into-eq {x = x} w =
    let into : Option (Fifo × FilterNumber) → Fifo × FilterNumber = λ o. unwrap_or o (F0, x) in
    (ap (λ (o : Option (Fifo × FilterNumber)). (into o).0) w, ap (λ (o : Option (Fifo × FilterNumber)). (into o).1) w)

-- ---- one class: t f is its hit in FIFO f

-- x in FIFO f is the hit of that FIFO, and the other FIFO's comes no earlier
record Better (t : Fifo → Option FilterNumber) (f : Fifo) (x : FilterNumber) : Type 0 where
  match : t f ≡ Some x
  no_later : (e : Fifo) (y : FilterNumber) → t e ≡ Some y → NumberNoLater x f y e

abbrev other : Fifo → Fifo
other F0 = F1
other F1 = F0

module _ (t : Fifo → Option FilterNumber) where
  itself : (f : Fifo) (x y : FilterNumber) → t f ≡ Some x → t f ≡ Some y → NumberNoLater x f y f
  itself f x y p d = let s : x ≡ y = cc in rw s (inr (refl, omega arith))

  against : (f : Fifo) (x : FilterNumber) → t f ≡ Some x
      → ((y : FilterNumber) → t (other f) ≡ Some y → NumberNoLater x f y (other f)) → Better t f x
  against f x p q = record { match = p; no_later = go f p q }
    where
      go : (f : Fifo) → t f ≡ Some x → ((y : FilterNumber) → t (other f) ≡ Some y → NumberNoLater x f y (other f))
          → (e : Fifo) (y : FilterNumber) → t e ≡ Some y → NumberNoLater x f y e
      go F0 p q F0 y d = itself F0 x y p d
      go F0 p q F1 y d = q y d
      go F1 p q F0 y d = q y d
      go F1 p q F1 y d = itself F1 x y p d

  of_two : (u z : FilterNumber) (b : Bool) → t F0 ≡ Some u → t F1 ≡ Some z → ltb z.0 u.0 ≡ b
      → (f : Fifo) (x : FilterNumber) → pick {A = Option (Fifo × FilterNumber)} b (Some (F1, z)) (Some (F0, u)) ≡ Some (f, x) → Better t f x
  of_two u z true p q h f x w =
      let e : F1 ≡ f = (into-eq w).0 in
      let s : z ≡ x = (into-eq w).1 in
      rw (← e, ← s) (against F1 z q (λ y d. let same : u ≡ y = cc in rw (← same) (inl (ltb-true _ _ h))))
  of_two u z false p q h f x w =
      let e : F0 ≡ f = (into-eq w).0 in
      let s : u ≡ x = (into-eq w).1 in
      rw (← e, ← s) (against F0 u p (λ y d. let same : z ≡ y = cc in rw (← same) (level (ltb-false _ _ h))))
    where
      level : u.0 ≤ z.0 → NumberNoLater u F0 z F1
      level l = elim (eq-or-lt_of_le l) [ inl e ↦ inr (e, omega arith) | inr h ↦ inl h ]

  better-wins : (a b : Option FilterNumber) → t F0 ≡ a → t F1 ≡ b → (f : Fifo) (x : FilterNumber) → better a b ≡ Some (f, x) → Better t f x
  better-wins (Some u) (Some z) p q f x w = of_two u z (ltb z.0 u.0) p q refl f x w
  better-wins (Some u) None p q f x w =
      let e : F0 ≡ f = (into-eq w).0 in let s : u ≡ x = (into-eq w).1 in rw (← e, ← s) (against F0 u p (λ y d. nothing_no_filter q d))
  better-wins None (Some z) p q f x w =
      let e : F1 ≡ f = (into-eq w).0 in let s : z ≡ x = (into-eq w).1 in rw (← e, ← s) (against F1 z q (λ y d. nothing_no_filter p d))
  better-wins None None p q f x w = let z : ◌≡◌ {A = ℕ} 0 1 = cc in absurd (omega arith)

  better-none : (a b : Option FilterNumber) → t F0 ≡ a → t F1 ≡ b → better a b ≡ None → (e : Fifo) → t e ≡ None
  better-none (Some u) (Some z) p q w e = go (ltb z.0 u.0) w
    where
      go : (b : Bool) → pick {A = Option (Fifo × FilterNumber)} b (Some (F1, z)) (Some (F0, u)) ≡ None → t e ≡ None
      go true w = let z : ◌≡◌ {A = ℕ} 0 1 = cc in absurd (omega arith)
      go false w = let z : ◌≡◌ {A = ℕ} 0 1 = cc in absurd (omega arith)
  better-none (Some u) None p q w e = let z : ◌≡◌ {A = ℕ} 0 1 = cc in absurd (omega arith)
  better-none None (Some z) p q w e = let z : ◌≡◌ {A = ℕ} 0 1 = cc in absurd (omega arith)
  better-none None None p q w F0 = p
  better-none None None p q w F1 = q

-- ---- the classes, the preferred first: h k f is the hit of class k in FIFO f

-- with no other class to come, the winner of the class stays
pub last-class : (a : Option (Fifo × FilterNumber)) → or_next a None ≡ a
last-class (Some (f, x)) = refl
last-class None = refl

-- class k is the r-th of the list, counted from 0
pub data Place {K : Type 0} : List K → ℕ → K → Type 0 where
  here : {k : K} {l : List K} → Place (k ∷ l) zero k
  there : {k a : K} {l : List K} {r : ℕ} → Place l r k → Place (a ∷ l) (suc r) k

-- x in FIFO f is the hit of a class of the list, and no hit of any class in any FIFO comes before it
pub record Best {K : Type 0} (h : K → Fifo → Option FilterNumber) (l : List K) (f : Fifo) (x : FilterNumber) : Type 0 where
  pub rank : ℕ
  pub class : K
  pub placed : Place l rank class
  pub match : h class f ≡ Some x
  pub no_later : (s : ℕ) (k : K) (e : Fifo) (y : FilterNumber) → Place l s k → h k e ≡ Some y → NoLater rank x f s y e

module _ {K : Type 0} (h : K → Fifo → Option FilterNumber) where
  in_first : (a : K) (l : List K) (f : Fifo) (x : FilterNumber) → Better (h a) f x
      → (s : ℕ) (k : K) (e : Fifo) (y : FilterNumber) → Place (a ∷ l) s k → h k e ≡ Some y → NoLater 0 x f s y e
  in_first a l f x b s k e y here d = inr (refl, b.no_later e y d)
  in_first a l f x b s k e y (there p) d = inl (omega arith)

  in_later : (a : K) (l : List K) (f : Fifo) (x : FilterNumber) → ((e : Fifo) → h a e ≡ None) → (b : Best h l f x)
      → (s : ℕ) (k : K) (e : Fifo) (y : FilterNumber) → Place (a ∷ l) s k → h k e ≡ Some y → NoLater (suc b.rank) x f s y e
  in_later a l f x q b s k e y here d = nothing_no_filter (q e) d
  in_later a l f x q b s k e y (there p) d =
      elim (b.no_later _ k e y p d) [ inl o ↦ inl (omega arith) | inr o ↦ inr (ap suc o.0, o.1) ]

  -- the winner is one of the hits, and none comes before it by class, number, FIFO
  pub best : (l : List K) (f : Fifo) (x : FilterNumber) → chosen h l ≡ Some (f, x) → Best h l f x
  unfolding chosen
  best [] f x w = let z : ◌≡◌ {A = ℕ} 0 1 = cc in absurd (omega arith)
  best (a ∷ l) f x w = go (better (h a F0) (h a F1)) refl w (best l f x)
    where
      go : (b : Option (Fifo × FilterNumber)) → better (h a F0) (h a F1) ≡ b → or_next b (chosen h l) ≡ Some (f, x)
          → (chosen h l ≡ Some (f, x) → Best h l f x) → Best h (a ∷ l) f x
      go (Some (e, y)) d w next =
          let b = better-wins (h a) (h a F0) (h a F1) refl refl f x (d ∙ w) in
          record { rank = 0; class = a; placed = here; match = b.match; no_later = in_first a l f x b }
      go None d w next =
          let b = next w in
          let none = better-none (h a) (h a F0) (h a F1) refl refl d in
          record { rank = suc b.rank; class = b.class; placed = there b.placed; match = b.match; no_later = in_later a l f x none b }

  -- no class has a hit in either FIFO
  abbrev pub NoHits : List K → Type 0
  NoHits l = (s : ℕ) (k : K) (e : Fifo) → Place l s k → h k e ≡ None

  rejected_no_hits : (l : List K) → chosen h l ≡ None → NoHits l
  unfolding chosen
  rejected_no_hits [] w = λ s k e p. elim p [ ]
  rejected_no_hits (a ∷ l) w = go (better (h a F0) (h a F1)) refl w (rejected_no_hits l)
    where
      go : (b : Option (Fifo × FilterNumber)) → better (h a F0) (h a F1) ≡ b → or_next b (chosen h l) ≡ None
          → (chosen h l ≡ None → NoHits l) → NoHits (a ∷ l)
      go (Some (f, x)) d w next s k e p = let z : ◌≡◌ {A = ℕ} 0 1 = cc in absurd (omega arith)
      go None d w next s k e here = better-none (h a) (h a F0) (h a F1) refl refl d e
      go None d w next s k e (there p) = next w _ k e p

  no_hits_rejected : (l : List K) → NoHits l → chosen h l ≡ None
  unfolding chosen
  no_hits_rejected [] q = refl
  no_hits_rejected (a ∷ l) q = rw (q 0 a F0 here, q 0 a F1 here) (no_hits_rejected l (λ s k e p. q (suc s) k e (there p)))

  -- it is rejected exactly when no class has a hit in either FIFO
  pub rejected_iff_no_hits : (l : List K) → (chosen h l ≡ None) ↔ NoHits l
  rejected_iff_no_hits l = (rejected_no_hits l, no_hits_rejected l)
