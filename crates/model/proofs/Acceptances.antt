-- Where a frame goes: the FIFO of the active filter that is first by class, number, FIFO among those that take its identifier word;
-- and it is rejected exactly when there is none. Assumes nothing.
use Rattle.std.proofs.Common.{Option, Some, None}
use mathlib.Core.Path.{◌≡◌, refl, ap, ap₂, ◌∙◌}
use mathlib.Core.List.{List, [], ◌∷◌}
use mathlib.Core.Logic.{◌↔◌}
use Prim.Native.Nat.{ℕ, ◌≤◌}
use native.Mathlib.Nat.{le_antisymm}
use native.Mathlib.Omega.{arith}
use Rattle.model.specs.Banks.{filter_number, rank, number_of}
use Rattle.model.specs.Search.{first_hit, acceptance}
use Rattle.model.specs.Filtering.{hit_numbers, acceptance_numbers, ActiveMatch, Lowest, Accepted, NoneTakes, Filtering}
use Rattle.model.specs.Shown.{fifo_number}
use Rattle.model.specs.declared.Filters.{Filters}
use Rattle.model.specs.declared.Bank.{Bank}
use Rattle.model.specs.declared.FilterClass.{FilterClass}
use Rattle.model.specs.declared.FilterClass.TheVariants.{List32, Mask32, List16, Mask16}
use Rattle.model.specs.declared.Fifo.{Fifo}
use Rattle.model.specs.declared.FilterNumber.{FilterNumber}
use Rattle.model.proofs.FirstHit.{nothing_no_filter}
use Rattle.model.proofs.LowestNumber.{lowest, first_hit-active}
use Rattle.model.proofs.Preference.{fifo_injective, no_later_than_higher, no_later-both_ways, Place, here, there, best, rejected_iff_no_hits}

-- ---- the four classes in their order

place : (k : FilterClass) → Place (List32 ∷ Mask32 ∷ List16 ∷ Mask16 ∷ []) (rank k) k
place List32 = here
place Mask32 = there here
place List16 = there (there here)
place Mask16 = there (there (there here))

place-rank : (r : ℕ) (k : FilterClass) → Place (List32 ∷ Mask32 ∷ List16 ∷ Mask16 ∷ []) r k → r ≡ rank k
place-rank r k here = refl
place-rank r k (there here) = refl
place-rank r k (there (there here)) = refl
place-rank r k (there (there (there here))) = refl
place-rank _ k (there (there (there (there {r = r} x)))) = elim x [ ]

-- ---- acceptance

module _ (n : ℕ) (g : Filters) (v : List ℕ) (w : ℕ) where
  accepted-first : (f : Fifo) (x : FilterNumber) → acceptance n g v w ≡ Some (f, x) → Accepted n g v w f x
  unfolding acceptance
  accepted-first f x a =
      let b = best (first_hit n g v w) (List32 ∷ Mask32 ∷ List16 ∷ Mask16 ∷ []) f x a in
      let m = first_hit-active n g v w b.class f x b.match in
      record {
        class = b.class;
        bank = m.0;
        filter = m.1;
        active = m.2;
        number = m.3;
        no_later = λ k e d j t.
            let low = lowest n g v w k e d j t in
            let no-later = b.no_later (rank k) k e low.0 (place k) low.1 in
            rw (← (place-rank b.rank b.class b.placed))
            (no_later_than_higher b.rank (rank k) x low.0 (number_of n g e d j) f e no-later low.2);
      }

  rejected-none : acceptance n g v w ≡ None → NoneTakes n g v w
  unfolding acceptance
  rejected-none a k f b j m =
      let low = lowest n g v w k f b j m in
      nothing_no_filter ((rejected_iff_no_hits (first_hit n g v w) _).0 a (rank k) k f (place k)) low.1

  none-rejected : NoneTakes n g v w → acceptance n g v w ≡ None
  unfolding acceptance
  none-rejected q = (rejected_iff_no_hits (first_hit n g v w) _).1 (λ r k f p. go k f (first_hit n g v w k f) refl)
    where
      go : (k : FilterClass) (f : Fifo) (h : Option FilterNumber) → first_hit n g v w k f ≡ h → first_hit n g v w k f ≡ None
      go k f None e = e
      go k f (Some x) e = let m = first_hit-active n g v w k f x e in absurd (q k f m.0 m.1 m.2)

  -- a frame is rejected exactly when no active filter takes its identifier word
  pub rejected_iff_none-takes : (acceptance n g v w ≡ None) ↔ NoneTakes n g v w
  rejected_iff_none-takes = (rejected-none, none-rejected)

  -- there is only one such filter number and FIFO
  pub accepted_unique : (f e : Fifo) (x y : FilterNumber) → Accepted n g v w f x → Accepted n g v w e y → (f ≡ e) × (x ≡ y)
  accepted_unique f e x y t u =
      let one = t.no_later u.class e u.bank u.filter u.active in
      let two = u.no_later t.class f t.bank t.filter t.active in
      no_later-both_ways (rank t.class) (rank u.class) x y f e (rw u.number one) (rw t.number two)

  first-accepted : (f : Fifo) (x : FilterNumber) → Accepted n g v w f x → acceptance n g v w ≡ Some (f, x)
  first-accepted f x t = go (acceptance n g v w) refl
    where
      go : (a : Option (Fifo × FilterNumber)) → acceptance n g v w ≡ a → acceptance n g v w ≡ Some (f, x)
      go None d = absurd (rejected-none d t.class f t.bank t.filter t.active)
      go (Some (e, y)) d = let same = accepted_unique e f y x (accepted-first e y d) t in d ∙ ap₂ (λ (f : Fifo) (x : FilterNumber). Some (f, x)) same.0 same.1

  -- a frame goes into FIFO f with the filter number x exactly when they are those of an active filter that takes its identifier
  -- word, and no other that takes it comes before that one: by class, then by number, then by FIFO
  pub accepted_iff_first : (f : Fifo) (x : FilterNumber) → (acceptance n g v w ≡ Some (f, x)) ↔ Accepted n g v w f x
  accepted_iff_first f x = (accepted-first f x, first-accepted f x)

  -- an active filter that takes its identifier word is enough for a frame to be accepted
  pub taken_is_accepted : (k : FilterClass) (e : Fifo) (b : Bank) (j : ℕ) → ActiveMatch n g v w k e b j
      → (f : Fifo) × (x : FilterNumber) × (acceptance n g v w ≡ Some (f, x)) × Accepted n g v w f x
  taken_is_accepted k e b j m = go (acceptance n g v w) refl
    where
      go : (a : Option (Fifo × FilterNumber)) → acceptance n g v w ≡ a → (f : Fifo) × (x : FilterNumber) × (acceptance n g v w ≡ Some (f, x)) × Accepted n g v w f x
      go None d = absurd (rejected-none d k e b j m)
      go (Some (f, x)) d = (f, x, d, accepted-first f x d)

  -- ---- the same of 01's numbers

  is_filter : (h : Option FilterNumber) (x : FilterNumber) → (hit_numbers h ≡ x.0 ∷ []) ↔ (h ≡ Some x)
  is_filter (Some y) x = (λ e. let s : y.0 ≡ x.0 = cc in ap (λ (a : ℕ). Some (filter_number a)) s, λ e. ap hit_numbers e)
  is_filter None x = (λ e. let z : ◌≡◌ {A = ℕ} 0 1 = cc in absurd (omega arith), λ e. ap hit_numbers e)

  is_nothing : (h : Option FilterNumber) → (hit_numbers h ≡ []) ↔ (h ≡ None)
  is_nothing (Some y) = (λ e. let z : ◌≡◌ {A = ℕ} 0 1 = cc in absurd (omega arith), λ e. ap hit_numbers e)
  is_nothing None = (λ e. refl, λ e. refl)

  is_into_lem : (a : Option (Fifo × FilterNumber)) (f : Fifo) (x : FilterNumber) → (acceptance_numbers a ≡ fifo_number f ∷ x.0 ∷ []) ↔ (a ≡ Some (f, x))
  is_into_lem (Some (e, y)) f x = (
    λ q. let s : fifo_number e ≡ fifo_number f = cc in let t : y.0 ≡ x.0 = cc in ap₂ (λ (f : Fifo) (x : FilterNumber). Some (f, x)) (fifo_injective e f s) (ap filter_number t),
    λ q. ap acceptance_numbers q,
  )
  is_into_lem None f x = (λ e. let z : ◌≡◌ {A = ℕ} 0 1 = cc in absurd (omega arith), λ e. ap acceptance_numbers e)

  is_rejected : (a : Option (Fifo × FilterNumber)) → (acceptance_numbers a ≡ []) ↔ (a ≡ None)
  is_rejected (Some (e, y)) = (λ q. let z : ◌≡◌ {A = ℕ} 0 1 = cc in absurd (omega arith), λ q. ap acceptance_numbers q)
  is_rejected None = (λ e. refl, λ e. refl)

  both : {A B C : Type 0} → A ↔ B → B ↔ C → A ↔ C
  both p q = (λ a. q.0 (p.0 a), λ c. p.1 (q.1 c))

  module _ (k : FilterClass) (f : Fifo) where
    hit-lowest : (x : FilterNumber) → first_hit n g v w k f ≡ Some x → Lowest n g v w k f x
    hit-lowest x e =
        let m = first_hit-active n g v w k f x e in
        record {
          bank = m.0;
          filter = m.1;
          active = m.2;
          number = m.3;
          least = λ b j t. let low = lowest n g v w k f b j t in let same : low.0 ≡ x = cc in rw (← same) low.2;
        }

    lowest-hit : (x : FilterNumber) → Lowest n g v w k f x → first_hit n g v w k f ≡ Some x
    lowest-hit x t =
        let low = lowest n g v w k f t.bank t.filter t.active in
        let m = first_hit-active n g v w k f low.0 low.1 in
        let over : x.0 ≤ low.0.0 = rw m.3 (t.least m.0 m.1 m.2) in
        let under : low.0.0 ≤ x.0 = rw t.number low.2 in
        low.1 ∙ ap (λ (a : ℕ). Some (filter_number a)) (le_antisymm under over)

    no_hit-none : first_hit n g v w k f ≡ None → (b : Bank) (j : ℕ) → ActiveMatch n g v w k f b j → ⊥
    no_hit-none e b j m = let low = lowest n g v w k f b j m in nothing_no_filter e low.1

    none-no_hit : ((b : Bank) (j : ℕ) → ActiveMatch n g v w k f b j → ⊥) → first_hit n g v w k f ≡ None
    none-no_hit q = go (first_hit n g v w k f) refl
      where
        go : (h : Option FilterNumber) → first_hit n g v w k f ≡ h → first_hit n g v w k f ≡ None
        go None e = e
        go (Some x) e = let m = first_hit-active n g v w k f x e in absurd (q m.0 m.1 m.2)

  pub filtering : Filtering n g v w
  filtering = record {
    hit = λ k f x. both (is_filter (first_hit n g v w k f) x) (hit-lowest k f x, lowest-hit k f x);
    no_hit = λ k f. both (is_nothing (first_hit n g v w k f)) (no_hit-none k f, none-no_hit k f);
    accepted = λ f x. both (is_into_lem (acceptance n g v w) f x) (accepted_iff_first f x);
    rejected = both (is_rejected (acceptance n g v w)) rejected_iff_none-takes;
  }
