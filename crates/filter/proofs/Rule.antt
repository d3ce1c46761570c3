-- Document 02's rule of what a search compares. Assumes nothing.
use Rattle.std.proofs.Common.{◌≡◌, ℕ, zero, suc, ◌+◌, ◌<◌, ◌≤◌, Bool, true, false, not, ◌&&◌, eqb, ltb, List, [], ◌∷◌, length, sym, refl, ap, ◌∙◌, inl, inr, le_refl, le_antisymm, arith, length-append, ltb-false, le-ltb, lt-ltb, eq-eqb, ne_eqb, Option, Some, None}
use mathlib.Core.List.Memᴰ
use mathlib.Core.List.{Memᴰ}
use Rattle.base.specs.Base.{pick, bit, sum}
use Rattle.model.specs.Banks.{bank, filter_number, is_active, class_of, rank, width, belongs, first_number, number_of}
use Rattle.model.specs.Search.{searched, tried, first_hit, better}
use Rattle.model.specs.Filtering.{NumberNoLater, Accepted}
use Rattle.model.specs.declared.Filters.{Filters}
use Rattle.model.specs.declared.Bank.{Bank}
use Rattle.model.specs.declared.FilterNumber.{FilterNumber}
use Rattle.model.specs.declared.FilterClass.{FilterClass}
use Rattle.model.specs.declared.FilterClass.TheVariants.{List32, Mask32, List16, Mask16}
use Rattle.model.specs.declared.Fifo.{Fifo}
use Rattle.model.specs.declared.Fifo.TheVariants.{F0, F1}
use Rattle.model.proofs.Acceptances.{rejected_iff_none-takes}
use Rattle.model.proofs.FirstHit.{lower}
use Rattle.model.proofs.LowestNumber.{rank_injective, is_searched, searched_is, tried-searched, numbers_up, lowest, first_hit-active}
use Rattle.model.proofs.FilterNumbers.{first_number_lem}
use Rattle.filter.specs.Compared.{candidate, of_banks, up_to_first, takes_frame, up_to_match, can_win, tried_after, compared_in, is_into, up_to_class, compared_filters, compared, active_filters, better_filters, Comparisons}
use Rattle.filter.specs.Places.{winner_of, result_of}
use Rattle.filter.proofs.BankWords.{no_bit}
use Rattle.filter.proofs.Candidates.{sum_same, sum_skip, of_banks-same, of_banks_skip, NoneOf, taken_at_lem, cut_prefix}
use Rattle.filter.proofs.Classes.{into_any}
use Rattle.filter.proofs.Comparing.{length-compared, compared_in-both, all-compared}
use Rattle.filter.proofs.Numbered.{numbers_below_up}

-- ---- at most those of each FIFO up to its first match

-- a test that stays false once it is, holds of the lowest places and of no others
record Until (c : ℕ → Bool) (n : ℕ) : Type 0 where
  place : ℕ
  within : place ≤ n
  holds : (j : ℕ) → j < place → c j ≡ true
  fails : (j : ℕ) → place ≤ j → j < n → c j ≡ false

until : (c : ℕ → Bool) (n : ℕ) → ((i j : ℕ) → i ≤ j → j < n → c i ≡ false → c j ≡ false) → Until c n
until c zero h = record { place = 0; within = omega arith; holds = λ j l. absurd (omega arith); fails = λ j l m. absurd (omega arith) }
until c (suc n) h = step (until c n (λ i j l m. h i j l (omega arith))) (c n) refl
  where
    -- at place n
    all : (u : Until c n) → c n ≡ true → (j : ℕ) → j < suc n → c j ≡ true
    all u e j l = elim (lower j u.place) [
      | inl m ↦ u.holds j m
      | inr m ↦ elim (lower u.place n) [
        | inl o ↦ let out = h u.place n (omega arith) (omega arith) (u.fails u.place (omega arith) o) in
            let z : ◌≡◌ {A = ℕ} 0 1 = cc in absurd (omega arith)
        | inr o ↦ let same : j ≡ n = omega (arith, u.within) in rw same e
      ]
    ]

    step : Until c n → (b : Bool) → c n ≡ b → Until c (suc n)
    step u true e = record { place = suc n; within = omega arith; holds = all u e; fails = λ j l m. absurd (omega arith) }
    step u false e = record {
      place = u.place;
      within = omega (arith, u.within);
      holds = u.holds;
      fails = λ j l m. elim (lower j n) [ inl o ↦ u.fails j l o | inr o ↦ let same : j ≡ n = omega arith in rw same e ];
    }

module _ (n : ℕ) (g : Filters) (v : List ℕ) (w : ℕ) (k : FilterClass) where
  can_win_until : (x : FilterNumber) → Until (λ (i : ℕ). can_win (Some x) (first_number n g F1 (bank i))) n
  can_win_until x = until _ n (λ i j l m e.
      let start = ltb-false (first_number n g F1 (bank i)).0 x.0 e in
      let up = numbers_below_up g F1 i j l in
      le-ltb (first_number n g F1 (bank j)).0 x.0
      (omega (arith, first_number_lem n g F1 (bank i) (omega arith), first_number_lem n g F1 (bank j) (omega arith))))

  no_more : (h : Option FilterNumber) → length (up_to_first (takes_frame v w k) (of_banks (tried_after n g k h) n)) ≤ length (up_to_match n g v w k F1)
  unfolding tried_after up_to_match
  no_more None = le_refl _
  no_more (Some x) =
      let u = can_win_until x in
      let rest = of_banks_skip (tried_after n g k (Some x)) u.place n u.within (λ j p q. rw (u.fails j p q)) in
      let same = of_banks-same (tried_after n g k (Some x)) (tried g k F1) u.place (λ j p. rw (u.holds j p)) in
      rw (rest ∙ same) (cut_prefix (takes_frame v w k) (tried g k F1) u.place n u.within)

  within-bound : length (compared_in n g v w k) ≤ length (up_to_match n g v w k F0) + length (up_to_match n g v w k F1)
  within-bound = omega (arith, length-compared n g v w k, no_more (first_hit n g v w k F0))

-- ---- the filters that are looked at

-- after FIFO 0's match no more than before
fewer_tried : (n : ℕ) (g : Filters) (k : FilterClass) (h : Option FilterNumber) (b : Bank) → tried_after n g k h b ≤ tried g k F1 b
unfolding tried_after
fewer_tried n g k h b = go (can_win h (first_number n g F1 b))
  where
    go : (c : Bool) → pick c (tried g k F1 b) 0 ≤ tried g k F1 b
    go true = le_refl _
    go false = omega arith

-- those of active banks of the class in the FIFO, all of them
all-tried : (g : Filters) (k : FilterClass) (f : Fifo) (b : Bank) → is_active g b ≡ true → belongs f g b ≡ true → class_of g b ≡ k
    → tried g k f b ≡ width k
unfolding tried
all-tried g k f b on own class = rw (is_searched g k f b on own class)

-- ---- counts over the banks

sum_plus : (s t : ℕ → ℕ) (n : ℕ) → sum (λ (i : ℕ). s i + t i) n ≡ sum s n + sum t n
unfolding sum
sum_plus s t zero = refl
sum_plus s t (suc n) = omega (arith, sum_plus s t n)

sum-none : (s : ℕ → ℕ) (n : ℕ) → ((i : ℕ) → i < n → s i ≡ 0) → sum s n ≡ 0
unfolding sum
sum-none s n h = sum_skip s 0 n (omega arith) (λ i p q. h i q)

-- the filters of an active bank of class c, if c is one of the r best
abbrev of_best : ℕ → Bool → FilterClass → ℕ
of_best r a c = pick (a && ltb (rank c) r) (width c) 0

-- those of class k in one of the FIFOs
either_fifo : (a o x : Bool) (m : ℕ) → pick (a && (not o && x)) m 0 + pick (a && (o && x)) m 0 ≡ pick (a && x) m 0
either_fifo false o x m = refl
either_fifo true true true m = omega arith
either_fifo true true false m = refl
either_fifo true false true m = omega arith
either_fifo true false false m = refl

one_more : (a : Bool) (k c : FilterClass) → of_best (rank k) a c + pick (a && eqb (rank c) (rank k)) (width k) 0 ≡ of_best (suc (rank k)) a c
one_more false k c = refl
one_more true k c = elim (lower (rank c) (rank k)) [
  | inl l ↦ rw (lt-ltb (rank c) (rank k) l, ne_eqb (rank c) (rank k) (λ e. omega arith), lt-ltb (rank c) (suc (rank k)) (omega arith)) (omega arith)
  | inr l ↦ elim (lower (rank k) (rank c)) [
    | inl m ↦ rw (le-ltb (rank c) (rank k) l, ne_eqb (rank c) (rank k) (λ e. omega arith), le-ltb (rank c) (suc (rank k)) (omega arith))
    | inr m ↦ let same : rank c ≡ rank k = omega arith in
        rw (le-ltb (rank c) (rank k) l, eq-eqb (rank c) (rank k) same, lt-ltb (rank c) (suc (rank k)) (omega arith))
        (omega (arith, ap width (rank_injective c k same)))
  ]
]

rank_small : (c : FilterClass) → rank c < 4
rank_small List32 = omega arith
rank_small Mask32 = omega arith
rank_small List16 = omega arith
rank_small Mask16 = omega arith

module _ (n : ℕ) (g : Filters) where
  -- all active filters of the r best classes
  abbrev best : ℕ → ℕ
  best r = sum (λ (i : ℕ). of_best r (is_active g (bank i)) (class_of g (bank i))) n

  none_best : best 0 ≡ 0
  none_best = sum-none _ n (λ i l. rw (le-ltb (rank (class_of g (bank i))) 0 (omega arith)) (nothing (is_active g (bank i)) i))
    where
      nothing : (a : Bool) (i : ℕ) → pick (a && false) (width (class_of g (bank i))) 0 ≡ 0
      nothing true i = refl
      nothing false i = refl

  all_best : best 4 ≡ active_filters n g
  all_best = sum_same _ _ n (λ i l. rw (lt-ltb (rank (class_of g (bank i))) 4 (rank_small (class_of g (bank i)))) (itself (is_active g (bank i)) i))
    where
      itself : (a : Bool) (i : ℕ) → pick (a && true) (width (class_of g (bank i))) 0 ≡ pick a (width (class_of g (bank i))) 0
      itself true i = refl
      itself false i = refl

  -- those of one class more
  next_best : (k : FilterClass)
      → best (suc (rank k)) ≡ best (rank k) + (sum (λ (i : ℕ). tried g k F0 (bank i)) n + sum (λ (i : ℕ). tried g k F1 (bank i)) n)
  unfolding tried searched
  next_best k =
      let each : best (suc (rank k)) ≡ sum (λ (i : ℕ). of_best (rank k) (is_active g (bank i)) (class_of g (bank i)) + (tried g k F0 (bank i) + tried g k F1 (bank i))) n =
      sum_same _ _ n (λ i l. sym (rw (either_fifo (is_active g (bank i)) (bit i g.assignment) (eqb (rank (class_of g (bank i))) (rank k)) (width k)) (one_more (is_active g (bank i)) k (class_of g (bank i))))) in
      omega (
        arith,
        each,
        sum_plus (λ (i : ℕ). of_best (rank k) (is_active g (bank i)) (class_of g (bank i))) (λ (i : ℕ). tried g k F0 (bank i) + tried g k F1 (bank i)) n,
        sum_plus (λ (i : ℕ). tried g k F0 (bank i)) (λ (i : ℕ). tried g k F1 (bank i)) n,
      )

-- ---- the classes up to the winner's

module _ (n : ℕ) (g : Filters) (v : List ℕ) (w : ℕ) where
  abbrev hits : FilterClass → Fifo → Option FilterNumber
  hits = first_hit n g v w

  -- the r best classes are compared whole, and those of l are left
  abbrev Left : List FilterClass → ℕ → Type 0
  Left l r = compared n g v w ≡ best n g r + length (up_to_class hits (compared_in n g v w) l)

  all_left : Left (List32 ∷ Mask32 ∷ List16 ∷ Mask16 ∷ []) 0
  unfolding compared compared_filters
  all_left = omega (arith, none_best n g)

  length-next : (k : FilterClass) (l : List FilterClass)
      → length (up_to_class hits (compared_in n g v w) (k ∷ l))
      ≡ length (compared_in n g v w k) + length (pick (is_into (better (hits k F0) (hits k F1))) [] (up_to_class hits (compared_in n g v w) l))
  unfolding up_to_class
  length-next k l =
      length-append (compared_in n g v w k) (pick (is_into (better (hits k F0) (hits k F1))) [] (up_to_class hits (compared_in n g v w) l))

  passes : (k : FilterClass) (l : List FilterClass) → Left (k ∷ l) (rank k) → ((f : Fifo) → hits k f ≡ None) → Left l (suc (rank k))
  passes k l s none =
      omega (
        arith,
        s,
        rw (none F0, none F1) at (length-next k l),
        compared_in-both n g v w k (none F0),
        all-compared n g v w k F0 (none F0),
        all-compared n g v w k F1 (none F1),
        next_best n g k,
      )

  stops : (k : FilterClass) (l : List FilterClass) → Left (k ∷ l) (rank k) → is_into (better (hits k F0) (hits k F1)) ≡ true
      → compared n g v w ≡ best n g (rank k) + length (compared_in n g v w k)
  stops k l s into = omega (arith, s, rw into at (length-next k l))

  -- without a match all classes are compared whole
  all_whole : ((k : FilterClass) (f : Fifo) → hits k f ≡ None) → compared n g v w ≡ active_filters n g
  unfolding up_to_class
  all_whole none =
      let to2 = passes List32 (Mask32 ∷ List16 ∷ Mask16 ∷ []) all_left (none List32) in
      let to3 = passes Mask32 (List16 ∷ Mask16 ∷ []) to2 (none Mask32) in
      let to4 = passes List16 (Mask16 ∷ []) to3 (none List16) in
      omega (arith, passes Mask16 [] to4 (none Mask16), all_best n g)

  -- and with one those that are better
  better-whole : (k : FilterClass) → ((c : FilterClass) → rank c < rank k → (f : Fifo) → hits c f ≡ None)
      → is_into (better (hits k F0) (hits k F1)) ≡ true → compared n g v w ≡ better_filters n g k + length (compared_in n g v w k)
  better-whole List32 none into = stops List32 (Mask32 ∷ List16 ∷ Mask16 ∷ []) all_left into
  better-whole Mask32 none into =
      let to2 = passes List32 (Mask32 ∷ List16 ∷ Mask16 ∷ []) all_left (none List32 (omega arith)) in
      stops Mask32 (List16 ∷ Mask16 ∷ []) to2 into
  better-whole List16 none into =
      let to2 = passes List32 (Mask32 ∷ List16 ∷ Mask16 ∷ []) all_left (none List32 (omega arith)) in
      let to3 = passes Mask32 (List16 ∷ Mask16 ∷ []) to2 (none Mask32 (omega arith)) in stops List16 (Mask16 ∷ []) to3 into
  better-whole Mask16 none into =
      let to2 = passes List32 (Mask32 ∷ List16 ∷ Mask16 ∷ []) all_left (none List32 (omega arith)) in
      let to3 = passes Mask32 (List16 ∷ Mask16 ∷ []) to2 (none Mask32 (omega arith)) in
      let to4 = passes List16 (Mask16 ∷ []) to3 (none List16 (omega arith)) in stops Mask16 [] to4 into

  no_hit_lem : (k : FilterClass) (f : Fifo) → ((x : FilterNumber) → hits k f ≡ Some x → ⊥) → hits k f ≡ None
  no_hit_lem k f out = go (hits k f) refl
    where
      go : (h : Option FilterNumber) → hits k f ≡ h → h ≡ None
      go None e = refl
      go (Some x) e = absurd (out x e)

  -- ---- the winner

  module _ (f : Fifo) (x : FilterNumber) (a : Accepted n g v w f x) where
    -- no better class has a match
    none-better : (c : FilterClass) → rank c < rank a.class → (e : Fifo) → hits c e ≡ None
    none-better c l e = no_hit_lem c e (λ y d.
        let m = first_hit-active n g v w c e y d in
        elim (a.no_later c e m.0 m.1 m.2) [ inl r ↦ omega arith | inr r ↦ omega (arith, r.0) ])

    -- the winner is the first match of its class in its FIFO
    winner_hit : hits a.class f ≡ Some x
    winner_hit =
        let low = lowest n g v w a.class f a.bank a.filter a.active in
        let m = first_hit-active n g v w a.class f low.0 low.1 in
        let under : low.0.0 ≤ x.0 = rw a.number low.2 in
        let over : x.0 ≤ low.0.0 = rw m.3 (elim (a.no_later a.class f m.0 m.1 m.2) [
          | inl r ↦ absurd (omega arith)
          | inr (r, inl s) ↦ omega arith
          | inr (r, inr s) ↦ omega (arith, s.0)
        ]) in
        low.1 ∙ ap (λ (y : ℕ). Some (filter_number y)) (le_antisymm under over)

    into : is_into (better (hits a.class F0) (hits a.class F1)) ≡ true
    into = go f winner_hit
      where
        go : (e : Fifo) → hits a.class e ≡ Some x → is_into (better (hits a.class F0) (hits a.class F1)) ≡ true
        go F0 d = rw d (into_any x (hits a.class F1))
        go F1 d = rw d (into_either (hits a.class F0))
          where
            into_either : (h : Option FilterNumber) → is_into (better h (Some x)) ≡ true
            into_either (Some y) = into_any y (Some x)
            into_either None = refl

    -- a filter of its class and of FIFO e that comes no later is compared
    module _ (e : Fifo) (i j : ℕ) (within : i < n) (looked : j < tried g a.class e (bank i))
        (no_later : NumberNoLater (number_of n g e (bank i) j) e x f) where
      at_most : (number_of n g e (bank i) j).0 ≤ x.0
      at_most = elim no_later [ inl s ↦ omega arith | inr s ↦ omega (arith, s.0) ]

      -- one with a lower number does not take the frame
      lower_false : (c : Bank) (m : ℕ) → c.0 < n → m < tried g a.class e c → (number_of n g e c m).0 < x.0
          → takes_frame v w a.class (candidate c m) ≡ false
      lower_false c m l o h = go (takes_frame v w a.class (candidate c m)) refl
        where
          go : (t : Bool) → takes_frame v w a.class (candidate c m) ≡ t → t ≡ false
          go false d = refl
          go true d =
              let is = searched_is g a.class e c (tried-searched g a.class e c m o) in
              elim (a.no_later a.class e c m (record { within = l; active = is.0; assigned = is.1; class = is.2; takes = d })) [
                | inl r ↦ absurd (omega arith)
                | inr (r, inl s) ↦ absurd (omega arith)
                | inr (r, inr s) ↦ absurd (omega (arith, s.0))
              ]

      none_below : NoneOf (takes_frame v w a.class) (tried g a.class e) i
      none_below c m l o =
          let up = numbers_up n g v w a.class e (bank c) (bank i) l within in
          lower_false (bank c) m (omega arith) o (omega (arith, at_most))

      none_before : (m : ℕ) → m < j → takes_frame v w a.class (candidate (bank i) m) ≡ false
      none_before m l = lower_false (bank i) m within (omega arith) (omega (arith, at_most))

    -- in FIFO 1 its bank can win against a match in FIFO 0
    can_still_win : (i j : ℕ) → NumberNoLater (number_of n g F1 (bank i) j) F1 x f
        → can_win (hits a.class F0) (first_number n g F1 (bank i)) ≡ true
    can_still_win i j h = go (hits a.class F0) refl
      where
        below : (y : FilterNumber) → NumberNoLater x f y F0 → NumberNoLater (number_of n g F1 (bank i) j) F1 x f → (first_number n g F1 (bank i)).0 < y.0
        below y (inl s) (inl r) = omega arith
        below y (inl s) (inr r) = omega (arith, r.0)
        below y (inr s) (inl r) = omega (arith, s.0)
        below y (inr s) (inr r) = absurd (omega (arith, r.1, s.1))

        go : (t : Option FilterNumber) → hits a.class F0 ≡ t → can_win t (first_number n g F1 (bank i)) ≡ true
        go None q = refl
        go (Some y) q =
            let m = first_hit-active n g v w a.class F0 y q in
            let over : NumberNoLater x f y F0 = rw m.3 (elim (a.no_later a.class F0 m.0 m.1 m.2) [
              | inl r ↦ absurd (omega arith)
              | inr r ↦ r.1
            ]) in
            lt-ltb (first_number n g F1 (bank i)).0 y.0 (below y over h)

  up_to_winner_lem : (f : Fifo) (x : FilterNumber) (a : Accepted n g v w f x) (e : Fifo) (i j : ℕ) → i < n → j < tried g a.class e (bank i)
      → NumberNoLater (number_of n g e (bank i) j) e x f → Memᴰ (candidate (bank i) j) (compared_in n g v w a.class)
  unfolding compared_in up_to_match tried_after
  up_to_winner_lem f x a F0 i j l o h =
      Memᴰ.append_left (up_to_first (takes_frame v w a.class) (of_banks (tried_after n g a.class (hits a.class F0)) n))
      (taken_at_lem (takes_frame v w a.class) (tried g a.class F0) n i j l o (none_below f x a F0 i j l o h) (none_before f x a F0 i j l o h))
  up_to_winner_lem f x a F1 i j l o h =
      Memᴰ.append_right (up_to_match n g v w a.class F0)
      (taken_at_lem (takes_frame v w a.class) (tried_after n g a.class (hits a.class F0)) n i j l (rw (can_still_win f x a i j h) o)
      (λ c m p q. none_below f x a F1 i j l o h c m p (omega (arith, fewer_tried n g a.class (hits a.class F0) (bank c))))
      (none_before f x a F1 i j l o h))

  -- document 02, Q-3
  pub comparisons : Comparisons n g v w
  comparisons = record {
    no_match = λ e. all_whole (λ k f. no_hit_lem k f (λ x d.
        let m = first_hit-active n g v w k f x d in (rejected_iff_none-takes n g v w).0 e k f m.0 m.1 m.2));
    match = λ f x a. better-whole a.class (none-better f x a) (into f x a);
    up_to_winner = λ f x a e b j l on own class o h. up_to_winner_lem f x a e b.0 j l (rw (all-tried g a.class e b on own class) o) h;
    bound = within-bound n g v w;
  }

-- ---- with no bank active there is nothing to compare

pub nothing-active : (g : Filters) (v : List ℕ) (w : ℕ) → g.activation ≡ 0
    → record { winner = record { 0 = 510 }; compared = 0 } ≡ result_of g v w
unfolding result_of winner_of
nothing-active g v w e =
    let rejected = (rejected_iff_none-takes 14 g v w).1 (λ k f b j m.
    let on = rw e at m.active in let off = no_bit b.0 in let z : ◌≡◌ {A = ℕ} 0 1 = cc in omega arith) in
    let none : active_filters 14 g ≡ 0 = sum-none _ 14 (λ i l. rw (e, no_bit i)) in
    rw (rejected, (comparisons 14 g v w).no_match rejected ∙ none)
