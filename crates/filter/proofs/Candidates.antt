-- Lists of filters: how long they are, and where they are cut. Assumes nothing.
use Rattle.std.proofs.Common.{◌≡◌, ℕ, zero, suc, ◌+◌, ◌*◌, ◌<◌, ◌≤◌, Bool, true, false, ◌||◌, List, [], ◌∷◌, ◌++◌, length, sym, refl, ap, ◌∙◌, append_assoc, append-nil, le_refl, arith, length-append}
use mathlib.Core.List.Memᴰ
use mathlib.Core.List.{Memᴰ}
use native.Mathlib.Decide.{le_ind}
use Rattle.base.specs.Base.{pick, sum}
use Rattle.model.specs.Banks.{bank}
use Rattle.model.specs.declared.Bank.{Bank}
use Rattle.filter.specs.Compared.{Candidate, candidate, row, of_bank, of_banks, up_to_first}

-- ---- how long they are

length-row : (f : ℕ → List Candidate) (n : ℕ) → length (row f n) ≡ sum (λ (i : ℕ). length (f i)) n
unfolding row sum
length-row f zero = refl
length-row f (suc n) = omega (arith, length-append (row f n) (f n), length-row f n)

sum_ones : (n : ℕ) → sum (λ (i : ℕ). 1) n ≡ n
unfolding sum
sum_ones zero = refl
sum_ones (suc n) = omega (arith, sum_ones n)

pub length-of_bank : (b : Bank) (j : ℕ) → length (of_bank b j) ≡ j
unfolding of_bank
length-of_bank b j = length-row _ j ∙ sum_ones j

pub sum_same : (s t : ℕ → ℕ) (n : ℕ) → ((i : ℕ) → i < n → s i ≡ t i) → sum s n ≡ sum t n
unfolding sum
sum_same s t zero h = refl
sum_same s t (suc n) h = omega (arith, sum_same s t n (λ i l. h i (omega arith)), h n (omega arith))

pub sum_skip : (s : ℕ → ℕ) (i m : ℕ) → i ≤ m → ((j : ℕ) → i ≤ j → j < m → s j ≡ 0) → sum s m ≡ sum s i
unfolding sum
sum_skip s i m h = le_ind (λ (m : ℕ). ((j : ℕ) → i ≤ j → j < m → s j ≡ 0) → sum s m ≡ sum s i)
    (λ e. refl)
    (λ m l t e. omega (arith, e m l (omega arith), t (λ j p q. e j p (omega arith))))
    m h

pub sum-le : (s : ℕ → ℕ) (i m : ℕ) → i ≤ m → sum s i ≤ sum s m
unfolding sum
sum-le s i m h = le_ind (λ (m : ℕ). sum s i ≤ sum s m) (le_refl _) (λ m l e. omega arith) m h

-- four for each at the most
pub sum-four : (s : ℕ → ℕ) (n : ℕ) → ((i : ℕ) → s i ≤ 4) → sum s n ≤ 4 * n
unfolding sum
sum-four s zero h = omega arith
sum-four s (suc n) h = omega (arith, sum-four s n h, h n)

pub length-of_banks : (t : Bank → ℕ) (n : ℕ) → length (of_banks t n) ≡ sum (λ (i : ℕ). t (bank i)) n
unfolding of_banks
length-of_banks t n = length-row _ n ∙ sum_same _ _ n (λ i l. length-of_bank (bank i) (t (bank i)))

-- ---- which filters are in them

row_same : (f h : ℕ → List Candidate) (n : ℕ) → ((i : ℕ) → i < n → f i ≡ h i) → row f n ≡ row h n
unfolding row
row_same f h zero e = refl
row_same f h (suc n) e = rw (row_same f h n (λ i l. e i (omega arith)), e n (omega arith))

-- the same numbers of filters in each bank
pub of_banks-same : (s t : Bank → ℕ) (n : ℕ) → ((i : ℕ) → i < n → s (bank i) ≡ t (bank i)) → of_banks s n ≡ of_banks t n
unfolding of_banks
of_banks-same s t n e = row_same _ _ n (λ i l. ap (of_bank (bank i)) (e i l))

-- banks without filters add none
pub of_banks_skip : (t : Bank → ℕ) (i m : ℕ) → i ≤ m → ((j : ℕ) → i ≤ j → j < m → t (bank j) ≡ 0) → of_banks t m ≡ of_banks t i
unfolding of_banks row of_bank
of_banks_skip t i m h = le_ind (λ (m : ℕ). ((j : ℕ) → i ≤ j → j < m → t (bank j) ≡ 0) → of_banks t m ≡ of_banks t i)
    (λ e. refl)
    (λ m l s e. rw (e m l (omega arith), append-nil) (s (λ j p q. e j p (omega arith))))
    m h

-- a row goes on behind each of its lists
row_split : (f : ℕ → List Candidate) (n i : ℕ) → i < n → (r : List Candidate) × (row f n ≡ row f i ++ (f i ++ r))
unfolding row
row_split f n i l =
    le_ind (λ (m : ℕ). (r : List Candidate) × (row f m ≡ row f i ++ (f i ++ r)))
    ([], ap (λ (r : List Candidate). row f i ++ r) (sym (append-nil (f i))))
    (λ m k s. (s.0 ++ f m, rw (s.1, append_assoc (row f i) (f i ++ s.0) (f m), append_assoc (f i) s.0 (f m))))
    n l

-- ---- where they are cut

-- p holds of one of them
abbrev any : (Candidate → Bool) → List Candidate → Bool
any p [] = false
any p (c ∷ l) = p c || any p l

module _ (p : Candidate → Bool) where
  any_append : (l m : List Candidate) → any p (l ++ m) ≡ (any p l || any p m)
  any_append [] m = refl
  any_append (c ∷ l) m = step (p c) (any_append l m)
    where
      step : (b : Bool) → any p (l ++ m) ≡ (any p l || any p m) → (b || any p (l ++ m)) ≡ ((b || any p l) || any p m)
      step true e = refl
      step false e = e

  -- behind a list with none of them, the cut comes later
  cut_later : (l m : List Candidate) → any p l ≡ false → up_to_first p (l ++ m) ≡ l ++ up_to_first p m
  unfolding up_to_first
  cut_later [] m h = refl
  cut_later (c ∷ l) m h = step (p c) h (cut_later l m)
    where
      step : (b : Bool) → (b || any p l) ≡ false → (any p l ≡ false → up_to_first p (l ++ m) ≡ l ++ up_to_first p m)
          → c ∷ pick b [] (up_to_first p (l ++ m)) ≡ c ∷ (l ++ up_to_first p m)
      step false h e = ap (λ (r : List Candidate). c ∷ r) (e h)
      step true h e = let z : ◌≡◌ {A = ℕ} 0 1 = cc in absurd (omega arith)

  -- and behind one with one of them it has come already
  cut-before : (l m : List Candidate) → any p l ≡ true → up_to_first p (l ++ m) ≡ up_to_first p l
  unfolding up_to_first
  cut-before [] m h = let z : ◌≡◌ {A = ℕ} 0 1 = cc in absurd (omega arith)
  cut-before (c ∷ l) m h = step (p c) h (cut-before l m)
    where
      step : (b : Bool) → (b || any p l) ≡ true → (any p l ≡ true → up_to_first p (l ++ m) ≡ up_to_first p l)
          → c ∷ pick b [] (up_to_first p (l ++ m)) ≡ c ∷ pick b [] (up_to_first p l)
      step true h e = refl
      step false h e = ap (λ (r : List Candidate). c ∷ r) (e h)

  uncut : (l : List Candidate) → any p l ≡ false → up_to_first p l ≡ l
  unfolding up_to_first
  uncut l h = ap (up_to_first p) (sym (append-nil l)) ∙ cut_later l [] h ∙ append-nil l

  none_in_row : (f : ℕ → List Candidate) (n : ℕ) → ((i : ℕ) → i < n → any p (f i) ≡ false) → any p (row f n) ≡ false
  unfolding row
  none_in_row f zero h = refl
  none_in_row f (suc n) h = rw (any_append (row f n) (f n), none_in_row f n (λ i l. h i (omega arith)), h n (omega arith))

  -- the first list of a row that has one of them is cut, and those behind it are left out
  cut-row : (f : ℕ → List Candidate) (n i : ℕ) → i < n → any p (row f i) ≡ false → any p (f i) ≡ true
      → (any p (row f n) ≡ true) × (up_to_first p (row f n) ≡ row f i ++ up_to_first p (f i))
  unfolding row
  cut-row f n i l e h =
      le_ind (λ (m : ℕ). (any p (row f m) ≡ true) × (up_to_first p (row f m) ≡ row f i ++ up_to_first p (f i)))
      (rw (any_append (row f i) (f i), e, h), cut_later (row f i) (f i) e)
      (λ m k s. (rw (any_append (row f m) (f m), s.0), cut-before (row f m) (f m) s.0 ∙ s.1))
      n l

-- ---- the filters of banks

-- p holds of none of the first filters of the lowest banks
abbrev pub NoneOf : (Candidate → Bool) → (Bank → ℕ) → ℕ → Type 0
NoneOf p t n = (i j : ℕ) → i < n → j < t (bank i) → p (candidate (bank i) j) ≡ false

module _ (p : Candidate → Bool) (t : Bank → ℕ) where
  none-in_bank : (b : Bank) (j : ℕ) → ((a : ℕ) → a < j → p (candidate b a) ≡ false) → any p (of_bank b j) ≡ false
  unfolding of_bank
  none-in_bank b j h = none_in_row p _ j (λ a l. rw (h a l))

  none_in_banks : (n : ℕ) → NoneOf p t n → any p (of_banks t n) ≡ false
  unfolding of_banks
  none_in_banks n h = none_in_row p _ n (λ i l. none-in_bank (bank i) (t (bank i)) (λ j m. h i j l m))

  -- without one of them, all are taken
  pub cut-nowhere : (n : ℕ) → NoneOf p t n → up_to_first p (of_banks t n) ≡ of_banks t n
  cut-nowhere n h = uncut p (of_banks t n) (none_in_banks n h)

  -- the first of them, filter j of bank i, is the last that is taken
  pub cut_at : (n i j : ℕ) → i < n → j < t (bank i) → NoneOf p t i → ((a : ℕ) → a < j → p (candidate (bank i) a) ≡ false)
      → p (candidate (bank i) j) ≡ true → up_to_first p (of_banks t n) ≡ of_banks t i ++ (of_bank (bank i) j ++ (candidate (bank i) j ∷ []))
  unfolding of_banks of_bank up_to_first
  cut_at n i j l m none before here =
      let inner = cut-row p (λ (a : ℕ). candidate (bank i) a ∷ []) (t (bank i)) j m (none-in_bank (bank i) j before) (rw here) in
      let outer = cut-row p (λ (a : ℕ). of_bank (bank a) (t (bank a))) n i l (none_in_banks i none) inner.0 in
      outer.1 ∙ ap (λ (r : List Candidate). of_banks t i ++ r) (inner.1 ∙ rw here)

  -- so there are as many as stand before it, and one more
  pub length_cut : (n i j : ℕ) → i < n → j < t (bank i) → NoneOf p t i → ((a : ℕ) → a < j → p (candidate (bank i) a) ≡ false)
      → p (candidate (bank i) j) ≡ true → length (up_to_first p (of_banks t n)) ≡ length (of_banks t i) + j + 1
  length_cut n i j l m none before here =
      ap length (cut_at n i j l m none before here)
      ∙ omega (
        arith,
        length-append (of_banks t i) (of_bank (bank i) j ++ (candidate (bank i) j ∷ [])),
        length-append (of_bank (bank i) j) (candidate (bank i) j ∷ []),
        length-of_bank (bank i) j,
      )

-- a filter before which p holds of none is taken
module _ (p : Candidate → Bool) (t : Bank → ℕ) where
  reached : (a b r s : List Candidate) (c : Candidate) → any p a ≡ false → any p b ≡ false
      → Memᴰ c (up_to_first p (a ++ ((b ++ ((c ∷ []) ++ r)) ++ s)))
  unfolding up_to_first
  reached a b r s c e f =
      rw (cut_later p a ((b ++ (c ∷ r)) ++ s) e, append_assoc b (c ∷ r) s, cut_later p b (c ∷ (r ++ s)) f)
      (Memᴰ.append_right a (Memᴰ.append_right b (Memᴰ.head refl)))

  pub taken_at_lem : (n i j : ℕ) → i < n → j < t (bank i) → NoneOf p t i → ((a : ℕ) → a < j → p (candidate (bank i) a) ≡ false)
      → Memᴰ (candidate (bank i) j) (up_to_first p (of_banks t n))
  unfolding of_banks of_bank
  taken_at_lem n i j l m none before =
      let outer = row_split (λ (a : ℕ). of_bank (bank a) (t (bank a))) n i l in
      let inner = row_split (λ (a : ℕ). candidate (bank i) a ∷ []) (t (bank i)) j m in
      rw (outer.1, inner.1)
      (reached (of_banks t i) (of_bank (bank i) j) inner.0 outer.0 (candidate (bank i) j) (none_in_banks p t i none) (none-in_bank p t (bank i) j before))

-- fewer banks, and no more is taken
pub cut_prefix : (p : Candidate → Bool) (t : Bank → ℕ) (i n : ℕ) → i ≤ n
    → length (up_to_first p (of_banks t i)) ≤ length (up_to_first p (of_banks t n))
unfolding of_banks row
cut_prefix p t i n h =
    le_ind (λ (m : ℕ). length (up_to_first p (of_banks t i)) ≤ length (up_to_first p (of_banks t m)))
    (le_refl _)
    (λ m l s. omega (arith, s, more (of_banks t m) (of_bank (bank m) (t (bank m)))))
    n h
  where
    more : (l m : List Candidate) → length (up_to_first p l) ≤ length (up_to_first p (l ++ m))
    more l m = go (any p l) refl
      where
        go : (b : Bool) → any p l ≡ b → length (up_to_first p l) ≤ length (up_to_first p (l ++ m))
        go true e = rw (cut-before p l m e) (le_refl _)
        go false e = rw (cut_later p l m e, uncut p l e, length-append l (up_to_first p m)) (omega arith)
