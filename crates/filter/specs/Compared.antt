-- How many filters a search compares. Document 02, Q-3: "all active ones of classes better than the winner's, the winner, and in its
-- class at most those of each FIFO up to that FIFO's first match (all if none); without a match, all active ones".
-- n is the number of banks, v their words R1 and R2 in turn, w a frame's identifier word.
use Rattle.std.specs.Prelude.{◌≡◌, ℕ, zero, suc, ◌+◌, ◌<◌, ◌≤◌, Bool, true, false, ◌&&◌, List, [], ◌∷◌, ◌++◌, length, nat_lt, Option, Some, None}
use mathlib.Core.List.{Memᴰ}
use Rattle.base.specs.Base.{pick, sum}
use Rattle.model.specs.Banks.{bank, first_word, second_word, is_active, class_of, rank, width, matches, belongs, first_number, number_of}
use Rattle.model.specs.Search.{tried, first_hit, better, acceptance}
use Rattle.model.specs.Filtering.{NumberNoLater, Accepted}
use Rattle.model.specs.declared.Filters.{Filters}
use Rattle.model.specs.declared.Bank.{Bank}
use Rattle.model.specs.declared.FilterClass.{FilterClass}
use Rattle.model.specs.declared.FilterClass.TheVariants.{List32, Mask32, List16, Mask16}
use Rattle.model.specs.declared.FilterNumber.{FilterNumber}
use Rattle.model.specs.declared.Fifo.{Fifo}
use Rattle.model.specs.declared.Fifo.TheVariants.{F0, F1}

-- ---- lists of filters

-- a filter: its bank, and its place in the bank
pub record Candidate : Type 0 where
  pub bank : Bank
  pub place : ℕ

abbrev pub candidate : Bank → ℕ → Candidate
candidate b j = record { bank = b; place = j }

-- the lists f 0, .., f (n - 1), one behind the other
unfoldable pub row : (ℕ → List Candidate) → ℕ → List Candidate
row f zero = []
row f (suc n) = row f n ++ f n

-- the first j filters of a bank
unfoldable pub of_bank : Bank → ℕ → List Candidate
of_bank b j = row (λ (i : ℕ). candidate b i ∷ []) j

-- of n banks, the lowest first, t b filters of each bank b
unfoldable pub of_banks : (Bank → ℕ) → ℕ → List Candidate
of_banks t n = row (λ (i : ℕ). of_bank (bank i) (t (bank i))) n

-- up to the first that p holds of, and with it; all of them if p holds of none
unfoldable pub up_to_first : (Candidate → Bool) → List Candidate → List Candidate
up_to_first p [] = []
up_to_first p (c ∷ l) = c ∷ pick (p c) [] (up_to_first p l)

-- ---- what is compared in one class

-- a filter of class k takes the frame
abbrev pub takes_frame : List ℕ → ℕ → FilterClass → Candidate → Bool
takes_frame v w k c = matches k (first_word v c.bank) (second_word v c.bank) c.place w

-- the active filters of class k in FIFO f, the lowest number first, up to the first that takes the frame
unfoldable pub up_to_match : ℕ → Filters → List ℕ → ℕ → FilterClass → Fifo → List Candidate
up_to_match n g v w k f = up_to_first (takes_frame v w k) (of_banks (tried g k f) n)

-- a bank of FIFO 1 whose first filter has number y can win against FIFO 0's match
abbrev pub can_win : Option FilterNumber → FilterNumber → Bool
can_win (Some x) y = nat_lt y.0 x.0
can_win None y = true

-- how many filters of a bank of FIFO 1 are looked at after FIFO 0's match
unfoldable pub tried_after : ℕ → Filters → FilterClass → Option FilterNumber → Bank → ℕ
tried_after n g k h b = pick (can_win h (first_number n g F1 b)) (tried g k F1 b) 0

-- FIFO 0 up to its first match; then FIFO 1 up to its own, but for the banks that can't win any more
unfoldable pub compared_in : ℕ → Filters → List ℕ → ℕ → FilterClass → List Candidate
compared_in n g v w k =
    up_to_match n g v w k F0 ++ up_to_first (takes_frame v w k) (of_banks (tried_after n g k (first_hit n g v w k F0)) n)

-- ---- what is compared in all

abbrev pub is_into : Option (Fifo × FilterNumber) → Bool
is_into (Some (f, x)) = true
is_into None = false

-- of classes, the preferred first: each up to the first that has a match in either FIFO, and with it; c k is what is compared in class k
unfoldable pub up_to_class : {K : Type 0} → (K → Fifo → Option FilterNumber) → (K → List Candidate) → List K → List Candidate
up_to_class h c [] = []
up_to_class h c (k ∷ l) = c k ++ pick (is_into (better (h k F0) (h k F1))) [] (up_to_class h c l)

-- the filters that a search compares, in its order
unfoldable pub compared_filters : ℕ → Filters → List ℕ → ℕ → List Candidate
compared_filters n g v w = up_to_class (first_hit n g v w) (compared_in n g v w) (List32 ∷ Mask32 ∷ List16 ∷ Mask16 ∷ [])

unfoldable pub compared : ℕ → Filters → List ℕ → ℕ → ℕ
compared n g v w = length (compared_filters n g v w)

-- ---- document 02's rule, by counts over the banks

-- all active filters
abbrev pub active_filters : ℕ → Filters → ℕ
active_filters n g = sum (λ (i : ℕ). pick (is_active g (bank i)) (width (class_of g (bank i))) 0) n

-- those of classes better than k
abbrev pub better_filters : ℕ → Filters → FilterClass → ℕ
better_filters n g k =
    sum (λ (i : ℕ). pick (is_active g (bank i) && nat_lt (rank (class_of g (bank i))) (rank k)) (width (class_of g (bank i))) 0) n

pub record Comparisons (n : ℕ) (g : Filters) (v : List ℕ) (w : ℕ) : Type 0 where
  -- without a match, all active ones
  pub no_match : acceptance n g v w ≡ None → compared n g v w ≡ active_filters n g
  -- else all active ones of better classes, and those that are compared in the winner's class,
  pub match : (f : Fifo) (x : FilterNumber) (a : Accepted n g v w f x)
      → compared n g v w ≡ better_filters n g a.class + length (compared_in n g v w a.class)
  -- the winner among them, and every filter that would win if it took the frame
  pub up_to_winner : (f : Fifo) (x : FilterNumber) (a : Accepted n g v w f x) (e : Fifo) (b : Bank) (j : ℕ)
      → b.0 < n → is_active g b ≡ true → belongs e g b ≡ true → class_of g b ≡ a.class → j < width a.class
      → NumberNoLater (number_of n g e b j) e x f → Memᴰ (candidate b j) (compared_in n g v w a.class)
  -- and at most those of each FIFO up to its first match
  pub bound : (k : FilterClass)
      → length (compared_in n g v w k) ≤ length (up_to_match n g v w k F0) + length (up_to_match n g v w k F1)
