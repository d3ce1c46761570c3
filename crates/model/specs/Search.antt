-- The filter that a frame passes, and so the FIFO that it goes to.
-- Document 01: "Order, filters, storage". n is the number of banks, v their words R1 and R2 in turn, w the identifier word.
use Rattle.std.specs.Prelude.{Bool, ◌&&◌, List, [], ◌∷◌, ℕ, zero, suc, eqb, ltb, Option, Some, None}
use Rattle.base.specs.Base.{pick}
use Rattle.model.specs.Banks.{bank, first_word, second_word, is_active, class_of, rank, width, matches, belongs, number_of}
use Rattle.model.specs.declared.Filters.{Filters}
use Rattle.model.specs.declared.Bank.{Bank}
use Rattle.model.specs.declared.FilterClass.{FilterClass}
use Rattle.model.specs.declared.FilterClass.TheVariants.{List32, Mask32, List16, Mask16}
use Rattle.model.specs.declared.Fifo.{Fifo}
use Rattle.model.specs.declared.Fifo.TheVariants.{F0, F1}
use Rattle.model.specs.declared.FilterNumber.{FilterNumber}

-- ---- the first of several

abbrev pub or_else : Option FilterNumber → Option FilterNumber → Option FilterNumber
or_else (Some x) h = Some x
or_else None h = h

-- the first hit among p 0, .., p (n - 1)
unfoldable pub first : (ℕ → Option FilterNumber) → ℕ → Option FilterNumber
first p zero = None
first p (suc n) = or_else (first p n) (p n)

-- ---- one class in one FIFO

-- the bank is active, of this FIFO and of this class
unfoldable pub searched : Filters → FilterClass → Fifo → Bank → Bool
searched g k f b = is_active g b && (belongs f g b && eqb (rank (class_of g b)) (rank k))

-- how many of its filters are looked at
unfoldable pub tried : Filters → FilterClass → Fifo → Bank → ℕ
tried g k f b = pick (searched g k f b) (width k) 0

-- its filter j, if it matches
unfoldable pub hit_at : ℕ → Filters → List ℕ → ℕ → FilterClass → Fifo → Bank → ℕ → Option FilterNumber
hit_at n g v w k f b j = pick (matches k (first_word v b) (second_word v b) j w) (Some (number_of n g f b j)) None

-- its first filter that matches
unfoldable pub hit_in : ℕ → Filters → List ℕ → ℕ → FilterClass → Fifo → Bank → Option FilterNumber
hit_in n g v w k f b = first (hit_at n g v w k f b) (tried g k f b)

-- the matching filter with the lowest number
unfoldable pub first_hit : ℕ → Filters → List ℕ → ℕ → FilterClass → Fifo → Option FilterNumber
first_hit n g v w k f = first (λ (i : ℕ). hit_in n g v w k f (bank i)) n

-- ---- the winner

-- of the first matches of a class in FIFO 0 and in FIFO 1: the lower filter number, FIFO 0 where they are equal
abbrev pub better : Option FilterNumber → Option FilterNumber → Option (Fifo × FilterNumber)
better (Some x) (Some y) = pick (ltb y.0 x.0) (Some (F1, y)) (Some (F0, x))
better (Some x) None = Some (F0, x)
better None (Some y) = Some (F1, y)
better None None = None

abbrev pub or_next : Option (Fifo × FilterNumber) → Option (Fifo × FilterNumber) → Option (Fifo × FilterNumber)
or_next (Some (f, x)) b = Some (f, x)
or_next None b = b

-- of classes, the preferred first: the first that has a match in either FIFO; h k f is the first match of class k in FIFO f
unfoldable pub chosen : {K : Type 0} → (K → Fifo → Option FilterNumber) → List K → Option (Fifo × FilterNumber)
chosen h [] = None
chosen h (k ∷ l) = or_next (better (h k F0) (h k F1)) (chosen h l)

-- 32-bit wins over 16, list over mask, then the lower filter number, then FIFO 0
unfoldable pub acceptance : ℕ → Filters → List ℕ → ℕ → Option (Fifo × FilterNumber)
acceptance n g v w = chosen (first_hit n g v w) (List32 ∷ Mask32 ∷ List16 ∷ Mask16 ∷ [])
