-- A place in the search, what stands at it, and what each part of the search finds. Document 01: "Order, filters, storage"; 02: Q-3.
-- A place is four times the bank's number and the filter's place in the bank; 128 stands for none.
-- v are the words R1 and R2 of the banks in turn, w is a frame's identifier word.
use Rattle.std.specs.Prelude.{◌≡◌, ℕ, ◌+◌, ◌*◌, ◌/◌, ◌%◌, ◌^◌, ◌<◌, ◌≤◌, Bool, false, ◌||◌, List, length, ◌==◌, nat_le, nat_lt, Option, Some, None}
use Rattle.base.specs.Base.{pick, bit, sum}
use Rattle.model.specs.Banks.{bank, filter_number, width, first_number, number_of}
use Rattle.model.specs.Search.{first, searched, hit_at, first_hit, better, acceptance}
use Rattle.model.specs.declared.Filters.{Filters}
use Rattle.model.specs.declared.Bank.{Bank}
use Rattle.model.specs.declared.FilterClass.{FilterClass}
use Rattle.model.specs.declared.Fifo.{Fifo}
use Rattle.model.specs.declared.Fifo.TheVariants.{F0, F1}
use Rattle.filter.specs.Compared.{of_banks, up_to_first, takes_frame, up_to_match, tried_after, compared_in, compared}
use Rattle.filter.specs.declared.Place.{Place}
use Rattle.filter.specs.declared.FirstMatch.{FirstMatch}
use Rattle.filter.specs.declared.Leading.{Leading}
use Rattle.filter.specs.declared.BestClass.{BestClass}
use Rattle.filter.specs.declared.WinningFilter.{WinningFilter}
use Rattle.filter.specs.declared.SearchResult.{SearchResult}
use Rattle.model.specs.declared.FilterNumber.{FilterNumber}

-- ---- places

-- a place of the 14 banks, or none
abbrev pub Within : Place → Type 0
Within p = (p.0 ≤ 128) × (p.0 < 128 → p.0 < 56)

-- the filter at a place, by its number in a FIFO
unfoldable pub hit_of : Filters → Fifo → Place → Option FilterNumber
hit_of g f p = pick (nat_lt p.0 128) (Some (number_of 14 g f (bank (p.0 / 4)) (p.0 % 4))) None

-- its number, 255 for none
unfoldable pub number_at : Filters → Fifo → Place → ℕ
number_at g f p = pick (nat_lt p.0 128) ((first_number 14 g f (bank (p.0 / 4))).0 + p.0 % 4) 255

-- ---- one search

-- a word with a bit for each bank: how many filters of class k each of its banks has
abbrev pub among : FilterClass → ℕ → Bank → ℕ
among k x b = pick (bit b.0 x) (width k) 0

-- of t b filters of each bank b, those of the banks with no more than m of them before
unfoldable pub limited : ℕ → (Bank → ℕ) → Bank → ℕ
limited m t b = pick (nat_le (sum (λ (i : ℕ). t (bank i)) b.0) m) (t b) 0

-- of t b filters of each bank b, the first that matches; `first_hit` is this of the filters that are `tried`
unfoldable pub first_of : Filters → List ℕ → ℕ → FilterClass → Fifo → (Bank → ℕ) → Option FilterNumber
first_of g v w k f t = first (λ (i : ℕ). first (hit_at 14 g v w k f (bank i)) (t (bank i))) 14

unfoldable pub no_match : ℕ → FirstMatch
no_match c = record { place = record { 0 = 128 }; compared = c }

-- the first match in the banks of the word x with no more than m filters before them, and how many filters were compared
pub record FirstIn (v : List ℕ) (w : ℕ) (k : FilterClass) (x m : ℕ) (p : FirstMatch) : Type 0 where
  pub within : Within p.place
  pub hit : (g : Filters) (f : Fifo) → hit_of g f p.place ≡ first_of g v w k f (limited m (among k x))
  pub compared : p.compared ≡ length (up_to_first (takes_frame v w k) (of_banks (limited m (among k x)) 14))
  pub few : p.compared ≤ 56

-- ---- one class: FIFO 0's first match, or where it has none FIFO 1's

-- the banks of FIFO 1 that are searched, as a word
abbrev pub Rest : Filters → FilterClass → ℕ → Type 0
Rest g k x = (b : Bank) → b.0 < 14 → bit b.0 x ≡ searched g k F1 b

pub record Leads (g : Filters) (v : List ℕ) (w : ℕ) (k : FilterClass) (p : Leading) : Type 0 where
  pub within0 : Within p.f0
  pub within1 : Within p.f1
  pub few : p.compared ≤ 112
  pub hit0 : hit_of g F0 p.f0 ≡ first_hit 14 g v w k F0
  -- with a match in FIFO 0 the banks of FIFO 1 are left to search
  pub rest : p.f0.0 < 128 → Rest g k p.rest
  pub compared0 : p.f0.0 < 128 → p.compared ≡ length (up_to_match 14 g v w k F0)
  pub hit1 : 128 ≤ p.f0.0 → hit_of g F1 p.f1 ≡ first_hit 14 g v w k F1
  pub compared1 : 128 ≤ p.f0.0 → p.compared ≡ length (compared_in 14 g v w k)

unfoldable pub any_place : Leading → Bool
any_place p = nat_lt p.f0.0 128 || nat_lt p.f1.0 128

-- with the comparisons of the classes before it
unfoldable pub counted : Leading → ℕ → Leading
counted p m = record { f0 = p.f0; f1 = p.f1; rest = p.rest; compared = p.compared + m }

-- ---- all classes: the first that has a match, or the last; with a match in FIFO 0 its banks of FIFO 1 are left to search

pub record Best (g : Filters) (v : List ℕ) (w : ℕ) (b : BestClass) : Type 0 where
  pub within0 : Within b.leading.f0
  pub within1 : Within b.leading.f1
  pub few : b.leading.compared ≤ 448
  pub hit0 : hit_of g F0 b.leading.f0 ≡ first_hit 14 g v w b.class F0
  pub rest : b.leading.f0.0 < 128 → Rest g b.class b.leading.rest
  pub accepted0 : b.leading.f0.0 < 128
      → better (hit_of g F0 b.leading.f0) (first_hit 14 g v w b.class F1) ≡ acceptance 14 g v w
  pub compared0 : b.leading.f0.0 < 128
      → b.leading.compared
      + length (up_to_first (takes_frame v w b.class) (of_banks (tried_after 14 g b.class (hit_of g F0 b.leading.f0)) 14))
      ≡ compared 14 g v w
  pub accepted1 : 128 ≤ b.leading.f0.0 → better None (hit_of g F1 b.leading.f1) ≡ acceptance 14 g v w
  pub compared1 : 128 ≤ b.leading.f0.0 → b.leading.compared ≡ compared 14 g v w

-- ---- FIFO 1 after number n of FIFO 0

-- m is one less than n
abbrev pub OneLess : ℕ → ℕ → Type 0
OneLess m n = (m + 1) % 2 ^ 32 ≡ n

-- in the word y, with no more than m filters before them, are the filters of the class that are looked at
abbrev pub CanWin : Filters → ℕ → ℕ → ℕ → Type 0
CanWin g n x y = (k : FilterClass) (m : ℕ) → Rest g k x → m < 2 ^ 32 → OneLess m n
    → (i : ℕ) → i < 14 → limited m (among k y) (bank i) ≡ tried_after 14 g k (Some (filter_number n)) (bank i)

-- ---- the winner

-- a winner: twice the filter's number, and one more in FIFO 1; 510 for none
unfoldable pub winner_of : Option (Fifo × FilterNumber) → WinningFilter
winner_of (Some (F0, x)) = record { 0 = 2 * x.0 }
winner_of (Some (F1, x)) = record { 0 = 2 * x.0 + 1 }
winner_of None = record { 0 = 510 }

unfoldable pub accepted_by : WinningFilter → Option (Fifo × FilterNumber)
accepted_by x = pick (nat_le 510 x.0) None (pick (x.0 % 2 == 0) (Some (F0, (filter_number (x.0 / 2)))) (Some (F1, (filter_number (x.0 / 2)))))

-- the winner of the first matches in FIFO 0 and in FIFO 1, by their numbers, 255 for none
unfoldable pub lower : ℕ → ℕ → WinningFilter
lower x y = record { 0 = pick (nat_lt (2 * x) (2 * y + 1)) (2 * x) (2 * y + 1) }

-- filters with these four words; a search does not look at FINIT
abbrev pub filters_of : ℕ → ℕ → ℕ → ℕ → Filters
filters_of m s f a = record { mode = m; scale = s; assignment = f; activation = a; finit = false }

-- what a search gives: the winner, and how many filters it compared
unfoldable pub result_of : Filters → List ℕ → ℕ → SearchResult
result_of g v w = record { winner = winner_of (acceptance 14 g v w); compared = compared 14 g v w }
