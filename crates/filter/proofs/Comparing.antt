-- What a search compares in one class. Assumes nothing.
use Rattle.std.proofs.Common.{◌≡◌, ℕ, ◌+◌, ◌<◌, Bool, true, false, List, length, refl, ap, ◌∙◌, length-append, Some, None}
use Rattle.base.specs.Base.{pick, sum}
use Rattle.model.specs.Banks.{bank, number_of}
use Rattle.model.specs.Search.{tried, hit_at, hit_in, first_hit}
use Rattle.model.specs.declared.Filters.{Filters}
use Rattle.model.specs.declared.Bank.{Bank}
use Rattle.model.specs.declared.FilterClass.{FilterClass}
use Rattle.model.specs.declared.Fifo.{Fifo}
use Rattle.model.specs.declared.Fifo.TheVariants.{F0, F1}
use Rattle.model.proofs.FirstHit.{FirstOfRow, nowhere, at, first_of-row, nothing_no_filter}
use Rattle.filter.specs.Compared.{Candidate, candidate, of_banks, up_to_first, takes_frame, up_to_match, tried_after, compared_in}
use Rattle.filter.proofs.Candidates.{length-of_banks, NoneOf, cut-nowhere}

-- ---- one class

module _ (n : ℕ) (g : Filters) (v : List ℕ) (w : ℕ) (k : FilterClass) where
  pub length-compared : length (compared_in n g v w k)
      ≡ length (up_to_match n g v w k F0)
      + length (up_to_first (takes_frame v w k) (of_banks (tried_after n g k (first_hit n g v w k F0)) n))
  unfolding compared_in
  length-compared =
      length-append (up_to_match n g v w k F0) (up_to_first (takes_frame v w k) (of_banks (tried_after n g k (first_hit n g v w k F0)) n))

  -- without a match in FIFO 0, FIFO 1 is compared up to its own
  pub compared_in-both : first_hit n g v w k F0 ≡ None
      → length (compared_in n g v w k) ≡ length (up_to_match n g v w k F0) + length (up_to_match n g v w k F1)
  unfolding tried_after up_to_match
  compared_in-both e = length-compared ∙ rw e

-- ---- without a match

module _ (n : ℕ) (g : Filters) (v : List ℕ) (w : ℕ) (k : FilterClass) (f : Fifo) where
  abbrev takes : Candidate → Bool
  takes = takes_frame v w k

  -- a filter that is no hit does not take the frame
  no_hit_false : (b : Bank) (j : ℕ) → hit_at n g v w k f b j ≡ None → takes (candidate b j) ≡ false
  unfolding hit_at
  no_hit_false b j e = go (takes (candidate b j)) e
    where
      go : (t : Bool) → pick t (Some (number_of n g f b j)) None ≡ None → t ≡ false
      go false e = refl
      go true e = nothing_no_filter e refl

  none-in_bank : (b : Bank) → hit_in n g v w k f b ≡ None → (j : ℕ) → j < tried g k f b → takes (candidate b j) ≡ false
  unfolding hit_in
  none-in_bank b e j h = go (first_of-row (hit_at n g v w k f b) (tried g k f b))
    where
      go : FirstOfRow (hit_at n g v w k f b) (tried g k f b) → takes (candidate b j) ≡ false
      go (nowhere s q) = no_hit_false b j (q j h)
      go (at i x l d s q) = nothing_no_filter e s

  -- without a hit no filter takes the frame
  pub none-takes : first_hit n g v w k f ≡ None → NoneOf takes (tried g k f) n
  unfolding first_hit
  none-takes e i j l h = go (first_of-row (λ (a : ℕ). hit_in n g v w k f (bank a)) n)
    where
      go : FirstOfRow (λ (a : ℕ). hit_in n g v w k f (bank a)) n → takes (candidate (bank i) j) ≡ false
      go (nowhere s q) = none-in_bank (bank i) (q i l) j h
      go (at a x m d s q) = nothing_no_filter e s

  -- without a hit all active filters of the class in the FIFO are compared
  pub all-compared : first_hit n g v w k f ≡ None → length (up_to_match n g v w k f) ≡ sum (λ (i : ℕ). tried g k f (bank i)) n
  unfolding up_to_match
  all-compared e = ap length (cut-nowhere takes (tried g k f) n (none-takes e)) ∙ length-of_banks (tried g k f) n
