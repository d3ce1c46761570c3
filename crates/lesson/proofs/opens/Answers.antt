-- The first three bytes, or too few; the library compares the other way round.
use Rattle.std.proofs.Common.{◌≡◌, ◌∙◌, refl, ℕ, List, [], ◌∷◌, nat_eq, eqb, Bool, true, false, arith}
use Rattle.std.specs.List.{starts_with}
use borrow.Author.Tests.{eqb-true, eqb-false}
use Rattle.model.specs.Lesson.{opens}
use Rattle.lesson.proofs.opens.Goals as goal

swapped : (n m : ℕ) → eqb n m ≡ eqb m n
swapped n m = go (eqb n m) (eqb m n) refl refl
  where
    go : (a b : Bool) → eqb n m ≡ a → eqb m n ≡ b → a ≡ b
    go true true h k = refl
    go true false h k = absurd (omega (arith, eqb-true n m h, eqb-false m n k))
    go false true h k = absurd (omega (arith, eqb-false n m h, eqb-true m n k))
    go false false h k = refl

opens-starts : (s : List ℕ) → starts_with nat_eq s (1 ∷ 0 ∷ 0 ∷ []) ≡ opens s
unfolding opens
opens-starts [] = refl
opens-starts (a ∷ []) = rw (swapped 1 a) refl
opens-starts (a ∷ b ∷ []) = rw (swapped 1 a, swapped 0 b) refl
opens-starts (a ∷ b ∷ d ∷ s) = rw (swapped 1 a, swapped 0 b, swapped 0 d) refl

pub returns : goal.returns
returns c = c.starts_with.ensures.value ∙ opens-starts _
