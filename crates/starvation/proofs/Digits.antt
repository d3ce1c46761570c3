-- The digits of a number, one after the other.
use Rattle.std.proofs.Common.{◌≡◌, ℕ, ◌+◌, ◌<◌, ◌≤◌, ◌≢◌, List, [], ◌∷◌, length, get_or, drop, refl, add-one, drop_of_length-le, drop-cons, ne_eqb, Option, Some, None}
use Rattle.starvation.specs.Number.{with_digit, next, read_on, parsed}

-- what is no number stays none
pub stays-none : (s : List ℕ) → read_on None s ≡ None
unfolding read_on next
stays-none [] = refl
stays-none (c ∷ s) = stays-none s

pub one_more : (n : ℕ) (p : Option ℕ) (text : List ℕ) (i : ℕ) → i < length text → p ≡ with_digit n (get_or text i 0)
    → read_on p (drop (i + 1) text) ≡ read_on (Some n) (drop i text)
unfolding read_on next
one_more n p text i h e = rw (e, add-one i, drop-cons text i 0 h)

pub at_end : (p : Option ℕ) (text : List ℕ) (i : ℕ) → length text ≤ i → read_on p (drop i text) ≡ p
unfolding read_on
at_end p text i h = rw (drop_of_length-le text {i = i} h)

pub parsed-some : (s : List ℕ) → length s ≢ 0 → parsed s ≡ read_on (Some 0) s
unfolding parsed
parsed-some s h = rw (ne_eqb (length s) 0 h)
