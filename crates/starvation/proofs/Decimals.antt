-- A text is read as the number that its digits say.
use Rattle.std.proofs.Common.{◌≡◌, ℕ, ◌+◌, ◌-◌, ◌*◌, ◌^◌, ◌<◌, ◌≤◌, Bool, true, false, not, ◌&&◌, eqb, ltb, List, [], ◌∷◌, length, refl, arith, ltb-false, ltb-true, le-ltb, lt-ltb, le-leb, Some, None}
use mathlib.Core.Bool.{and-false}
use borrow.Author.Tests.{lt-leb}
use Rattle.base.specs.Base.{pick}
use Rattle.starvation.specs.Number.{numeral_numbers, with_digit, next, read_on, parsed}
use Rattle.starvation.specs.Decimal.{all_digits, decimal_from, Decimal}

-- what is no number stays none
stays-bad : (s : List ℕ) → read_on None s ≡ None
unfolding read_on next
stays-bad [] = refl
stays-bad (c ∷ s) = stays-bad s

-- more digits make no number smaller
decimal-least : (n : ℕ) (s : List ℕ) → n ≤ decimal_from n s
unfolding decimal_from
decimal-least n [] = omega arith
decimal-least n (c ∷ s) = omega (arith, decimal-least (n * 10 + (c - 48)) s)

abbrev Said : ℕ → List ℕ → List ℕ
Said n s = pick (all_digits s && ltb (decimal_from n s) (2 ^ 32)) (1 ∷ decimal_from n s ∷ []) (0 ∷ [])

reads_on : (s : List ℕ) (n : ℕ) → n < 2 ^ 32 → numeral_numbers (read_on (Some n) s) ≡ Said n s
unfolding read_on next with_digit all_digits decimal_from
reads_on [] n h = rw (lt-ltb n (2 ^ 32) h)
reads_on (c ∷ s) n h = below (ltb c 48) refl (reads_on s (n * 10 + (c - 48)))
  where
    m : ℕ
    m = n * 10 + (c - 48)

    Rest : Type 0
    Rest = m < 2 ^ 32 → numeral_numbers (read_on (Some m) s) ≡ Said m s

    fits : (b : Bool) → ltb 4294967295 m ≡ b → ltb c 48 ≡ false → ltb 57 c ≡ false → Rest
        → numeral_numbers (read_on (with_digit n c) s) ≡ Said n (c ∷ s)
    fits true e f g k =
        rw (f, g, e, stays-bad s, le-leb 48 c (ltb-false c 48 f), le-leb c 57 (ltb-false 57 c g), le-ltb (decimal_from m s) (2 ^ 32) (omega (arith, decimal-least m s, ltb-true 4294967295 m e)))
        (simp and-false)
    fits false e f g k =
        rw (f, g, e, le-leb 48 c (ltb-false c 48 f), le-leb c 57 (ltb-false 57 c g)) (k (omega (arith, ltb-false 4294967295 m e)))

    above : (b : Bool) → ltb 57 c ≡ b → ltb c 48 ≡ false → Rest → numeral_numbers (read_on (with_digit n c) s) ≡ Said n (c ∷ s)
    above true e f k = rw (f, e, stays-bad s, le-leb 48 c (ltb-false c 48 f), lt-leb c 57 (ltb-true 57 c e))
    above false e f k = fits (ltb 4294967295 m) refl f e k

    below : (b : Bool) → ltb c 48 ≡ b → Rest → numeral_numbers (read_on (with_digit n c) s) ≡ Said n (c ∷ s)
    below true e k = rw (e, stays-bad s, lt-leb 48 c (ltb-true c 48 e))
    below false e k = above (ltb 57 c) refl e k

pub decimal : (s : List ℕ) → Decimal s
unfolding parsed
decimal s = record { value = go (eqb (length s) 0) refl }
  where
    go : (b : Bool) → eqb (length s) 0 ≡ b
        → numeral_numbers (pick b None (read_on (Some 0) s)) ≡ pick (not b && all_digits s && ltb (decimal_from 0 s) (2 ^ 32)) (1 ∷ decimal_from 0 s ∷ []) (0 ∷ [])
    go true e = refl
    go false e = reads_on s 0 (omega arith)
