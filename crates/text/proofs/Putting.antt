-- Bytes put on a line one by one, and numbers as their digits.
use Rattle.std.proofs.Common.{◌≡◌, ℕ, zero, suc, ◌+◌, ◌-◌, ◌*◌, ◌/◌, ◌%◌, ◌^◌, ◌<◌, ◌≤◌, Bool, true, false, ltb, List, [], ◌∷◌, ◌++◌, length, get_or, drop, sym, refl, ap, ◌∙◌, subst, lt_of_lt_of_le, mod-eq_of_lt, pow-suc, add-one, arith, drop_of_length-le, drop-cons, pow_mono, le-ltb, lt-ltb}
use native.Mathlib.Nat.{one-le-pow, div-eq_of_lt}
use lib.Seq.{take-set-le}
use Rattle.io.specs.Digits as io
use Rattle.text.specs.Lines.{Extends, added, put_all, put_both}
use Rattle.text.proofs.Extending.{extends_refl, extends_trans}
use Rattle.text.specs.Numbers.{letter, said, digit_at, digits, decimal_on}
use Rattle.text.specs.declared.Line.{Line}

pub added_extends : (l : Line) (b : ℕ) → Extends l (added l b)
added_extends l b = go (ltb l.at 512) refl
  where
    go : (x : Bool) → ltb l.at 512 ≡ x → Extends l (added l b)
    go true e = rw e (record { kept = λ i h. take-set-le i _ _ _ h; longer = omega arith })
    go false e = rw e (extends_refl l)

pub put_extends : (l : Line) (s : List ℕ) → Extends l (put_all l s)
unfolding put_all
put_extends l [] = extends_refl l
put_extends l (b ∷ s) = extends_trans l (added l b) (put_all (added l b) s) (added_extends l b) (put_extends (added l b) s)

-- what is put on a line extends it
pub says_extends : (l r : Line) (s : List ℕ) → r ≡ put_all l s → Extends l r
says_extends l r s e = subst (λ (x : Line). Extends l x) (sym e) (put_extends l s)

-- ---- texts one behind the other

pub behind : (l m r : Line) (a b : List ℕ) → m ≡ put_all l a → r ≡ put_all m b → r ≡ put_all l (a ++ b)
behind l m r a b e f = f ∙ (ap (λ (x : Line). put_all x b) e ∙ put_both l a b)

-- a byte is a text
pub one_byte : (l m : Line) (b : ℕ) → m ≡ added l b → m ≡ put_all l (b ∷ [])
unfolding put_all
one_byte l m b e = e

-- what is still to be put, with one part of it put
pub on : (m r z : Line) (a b c : List ℕ) → c ≡ a ++ b → r ≡ put_all m a → put_all m c ≡ z → put_all r b ≡ z
on m r z a b c s e k = ap (λ (x : Line). put_all x b) e ∙ (put_both m a b ∙ (sym (ap (put_all m) s) ∙ k))

pub ended : (m z : Line) (c : List ℕ) → c ≡ [] → put_all m c ≡ z → m ≡ z
unfolding put_all
ended m z c s k = sym (ap (put_all m) s) ∙ k

-- ---- a text

module _ (m z : Line) (s : List ℕ) (i : ℕ) where
  pub put_on : (r : Line) → i < length s → r ≡ added m (get_or s i 0) → put_all m (drop i s) ≡ z → put_all r (drop (i + 1) s) ≡ z
  unfolding put_all
  put_on r h e k = ap (λ (x : Line). put_all x (drop (i + 1) s)) e ∙ (sym (ap (put_all m) (drop-cons s i 0 h ∙ ap (λ (n : ℕ). get_or s i 0 ∷ drop n s) (sym (add-one i)))) ∙ k)

  pub put_ended : length s ≤ i → put_all m (drop i s) ≡ z → m ≡ z
  unfolding put_all
  put_ended h k = sym (ap (put_all m) (drop_of_length-le s h)) ∙ k

module _ (m z : Line) (s : List ℕ) (n i : ℕ) where
  pub said_on : (r : Line) → i < length s → r ≡ put_all m (letter (get_or s i 0) n) → put_all m (said (drop i s) n) ≡ z → put_all r (said (drop (i + 1) s) n) ≡ z
  unfolding said
  said_on r h e k =
      on m r z (letter (get_or s i 0) n) (said (drop (i + 1) s) n) (said (drop i s) n)
      (ap (λ (t : List ℕ). said t n) (drop-cons s i 0 h ∙ ap (λ (j : ℕ). get_or s i 0 ∷ drop j s) (sym (add-one i)))) e k

  pub said_ended : length s ≤ i → put_all m (said (drop i s) n) ≡ z → m ≡ z
  unfolding said
  said_ended h k = ended m z (said (drop i s) n) (ap (λ (t : List ℕ). said t n) (drop_of_length-le s h)) k

-- ---- hex digits

-- a word has none from the eighth on
pub no_digit_lem : (w j : ℕ) → 8 ≤ j → w < 2 ^ 32 → 48 ≡ digit_at w j
no_digit_lem w j h l = rw (div-eq_of_lt (lt_of_lt_of_le l (pow_mono {i = 32} {j = 4 * j} (omega arith))))

module _ (m z : Line) (w : ℕ) where
  pub digits-on : (j : ℕ) (r : Line) → 0 < j → r ≡ added m (digit_at w (j - 1)) → put_all m (digits w j) ≡ z → put_all r (digits w (j - 1)) ≡ z
  unfolding put_all digits
  digits-on j r h e q =
      ap (λ (x : Line). put_all x (digits w (j - 1))) e ∙ (sym (ap (λ (n : ℕ). put_all m (digits w n)) left) ∙ q)
    where
      left : j ≡ suc (j - 1)
      left = omega arith

  pub digits-ended : (j : ℕ) → j ≤ 0 → put_all m (digits w j) ≡ z → m ≡ z
  unfolding put_all digits
  digits-ended j h q = sym (ap (λ (n : ℕ). put_all m (digits w n)) none) ∙ q
    where
      none : j ≡ 0
      none = omega arith

-- ---- decimal digits

glyph_is : (n : ℕ) → io.hex_digit_ascii (n % 10) ≡ 48 + n % 10
glyph_is n = rw (lt-ltb (n % 10) 10 (omega arith))

-- more digits than one: the number has as many
more : (j n : ℕ) → io.IsDigitCount 10 1 n (suc (suc j)) → 10 ^ j * 10 ≤ n
more j n f = omega (arith, pow-suc 10 j, ap (λ (x : ℕ). 10 ^ x) same, f.2 (omega arith))
  where
    same : suc (suc j) - 1 ≡ suc j
    same = omega arith

pub decimal_digits_lem : (k n j : ℕ) → n < 10 ^ suc k → io.IsDigitCount 10 1 n j → io.last_digits 10 j n ≡ decimal_on (suc k) n
unfolding decimal_on
decimal_digits_lem k n zero h f = absurd (omega (arith, f.0))
decimal_digits_lem k n (suc zero) h f = rw (lt-ltb n 10 (omega (arith, f.1)), glyph_is n, mod-eq_of_lt {n = n} {m = 10} (omega (arith, f.1)))
decimal_digits_lem zero n (suc (suc j)) h f = absurd (omega (arith, h, one-le-pow j 10 (omega arith), more j n f))
decimal_digits_lem (suc k) n (suc (suc j)) h f =
    rw (
      le-ltb n 10 (omega (arith, one-le-pow j 10 (omega arith), more j n f)),
      glyph_is n,
      decimal_digits_lem k (n / 10) (suc j) (omega (arith, h, pow-suc 10 (suc k))) (omega arith, omega (arith, f.1, pow-suc 10 (suc j)), less),
    )
  where
    less : 1 < suc j → 10 ^ (suc j - 1) ≤ n / 10
    less _ = omega (arith, more j n f, ap (λ (x : ℕ). 10 ^ x) same)
      where
        same : suc j - 1 ≡ j
        same = omega arith
