-- The definitions that count what is left, one place on and at their end: what a loop needs to carry them.
use mathlib.Core.Bool.{Bool, true, false, not, ◌||◌}
use mathlib.Core.Path.{◌≡◌, refl, sym, ap, ◌∙◌}
use mathlib.Core.List.{List}
use Prim.Native.Nat.{ℕ, zero, suc, ◌+◌, ◌-◌, ◌<◌, ◌≤◌}
use native.Mathlib.Omega.{arith}
use lib.Dec.{eqb, leb}
use lib.ListN.{length}
use borrow.Author.Tests.{leb-true, leb-false, le-leb, lt-leb, eq-eqb, ne_eqb}
use Rattle.base.specs.Base.{pick}
use Rattle.std.specs.Prelude.{Option, Some, None, max}
use Rattle.names.specs.Scan.{byte_at, is_of, run_on, run_end, with_digit, value_on}
use Rattle.names.specs.Listing.{text}
use Rattle.names.specs.Rows.{found, same_on, is_named, find_on, index_at, register_on}
use Rattle.names.specs.declared.scan.Class.{Class}
use Rattle.names.specs.declared.scan.Word.{Word}

module _ (i j : ℕ) where
  left : i < j → j - i ≡ suc (j - (i + 1))
  left h = omega arith

  none_left : j ≤ i → j - i ≡ 0
  none_left h = omega arith

module _ (s : List ℕ) (i j : ℕ) (k : Class) where
  pub run_on_lem : i < j → is_of k (byte_at s i) ≡ true → run_on s i k (j - i) ≡ run_on s (i + 1) k (j - (i + 1))
  unfolding run_on
  run_on_lem h e = ap (run_on s i k) (left i j h) ∙ ap (λ (b : Bool). pick b (run_on s (i + 1) k (j - (i + 1))) i) e

  pub run-stops : i < j → is_of k (byte_at s i) ≡ false → run_on s i k (j - i) ≡ i
  unfolding run_on
  run-stops h e = ap (run_on s i k) (left i j h) ∙ ap (λ (b : Bool). pick b (run_on s (i + 1) k (j - (i + 1))) i) e

  pub run-ended : j ≤ i → run_on s i k (j - i) ≡ i
  unfolding run_on
  run-ended h = ap (run_on s i k) (none_left i j h)

-- the whole run, where it goes to the end of the text or begins behind it
pub run-over : (s : List ℕ) (from i : ℕ) (k : Class) → length s ≤ i → (from ≤ length s → i ≤ length s)
    → run_on s i k (length s - i) ≡ run_end s from k → max from (length s) ≡ run_end s from k
unfolding run_end
run-over s from i k h l e = go (leb from (length s)) refl
  where
    go : (b : Bool) → leb from (length s) ≡ b → max from (length s) ≡ run_on s from k (length s - from)
    go true t =
        let f : from ≤ length s = leb-true from (length s) t in
        let g : i ≤ length s = l f in
        let m : max from (length s) ≡ i = omega arith in
        m ∙ sym (run-ended s i (length s) k h) ∙ e
    go false t =
        let f : length s < from = leb-false from (length s) t in
        let m : max from (length s) ≡ from = omega arith in
        m ∙ sym (run-ended s from (length s) k (omega arith))

-- once there is no number, there stays none
value_stuck : (s : List ℕ) (hex : Bool) (n i : ℕ) → value_on s i hex n None ≡ None
unfolding value_on with_digit
value_stuck s hex zero i = refl
value_stuck s hex (suc n) i = value_stuck s hex n (i + 1)

module _ (s : List ℕ) (i j : ℕ) (a : Option ℕ) (hex : Bool) where
  pub value_on_lem : i < j → value_on s i hex (j - i) a ≡ value_on s (i + 1) hex (j - (i + 1)) (with_digit a (byte_at s i) hex)
  unfolding value_on
  value_on_lem h = ap (λ (n : ℕ). value_on s i hex n a) (left i j h)

  pub value-ended : j ≤ i → value_on s i hex (j - i) a ≡ a
  unfolding value_on
  value-ended h = ap (λ (n : ℕ). value_on s i hex n a) (none_left i j h)

  pub value-stops : i < j → with_digit a (byte_at s i) hex ≡ None → value_on s i hex (j - i) a ≡ None
  value-stops h e = value_on_lem h ∙ rw e (value_stuck s hex (j - (i + 1)) (i + 1))

module _ (s : List ℕ) (w : Word) (t : List ℕ) (k p j : ℕ) where
  same_on_lem : k < j → same_on s w t k p (j - k) ≡
      pick (eqb (byte_at t k) 32) (eqb p w.to)
      (pick (eqb (byte_at t k) 37) (pick (not (eqb p w.digits)) false (same_on s w t (k + 1) w.rest (j - (k + 1))))
      (pick (leb w.to p || not (eqb (byte_at s p) (byte_at t k))) false (same_on s w t (k + 1) (p + 1) (j - (k + 1)))))
  unfolding same_on
  same_on_lem h = ap (same_on s w t k p) (left k j h)

  module _ (c : ℕ) (e : c ≡ byte_at t k) (h : k < j) where
    pub same-blank : c ≡ 32 → same_on s w t k p (j - k) ≡ eqb p w.to
    same-blank f = same_on_lem h ∙ simp (← e, eq-eqb c 32 f)

    pub same_no_digits : (c ≡ 32 → ⊥) → c ≡ 37 → (p ≡ w.digits → ⊥) → same_on s w t k p (j - k) ≡ false
    same_no_digits f g d = same_on_lem h ∙ simp (← e, ne_eqb c 32 f, eq-eqb c 37 g, ne_eqb p w.digits d)

    pub same_digits : (c ≡ 32 → ⊥) → c ≡ 37 → p ≡ w.digits → same_on s w t k p (j - k) ≡ same_on s w t (k + 1) w.rest (j - (k + 1))
    same_digits f g d = same_on_lem h ∙ simp (← e, ne_eqb c 32 f, eq-eqb c 37 g, eq-eqb p w.digits d)

    module _ (f : c ≡ 32 → ⊥) (g : c ≡ 37 → ⊥) where
      pub same_past : w.to ≤ p → same_on s w t k p (j - k) ≡ false
      same_past d = same_on_lem h ∙ simp (← e, ne_eqb c 32 f, ne_eqb c 37 g, le-leb w.to p d)

      module _ (x : ℕ) (y : x ≡ byte_at s p) (l : p < w.to) where
        pub same-other : (x ≡ c → ⊥) → same_on s w t k p (j - k) ≡ false
        same-other d = same_on_lem h ∙ simp (← e, ← y, ne_eqb c 32 f, ne_eqb c 37 g, lt-leb w.to p l, ne_eqb x c d)

        pub same_letter : x ≡ c → same_on s w t k p (j - k) ≡ same_on s w t (k + 1) (p + 1) (j - (k + 1))
        same_letter d = same_on_lem h ∙ simp (← e, ← y, ne_eqb c 32 f, ne_eqb c 37 g, lt-leb w.to p l, eq-eqb x c d)

  pub same_ended : j ≤ k → same_on s w t k p (j - k) ≡ eqb p w.to
  unfolding same_on
  same_ended h = ap (same_on s w t k p) (none_left k j h)

-- the rows from one up to another
module _ (s : List ℕ) (w : Word) (row j : ℕ) where
  pub find_on_lem : row < j → is_named s w (text row) ≡ false → find_on s w row (j - row) ≡ find_on s w (row + 1) (j - (row + 1))
  unfolding find_on
  find_on_lem h e = ap (find_on s w row) (left row j h) ∙ ap (λ (b : Bool). pick b (Some row) (find_on s w (row + 1) (j - (row + 1)))) e

  pub find_stops : row < j → is_named s w (text row) ≡ true → find_on s w row (j - row) ≡ Some row
  unfolding find_on
  find_stops h e = ap (find_on s w row) (left row j h) ∙ ap (λ (b : Bool). pick b (Some row) (find_on s w (row + 1) (j - (row + 1)))) e

  pub find_ended : j ≤ row → find_on s w row (j - row) ≡ None
  unfolding find_on
  find_ended h = ap (find_on s w row) (none_left row j h)

module _ (o row j : ℕ) where
  pub register_on_lem : row < j → index_at row o ≡ None → register_on o row (j - row) ≡ register_on o (row + 1) (j - (row + 1))
  unfolding register_on
  register_on_lem h e = ap (register_on o row) (left row j h) ∙ rw e

  pub register-stops : (i : ℕ) → row < j → index_at row o ≡ Some i → register_on o row (j - row) ≡ Some (found row i)
  unfolding register_on
  register-stops i h e = ap (register_on o row) (left row j h) ∙ rw e

  pub register-ended : j ≤ row → register_on o row (j - row) ≡ None
  unfolding register_on
  register-ended h = ap (register_on o row) (none_left row j h)
