-- Interrupt lines put on a line of text one behind the other.
use mathlib.Core.Path.{◌≡◌, sym, ap, ◌∙◌}
use Prim.Native.Nat.{ℕ, suc, ◌+◌, ◌-◌, ◌/◌, ◌%◌, ◌^◌, ◌<◌, ◌≤◌}
use native.Mathlib.Omega.{arith}
use borrow.Author.Tests.{eq-eqb, ne_eqb}
use Rattle.text.specs.Lines.{put_all, put_both, added}
use Rattle.text.specs.declared.Line.{Line}
use Rattle.phrases.specs.Names.{name_text}
use Rattle.phrases.specs.Lines.{line_text, lines_on}

module _ (m : Line) (up i : ℕ) where
  pub line_up : (r : Line) → up / 2 ^ i % 2 ≡ 1 → r ≡ put_all (added m 32) (name_text (23 + i) 0) → r ≡ put_all m (line_text up i)
  unfolding line_text put_all
  line_up r h e = rw (eq-eqb _ _ h) e

  pub line_down : (up / 2 ^ i % 2 ≡ 1 → ⊥) → m ≡ put_all m (line_text up i)
  unfolding line_text put_all
  line_down h = rw (ne_eqb _ _ h)

  pub lines_on_lem : (r z : Line) → i < 4 → r ≡ put_all m (line_text up i) → put_all m (lines_on up i (4 - i)) ≡ z → put_all r (lines_on up (i + 1) (4 - (i + 1))) ≡ z
  unfolding lines_on
  lines_on_lem r z h e q =
      ap (λ (x : Line). put_all x (lines_on up (i + 1) (4 - (i + 1)))) e
      ∙ (put_both m (line_text up i) (lines_on up (i + 1) (4 - (i + 1)))
      ∙ (sym (ap (λ (n : ℕ). put_all m (lines_on up i n)) left) ∙ q))
    where
      left : 4 - i ≡ suc (4 - (i + 1))
      left = omega arith

  pub lines-ended : (z : Line) → 4 ≤ i → put_all m (lines_on up i (4 - i)) ≡ z → m ≡ z
  unfolding lines_on put_all
  lines-ended z h q = sym (ap (λ (n : ℕ). put_all m (lines_on up i n)) none) ∙ q
    where
      none : 4 - i ≡ 0
      none = omega arith
