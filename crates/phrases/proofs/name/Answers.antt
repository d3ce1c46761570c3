use Rattle.std.proofs.Common.{◌≡◌, ◌≢◌, ◌∙◌, ℕ, ap, arith, refl, eq-eqb, ne_eqb}
use Rattle.text.specs.Lines.{put_all, added}
use Rattle.text.specs.Numbers.{decimal}
use Rattle.text.specs.declared.Line.{Line}
use Rattle.phrases.specs.Names.{letter_text, name_text}
use Rattle.phrases.proofs.Putting.{name_on_lem, name-blank, name-ended, whole-name}
use Rattle.phrases.proofs.name.Goals as goal
use Rattle.phrases.proofs.name.Goals.{in-37, in_default}

pub returns-in-0-to-32 : goal.returns-in-0-to-32
unfolding name_text
returns-in-0-to-32 c =
    name-blank c.loop-c.line _ _ _ c.loop-c.c-index (grind arith) (omega arith) c.loop-c.invariant ∙ whole-name _ _ _ _ c.text-text.ensures

-- a percent sign, and any other letter
number_put : (b n k : ℕ) (m r : Line) → b ≡ 37 → k ≡ n → r ≡ put_all m (decimal k) → r ≡ put_all m (letter_text b n)
unfolding letter_text
number_put b n k m r h e p = rw (eq-eqb b 37 h, ← e) p

letter_put : (b n : ℕ) (m r : Line) → b ≢ 37 → r ≡ added m b → r ≡ put_all m (letter_text b n)
unfolding letter_text put_all
letter_put b n m r h p = rw (ne_eqb b 37 h) p

pub loop-c-preserved : goal.loop-c-preserved
loop-c-preserved c =
    elim c.match-c.branch [
      | in-37 w ↦
          name_on_lem c.loop-c.line _ _ _ c.loop-c.c-index _ (grind arith) (omega (arith, w.in-37.is))
          (number_put _ _ _ _ _ w.in-37.is w.from.ensures (w.line-is ∙ w.decimal-line.ensures.value)) c.loop-c.invariant
      | in_default w ↦
          name_on_lem c.loop-c.line _ _ _ c.loop-c.c-index _ (grind arith) (grind arith)
          (letter_put _ _ _ _ (grind arith) (w.line-is ∙ w.push.ensures.value)) c.loop-c.invariant
    ]

pub returns : goal.returns
unfolding name_text
returns c =
    name-ended c.loop-c.line _ _ _ c.loop-c.c-index (grind arith) c.loop-c.invariant ∙ whole-name _ _ _ _ c.text-text.ensures
