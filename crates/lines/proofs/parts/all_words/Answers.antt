-- The invariant: the definition, from the words so far on, gives what it gives from the start.
use Rattle.std.proofs.Common.{rules, refl, sym, ◌∙◌, length}
use Rattle.std.proofs.Math.Nat.{sub-zero}
use Rattle.lines.specs.Parts.{all_words}
use Rattle.lines.proofs.Words.{words-done, words_on_lem, words-fault, words-ended}
use Rattle.lines.proofs.parts.all_words.Goals as goal

pub loop-n-init : goal.loop-n-init
unfolding all_words
loop-n-init c = rw sub-zero refl

pub returns-then-w : goal.returns-then-w
returns-then-w c =
    sym (words-done c.args.s.now c.args.k c.loop-n.p c.loop-n._n (length c.args.s.now) c.loop-n-test.true (rw c.word_at-w.ensures at c.if-w.true)) ∙ c.loop-n.invariant

pub returns-in_err-p : goal.returns-in_err-p
returns-in_err-p c =
    let f = rw c.word_at-w.ensures at c.field.ensures in
    let e = sym (words-fault c.args.s.now c.args.k c.loop-n.p c.loop-n._n (length c.args.s.now) _ c.loop-n-test.true (rw c.word_at-w.ensures at c.if-w.false) (sym f ∙ c.in_err-p.was)) ∙ c.loop-n.invariant in
    search (rules, e)

pub loop-n-preserved : goal.loop-n-preserved
loop-n-preserved c =
    let f = rw c.word_at-w.ensures at c.field.ensures in
    let e = sym (words_on_lem c.args.s.now c.args.k c.loop-n.p c.loop-n._n (length c.args.s.now) c.loop-n-test.true (rw c.word_at-w.ensures at c.if-w.false)) ∙ c.loop-n.invariant in
    rw (sym f ∙ c.in_ok-p.was) at e

pub returns : goal.returns
returns c =
    sym (words-ended c.args.s.now c.args.k c.loop-n.p c.loop-n._n (length c.args.s.now) c.loop-n-test.false) ∙ c.loop-n.invariant
