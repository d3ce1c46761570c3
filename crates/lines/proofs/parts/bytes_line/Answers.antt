-- The invariant: the definition, from the words so far on, gives what it gives from the start.
use Rattle.std.proofs.Common.{sym, ◌∙◌, length, le-leb, lt-ltb, le-ltb, eq-eqb, ne_eqb}
use Rattle.std.proofs.Math.Nat.{sub-zero}
use Rattle.lines.specs.Lines.{bytes_line}
use Rattle.lines.proofs.Words.{bytes-done, bytes-bad, bytes_on_lem, bytes-ended, bytes-begun}
use Rattle.lines.proofs.parts.bytes_line.Goals as goal
use Rattle.lines.proofs.parts.bytes_line.Goals.{then-run_end-w-via-then-run_end-w, then-run_end-w-via-else-run_end-w+then-w-ne0}

pub returns-then-w-first : goal.returns-then-w-first
unfolding bytes_line
returns-then-w-first c = rw (← c.word_at-w.ensures, le-leb _ _ c.if-w-first.true)

pub loop-n-init : goal.loop-n-init
loop-n-init c = rw sub-zero (bytes-begun _ _ _ c.word_at-w.ensures c.if-w-first.false)

pub returns-then-w : goal.returns-then-w
returns-then-w c =
    sym (bytes-done c.args.s.now c.word_at-w.result.from c.loop-n.w c.loop-n._n (length c.args.s.now) c.loop-n-test.true c.if-w.true) ∙ c.loop-n.invariant

pub returns-then-run_end-w : goal.returns-then-run_end-w
returns-then-run_end-w c =
    elim c.then-run_end-w.branch [
      | then-run_end-w-via-then-run_end-w w ↦ sym (bytes-bad c.args.s.now c.word_at-w.result.from c.loop-n.w c.loop-n._n (length c.args.s.now) c.loop-n-test.true c.if-w.false (rw (← c.run_end.ensures, lt-ltb _ _ w.if-run_end-w.true))) ∙ c.loop-n.invariant
      | then-run_end-w-via-else-run_end-w+then-w-ne0 w ↦ sym (bytes-bad c.args.s.now c.word_at-w.result.from c.loop-n.w c.loop-n._n (length c.args.s.now) c.loop-n-test.true c.if-w.false (rw (← c.run_end.ensures, le-ltb _ _ w.if-run_end-w.false, ne_eqb _ _ w.if-w-ne0.true))) ∙ c.loop-n.invariant
    ]

pub loop-n-preserved : goal.loop-n-preserved
loop-n-preserved c =
    rw c.word_at-w-in-loop-n.ensures (sym (bytes_on_lem c.args.s.now c.word_at-w.result.from c.loop-n.w c.loop-n._n (length c.args.s.now) c.loop-n-test.true c.if-w.false (rw (← c.run_end.ensures, le-ltb _ _ c.if-run_end-w.false, eq-eqb _ _ c.if-w-ne0.false))) ∙ c.loop-n.invariant)

pub returns : goal.returns
returns c = sym (bytes-ended c.args.s.now c.word_at-w.result.from c.loop-n.w c.loop-n._n (length c.args.s.now) c.loop-n-test.false) ∙ c.loop-n.invariant
