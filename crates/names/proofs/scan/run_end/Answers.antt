use Rattle.std.proofs.Common.{refl, sym, ap, ◌∙◌, length}
use Rattle.std.proofs.lemmas.List.{get_or_default}
use Rattle.names.specs.Scan as scan
use Rattle.names.proofs.Loops.{run_on_lem, run-stops, run-over}
use Rattle.names.proofs.scan.run_end.Goals as goal

pub loop-i-init : goal.loop-i-init
unfolding scan.run_end
loop-i-init c = refl

pub returns-then-not-contains : goal.returns-then-not-contains
unfolding scan.byte_at
returns-then-not-contains c =
    sym (run-stops c.args.s.now c.loop-i.i (length c.args.s.now) c.args.k c.loop-i-test.true (sym (c.contains.ensures ∙ ap (scan.is_of c.args.k) (get_or_default c.args.s.now c.loop-i.i 0 32 c.loop-i-test.true)) ∙ c.if-not-contains.true)) ∙ c.loop-i.invariant

pub loop-i-preserved : goal.loop-i-preserved
unfolding scan.byte_at
loop-i-preserved c =
    sym (run_on_lem c.args.s.now c.loop-i.i (length c.args.s.now) c.args.k c.loop-i-test.true (sym (c.contains.ensures ∙ ap (scan.is_of c.args.k) (get_or_default c.args.s.now c.loop-i.i 0 32 c.loop-i-test.true)) ∙ c.if-not-contains.false)) ∙ c.loop-i.invariant

pub returns : goal.returns
returns c = c.max.ensures ∙ run-over c.args.s.now c.args.from c.loop-i.i c.args.k c.loop-i-test.false c.loop-i.auto.i-end c.loop-i.invariant
