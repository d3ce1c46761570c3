use Rattle.std.proofs.Common.{refl, sym, ◌∙◌, Some}
use Rattle.names.specs.Scan as scan
use Rattle.names.proofs.Loops.{value_on_lem, value-stops, value-ended}
use Rattle.names.proofs.scan.value.Goals as goal

pub loop-i-init : goal.loop-i-init
unfolding scan.value
loop-i-init c = refl

pub returns-in_err-n : goal.returns-in_err-n
returns-in_err-n c =
    let d = rw c.byte_at.ensures at c.with_digit.ensures in
    let e = sym (value-stops c.args.s.now c.loop-i.i c.args.to (Some c.loop-i.n) c.args.hex c.loop-i-test.true (sym d ∙ c.in_err-n.was)) ∙ c.loop-i.invariant in
    c.from_residual.ensures ∙ e

pub loop-i-preserved : goal.loop-i-preserved
loop-i-preserved c =
    let d = rw c.byte_at.ensures at c.with_digit.ensures in
    let e = sym (value_on_lem c.args.s.now c.loop-i.i c.args.to (Some c.loop-i.n) c.args.hex c.loop-i-test.true) ∙ c.loop-i.invariant in
    rw (sym d ∙ c.in_ok-n.was) at e

pub returns : goal.returns
returns c = sym (value-ended c.args.s.now c.loop-i.i c.args.to (Some c.loop-i.n) c.args.hex c.loop-i-test.false) ∙ c.loop-i.invariant
