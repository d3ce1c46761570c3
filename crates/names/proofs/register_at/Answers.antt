use Rattle.std.proofs.Common.{refl, sym, ◌∙◌}
use Rattle.names.specs.Rows as rows
use Rattle.names.specs.Table as tables
use Rattle.names.proofs.Loops.{register_on_lem, register-stops, register-ended}
use Rattle.names.proofs.register_at.Goals as goal

pub loop-row-init : goal.loop-row-init
unfolding tables.register_at
loop-row-init c = refl

pub returns-in-Some : goal.returns-in-Some
unfolding rows.index_at
returns-in-Some c =
    let i = rw c.numbers_of.ensures at c.index_of.ensures in
    sym (register-stops c.args.offset c.loop-row.row 53 _ c.loop-row-test.true (sym i ∙ c.in-Some.is)) ∙ c.loop-row.invariant

pub loop-row-preserved : goal.loop-row-preserved
unfolding rows.index_at
loop-row-preserved c =
    let i = rw c.numbers_of.ensures at c.index_of.ensures in
    sym (register_on_lem c.args.offset c.loop-row.row 53 c.loop-row-test.true (sym i ∙ c.in_default.is)) ∙ c.loop-row.invariant

pub returns : goal.returns
returns c = sym (register-ended c.args.offset c.loop-row.row 53 c.loop-row-test.false) ∙ c.loop-row.invariant
