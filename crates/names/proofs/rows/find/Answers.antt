use Rattle.std.proofs.Common.{sym, ◌∙◌, ◌+◌}
use Rattle.names.proofs.Loops.{find_on_lem, find_stops, find_ended}
use Rattle.names.proofs.rows.find.Goals as goal

pub returns-then-is_named : goal.returns-then-is_named
returns-then-is_named c =
    let n = rw c.text.ensures at c.is_named.ensures in
    sym (find_stops c.args.s.now c.args.w c.loop-row.row (c.args.first + c.args.count) c.loop-row-test.true (sym n ∙ c.if-is_named.true)) ∙ c.loop-row.invariant

pub loop-row-preserved : goal.loop-row-preserved
loop-row-preserved c =
    let n = rw c.text.ensures at c.is_named.ensures in
    sym (find_on_lem c.args.s.now c.args.w c.loop-row.row (c.args.first + c.args.count) c.loop-row-test.true (sym n ∙ c.if-is_named.false)) ∙ c.loop-row.invariant

pub returns : goal.returns
returns c = sym (find_ended c.args.s.now c.args.w c.loop-row.row (c.args.first + c.args.count) c.loop-row-test.false) ∙ c.loop-row.invariant
