use Rattle.std.proofs.Common.{◌≡◌, ◌+◌, ◌-◌, ◌∙◌, ap, arith}
use Rattle.names.specs.declared.Span.{Span}
use Rattle.phrases.specs.Names.{fields_of, with_fields, said_of}
use Rattle.phrases.specs.declared.Said.{Said}
use Rattle.phrases.proofs.Putting.{fields_on_lem, fields-ended, all_said}
use Rattle.phrases.proofs.all_fields.Goals as goal

pub loop-row-preserved : goal.loop-row-preserved
loop-row-preserved c =
    let x = c.rows_of-rows.result in
    fields_on_lem c.loop-row.said _ _ c.loop-row.row (x.first + x.count) _ c.loop-row-test.true c.with_row-said.ensures c.loop-row.invariant

pub returns : goal.returns
unfolding said_of fields_of
returns c =
    let x = c.rows_of-rows.result in
    let s : Said = record { line = c.args.l; rest = c.args.w } in
    let n : x.first + x.count - x.first ≡ x.count = omega arith in
    let e = rw c.register_at.ensures at c.rows_of-rows.ensures in
    fields-ended c.loop-row.said _ _ c.loop-row.row (x.first + x.count) c.loop-row-test.false (rw n at c.loop-row.invariant)
    ∙ (ap (λ (y : Span). with_fields s (fields_of y) c.args.w) e ∙ all_said _ _ _)
