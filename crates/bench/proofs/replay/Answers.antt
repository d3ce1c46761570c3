-- Each turn by what holds of the replay before and after it.
use Rattle.std.proofs.Common.{true, refl, arith, sym, ◌∙◌}
use Rattle.bench.specs.Lent.{record_in}
use Rattle.bench.proofs.Turns.{Turned, turned-begun, records-fit, written-fit, turned, nearer}
use Rattle.bench.proofs.replay.Goals as goal

pub loop-c-init : goal.loop-c-init
loop-c-init c = rw c.begun-p.ensures (turned-begun c.args.start c.args.script.now c.args.replies.now)

pub and-p-requires : goal.and-p-requires
and-p-requires c =
    let now = c.loop-c.replies in
    let r = record_in c.loop-c.c c.args.script.now c.loop-c.p.last.place now c.loop-c.p.written in
    let g : Turned c.args.start c.args.script.now c.args.replies.now true now c.loop-c.c c.loop-c.p = rw (sym c.is_over.ensures ∙ c.loop-c-test.true) at c.loop-c.invariant in
    let sums = written-fit c.args.start c.args.script.now c.args.replies.now now c.loop-c.c c.loop-c.p g r refl (omega arith) in
    (records-fit c.args.start c.args.script.now c.args.replies.now now c.loop-c.c c.loop-c.p g r refl (omega arith), rw c.replay_record-r.ensures.0 sums)

pub loop-c-smaller : goal.loop-c-smaller
loop-c-smaller c =
    let now = c.loop-c.replies in
    let r = record_in c.loop-c.c c.args.script.now c.loop-c.p.last.place now c.loop-c.p.written in
    let g : Turned c.args.start c.args.script.now c.args.replies.now true now c.loop-c.c c.loop-c.p = rw (sym c.is_over.ensures ∙ c.loop-c-test.true) at c.loop-c.invariant in
    rw (sym c.is_over.ensures ∙ c.loop-c-test.true)
    (nearer c.args.start c.args.script.now c.args.replies.now now c.loop-c.c c.loop-c.p g r refl c.replay_record-r.result c.and-p.result
    c.replay_record-r.ensures.0 c.and-p.ensures)

pub loop-c-preserved : goal.loop-c-preserved
loop-c-preserved c =
    let now = c.loop-c.replies in
    let r = record_in c.loop-c.c c.args.script.now c.loop-c.p.last.place now c.loop-c.p.written in
    let g : Turned c.args.start c.args.script.now c.args.replies.now true now c.loop-c.c c.loop-c.p = rw (sym c.is_over.ensures ∙ c.loop-c-test.true) at c.loop-c.invariant in
    turned c.args.start c.args.script.now c.args.replies.now now c.loop-c.c c.loop-c.p g r refl c.replay_record-r.new.replies c.replay_record-r.ensures.1.1
    c.replay_record-r.auto.replies c.replay_record-r.result c.replay_record-r.new.c c.and-p.result c.replay_record-r.ensures.0 c.replay_record-r.ensures.1.0
    c.and-p.ensures

pub returns : goal.returns
returns c = rw c.finished.ensures (rw (sym c.is_over.ensures ∙ c.loop-c-test.false) at c.loop-c.invariant)
