use Rattle.std.proofs.Common.{refl, sym, ◌∙◌}
use Rattle.names.specs.Rows as rows
use Rattle.names.proofs.Loops.{same-blank, same_no_digits, same_digits, same_past, same-other, same_letter, same_ended}
use Rattle.names.proofs.rows.is_named.Goals as goal
use Rattle.names.proofs.rows.is_named.Goals.{then-w-p-via-then-w-p, then-w-p-via-else-w-p+then-byte_at-c}

pub loop-k-init : goal.loop-k-init
unfolding rows.is_named
loop-k-init c = refl

pub returns-then-c-eq32 : goal.returns-then-c-eq32
returns-then-c-eq32 c =
    sym (same-blank c.args.s.now c.args.w c.args.name.now c.loop-k.k c.loop-k.p 8 _ c.byte_at-c.ensures c.loop-k-test.true c.if-c-eq32.true) ∙ c.loop-k.invariant

pub returns-then-p-w : goal.returns-then-p-w
returns-then-p-w c =
    sym (same_no_digits c.args.s.now c.args.w c.args.name.now c.loop-k.k c.loop-k.p 8 _ c.byte_at-c.ensures c.loop-k-test.true c.if-c-eq32.false c.if-c-eq37.true c.if-p-w.true) ∙ c.loop-k.invariant

pub loop-k-preserved-then-c-eq37 : goal.loop-k-preserved-then-c-eq37
loop-k-preserved-then-c-eq37 c =
    sym (same_digits c.args.s.now c.args.w c.args.name.now c.loop-k.k c.loop-k.p 8 _ c.byte_at-c.ensures c.loop-k-test.true c.if-c-eq32.false c.if-c-eq37.true c.if-p-w.false) ∙ c.loop-k.invariant

pub returns-then-w-p : goal.returns-then-w-p
returns-then-w-p c =
    elim c.then-w-p.branch [
      | then-w-p-via-then-w-p w ↦ sym (same_past c.args.s.now c.args.w c.args.name.now c.loop-k.k c.loop-k.p 8 _ c.byte_at-c.ensures c.loop-k-test.true c.if-c-eq32.false c.if-c-eq37.false w.if-w-p.true) ∙ c.loop-k.invariant
      | then-w-p-via-else-w-p+then-byte_at-c w ↦ sym (same-other c.args.s.now c.args.w c.args.name.now c.loop-k.k c.loop-k.p 8 _ c.byte_at-c.ensures c.loop-k-test.true c.if-c-eq32.false c.if-c-eq37.false _ w.byte_at.ensures w.if-w-p.false w.if-byte_at-c.true) ∙ c.loop-k.invariant
    ]

pub loop-k-preserved : goal.loop-k-preserved
loop-k-preserved c =
    sym (same_letter c.args.s.now c.args.w c.args.name.now c.loop-k.k c.loop-k.p 8 _ c.byte_at-c.ensures c.loop-k-test.true c.if-c-eq32.false c.if-c-eq37.false _ c.byte_at.ensures c.if-w-p.false c.if-byte_at-c.false) ∙ c.loop-k.invariant

pub returns : goal.returns
returns c = sym (same_ended c.args.s.now c.args.w c.args.name.now c.loop-k.k c.loop-k.p 8 c.loop-k-test.false) ∙ c.loop-k.invariant
