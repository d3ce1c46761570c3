use Rattle.std.proofs.Common.{◌<◌, length, sym, add-zero, arith}
use Rattle.hex_text.proofs.Reading.{going-begun, going_on, piece, left}
use Rattle.hex_text.proofs.Reader.unhexed.Goals as goal
use Rattle.hex_text.proofs.Reader.unhexed.Goals.{in-Some, in_default}

pub loop-i-init : goal.loop-i-init
loop-i-init c = going-begun _ _

pub loop-i-preserved : goal.loop-i-preserved
loop-i-preserved c =
    let a = c.args in
    let l = c.loop-i in
    let h : l.i < length a.text.now = omega (arith, l.invariant.same, c.loop-i-test.true) in
    let t = going_on a.self a.text.now l.text l.reader l.count l.i l.invariant h c.taken-next.result.given c.taken-next.result.reader (sym c.taken-next.ensures) in
    elim c.match-next.branch [
      | in-Some w ↦ rw (w.text-is, w.count-is) (rw w.in-Some.is at t)
      | in_default w ↦ rw (w.text-is, w.count-is) (rw (w.in_default.is, add-zero) at t)
    ]

pub returns-clause-value : goal.returns-clause-value
returns-clause-value c =
    let a = c.args in
    let l = c.loop-i in
    piece a.self a.text.now l.text l.reader l.count l.i l.invariant (omega (arith, l.invariant.same))

pub returns-clause-text_after : goal.returns-clause-text_after
returns-clause-text_after c =
    let a = c.args in
    let l = c.loop-i in
    left a.self a.text.now l.text l.reader l.count l.i l.invariant (omega (arith, l.invariant.same))
