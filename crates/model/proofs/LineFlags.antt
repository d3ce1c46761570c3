-- Each interrupt line is up exactly when a flag of its list, as a register shows it, is up with its enable.
use mathlib.Core.Bool.{Bool, not, ◌&&◌, ◌||◌}
use mathlib.Core.Path.{◌≡◌, refl, ◌∙◌}
use Prim.Native.Nat.{ℕ, ◌+◌, ◌*◌, ◌≤◌, ◌<◌}
use native.Mathlib.Omega.{arith}
use lib.Dec.{eqb}
use Rattle.base.specs.Base.{bit, bits, one}
use Rattle.model.specs.Control.{status_line}
use Rattle.model.specs.Reception.{fifo_line}
use Rattle.model.specs.Registers.{is_free, fifo_of}
use Rattle.model.specs.Step.{step, answered, lines_of, any_rqcp}
use Rattle.model.specs.Reachable.{InRange, StepRange}
use Rattle.model.specs.Shown.{rqcp, msr, rfr, ier, next_of, fifo_number}
use Rattle.model.specs.Interrupts.{Lines, Interrupts}
use Rattle.model.specs.declared.Mailbox.TheVariants.{M0, M1, M2}
use Rattle.model.specs.declared.Fifo.{Fifo}
use Rattle.model.specs.declared.Fifo.TheVariants.{F0, F1}
use Rattle.model.specs.declared.Core.{Core}
use Rattle.model.specs.declared.Controller.{Controller}
use Rattle.model.specs.declared.Step as steps
use Rattle.base.proofs.Choices.{one-le}
use Rattle.model.proofs.Reached.{step-in_range}
use Rattle.model.proofs.ShownWords.{msr-shown, rfr-shown, ier-shown, flag-bit, msr-erri, msr-wkui, msr-slaki, rfr-fmp, rfr-full, rfr-fovr}
use Rattle.model.proofs.StatusWord.{flags-shown}

-- ---- the four bits

module _ (n : ℕ) (p q r s : Bool) (e : n ≡ one p + one q * 2 + one r * 4 + one s * 8) where
  line_0 : bit 0 n ≡ p
  line_0 = flag-bit 0 n (one q + one r * 2 + one s * 4) 0 p (omega arith) (omega arith)

  line_1 : bit 1 n ≡ q
  line_1 = flag-bit 1 n (one r + one s * 2) (one p) q (omega arith) (omega (arith, one-le p))

  line_2 : bit 2 n ≡ r
  line_2 = flag-bit 2 n (one s) (one p + one q * 2) r (omega arith) (omega (arith, one-le p, one-le q))

  line_3 : bit 3 n ≡ s
  line_3 = flag-bit 3 n 0 (one p + one q * 2 + one r * 4) s (omega arith) (omega (arith, one-le p, one-le q, one-le r))

  four-lines : n < 16
  four-lines = omega (arith, one-le p, one-le q, one-le r, one-le s)

abbrev fifo_up : Core → Fifo → Bool
fifo_up c f = fifo_line (fifo_of f c) (1 + 3 * fifo_number f) c.control.ier

abbrev up_0 : Core → Bool
up_0 c = bit 0 c.control.ier && any_rqcp c.transmit

lines-sum : (c : Core) → lines_of c ≡ one (up_0 c) + one (fifo_up c F0) * 2 + one (fifo_up c F1) * 4 + one (status_line c.control) * 8
unfolding lines_of
lines-sum c = refl

-- ---- the flags

transmit-flags : (z : Controller) → up_0 z.core ≡ bit 0 (ier z) && (rqcp M0 z || rqcp M1 z || rqcp M2 z)
unfolding any_rqcp
transmit-flags z = rw ((flags-shown z M0).rqcp, (flags-shown z M1).rqcp, (flags-shown z M2).rqcp, ier-shown z)

fifo-flags : (f : Fifo) (z : Controller) → (fifo_of f z.core).count ≤ 3
    → fifo_up z.core f
    ≡ (bit (1 + 3 * fifo_number f) (ier z) && not (eqb (bits 0 2 (rfr f z)) 0))
    || (bit (2 + 3 * fifo_number f) (ier z) && bit 3 (rfr f z))
    || (bit (3 + 3 * fifo_number f) (ier z) && bit 4 (rfr f z))
unfolding fifo_line
fifo-flags F0 z l =
    let q = z.core.fifo0 in
    rw (rfr-shown F0 z, rfr-fmp q l, rfr-full q l, rfr-fovr q l, ier-shown z)
fifo-flags F1 z l =
    let q = z.core.fifo1 in
    rw (rfr-shown F1 z, rfr-fmp q l, rfr-full q l, rfr-fovr q l, ier-shown z)

status-flags : (z : Controller)
    → status_line z.core.control ≡ (bit 15 (ier z) && bit 2 (msr z)) || (bit 16 (ier z) && bit 3 (msr z)) || (bit 17 (ier z) && bit 4 (msr z))
unfolding status_line
status-flags z =
    let k = z.core.control in
    let free = is_free z.core in
    rw (msr-shown z, msr-erri k free, msr-wkui k free, msr-slaki k free, ier-shown z)

-- the lines of a state, whatever gave them
pub lines-shown : (z : Controller) → InRange z → Lines z (lines_of z.core)
lines-shown z i =
    let c = z.core in
    let n : ℕ = lines_of c in
    let a : Bool = up_0 c in
    let b : Bool = fifo_up c F0 in
    let d : Bool = fifo_up c F1 in
    let s : Bool = status_line c.control in
    let e = lines-sum c in
    record {
      transmit = line_0 n a b d s e ∙ transmit-flags z;
      fifo = fifo;
      status = line_3 n a b d s e ∙ status-flags z;
      four = four-lines n a b d s e;
    }
  where
    fifo : (f : Fifo)
        → bit (1 + fifo_number f) (lines_of z.core)
        ≡ (bit (1 + 3 * fifo_number f) (ier z) && not (eqb (bits 0 2 (rfr f z)) 0))
        || (bit (2 + 3 * fifo_number f) (ier z) && bit 3 (rfr f z))
        || (bit (3 + 3 * fifo_number f) (ier z) && bit 4 (rfr f z))
    fifo F0 = line_1 _ (up_0 z.core) (fifo_up z.core F0) (fifo_up z.core F1) (status_line z.core.control) (lines-sum z.core) ∙ fifo-flags F0 z i.core.fifo0.count
    fifo F1 = line_2 _ (up_0 z.core) (fifo_up z.core F0) (fifo_up z.core F1) (status_line z.core.control) (lines-sum z.core) ∙ fifo-flags F1 z i.core.fifo1.count

answered-lines : (z : Controller) (s : steps.Step) → (step z s).lines ≡ lines_of (next_of z s).core
unfolding step answered
answered-lines z s = refl

pub interrupts : (z : Controller) (s : steps.Step) → InRange z → StepRange s → Interrupts z s
interrupts z s i l = record { lines = rw (answered-lines z s) (lines-shown (next_of z s) (step-in_range z s i l)) }
