-- The timer is what the events say.
use Rattle.std.proofs.Common.{Option, Some, None}
use mathlib.Core.Bool.{Bool, true, false, ◌&&◌, false≢true, and-true}
use mathlib.Core.Path.{◌≡◌, refl, sym, ap, ◌∙◌}
use mathlib.Core.List.{List, [], ◌∷◌}
use Prim.Native.Nat.{ℕ, ◌+◌, ◌%◌, ◌<◌}
use native.Mathlib.Omega.{arith}
use lib.Dec.{eqb}
use Rattle.base.specs.Base.{pick, bit}
use Rattle.model.specs.Control.{ttcm, is_normal, idled, counted, entered, errors_changed, ticked, woken, control_reset, master_reset, mcr_written, msr_written, ier_written, btr_written}
use Rattle.model.specs.Registers.{register_at, reset, core_reset, written, with_control}
use Rattle.model.specs.Step.{step, answered, core_after, refusal, applied, settled, stored_by, started_by, ended_by}
use Rattle.model.specs.Requests.{after}
use Rattle.model.specs.Reachable.{InRange, StepRange, StepsRange}
use Rattle.model.specs.History.{timer_next, timer_from}
use Rattle.model.specs.Shown.{bit_times}
use Rattle.model.specs.declared.Fifo.TheVariants.{F0, F1}
use Rattle.model.specs.declared.Core.{Core}
use Rattle.model.specs.declared.Controller.{Controller}
use Rattle.model.specs.declared.Register.{Register}
use Rattle.model.specs.declared.Register.TheVariants.{Mcr, Msr, Tsr, Rfr, Ier, Esr, Btr, Ti, Tdt, Tdl, Tdh, Ri, Rdt, Rdl, Rdh, Fmr, Fm1r, Fs1r, Ffa1r, Fa1r, R1, R2, Absent}
use Rattle.model.specs.declared.Step as steps
use Rattle.model.specs.declared.Step.TheVariants.{Reset, Read, Write, Idle, BitTimes, Activity, Start, Outcome, Receive, ReceiveError}
use Rattle.base.proofs.Choices.{Is, Not}
use Rattle.model.proofs.HistoryReads.{code_is}
use Rattle.model.proofs.ShownWords.{mcr-shown}
use Rattle.model.proofs.ReadFields.{normal-read}
use Rattle.model.proofs.Reached.{step-in_range}
use Rattle.model.proofs.Masks.{ttcm_masked}
use Rattle.model.proofs.DoneSteps.{rule_left}
use Rattle.model.specs.declared.Mailbox.{Mailbox}

-- a write leaves it, where TTCM is 1 after the write
written-timer : (r : Register) (c : Core) (w : ℕ) → Is (ttcm (written r c w).control) → (written r c w).control.timer ≡ c.control.timer
unfolding written mcr_written msr_written ier_written btr_written core_reset master_reset
written-timer Mcr c w = mcr (bit 15 w) (bit 7 w) refl
  where
    mcr : (b t : Bool) → bit 7 w ≡ t → Is (ttcm (pick b (core_reset c) (with_control c (mcr_written c.control w))).control) → (pick b (core_reset c) (with_control c (mcr_written c.control w))).control.timer ≡ c.control.timer
    mcr true t e h = absurd (false≢true h)
    mcr false true e h = rw e
    mcr false false e h = absurd (false≢true (sym e ∙ (sym (ttcm_masked w) ∙ h)))
written-timer Msr c w = λ h. refl
written-timer Tsr c w = λ h. refl
written-timer (Rfr F0) c w = λ h. refl
written-timer (Rfr F1) c w = λ h. refl
written-timer Ier c w = λ h. refl
written-timer Esr c w = λ h. refl
written-timer Btr c w = λ h. refl
written-timer (Ti m) c w = λ h. refl
written-timer (Tdt m) c w = λ h. refl
written-timer (Tdl m) c w = λ h. refl
written-timer (Tdh m) c w = λ h. refl
written-timer (Ri f) c w = λ h. refl
written-timer (Rdt f) c w = λ h. refl
written-timer (Rdl f) c w = λ h. refl
written-timer (Rdh f) c w = λ h. refl
written-timer Fmr c w = λ h. refl
written-timer Fm1r c w = λ h. refl
written-timer Fs1r c w = λ h. refl
written-timer Ffa1r c w = λ h. refl
written-timer Fa1r c w = λ h. refl
written-timer (R1 b) c w = λ h. refl
written-timer (R2 b) c w = λ h. refl
written-timer Absent c w = λ h. refl

-- a step that is no bit times
still : (n : Bool) (t : ℕ) → t < 65536 → t ≡ pick n ((t + 0) % 65536) t
still true t h = omega arith
still false t h = refl

start-timer : (v : Option Mailbox) (c : Core) → (started_by v c).control.timer ≡ c.control.timer
unfolding started_by
start-timer None c = refl
start-timer (Some m) c = refl

end_timer : (v : Option Mailbox) (c : Core) (b : List ℕ) (r : ℕ) → (ended_by v c b r).control.timer ≡ c.control.timer
unfolding ended_by stored_by errors_changed
end_timer None c b r = refl
end_timer (Some m) c b r = refl

applied-timer : (c : Core) (b : List ℕ) (s : steps.Step) → c.control.timer < 65536 → Is (ttcm (applied c b s).control)
    → (applied c b s).control.timer ≡ pick (is_normal c.control.mode) ((c.control.timer + bit_times s) % 65536) c.control.timer
unfolding applied reset control_reset idled entered counted ticked woken errors_changed stored_by
applied-timer c b Reset l h = absurd (false≢true h)
applied-timer c b (Read o) l h = still (is_normal c.control.mode) c.control.timer l
applied-timer c b (Write o w) l h = written-timer (register_at o) c w h ∙ still (is_normal c.control.mode) c.control.timer l
applied-timer c b Idle l h = still (is_normal c.control.mode) c.control.timer l
applied-timer c b (BitTimes n) l h = rw (h, and-true (is_normal c.control.mode))
applied-timer c b Activity l h = still (is_normal c.control.mode) c.control.timer l
applied-timer c b Start l h = start-timer _ c ∙ still (is_normal c.control.mode) c.control.timer l
applied-timer c b (Outcome r) l h = end_timer c.transmit.queue.transmitting c b r ∙ still (is_normal c.control.mode) c.control.timer l
applied-timer c b (Receive x) l h = still (is_normal c.control.mode) c.control.timer l
applied-timer c b (ReceiveError k n) l h = still (is_normal c.control.mode) c.control.timer l

-- u: TTCM after the step
by_code : (ok u : Bool) (c d : Core) (x : ℕ) → ttcm (pick ok (settled d) c).control ≡ u → (Not u → (pick ok (settled d) c).control.timer ≡ 0) → (Is (ttcm d.control) → d.control.timer ≡ pick (is_normal c.control.mode) x c.control.timer)
    → (pick ok (settled d) c).control.timer ≡ pick (ttcm (pick ok (settled d) c).control) (pick (ok && is_normal c.control.mode) x c.control.timer) 0
by_code ok false c d x e z h = rw e (z refl)
by_code true true c d x e z h = rw e ((rule_left d).timer ∙ h (ap (λ (w : ℕ). bit 7 w) (sym (rule_left d).mcr) ∙ e))
by_code false true c d x e z h = rw e

known-timer : (z : Controller) (s : steps.Step) → InRange z → StepRange s
    → (step z s).controller.core.control.timer
    ≡ pick (ttcm (step z s).controller.core.control) (pick (eqb (refusal z.core s) 0 && is_normal z.core.control.mode) ((z.core.control.timer + bit_times s) % 65536) z.core.control.timer) 0
unfolding step answered core_after
known-timer z s i r =
    by_code (eqb (refusal z.core s) 0) (ttcm (step z s).controller.core.control) z.core (applied z.core z.banks s) _ refl
    (step-in_range z s i r).core.control.stopped
    (λ h. applied-timer z.core z.banks s i.core.control.timer h)

pub step-timer : (z : Controller) (s : steps.Step) → InRange z → StepRange s → (step z s).controller.core.control.timer ≡ timer_next z.core.control.timer z s
step-timer z s i r = rw (code_is z s, normal-read z, mcr-shown (step z s).controller) (known-timer z s i r)

pub run-timer : (l : List steps.Step) (z : Controller) → InRange z → StepsRange l → (after z l).core.control.timer ≡ timer_from z.core.control.timer z l
unfolding after timer_from
run-timer [] z i h = refl
run-timer (s ∷ l) z i h =
    run-timer l (step z s).controller (step-in_range z s i h.0) h.1
    ∙ ap (λ (t : ℕ). timer_from t (step z s).controller l) (step-timer z s i h.0)
