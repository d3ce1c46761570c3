-- The TIME of a mailbox is what was written to TDT, and from a start on the timer.
use Rattle.std.proofs.Common.{Option, Some, None}
use mathlib.Core.Bool.{Bool, true, false, true≢false}
use mathlib.Core.Path.{◌≡◌, refl, ap, ◌∙◌}
use mathlib.Core.List.{List, [], ◌∷◌}
use Prim.Native.Nat.{ℕ, ◌+◌, ◌*◌, ◌/◌, ◌%◌, ◌^◌, ◌<◌}
use native.Mathlib.Omega.{arith}
use lib.Dec.{eqb}
use borrow.Author.Tests.{eqb-true}
use Rattle.base.specs.Base.{pick, bits}
use Rattle.model.specs.Queue.{number, is_nobody, sender_number}
use Rattle.model.specs.Mailboxes.{at, put, tdt_masked, tdt_written, first_of, identifiers, started, outcome_flags, ended}
use Rattle.model.specs.Control.{txfp, control_reset}
use Rattle.model.specs.Registers.{register_at, reset, written}
use Rattle.model.specs.Step.{step, answered, core_after, refusal, word_of, applied, settled, may_start, stored_by, started_by, ended_by}
use Rattle.model.specs.Requests.{after}
use Rattle.model.specs.Reachable.{InRange, StepsRange}
use Rattle.model.specs.History.{time_after, time_next, time_from, time_at}
use Rattle.model.specs.Shown.{shown}
use Rattle.model.specs.declared.Mailbox.{Mailbox}
use Rattle.model.specs.declared.Mailbox.TheVariants.{M0, M1, M2}
use Rattle.model.specs.declared.MailboxState.{MailboxState}
use Rattle.model.specs.declared.Core.{Core}
use Rattle.model.specs.declared.Controller.{Controller}
use Rattle.model.specs.declared.Register.TheVariants.{Tdt}
use Rattle.model.specs.declared.Step as steps
use Rattle.model.specs.declared.Step.TheVariants.{Reset, Read, Write, Idle, BitTimes, Activity, Start, Outcome, Receive, ReceiveError}
use Rattle.base.proofs.Choices.{Not}
use Rattle.model.proofs.Follows.{Startable, startable, start-accepted}
use Rattle.model.proofs.Mapped.{map}
use Rattle.model.proofs.RegisterAccess.{first_somebody}
use Rattle.model.proofs.ShownWords.{tdt-shown}
use Rattle.model.proofs.Reached.{reset-in_range, step-in_range}
use Rattle.model.proofs.Timing.{step-timer}
use Rattle.model.proofs.WordsKept.{put-field, tdt-kept}
use Rattle.model.specs.declared.ByMailbox.{ByMailbox}

abbrev tdt_of : Mailbox → Core → ℕ
tdt_of m c = (at c.transmit.mailboxes m).tdt

abbrev time_of : Mailbox → Core → ℕ
time_of m c = bits 16 16 (tdt_of m c)

-- ---- one of three

put_here : (m n : Mailbox) (b : ByMailbox MailboxState) (x : MailboxState) → (at (put b n x) m).tdt ≡ pick (eqb (number n) (number m)) x.tdt (at b m).tdt
put_here M0 M0 b x = refl
put_here M0 M1 b x = refl
put_here M0 M2 b x = refl
put_here M1 M0 b x = refl
put_here M1 M1 b x = refl
put_here M1 M2 b x = refl
put_here M2 M0 b x = refl
put_here M2 M1 b x = refl
put_here M2 M2 b x = refl

-- ---- writes

masked_time : (w : ℕ) → bits 16 16 (tdt_masked w) ≡ bits 16 16 w
masked_time w = digit (bits 16 16 w) (bits 8 1 w) (w % 16) (omega arith) (omega arith) (omega arith)
  where
    digit : (a b c : ℕ) → a < 65536 → b < 2 → c < 16 → (a * 65536 + b * 256 + c) / 2 ^ 16 % 2 ^ 16 ≡ a
    digit a b c p q r = omega arith

tdt_write : (m : Mailbox) (c : Core) (w : ℕ) → time_of m (written (Tdt m) c w) ≡ bits 16 16 w
unfolding written tdt_written
tdt_write M0 c w = masked_time w
tdt_write M1 c w = masked_time w
tdt_write M2 c w = masked_time w

write_time : (b : Bool) (m : Mailbox) (o : ℕ) (c : Core) (w : ℕ) → eqb o (0x184 + 0x10 * number m) ≡ b → time_of m (written (register_at o) c w) ≡ pick b (bits 16 16 w) (time_of m c)
write_time true m o c w e = rw (eqb-true o (0x184 + 0x10 * number m) e, map.found (Tdt m) tt) (tdt_write m c w)
write_time false m o c w e = ap (λ (n : ℕ). bits 16 16 n) (tdt-kept o c w m e)

-- ---- start and own end

started-time : (b : Bool) (x t y : ℕ) → t < 65536 → bits 16 16 (pick b (y % 65536 + t * 65536) x) ≡ pick b t (bits 16 16 x)
started-time true x t y h = omega arith
started-time false x t y h = refl

start-time : (v : Option Mailbox) (m : Mailbox) (c : Core) → Not (is_nobody v) → c.control.timer < 65536
    → time_of m (started_by v c) ≡ pick (eqb (sender_number v) (number m)) c.control.timer (time_of m c)
unfolding started_by started
start-time None m c n h = absurd (true≢false n)
start-time (Some x) m c n h =
    ap (λ (w : ℕ). bits 16 16 w) (put_here m x c.transmit.mailboxes _)
    ∙ started-time (eqb (number x) (number m)) (tdt_of m c) c.control.timer (tdt_of x c) h

end_time : (v : Option Mailbox) (m : Mailbox) (c : Core) (b : List ℕ) (r : ℕ) → tdt_of m (ended_by v c b r) ≡ tdt_of m c
unfolding ended_by ended outcome_flags
end_time None m c b r = refl
end_time (Some x) m c b r = put-field (λ x. x.tdt) c.transmit.mailboxes x _ m (λ _. refl)

-- ---- every step

applied-time : (m : Mailbox) (z : Controller) (s : steps.Step) → InRange z → eqb (refusal z.core s) 0 ≡ true
    → time_of m (applied z.core z.banks s) ≡ time_after m (time_of m z.core) z.core.control.timer s (word_of z.core z.banks s)
unfolding applied reset refusal word_of stored_by
applied-time M0 z Reset i h = refl
applied-time M1 z Reset i h = refl
applied-time M2 z Reset i h = refl
applied-time m z (Read o) i h = refl
applied-time m z (Write o w) i h = write_time (eqb o (0x184 + 0x10 * number m)) m o z.core w refl
applied-time m z Idle i h = refl
applied-time m z (BitTimes n) i h = refl
applied-time m z Activity i h = refl
applied-time m z Start i h =
    let a : Startable z.core = startable z.core (start-accepted (may_start z.core) h) in
    start-time (first_of (txfp z.core.control) z.core.transmit) m z.core
    (ap is_nobody (first_somebody (txfp z.core.control) (identifiers z.core.transmit.mailboxes) z.core.transmit.queue.order a.asked).is)
    i.core.control.timer
applied-time m z (Outcome r) i h = ap (λ (w : ℕ). bits 16 16 w) (end_time z.core.transmit.queue.transmitting m z.core z.banks r)
applied-time m z (Receive x) i h = refl
applied-time m z (ReceiveError k n) i h = refl

by_code : (ok : Bool) (m : Mailbox) (c d : Core) (word : ℕ) (x : ℕ → ℕ) → (ok ≡ true → time_of m d ≡ x word) → time_of m (pick ok (settled d) c) ≡ pick ok (x (pick ok word 0)) (time_of m c)
unfolding settled
by_code true m c d word x h = h refl
by_code false m c d word x h = refl

step-time : (m : Mailbox) (z : Controller) (s : steps.Step) → InRange z → time_of m (step z s).controller.core ≡ time_next m (time_of m z.core) z.core.control.timer z s
unfolding step answered core_after
step-time m z s i =
    by_code (eqb (refusal z.core s) 0) m z.core (applied z.core z.banks s) (word_of z.core z.banks s)
    (λ (w : ℕ). time_after m (time_of m z.core) z.core.control.timer s w)
    (λ h. applied-time m z s i h)

run-time : (m : Mailbox) (l : List steps.Step) (z : Controller) → InRange z → StepsRange l → time_of m (after z l).core ≡ time_from m (time_of m z.core) z.core.control.timer z l
unfolding after time_from
run-time m [] z i h = refl
run-time m (s ∷ l) z i h =
    run-time m l (step z s).controller (step-in_range z s i h.0) h.1
    ∙ (λ j. time_from m (step-time m z s i j) (step-timer z s i h.0 j) (step z s).controller l)

from-reset : (m : Mailbox) (l : List steps.Step) → time_from m (time_of m reset.core) reset.core.control.timer reset l ≡ time_at m reset l
unfolding reset control_reset
from-reset M0 l = refl
from-reset M1 l = refl
from-reset M2 l = refl

pub time-read : (m : Mailbox) (l : List steps.Step) → StepsRange l → bits 16 16 (shown (after reset l) (0x184 + 0x10 * number m)) ≡ time_at m reset l
time-read m l h =
    ap (λ (w : ℕ). bits 16 16 w) (tdt-shown m (after reset l))
    ∙ (run-time m l reset reset-in_range h ∙ from-reset m l)
