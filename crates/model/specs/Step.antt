-- The step: one register access, bus event or hardware reset.
-- Document 01: "Refusal numbers", "Bus events", "Modes"; interrupt lines in the last paragraph of "Bus events".
-- Refuse first, then apply: the code is worked out from the state before, and code 0 alone changes anything.
use Rattle.std.specs.Prelude.{Bool, true, not, ◌&&◌, ◌||◌, List, ℕ, ◌+◌, ◌*◌, ◌/◌, eqb, ltb, leb, Option, Some, None}
use Rattle.base.specs.Base.{pick, bit, one}
use Rattle.model.specs.Queue.{is_empty, sender_number}
use Rattle.model.specs.Mailboxes.{at, first_of, started, ended}
use Rattle.model.specs.Search.{acceptance}
use Rattle.model.specs.Reception.{malformed, stored_frame, sent_frame, received, fmi_of, fifo_line}
use Rattle.model.specs.Control.{txfp, rflm, nart, lbkm, silm, is_sleep, is_normal, epvf, boff, idled, idle_errors, ticked, woken, outcome_errors, received_errors, receive_error_counters, errors_changed, status_line}
use Rattle.model.specs.Control as control
use Rattle.model.specs.Registers.{register_at, is_absent, bank_count, reset, written, banks_written, write_refusal, read_word, is_free, with_control, with_errors, with_transmit}
use Rattle.model.specs.declared.Fifo.TheVariants.{F0, F1}
use Rattle.model.specs.declared.Mailbox.{Mailbox}
use Rattle.model.specs.declared.Transmit.{Transmit}
use Rattle.model.specs.declared.Frame.{Frame}
use Rattle.model.specs.declared.Core.{Core}
use Rattle.model.specs.declared.Controller.{Controller}
use Rattle.model.specs.declared.Stepped.{Stepped}
use Rattle.model.specs.declared.Step as steps
use Rattle.model.specs.declared.Step.TheVariants.{Reset, Read, Write, Idle, BitTimes, Activity, Start, Outcome, Receive, ReceiveError}
use Rattle.model.specs.declared.FilterNumber.{FilterNumber}
use Rattle.model.specs.declared.Fifo.{Fifo}

-- ---- "Refusal numbers": 1, 3, 2 for an access, 5, 4 for an event

unfoldable pub may_start : Core → Bool
may_start c =
    is_normal c.control.mode && not (boff c.errors) && is_free c && not (is_empty c.transmit.queue.order)
    && not (silm c.control && not (lbkm c.control))

-- an own end needs a frame on the wire; with LBKM=1 there is no acknowledgment error (3, and 8 of 02, Q-4), and 8 needs EPVF=1
unfoldable pub may_end : Core → ℕ → Bool
may_end c r = not (is_free c) && not ((eqb r 3 || eqb r 8) && lbkm c.control) && not (eqb r 8 && not (epvf c.errors))

unfoldable pub may_receive : Core → Bool
may_receive c = is_normal c.control.mode && not (boff c.errors) && is_free c && not (lbkm c.control) && not c.filters.finit

-- a receive error has a code 1 to 6 and a step 1 or 8
unfoldable pub receive_error_in_range : ℕ → ℕ → Bool
receive_error_in_range k n = leb 1 k && leb k 6 && (eqb n 1 || eqb n 8)

unfoldable pub refusal : Core → steps.Step → ℕ
refusal c Reset = 0
refusal c (Read o) = pick (is_absent (register_at o)) 1 0
refusal c (Write o w) = write_refusal (register_at o) c
refusal c Idle = pick (is_free c) 0 4
refusal c (BitTimes n) = pick (leb 1 n && leb n 65535) 0 5
refusal c Activity = pick (is_sleep c.control.mode) 0 4
refusal c Start = pick (may_start c) 0 4
refusal c (Outcome r) = pick (ltb 8 r) 5 (pick (may_end c r) 0 4)
refusal c (Receive x) = pick (malformed x) 5 (pick (may_receive c) 0 4)
refusal c (ReceiveError k n) = pick (receive_error_in_range k n) (pick (may_receive c) 0 4) 5

-- ---- the word of an accepted step: 0 but for a read and a start

unfoldable pub word_of : Core → List ℕ → steps.Step → ℕ
word_of c v Reset = 0
word_of c v (Read o) = read_word (register_at o) c v
word_of c v (Write o w) = 0
word_of c v Idle = 0
word_of c v (BitTimes n) = 0
word_of c v Activity = 0
word_of c v Start = sender_number (first_of (txfp c.control) c.transmit)
word_of c v (Outcome r) = 0
word_of c v (Receive x) = 0
word_of c v (ReceiveError k n) = 0

-- ---- "Bus events"

-- the frame goes to the FIFO that the filters say, with the given time
unfoldable pub stored_by : Core → Option (Fifo × FilterNumber) → Frame → ℕ → Core
stored_by c a x time = record {
  control = c.control;
  errors = c.errors;
  transmit = c.transmit;
  fifo0 = received F0 a (stored_frame x (fmi_of a) time) (rflm c.control) c.fifo0;
  fifo1 = received F1 a (stored_frame x (fmi_of a) time) (rflm c.control) c.fifo1;
  filters = c.filters;
}

unfoldable pub started_by : Option Mailbox → Core → Core
started_by None c = c
started_by (Some m) c = with_transmit c (started c.transmit m c.control.timer)

-- loopback: a good frame with LBKM=1 and FINIT=0 passes the filters too
unfoldable pub looped_back : Core → List ℕ → Mailbox → ℕ → Option (Fifo × FilterNumber)
looped_back c v m r =
    pick (eqb r 0 && lbkm c.control && not c.filters.finit)
    (acceptance bank_count c.filters v (sent_frame (at c.transmit.mailboxes m)).identifier)
    None

unfoldable pub ended_by : Option Mailbox → Core → List ℕ → ℕ → Core
ended_by None c v r = c
ended_by (Some m) c v r =
    with_transmit
    (with_errors
    (stored_by c (looped_back c v m r) (sent_frame (at c.transmit.mailboxes m)) ((at c.transmit.mailboxes m).tdt / 65536))
    (errors_changed c.control c.errors (outcome_errors c.errors r) (not (eqb r 0) && not (eqb r 7)))
    (outcome_errors c.errors r))
    (ended c.transmit m r (nart c.control))

-- the state after an accepted step, before the mode rule that follows every accepted step
unfoldable pub applied : Core → List ℕ → steps.Step → Core
applied c v Reset = reset.core
applied c v (Read o) = c
applied c v (Write o w) = written (register_at o) c w
applied c v Idle = with_errors c (idled c.control c.errors) (idle_errors c.control c.errors)
applied c v (BitTimes n) = with_control c (ticked c.control n)
applied c v Activity = with_control c (woken c.control)
applied c v Start = started_by (first_of (txfp c.control) c.transmit) c
applied c v (Outcome r) = ended_by c.transmit.queue.transmitting c v r
applied c v (Receive x) =
    with_errors
    (stored_by c (acceptance bank_count c.filters v x.identifier) x c.control.timer)
    c.control
    (received_errors c.errors)
applied c v (ReceiveError k n) =
    with_errors c (errors_changed c.control c.errors (receive_error_counters c.errors k n) true) (receive_error_counters c.errors k n)

unfoldable pub banks_applied : List ℕ → steps.Step → List ℕ
banks_applied v Reset = reset.banks
banks_applied v (Read o) = v
banks_applied v (Write o w) = banks_written (register_at o) v w
banks_applied v Idle = v
banks_applied v (BitTimes n) = v
banks_applied v Activity = v
banks_applied v Start = v
banks_applied v (Outcome r) = v
banks_applied v (Receive x) = v
banks_applied v (ReceiveError k n) = v

-- "Modes": after every accepted step
unfoldable pub settled : Core → Core
settled c = with_control c (control.settled c.control (is_free c) (boff c.errors))

-- ---- the four interrupt lines

unfoldable pub any_rqcp : Transmit → Bool
any_rqcp t = t.mailboxes.m0.rqcp || t.mailboxes.m1.rqcp || t.mailboxes.m2.rqcp

unfoldable pub lines_of : Core → ℕ
lines_of c =
    one (bit 0 c.control.ier && any_rqcp c.transmit)
    + one (fifo_line c.fifo0 1 c.control.ier) * 2
    + one (fifo_line c.fifo1 4 c.control.ier) * 4
    + one (status_line c.control) * 8

-- ---- the step

unfoldable pub core_after : Core → List ℕ → steps.Step → ℕ → Core
core_after c v e k = pick (eqb k 0) (settled (applied c v e)) c

unfoldable pub banks_after : List ℕ → steps.Step → ℕ → List ℕ
banks_after v e k = pick (eqb k 0) (banks_applied v e) v

unfoldable pub answered : Controller → steps.Step → ℕ → Stepped
answered z e k = record {
  controller = record { core = core_after z.core z.banks e k; banks = banks_after z.banks e k };
  code = k;
  lines = lines_of (core_after z.core z.banks e k);
  word = pick (eqb k 0) (word_of z.core z.banks e) 0;
}

unfoldable pub step : Controller → steps.Step → Stepped
step z e = answered z e (refusal z.core e)
