-- Every bus event that is not refused, and the mode rule after it, keep the core in range.
use Rattle.std.proofs.Common.{Option, Some, None}
use mathlib.Core.Bool.{Bool, true, false, not, ◌&&◌}
use mathlib.Core.List.{List}
use mathlib.Core.Path.{◌≡◌, refl}
use Prim.Native.Nat.{ℕ, ◌*◌, ◌/◌, ◌^◌, ◌<◌, ◌≤◌}
use native.Mathlib.Omega.{arith}
use lib.Dec.{eqb, ltb}
use borrow.Author.Tests.{ltb-false, not-true}
use Rattle.model.specs.Queue.{is_empty, is_nobody, off_wire}
use Rattle.model.specs.Mailboxes.{at, tdt_masked, identifiers, first_of, started, ended, over}
use Rattle.model.specs.Search.{acceptance}
use Rattle.model.specs.Reception.{malformed, stored_frame, sent_frame, fmi_of}
use Rattle.model.specs.Control.{inrq, sleep, txfp, rflm, mode_next, nart, lbkm, is_normal, boff, idled, idle_errors, ticked, woken, outcome_errors, received_errors, receive_error_counters, errors_changed}
use Rattle.model.specs.Control as control
use Rattle.model.specs.Registers.{bank_count, is_free, with_control, with_errors, with_transmit}
use Rattle.model.specs.Step.{may_start, may_end, may_receive, receive_error_in_range, stored_by, started_by, looped_back, ended_by, settled}
use Rattle.model.specs.Reachable.{carried, silent, Followed, MailboxRange, FrameRange, CoreRange}
use Rattle.model.specs.declared.Mailbox.{Mailbox}
use Rattle.model.specs.declared.Fifo.TheVariants.{F0, F1}
use Rattle.model.specs.declared.Queue.{Queue}
use Rattle.model.specs.declared.Mode.{Mode}
use Rattle.model.specs.declared.Mode.TheVariants.{Sleep, Initialization, Normal}
use Rattle.model.specs.declared.Control.{Control}
use Rattle.model.specs.declared.Errors.{Errors}
use Rattle.model.specs.declared.Transmit.{Transmit}
use Rattle.model.specs.declared.Frame.{Frame}
use Rattle.model.specs.declared.MailboxState.{MailboxState}
use Rattle.model.specs.declared.Core.{Core}
use Rattle.base.proofs.Choices.{pick_cases, and_l, and_r}
use Rattle.model.proofs.Follows.{first-carried, may_end_lem}
use Rattle.model.proofs.ReceiveErrors.{receive_error-code, receive_error-step}
use Rattle.model.proofs.ControlRanges.{settled-range, settled-recovery-range, idled-range, idled-recovery-range, idle_errors-range, ticked-range, woken-range, errors_changed-range, errors_changed-recovery-range, outcome_errors-range, received_errors-range, receive_error_counters-range}
use Rattle.model.proofs.MailboxRanges.{started-range, ended-range}
use Rattle.model.proofs.FifoRanges.{well_formed_range, well_formed_length, sent-range, stored-range, received-range}
use Rattle.model.proofs.CoreRanges.{free_wire-range, with_errors-range, with_transmit-range, with_words-range}
use Rattle.model.specs.declared.FilterNumber.{FilterNumber}
use Rattle.model.specs.declared.Fifo.{Fifo}

-- ---- the mode rule

-- with an own frame on the wire it changes nothing
settled-busy : (k : Control) (free off : Bool) → free ≡ false → control.settled k free off ≡ k
unfolding control.settled
settled-busy k free off e = rw e

pub settled-core-range : (c : Core) → CoreRange c → CoreRange (settled c)
unfolding settled
settled-core-range c r =
    with_errors-range c r (control.settled c.control (is_free c) (boff c.errors)) c.errors
    (settled-range c.control r.control (is_free c) (boff c.errors))
    r.errors
    (settled-recovery-range c.control c.errors r.recovery (is_free c))
    (record {
      normal = λ busy. rw (settled-busy c.control (is_free c) (boff c.errors) busy) (r.wire.normal busy);
      on = r.wire.on;
      heard = λ busy. rw (settled-busy c.control (is_free c) (boff c.errors) busy) (r.wire.heard busy);
    })

-- once is enough
mode_next-twice : (m : Mode) (i s : Bool) → mode_next (mode_next m i s) i s ≡ mode_next m i s
unfolding mode_next
mode_next-twice Sleep true true = refl
mode_next-twice Sleep true false = refl
mode_next-twice Sleep false true = refl
mode_next-twice Sleep false false = refl
mode_next-twice Initialization true true = refl
mode_next-twice Initialization true false = refl
mode_next-twice Initialization false true = refl
mode_next-twice Initialization false false = refl
mode_next-twice Normal true true = refl
mode_next-twice Normal true false = refl
mode_next-twice Normal false true = refl
mode_next-twice Normal false false = refl

pub settled-followed : (c : Core) → Followed (settled c)
unfolding settled control.settled control.entered
settled-followed c free = rw free (mode_next-twice c.control.mode (inrq c.control) (sleep c.control))

-- ---- what a start and a frame from the bus need

record Ready (c : Core) : Type 0 where
  normal : is_normal c.control.mode ≡ true
  on : boff c.errors ≡ false
  free : is_free c ≡ true

ready : (c : Core) (x y : Bool) → (is_normal c.control.mode && not (boff c.errors) && is_free c && x && y) ≡ true → Ready c
ready c x y may =
    let n : Bool = is_normal c.control.mode in
    let o : Bool = not (boff c.errors) in
    let f : (n && o && is_free c) ≡ true = and_l (n && o && is_free c) x (and_l (n && o && is_free c && x) y may) in
    let b : (n && o) ≡ true = and_l (n && o) (is_free c) f in
    record { normal = and_l n o b; on = not-true (boff c.errors) (and_r n o b); free = and_r (n && o) (is_free c) f }

start_ready : (c : Core) → may_start c ≡ true → Ready c
unfolding may_start
start_ready c may = ready c (not (is_empty c.transmit.queue.order)) (not (silent c.control)) may

start-heard : (c : Core) → may_start c ≡ true → silent c.control ≡ false
unfolding may_start
start-heard c may =
    not-true (silent c.control)
    (and_r (is_normal c.control.mode && not (boff c.errors) && is_free c && not (is_empty c.transmit.queue.order)) (not (silent c.control)) may)

receive_ready : (c : Core) → may_receive c ≡ true → Ready c
unfolding may_receive
receive_ready c may = ready c (not (lbkm c.control)) (not c.filters.finit) may

-- after an own end the wire is free
ended_free : (t : Transmit) (m : Mailbox) (n : ℕ) (nart : Bool) → is_nobody (ended t m n nart).queue.transmitting ≡ true
unfolding ended off_wire
ended_free t m n nart = pick_cases (λ (q : Queue). is_nobody q.transmitting ≡ true) (over t.queue m n nart) _ _ (λ _. refl) (λ _. refl)

module _ (c : Core) (r : CoreRange c) where
  -- ---- idle, bit times, activity

  pub idle-range : is_free c ≡ true → CoreRange (with_errors c (idled c.control c.errors) (idle_errors c.control c.errors))
  idle-range free =
      with_errors-range c r (idled c.control c.errors) (idle_errors c.control c.errors)
      (idled-range c.control r.control c.errors)
      (idle_errors-range c.errors r.errors c.control)
      (idled-recovery-range c.control c.errors r.recovery)
      (free_wire-range _ free)

  pub bit_times-range : (n : ℕ) → CoreRange (with_control c (ticked c.control n))
  unfolding ticked
  bit_times-range n = with_words-range c r (ticked c.control n) (ticked-range c.control r.control n) refl refl refl refl

  pub activity-range : CoreRange (with_control c (woken c.control))
  unfolding woken
  activity-range = with_words-range c r (woken c.control) (woken-range c.control r.control) refl refl refl refl

  -- ---- start

  start_by : (v : Option Mailbox) → carried v c.transmit.queue.order ≡ true → Ready c → silent c.control ≡ false → CoreRange (started_by v c)
  unfolding started_by
  start_by None h y a = r
  start_by (Some m) h y a =
      with_transmit-range c r (started c.transmit m c.control.timer)
      (started-range c.transmit r.transmit m c.control.timer r.control.timer y.free h)
      (record { normal = λ _. y.normal; on = λ _. y.on; heard = λ _. a })

  pub start-range : may_start c ≡ true → CoreRange (started_by (first_of (txfp c.control) c.transmit) c)
  start-range may = start_by _ (first-carried (txfp c.control) (identifiers c.transmit.mailboxes) c.transmit.queue.order) (start_ready c may) (start-heard c may)

  -- ---- what is stored

  stored_by-range : (a : Option (Fifo × FilterNumber)) (x : Frame) (time : ℕ) → FrameRange (stored_frame x (fmi_of a) time) → CoreRange (stored_by c a x time)
  unfolding stored_by
  stored_by-range a x time f = record {
    control = r.control;
    errors = r.errors;
    recovery = r.recovery;
    wire = record { normal = r.wire.normal; on = r.wire.on; heard = r.wire.heard };
    transmit = r.transmit;
    fifo0 = received-range c.fifo0 r.fifo0 F0 a _ (rflm c.control) f;
    fifo1 = received-range c.fifo1 r.fifo1 F1 a _ (rflm c.control) f;
    filters = r.filters;
  }

  -- ---- a frame, a receive error

  pub receive_range : (a : Option (Fifo × FilterNumber)) (x : Frame) → (fmi_of a).0 < 4 * bank_count → x.identifier < 2 ^ 32 → x.low < 2 ^ 32 → x.high < 2 ^ 32 → malformed x ≡ false → may_receive c ≡ true
      → CoreRange (with_errors (stored_by c a x c.control.timer) c.control (received_errors c.errors))
  unfolding stored_by received_errors
  receive_range a x f i l h ok may =
      with_errors-range (stored_by c a x c.control.timer)
      (stored_by-range a x c.control.timer (stored-range x (fmi_of a) c.control.timer (well_formed_range x ok i) l h (well_formed_length x ok) f r.control.timer))
      c.control (received_errors c.errors) r.control (received_errors-range c.errors r.errors)
      (record { count = r.recovery.count; reinitialized = r.recovery.reinitialized; fresh = r.recovery.fresh; begins = r.recovery.begins })
      (free_wire-range _ (receive_ready c may).free)

  pub receive_error-range : (k n : ℕ) → receive_error_in_range k n ≡ true → may_receive c ≡ true
      → CoreRange (with_errors c (errors_changed c.control c.errors (receive_error_counters c.errors k n) true) (receive_error_counters c.errors k n))
  receive_error-range k n ok may =
      let y : Ready c = receive_ready c may in
      let d : Errors = receive_error_counters c.errors k n in
      with_errors-range c r (errors_changed c.control c.errors d true) d
      (errors_changed-range c.control r.control c.errors d true)
      (receive_error_counters-range c.errors r.errors k n (receive_error-code k n ok) (receive_error-step k n ok))
      (errors_changed-recovery-range c.control c.errors r.recovery d true y.normal y.on)
      (free_wire-range _ y.free)

  -- ---- an own end

  looped_back-fmi : (v : List ℕ) (m : Mailbox) (n : ℕ) → ((w : ℕ) → (fmi_of (acceptance bank_count c.filters v w)).0 < 4 * bank_count) → (fmi_of (looped_back c v m n)).0 < 4 * bank_count
  unfolding looped_back
  looped_back-fmi v m n small =
      pick_cases (λ (a : Option (Fifo × FilterNumber)). (fmi_of a).0 < 4 * bank_count) (eqb n 0 && lbkm c.control && not c.filters.finit) _ _ (λ _. small _) (λ _. omega arith)

  -- the frame that loopback stores, with the mailbox's TIME
  looped_frame-range : (a : Option (Fifo × FilterNumber)) (m : Mailbox) → (fmi_of a).0 < 4 * bank_count
      → FrameRange (stored_frame (sent_frame (at c.transmit.mailboxes m)) (fmi_of a) ((at c.transmit.mailboxes m).tdt / 65536))
  unfolding sent_frame
  looped_frame-range a m f =
      let x : MailboxState = at c.transmit.mailboxes m in
      let k : MailboxRange x = r.transmit.mailboxes m in
      let e : tdt_masked x.tdt ≡ x.tdt = k.tdt in
      stored-range (sent_frame x) (fmi_of a) (x.tdt / 65536) (sent-range x k) k.tdl k.tdh (omega arith) f (omega arith)

  end_by : (s : Option Mailbox) (v : List ℕ) (n : ℕ) → c.transmit.queue.transmitting ≡ s → ((w : ℕ) → (fmi_of (acceptance bank_count c.filters v w)).0 < 4 * bank_count)
      → n ≤ 8 → is_free c ≡ false → CoreRange (ended_by s c v n)
  unfolding ended_by stored_by
  end_by None v n e small l busy = r
  end_by (Some m) v n e small l busy =
      let x : MailboxState = at c.transmit.mailboxes m in
      let a : (Option (Fifo × FilterNumber)) = looped_back c v m n in
      let s : Core = stored_by c a (sent_frame x) (x.tdt / 65536) in
      let t : Transmit = ended c.transmit m n (nart c.control) in
      let d : Errors = outcome_errors c.errors n in
      let coded : Bool = not (eqb n 0) && not (eqb n 7) in
      with_errors-range (with_transmit s t)
      (with_transmit-range s (stored_by-range a (sent_frame x) (x.tdt / 65536) (looped_frame-range a m (looped_back-fmi v m n small)))
      t (ended-range c.transmit r.transmit m n (nart c.control) e) (free_wire-range _ (ended_free c.transmit m n (nart c.control))))
      (errors_changed c.control c.errors d coded) d
      (errors_changed-range c.control r.control c.errors d coded)
      (outcome_errors-range c.errors r.errors n l (r.wire.on busy))
      (errors_changed-recovery-range c.control c.errors r.recovery d coded (r.wire.normal busy) (r.wire.on busy))
      (free_wire-range _ (ended_free c.transmit m n (nart c.control)))

  pub end_range : (v : List ℕ) (n : ℕ) → ((w : ℕ) → (fmi_of (acceptance bank_count c.filters v w)).0 < 4 * bank_count) → ltb 8 n ≡ false → may_end c n ≡ true
      → CoreRange (ended_by c.transmit.queue.transmitting c v n)
  end_range v n small l may = end_by _ v n refl small (ltb-false _ _ l) (not-true (is_free c) (may_end_lem c n may))
