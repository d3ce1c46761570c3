-- The tests say what the ranges of the model say.
use mathlib.Core.Bool.{Bool, true, false, not, ◌||◌, false≢true, true≢false}
use mathlib.Core.Path.{◌≡◌, refl, sym, subst, ap}
use Prim.Native.Nat.{ℕ, zero, suc, ◌+◌, ◌*◌, ◌-◌, ◌/◌, ◌^◌, ◌<◌, ◌≤◌}
use native.Mathlib.Omega.{arith}
use lib.Dec.{eqb, ltb}
use borrow.Author.Tests.{eqb-true, ltb-true, leb-true, ltb-false, eq-eqb, lt-ltb, le-leb}
use Rattle.base.specs.Base.{bit, bits, one}
use Rattle.model.specs.Queue.{holds, is_from}
use Rattle.model.specs.Mailboxes.{at}
use Rattle.model.specs.Reception.{data_bytes, bytes_kept, no_frame}
use Rattle.model.specs.Control.{inrq, sleep, ttcm, mode_next, mode_bits, is_initialization, is_normal, boff}
use Rattle.model.specs.Registers.{is_free}
use Rattle.model.specs.Reachable.{frame_of, silent, QueueRange, MailboxRange, TransmitRange, FrameRange, FifoRange, FilterRange, ControlRange, ErrorRange, RecoveryRange, WireRange, CoreRange, Followed, InRange}
use Rattle.model.specs.declared.Mailbox.{Mailbox}
use Rattle.model.specs.declared.Mailbox.TheVariants.{M0, M1, M2}
use Rattle.model.specs.declared.Queue.{Queue}
use Rattle.model.specs.declared.MailboxState.{MailboxState}
use Rattle.model.specs.declared.Transmit.{Transmit}
use Rattle.model.specs.declared.StoredFrame.{StoredFrame}
use Rattle.model.specs.declared.FifoState.{FifoState}
use Rattle.model.specs.declared.Filters.{Filters}
use Rattle.model.specs.declared.Mode.{Mode}
use Rattle.model.specs.declared.Mode.TheVariants.{Sleep, Initialization, Normal}
use Rattle.model.specs.declared.Control.{Control}
use Rattle.model.specs.declared.Errors.{Errors}
use Rattle.model.specs.declared.Core.{Core}
use Rattle.model.specs.declared.Controller.{Controller}
use Rattle.ranges.specs.Ranges.{queue_tests, mailbox_tests, transmit_tests, frame_tests, no_frame_tests, fifo_tests, place_ok, filters_tests, control_tests, errors_tests, recovery_tests, wire_tests, core_tests, at_most_one, none_behind, queue_ok, mailbox_ok, transmit_ok, frame_ok, is_no_frame, fifo_ok, filters_ok, control_ok, errors_ok, recovery_ok, wire_ok, followed_ok, in_range, MailboxFits, FrameFits, FifoFits, Fits, Ranged}
use Rattle.model.proofs.FifoRanges.{no_frame-range}
use Rattle.receive.proofs.Masks.{data_bytes-le}
use Rattle.ranges.proofs.Tests.{Is, to_each, from_each, if_in, if_out, unless_in, unless_out, not_in, not_out}

-- ---- requests

queue_in : (q : Queue) → QueueRange q → Is (queue_ok q)
unfolding queue_ok
queue_in q r = from_each (queue_tests q) (r.once, (r.carries, (if_in _ _ (r.aborts M0), (if_in _ _ (r.aborts M1), (if_in _ _ (r.aborts M2), tt)))))

queue_out : (q : Queue) → Is (queue_ok q) → QueueRange q
unfolding queue_ok
queue_out q h =
    let t = to_each (queue_tests q) h in
    record { once = t.0; carries = t.1.0; aborts = go t.1.1 }
  where
    go : Is (not q.aborts.m0 || is_from q.transmitting M0) × (Is (not q.aborts.m1 || is_from q.transmitting M1) × (Is (not q.aborts.m2 || is_from q.transmitting M2) × Unit {0}))
        → (m : Mailbox) → at q.aborts m ≡ true → is_from q.transmitting m ≡ true
    go t M0 = if_out _ _ t.0
    go t M1 = if_out _ _ t.1.0
    go t M2 = if_out _ _ t.1.1.0

-- ---- mailboxes

one_in : (a b c : Bool) → one a + one b + one c ≤ 1 → Is (at_most_one a b c)
one_in true true c h = absurd (omega arith)
one_in true false true h = absurd (omega arith)
one_in true false false h = refl
one_in false true true h = absurd (omega arith)
one_in false true false h = refl
one_in false false c h = refl

one_out : (a b c : Bool) → Is (at_most_one a b c) → one a + one b + one c ≤ 1
one_out true true c h = absurd (false≢true h)
one_out true false true h = absurd (false≢true h)
one_out true false false h = omega arith
one_out false true true h = absurd (false≢true h)
one_out false true false h = omega arith
one_out false false true h = omega arith
one_out false false false h = omega arith

mailbox_in : (x : MailboxState) (p : Bool) → MailboxRange x → (p ≡ true → x.rqcp ≡ false) → Is (mailbox_ok x p)
unfolding mailbox_ok
mailbox_in x p r f = from_each (mailbox_tests x p) (eq-eqb _ _ r.even, (eq-eqb _ _ r.tdt, (if_in _ _ r.completes, (one_in x.txok x.alst x.terr r.result, (if_in _ _ (λ e. not_in _ (f e)), tt)))))

mailbox_out : (x : MailboxState) (p : Bool) → MailboxFits x → Is (mailbox_ok x p) → MailboxRange x × (p ≡ true → x.rqcp ≡ false)
unfolding mailbox_ok
mailbox_out x p w h =
    let t = to_each (mailbox_tests x p) h in (
      record { ti = w.ti; even = eqb-true _ _ t.0; tdt = eqb-true _ _ t.1.0; tdl = w.tdl; tdh = w.tdh; completes = if_out _ _ t.1.1.0; result = one_out x.txok x.alst x.terr t.1.1.1.0 },
      λ e. not_out x.rqcp (if_out p (not x.rqcp) t.1.1.1.1.0 e),
    )

transmit_in : (t : Transmit) → TransmitRange t → Is (transmit_ok t)
unfolding transmit_ok
transmit_in t r = from_each (transmit_tests t) (queue_in t.queue r.queue, (mailbox_in _ _ (r.mailboxes M0) (r.pending M0), (mailbox_in _ _ (r.mailboxes M1) (r.pending M1), (mailbox_in _ _ (r.mailboxes M2) (r.pending M2), tt))))

transmit_out : (t : Transmit) → ((m : Mailbox) → MailboxFits (at t.mailboxes m)) → Is (transmit_ok t) → TransmitRange t
unfolding transmit_ok
transmit_out t w h =
    let k = to_each (transmit_tests t) h in
    let x0 = mailbox_out t.mailboxes.m0 (holds t.queue.order M0) (w M0) k.1.0 in
    let x1 = mailbox_out t.mailboxes.m1 (holds t.queue.order M1) (w M1) k.1.1.0 in
    let x2 = mailbox_out t.mailboxes.m2 (holds t.queue.order M2) (w M2) k.1.1.1.0 in
    record { queue = queue_out t.queue k.0; mailboxes = boxes x0.0 x1.0 x2.0; pending = waits x0.1 x1.1 x2.1 }
  where
    boxes : MailboxRange t.mailboxes.m0 → MailboxRange t.mailboxes.m1 → MailboxRange t.mailboxes.m2 → (m : Mailbox) → MailboxRange (at t.mailboxes m)
    boxes a b c M0 = a
    boxes a b c M1 = b
    boxes a b c M2 = c

    waits : (holds t.queue.order M0 ≡ true → t.mailboxes.m0.rqcp ≡ false) → (holds t.queue.order M1 ≡ true → t.mailboxes.m1.rqcp ≡ false) → (holds t.queue.order M2 ≡ true → t.mailboxes.m2.rqcp ≡ false)
        → (m : Mailbox) → holds t.queue.order m ≡ true → (at t.mailboxes m).rqcp ≡ false
    waits a b c M0 = a
    waits a b c M1 = b
    waits a b c M2 = c

-- ---- frames

-- a stored frame keeps the bytes up to its length: none behind it
module _ (l h : ℕ) (wl : l < 2 ^ 32) (wh : h < 2 ^ 32) where
  none_in : (n : ℕ) → n ≤ 8 → bytes_kept n l ≡ l → bytes_kept (n - 4) h ≡ h → (l + h * 2 ^ 32) / 2 ^ (8 * n) ≡ 0
  unfolding bytes_kept
  none_in zero b p q = omega (arith, p, q)
  none_in (suc zero) b p q = omega (arith, p, q)
  none_in (suc (suc zero)) b p q = omega (arith, p, q)
  none_in (suc (suc (suc zero))) b p q = omega (arith, p, q)
  none_in (suc (suc (suc (suc zero)))) b p q = omega (arith, q)
  none_in (suc (suc (suc (suc (suc zero))))) b p q = omega (arith, q)
  none_in (suc (suc (suc (suc (suc (suc zero)))))) b p q = omega (arith, q)
  none_in (suc (suc (suc (suc (suc (suc (suc zero))))))) b p q = omega (arith, q)
  none_in (suc (suc (suc (suc (suc (suc (suc (suc zero)))))))) b p q = omega arith
  none_in (suc (suc (suc (suc (suc (suc (suc (suc (suc n))))))))) b p q = absurd (omega arith)

  none_out : (n : ℕ) → n ≤ 8 → (l + h * 2 ^ 32) / 2 ^ (8 * n) ≡ 0 → (bytes_kept n l ≡ l) × (bytes_kept (n - 4) h ≡ h)
  unfolding bytes_kept
  none_out zero b e = (omega (arith, e), omega (arith, e))
  none_out (suc zero) b e = (omega (arith, e), omega (arith, e))
  none_out (suc (suc zero)) b e = (omega (arith, e), omega (arith, e))
  none_out (suc (suc (suc zero))) b e = (omega (arith, e), omega (arith, e))
  none_out (suc (suc (suc (suc zero)))) b e = (refl, omega (arith, e))
  none_out (suc (suc (suc (suc (suc zero))))) b e = (refl, omega (arith, e))
  none_out (suc (suc (suc (suc (suc (suc zero)))))) b e = (refl, omega (arith, e))
  none_out (suc (suc (suc (suc (suc (suc (suc zero))))))) b e = (refl, omega (arith, e))
  none_out (suc (suc (suc (suc (suc (suc (suc (suc zero)))))))) b e = (refl, refl)
  none_out (suc (suc (suc (suc (suc (suc (suc (suc (suc n))))))))) b e = absurd (omega arith)

frame_in_lem : (x : StoredFrame) → FrameRange x → Is (frame_ok x)
unfolding frame_ok none_behind
frame_in_lem x r =
    from_each (frame_tests x) (
      not_in _ r.ri.even,
      (
        eq-eqb _ _ r.reserved,
        (
          lt-ltb _ _ r.fmi,
          (eq-eqb _ _ (none_in x.rdl x.rdh r.rdl r.rdh (data_bytes (frame_of x)) (data_bytes-le (frame_of x)) r.low r.high), (unless_in _ _ (λ e. eq-eqb _ _ (r.ri.standard e)), tt)),
        ),
      ),
    )

frame_out : (x : StoredFrame) → FrameFits x → Is (frame_ok x) → FrameRange x
unfolding frame_ok none_behind
frame_out x w h =
    let t = to_each (frame_tests x) h in
    let k = none_out x.rdl x.rdh w.rdl w.rdh (data_bytes (frame_of x)) (data_bytes-le (frame_of x)) (eqb-true _ _ t.1.1.1.0) in
    record {
      ri = record { word = w.ri; even = not_out _ t.0; standard = λ e. eqb-true _ _ (unless_out (bit 2 x.ri) (eqb (bits 3 18 x.ri) 0) t.1.1.1.1.0 e) };
      rdt = w.rdt;
      reserved = eqb-true _ _ t.1.0;
      fmi = ltb-true _ _ t.1.1.0;
      rdl = w.rdl;
      rdh = w.rdh;
      low = k.0;
      high = k.1;
    }

no_frame_in : (x : StoredFrame) → x ≡ no_frame → Is (is_no_frame x)
unfolding is_no_frame
no_frame_in x e = rw e

no_frame_out : (x : StoredFrame) → Is (is_no_frame x) → x ≡ no_frame
unfolding is_no_frame
no_frame_out x h =
    let t = to_each (no_frame_tests x) h in
    λ i. record { ri = eqb-true x.ri 0 t.0 i; rdt = eqb-true x.rdt 0 t.1.0 i; rdl = eqb-true x.rdl 0 t.1.1.0 i; rdh = eqb-true x.rdh 0 t.1.1.1.0 i }

place_in : (p : Bool) (x : StoredFrame) → FrameRange x → (p ≡ false → x ≡ no_frame) → Is (place_ok p x)
unfolding place_ok
place_in true x r h = frame_in_lem x r
place_in false x r h = no_frame_in x (h refl)

place_out : (p : Bool) (x : StoredFrame) → FrameFits x → Is (place_ok p x) → FrameRange x × (p ≡ false → x ≡ no_frame)
unfolding place_ok
place_out true x w h = (frame_out x w h, λ e. absurd (true≢false e))
place_out false x w h = let e = no_frame_out x h in (subst FrameRange (sym e) no_frame-range, λ _. e)

fifo_in : (q : FifoState) → FifoRange q → Is (fifo_ok q)
unfolding fifo_ok
fifo_in q r =
    from_each (fifo_tests q) (
      le-leb _ _ r.count,
      (
        place_in (ltb 0 q.count) _ r.first (λ e. r.no_first (omega (arith, ltb-false 0 q.count e))),
        (
          place_in (ltb 1 q.count) _ r.second (λ e. r.no_second (ltb-false 1 q.count e)),
          (place_in (ltb 2 q.count) _ r.third (λ e. r.no_third (ltb-false 2 q.count e)), tt),
        ),
      ),
    )

none_below : (n m : ℕ) → m ≤ n → ltb n m ≡ false
none_below n m h = go (ltb n m) refl
  where
    go : (b : Bool) → ltb n m ≡ b → ltb n m ≡ false
    go true e = absurd (omega (arith, ltb-true n m e))
    go false e = e

fifo_out : (q : FifoState) → FifoFits q → Is (fifo_ok q) → FifoRange q
unfolding fifo_ok
fifo_out q w h =
    let t = to_each (fifo_tests q) h in
    let a = place_out (ltb 0 q.count) q.first w.first t.1.0 in
    let b = place_out (ltb 1 q.count) q.second w.second t.1.1.0 in
    let c = place_out (ltb 2 q.count) q.third w.third t.1.1.1.0 in
    record {
      count = leb-true _ _ t.0;
      first = a.0;
      second = b.0;
      third = c.0;
      no_first = λ e. a.1 (none_below 0 q.count (omega arith));
      no_second = λ e. b.1 (none_below 1 q.count e);
      no_third = λ e. c.1 (none_below 2 q.count e);
    }

-- ---- filters

filters_in : (g : Filters) → FilterRange g → Is (filters_ok g)
unfolding filters_ok
filters_in g r = from_each (filters_tests g) (eq-eqb _ _ r.mode, (eq-eqb _ _ r.scale, (eq-eqb _ _ r.assignment, (eq-eqb _ _ r.activation, tt))))

filters_out : (g : Filters) → Is (filters_ok g) → FilterRange g
unfolding filters_ok
filters_out g h =
    let t = to_each (filters_tests g) h in
    record { mode = eqb-true _ _ t.0; scale = eqb-true _ _ t.1.0; assignment = eqb-true _ _ t.1.1.0; activation = eqb-true _ _ t.1.1.1.0 }

-- ---- control and errors

control_in : (k : Control) → ControlRange k → Is (control_ok k)
unfolding control_ok
control_in k r = from_each (control_tests k) (eq-eqb _ _ r.mcr, (eq-eqb _ _ r.ier, (eq-eqb _ _ r.btr, (unless_in _ _ (λ e. eq-eqb _ _ (r.stopped e)), (lt-ltb _ _ r.recovery, (if_in _ _ r.slaki, tt))))))

control_out : (k : Control) → k.timer < 65536 → Is (control_ok k) → ControlRange k
unfolding control_ok
control_out k w h =
    let t = to_each (control_tests k) h in
    record {
      mcr = eqb-true _ _ t.0;
      ier = eqb-true _ _ t.1.0;
      btr = eqb-true _ _ t.1.1.0;
      timer = w;
      stopped = λ e. eqb-true _ _ (unless_out (ttcm k) (eqb k.timer 0) t.1.1.1.0 e);
      recovery = ltb-true _ _ t.1.1.1.1.0;
      slaki = if_out _ _ t.1.1.1.1.1.0;
    }

errors_in : (e : Errors) → ErrorRange e → Is (errors_ok e)
unfolding errors_ok
errors_in e r = from_each (errors_tests e) (le-leb _ _ r.tec, (le-leb _ _ r.lec, tt))

errors_out : (e : Errors) → e.rec ≤ 255 → Is (errors_ok e) → ErrorRange e
unfolding errors_ok
errors_out e w h = let t = to_each (errors_tests e) h in record { tec = leb-true _ _ t.0; rec = w; lec = leb-true _ _ t.1.0 }

recovery_in : (k : Control) (e : Errors) → RecoveryRange k e → Is (recovery_ok k (boff e))
unfolding recovery_ok
recovery_in k e r =
    from_each (recovery_tests k (boff e)) (unless_in _ _ (λ f. eq-eqb _ _ (r.count f)), (unless_in _ _ (λ f. not_in _ (r.reinitialized f)), (if_in _ _ (λ f. eq-eqb _ _ (r.fresh f)), (if_in _ _ (λ f. if_in _ _ (r.begins f)), tt))))

recovery_out : (k : Control) (e : Errors) → Is (recovery_ok k (boff e)) → RecoveryRange k e
unfolding recovery_ok
recovery_out k e h =
    let off : Bool = boff e in
    let i : Bool = is_initialization k.mode in
    let t = to_each (recovery_tests k off) h in
    record {
      count = λ f. eqb-true _ _ (unless_out off (eqb k.recovery 0) t.0 f);
      reinitialized = λ f. not_out _ (unless_out off (not k.reinitialized) t.1.0 f);
      fresh = λ f. eqb-true _ _ (if_out i (eqb k.recovery 0) t.1.1.0 f);
      begins = λ f g. if_out off k.reinitialized (if_out i (not off || k.reinitialized) t.1.1.1.0 f) g;
    }

wire_in : (c : Core) → WireRange c → Is (wire_ok c.control (is_free c) (boff c.errors))
unfolding wire_ok
wire_in c r = from_each (wire_tests c.control (is_free c) (boff c.errors)) (unless_in _ _ r.normal, (unless_in _ _ (λ f. not_in _ (r.on f)), (unless_in _ _ (λ f. not_in _ (r.heard f)), tt)))

wire_out : (c : Core) → Is (wire_ok c.control (is_free c) (boff c.errors)) → WireRange c
unfolding wire_ok
wire_out c h =
    let f : Bool = is_free c in
    let t = to_each (wire_tests c.control f (boff c.errors)) h in
    record {
      normal = unless_out f (is_normal c.control.mode) t.0;
      on = λ e. not_out _ (unless_out f (not (boff c.errors)) t.1.0 e);
      heard = λ e. not_out _ (unless_out f (not (silent c.control)) t.1.1.0 e);
    }

same-mode : (a b : Mode) → mode_bits a ≡ mode_bits b → a ≡ b
same-mode Sleep Sleep e = refl
same-mode Sleep Initialization e = absurd (omega arith)
same-mode Sleep Normal e = absurd (omega arith)
same-mode Initialization Sleep e = absurd (omega arith)
same-mode Initialization Initialization e = refl
same-mode Initialization Normal e = absurd (omega arith)
same-mode Normal Sleep e = absurd (omega arith)
same-mode Normal Initialization e = absurd (omega arith)
same-mode Normal Normal e = refl

followed_in : (c : Core) → Followed c → Is (followed_ok c.control (is_free c))
unfolding followed_ok
followed_in c r = if_in _ _ (λ f. eq-eqb _ _ (ap mode_bits (r f)))

followed_out : (c : Core) → Is (followed_ok c.control (is_free c)) → Followed c
unfolding followed_ok
followed_out c h = λ f. same-mode _ _ (eqb-true _ _ (if_out (is_free c) (eqb (mode_bits (mode_next c.control.mode (inrq c.control) (sleep c.control))) (mode_bits c.control.mode)) h f))

-- ---- the controller

pub range_in : (z : Controller) → InRange z → Is (in_range z.core)
unfolding in_range
range_in z r =
    let c : Core = z.core in
    let q : CoreRange c = r.core in
    from_each (core_tests c) (control_in _ q.control, (errors_in _ q.errors, (recovery_in _ _ q.recovery, (wire_in c q.wire, (followed_in c r.mode, (transmit_in _ q.transmit, (fifo_in _ q.fifo0, (fifo_in _ q.fifo1, (filters_in _ q.filters, tt)))))))))

pub range_out : (z : Controller) → Fits z → Is (in_range z.core) → InRange z
unfolding in_range
range_out z w h =
    let c : Core = z.core in
    let t = to_each (core_tests c) h in
    record {
      core = record {
        control = control_out _ w.timer t.0;
        errors = errors_out _ w.rec t.1.0;
        recovery = recovery_out _ _ t.1.1.0;
        wire = wire_out c t.1.1.1.0;
        transmit = transmit_out _ w.mailboxes t.1.1.1.1.1.0;
        fifo0 = fifo_out _ w.fifo0 t.1.1.1.1.1.1.0;
        fifo1 = fifo_out _ w.fifo1 t.1.1.1.1.1.1.1.0;
        filters = filters_out _ t.1.1.1.1.1.1.1.1.0;
      };
      mode = followed_out c t.1.1.1.1.0;
      bank_words = w.bank_words;
      banks = w.banks;
    }

pub ranged : (z : Controller) → Ranged z
ranged z = record { inside = range_in z; outside = range_out z }
