-- Mailbox words, and mailboxes with their requests, stay in their ranges.
use Rattle.std.proofs.Common.{Some}
use mathlib.Core.Bool.{Bool, true, false, not, ◌&&◌, ◌||◌, false≢true, and-false, or-true}
use mathlib.Core.Path.{◌≡◌, refl, ◌∙◌}
use Prim.Native.Nat.{ℕ, ◌+◌, ◌*◌, ◌/◌, ◌%◌, ◌^◌, ◌<◌, ◌≤◌}
use native.Mathlib.Omega.{arith}
use lib.Dec.{eqb}
use borrow.Author.Tests.{eqb-true}
use Rattle.base.specs.Base.{pick, bit, one}
use Rattle.model.specs.Queue.{same, holds, joined, without, is_nobody, requested, aborted, aborted_all, off_wire}
use Rattle.model.specs.Mailboxes.{at, put, with_words, with_flags, empty_mailbox, tdt_masked, ti_written, tdt_written, tdl_written, tdh_written, with_mailbox, requested_by, cleared, completed, aborts_pending, abrq, tsr_written, dropped, started, over, outcome_flags, ended}
use Rattle.model.specs.Reachable.{QueueRange, MailboxRange, TransmitRange}
use Rattle.model.specs.declared.Mailbox.{Mailbox}
use Rattle.model.specs.declared.Mailbox.TheVariants.{M0, M1, M2}
use Rattle.model.specs.declared.RequestOrder.{RequestOrder}
use Rattle.model.specs.declared.Queue.{Queue}
use Rattle.model.specs.declared.MailboxState.{MailboxState}
use Rattle.model.specs.declared.Transmit.{Transmit}
use Rattle.base.proofs.Choices.{pick_cases, and_l, and_r, or_r, opposed, Is-not}
use Rattle.model.proofs.Orders.{gone_without, held-before-without, held-before-joined}
use Rattle.model.proofs.Masks.{tdt_masked_lem, tdt-timed}
use Rattle.model.proofs.QueueRanges.{aborted-range, aborted-wire, held-before-aborted, kept-not-aborted, no_requests-range, aborted_all-range, requested-range, sending-range, off_wire-range}
use Rattle.model.specs.declared.ByMailbox.{ByMailbox}

-- ---- flags

fewer : (a b : Bool) → one (a && b) ≤ one a
fewer true true = omega arith
fewer true false = omega arith
fewer false b = omega arith

both : (a b : Bool) → a ≡ true → b ≡ true → (a && b) ≡ true
both a b h k = rw (h, k)

either : (a b : Bool) → a ≡ true → (a || b) ≡ true
either a b h = rw h

-- of a good end, a lost arbitration and an error only one is the case
one-result : (n : ℕ) (a b : Bool) → eqb n 0 ≡ a → eqb n 7 ≡ b → one a + one b + one (not a && not b) ≤ 1
one-result n true true e k = absurd (let z : n ≡ 0 = eqb-true _ _ e in let s : n ≡ 7 = eqb-true _ _ k in omega arith)
one-result n true false e k = omega arith
one-result n false true e k = omega arith
one-result n false false e k = omega arith

-- ---- one mailbox

pub empty_mailbox-range : MailboxRange empty_mailbox
empty_mailbox-range = record { ti = omega arith; even = refl; tdt = refl; tdl = omega arith; tdh = omega arith; completes = λ h. h; result = omega arith }

module _ (x : MailboxState) (r : MailboxRange x) where
  -- words change, flags do not
  words-range : (i t l h : ℕ) → i < 2 ^ 32 → i / 2 * 2 ≡ i → tdt_masked t ≡ t → l < 2 ^ 32 → h < 2 ^ 32 → MailboxRange (with_words x i t l h)
  words-range i t l h li e ht ll lh = record { ti = li; even = e; tdt = ht; tdl = ll; tdh = lh; completes = r.completes; result = r.result }

  -- flags change, words do not
  flags-range : (c o a e : Bool) → (o ≡ true → c ≡ true) → one o + one a + one e ≤ 1 → MailboxRange (with_flags x c o a e)
  flags-range c o a e k n = record { ti = r.ti; even = r.even; tdt = r.tdt; tdl = r.tdl; tdh = r.tdh; completes = k; result = n }

  pub tdt_written-range : (w : ℕ) → MailboxRange (tdt_written x w)
  unfolding tdt_written
  tdt_written-range w = words-range x.ti (tdt_masked w) x.tdl x.tdh r.ti r.even (tdt_masked_lem w) r.tdl r.tdh

  pub tdl_written-range : (w : ℕ) → w < 2 ^ 32 → MailboxRange (tdl_written x w)
  unfolding tdl_written
  tdl_written-range w l = words-range x.ti x.tdt w x.tdh r.ti r.even r.tdt l r.tdh

  pub tdh_written-range : (w : ℕ) → w < 2 ^ 32 → MailboxRange (tdh_written x w)
  unfolding tdh_written
  tdh_written-range w l = words-range x.ti x.tdt x.tdl w r.ti r.even r.tdt r.tdl l

  timed-range : (t : ℕ) → t < 65536 → MailboxRange (with_words x x.ti (x.tdt % 65536 + t * 65536) x.tdl x.tdh)
  timed-range t l = words-range x.ti _ x.tdl x.tdh r.ti r.even (tdt-timed x.tdt t r.tdt l) r.tdl r.tdh

  cleared-range : (k w : ℕ) → MailboxRange (cleared x k w)
  unfolding cleared
  cleared-range k w =
      let n : one x.txok + one x.alst + one x.terr ≤ 1 = r.result in
      let b : Bool = not (bit k w) in
      flags-range (x.rqcp && b) (x.txok && b && not (bit (k + 1) w)) (x.alst && b && not (bit (k + 2) w)) (x.terr && b && not (bit (k + 3) w))
      (λ h. let o : (x.txok && b) ≡ true = and_l (x.txok && b) (not (bit (k + 1) w)) h in
      both x.rqcp b (r.completes (and_l x.txok b o)) (and_r x.txok b o))
      (omega (arith, fewer (x.txok && b) (not (bit (k + 1) w)), fewer (x.alst && b) (not (bit (k + 2) w)), fewer (x.terr && b) (not (bit (k + 3) w)), fewer x.txok b, fewer x.alst b, fewer x.terr b))

  completed-range : (b : Bool) → MailboxRange (completed x b)
  unfolding completed
  completed-range b =
      let n : one x.txok + one x.alst + one x.terr ≤ 1 = r.result in
      flags-range (x.rqcp || b) (x.txok && not b) x.alst x.terr
      (λ h. either x.rqcp b (r.completes (and_l x.txok (not b) h)))
      (omega (arith, fewer x.txok (not b)))

  outcome_flags-range : (n : ℕ) (done : Bool) → (eqb n 0 ≡ true → done ≡ true) → MailboxRange (outcome_flags x n done)
  unfolding outcome_flags
  outcome_flags-range n done k =
      flags-range (x.rqcp || done) (eqb n 0) (eqb n 7) (not (eqb n 0) && not (eqb n 7))
      (λ h. rw (k h) (or-true x.rqcp))
      (one-result n (eqb n 0) (eqb n 7) refl refl)

  requested-flags-range : (b : Bool) → MailboxRange (with_flags x (x.rqcp && b) (x.txok && b) (x.alst && b) (x.terr && b))
  requested-flags-range b =
      let n : one x.txok + one x.alst + one x.terr ≤ 1 = r.result in
      flags-range (x.rqcp && b) (x.txok && b) (x.alst && b) (x.terr && b)
      (λ h. both x.rqcp b (r.completes (and_l x.txok b h)) (and_r x.txok b h))
      (omega (arith, fewer x.txok b, fewer x.alst b, fewer x.terr b))

ti_written-range : (x : MailboxState) (w : ℕ) → MailboxRange x → w < 2 ^ 32 → MailboxRange (ti_written x w)
unfolding ti_written
ti_written-range x w r l =
    requested-flags-range (with_words x (w / 2 * 2) x.tdt x.tdl x.tdh)
    (words-range x r (w / 2 * 2) x.tdt x.tdl x.tdh (omega arith) (omega arith) r.tdt r.tdl r.tdh)
    (not (bit 0 w))

-- ---- one of three

-- what holds of the others, and of the new one, holds of all three
put_all : (P : Mailbox → MailboxState → Type 0) (b : ByMailbox MailboxState) (m : Mailbox) (y : MailboxState)
    → ((x : Mailbox) → same m x ≡ false → P x (at b x)) → P m y → (x : Mailbox) → P x (at (put b m y) x)
put_all P b M0 y r p M0 = p
put_all P b M0 y r p M1 = r M1 refl
put_all P b M0 y r p M2 = r M2 refl
put_all P b M1 y r p M0 = r M0 refl
put_all P b M1 y r p M1 = p
put_all P b M1 y r p M2 = r M2 refl
put_all P b M2 y r p M0 = r M0 refl
put_all P b M2 y r p M1 = r M1 refl
put_all P b M2 y r p M2 = p

-- RQCP is 0 if the order has the mailbox
abbrev Pending : RequestOrder → Mailbox → MailboxState → Type 0
Pending o m x = holds o m ≡ true → x.rqcp ≡ false

-- ---- mailboxes and requests

module _ (t : Transmit) (r : TransmitRange t) where
  put-range : (m : Mailbox) (y : MailboxState) → MailboxRange y → (x : Mailbox) → MailboxRange (at (put t.mailboxes m y) x)
  put-range m y p = put_all (λ _. MailboxRange) t.mailboxes m y (λ x _. r.mailboxes x) p

  pub dropped-range : TransmitRange (dropped t)
  dropped-range = record { queue = no_requests-range; mailboxes = r.mailboxes; pending = λ m h. absurd (false≢true h) }

  -- ---- words

  with_mailbox-range : (m : Mailbox) (y : MailboxState) → MailboxRange y → y.rqcp ≡ (at t.mailboxes m).rqcp → TransmitRange (with_mailbox t m y)
  with_mailbox-range m y p e = record {
    queue = r.queue;
    mailboxes = put-range m y p;
    pending = put_all (Pending t.queue.order) t.mailboxes m y (λ x _. r.pending x) (λ h. e ∙ r.pending m h);
  }

  pub tdt-transmit-range : (m : Mailbox) (w : ℕ) → TransmitRange (with_mailbox t m (tdt_written (at t.mailboxes m) w))
  unfolding tdt_written
  tdt-transmit-range m w = with_mailbox-range m (tdt_written (at t.mailboxes m) w) (tdt_written-range (at t.mailboxes m) (r.mailboxes m) w) refl

  pub tdl-transmit-range : (m : Mailbox) (w : ℕ) → w < 2 ^ 32 → TransmitRange (with_mailbox t m (tdl_written (at t.mailboxes m) w))
  unfolding tdl_written
  tdl-transmit-range m w l = with_mailbox-range m (tdl_written (at t.mailboxes m) w) (tdl_written-range (at t.mailboxes m) (r.mailboxes m) w l) refl

  pub tdh-transmit-range : (m : Mailbox) (w : ℕ) → w < 2 ^ 32 → TransmitRange (with_mailbox t m (tdh_written (at t.mailboxes m) w))
  unfolding tdh_written
  tdh-transmit-range m w l = with_mailbox-range m (tdh_written (at t.mailboxes m) w) (tdh_written-range (at t.mailboxes m) (r.mailboxes m) w l) refl

  -- ---- a request

  requested-pending : (m : Mailbox) (w : ℕ) (b : Bool) → bit 0 w ≡ b → holds t.queue.order m ≡ false → (x : Mailbox)
      → Pending (pick b (requested t.queue m) t.queue).order x (at (put t.mailboxes m (ti_written (at t.mailboxes m) w)) x)
  unfolding ti_written
  requested-pending m w true e n =
      put_all (Pending (joined t.queue.order m)) t.mailboxes m _
      (λ x other h. r.pending x (held-before-joined t.queue.order x m h other))
      (λ _. rw e (and-false (at t.mailboxes m).rqcp))
  requested-pending m w false e n =
      put_all (Pending t.queue.order) t.mailboxes m _ (λ x _. r.pending x) (λ h. opposed h n)

  pub requested_by-range : (m : Mailbox) (w : ℕ) → w < 2 ^ 32 → holds t.queue.order m ≡ false → TransmitRange (requested_by t m w)
  unfolding requested_by
  requested_by-range m w l n = record {
    queue = pick_cases QueueRange (bit 0 w) _ _ (λ _. requested-range t.queue m r.queue n) (λ _. r.queue);
    mailboxes = put-range m _ (ti_written-range (at t.mailboxes m) w (r.mailboxes m) l);
    pending = requested-pending m w (bit 0 w) refl n;
  }

  -- ---- TSR

  tsr_written-mailboxes : (w : ℕ) (m : Mailbox) → MailboxRange (at (tsr_written t w).mailboxes m)
  unfolding tsr_written
  tsr_written-mailboxes w M0 = completed-range _ (cleared-range t.mailboxes.m0 (r.mailboxes M0) 0 w) _
  tsr_written-mailboxes w M1 = completed-range _ (cleared-range t.mailboxes.m1 (r.mailboxes M1) 8 w) _
  tsr_written-mailboxes w M2 = completed-range _ (cleared-range t.mailboxes.m2 (r.mailboxes M2) 16 w) _

  -- the request of m, still there after an abort of q, which the aborts before made of the queue
  still-pending : (m : Mailbox) (k w : ℕ) (b : Bool) (q : Queue) → QueueRange q → q.transmitting ≡ t.queue.transmitting
      → (holds q.order m ≡ true → holds t.queue.order m ≡ true) → holds (aborted b q m).order m ≡ true
      → (completed (cleared (at t.mailboxes m) k w) (aborts_pending t.queue m b)).rqcp ≡ false
  unfolding completed cleared
  still-pending m k w b q g e before h =
      let now : holds q.order m ≡ true = held-before-aborted b q m m h in
      let no : aborts_pending q m b ≡ false = kept-not-aborted b q m g.once h in
      let same : aborts_pending t.queue m b ≡ aborts_pending q m b = simp (before now, now, e) in
      rw (r.pending m (before now), same, no)

  -- the requests after the abort of mailbox 0, and after that of mailbox 1
  abbrev after0 : ℕ → Queue
  after0 w = aborted (bit 7 w) t.queue M0

  abbrev after1 : ℕ → Queue
  after1 w = aborted (bit 15 w) (after0 w) M1

  tsr_written-pending : (w : ℕ) (m : Mailbox) → Pending (tsr_written t w).queue.order m (at (tsr_written t w).mailboxes m)
  unfolding tsr_written aborted_all
  tsr_written-pending w M0 h =
      still-pending M0 0 w (bit 7 w) t.queue r.queue refl (λ k. k)
      (held-before-aborted (bit 15 w) (after0 w) M1 M0 (held-before-aborted (bit 23 w) (after1 w) M2 M0 h))
  tsr_written-pending w M1 h =
      still-pending M1 8 w (bit 15 w) (after0 w) (aborted-range t.queue M0 r.queue (bit 7 w)) (aborted-wire (bit 7 w) t.queue M0)
      (held-before-aborted (bit 7 w) t.queue M0 M1)
      (held-before-aborted (bit 23 w) (after1 w) M2 M1 h)
  tsr_written-pending w M2 h =
      still-pending M2 16 w (bit 23 w) (after1 w) (aborted-range (after0 w) M1 (aborted-range t.queue M0 r.queue (bit 7 w)) (bit 15 w))
      (aborted-wire (bit 15 w) (after0 w) M1 ∙ aborted-wire (bit 7 w) t.queue M0)
      (λ k. held-before-aborted (bit 7 w) t.queue M0 M2 (held-before-aborted (bit 15 w) (after0 w) M1 M2 k))
      h

  pub tsr_written-range : (w : ℕ) → TransmitRange (tsr_written t w)
  unfolding tsr_written
  tsr_written-range w = record {
    queue = aborted_all-range t.queue (abrq w) r.queue;
    mailboxes = tsr_written-mailboxes w;
    pending = tsr_written-pending w;
  }

  -- ---- a start, an own end

  pub started-range : (m : Mailbox) (time : ℕ) → time < 65536 → is_nobody t.queue.transmitting ≡ true → holds t.queue.order m ≡ true → TransmitRange (started t m time)
  unfolding started
  started-range m time l free h = record {
    queue = sending-range t.queue m r.queue free h;
    mailboxes = put-range m _ (timed-range (at t.mailboxes m) (r.mailboxes m) time l);
    pending = put_all (Pending t.queue.order) t.mailboxes m _ (λ x _. r.pending x) (r.pending m);
  }

  ended-pending : (m : Mailbox) (n : ℕ) (b : Bool) (x : Mailbox) → Pending (off_wire t.queue m b).order x (at (put t.mailboxes m (outcome_flags (at t.mailboxes m) n b)) x)
  unfolding off_wire outcome_flags
  ended-pending m n true =
      put_all (Pending (without t.queue.order m)) t.mailboxes m _
      (λ x _ h. r.pending x (held-before-without t.queue.order x m h))
      (λ h. opposed h (Is-not _ (gone_without t.queue.order r.queue.once m)))
  ended-pending m n false =
      put_all (Pending t.queue.order) t.mailboxes m _ (λ x _. r.pending x) (λ h. rw (r.pending m h))

  pub ended-range : (m : Mailbox) (n : ℕ) (nart : Bool) → t.queue.transmitting ≡ Some m → TransmitRange (ended t m n nart)
  unfolding ended over
  ended-range m n nart e = record {
    queue = off_wire-range t.queue m r.queue e _ (or_r (eqb n 0 || nart) (at t.queue.aborts m));
    mailboxes = put-range m _ (outcome_flags-range (at t.mailboxes m) (r.mailboxes m) n _ (λ h. either (eqb n 0 || nart) _ (either (eqb n 0) nart h)));
    pending = ended-pending m n (eqb n 0 || nart || at t.queue.aborts m);
  }
