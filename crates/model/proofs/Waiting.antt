-- A FIFO holds the frames that the history says.
use Rattle.std.proofs.Common.{Option, Some, None}
use mathlib.Core.Bool.{Bool, true, false, not, ◌&&◌}
use mathlib.Core.Path.{◌≡◌, refl, sym, subst, ap, ◌∙◌}
use mathlib.Core.List.{List, [], ◌∷◌}
use Prim.Native.Nat.{ℕ, ◌+◌, ◌*◌, ◌/◌}
use lib.Dec.{eqb}
use Rattle.base.specs.Base.{pick, bit}
use Rattle.model.specs.Mailboxes.{at}
use Rattle.model.specs.Search.{acceptance}
use Rattle.model.specs.Reception.{stored_frame, sent_frame, goes_into, fmi_of, received, rfr_written, empty_fifo}
use Rattle.model.specs.Control.{rflm, lbkm, control_reset}
use Rattle.model.specs.Registers.{register_at, bank_count, reset, written, fifo_of, with_errors}
use Rattle.model.specs.Step.{step, answered, core_after, refusal, applied, settled, stored_by, started_by, ended_by, looped_back}
use Rattle.model.specs.Requests.{after}
use Rattle.model.specs.Reachable.{InRange, StepsRange}
use Rattle.model.specs.History.{Traffic, none, empties, releases, arrives, arrival, write_traffic, end_traffic, step_traffic, traffic, filtered, waiting_next, waiting_from, frames}
use Rattle.model.specs.Shown.{shown, fifo_number}
use Rattle.model.specs.declared.Mailbox.{Mailbox}
use Rattle.model.specs.declared.MailboxState.{MailboxState}
use Rattle.model.specs.declared.Fifo.{Fifo}
use Rattle.model.specs.declared.Fifo.TheVariants.{F0, F1}
use Rattle.model.specs.declared.StoredFrame.{StoredFrame}
use Rattle.model.specs.declared.Frame.{Frame}
use Rattle.model.specs.declared.Control as controls
use Rattle.model.specs.declared.Errors.{Errors}
use Rattle.model.specs.declared.Core.{Core}
use Rattle.model.specs.declared.Controller.{Controller}
use Rattle.model.specs.declared.Step as steps
use Rattle.model.specs.declared.Step.TheVariants.{Reset, Read, Write, Idle, BitTimes, Activity, Start, Outcome, Receive, ReceiveError}
use Rattle.model.proofs.Views.{requests_of}
use Rattle.model.proofs.Follows.{view_of}
use Rattle.model.proofs.Arrivals.{Holds, no_frame_lem, holds-received, holds-written}
use Rattle.model.proofs.HistoryReads.{frame-read, filtered-read}
use Rattle.model.proofs.ShownWords.{mcr-shown, btr-shown, tdt-shown}
use Rattle.model.proofs.ReadFields.{finit-read}
use Rattle.model.proofs.Reached.{reset-in_range, step-in_range}
use Rattle.model.proofs.Timing.{step-timer}
use Rattle.model.proofs.Fair.{good, step-requests}
use Rattle.model.proofs.WriteTargets.{fifo-written}
use Rattle.model.specs.declared.FilterNumber.{FilterNumber}

abbrev Keeps : Fifo → Core → Core → Traffic → Type 0
Keeps f c d x = (l : List StoredFrame) → Holds (fifo_of f c) l → Holds (fifo_of f d) (waiting_next l x)

-- ---- writes

write_keeps : (f : Fifo) (o : ℕ) (c : Core) (w : ℕ) → Keeps f c (written (register_at o) c w) (write_traffic f o w)
unfolding rfr_written
write_keeps f o c w l h = rw (fifo-written f o c w) (go (eqb o 0x000 && bit 15 w) (eqb o (0x00C + 4 * fifo_number f)))
  where
    -- m: MCR with bit 15 set; e: this FIFO's RFxR
    go : (m e : Bool) → Holds (pick m empty_fifo (pick e (rfr_written (fifo_of f c) w) (fifo_of f c))) (waiting_next l (pick m empties (pick (e && bit 5 w) releases none)))
    go true e = no_frame_lem refl
    go false true = holds-written (bit 5 w) (fifo_of f c) l w h
    go false false = h

-- ---- arrivals

-- a frame arrives where the filters send it
arrival-known : (f : Fifo) (a : Option (Fifo × FilterNumber)) (x : Frame) (time : ℕ) (locked : Bool) → arrival f a x time locked ≡ pick (goes_into f a) (arrives (stored_frame x (fmi_of a) time) locked) none
arrival-known F0 (Some (F0, n)) x time locked = refl
arrival-known F0 (Some (F1, n)) x time locked = refl
arrival-known F1 (Some (F0, n)) x time locked = refl
arrival-known F1 (Some (F1, n)) x time locked = refl
arrival-known F0 None x time locked = refl
arrival-known F1 None x time locked = refl

stored-keeps : (f : Fifo) (c : Core) (a : Option (Fifo × FilterNumber)) (x : Frame) (time : ℕ) → Keeps f c (stored_by c a x time) (arrival f a x time (rflm c.control))
unfolding stored_by received
stored-keeps F0 c a x time = λ l h. rw (arrival-known F0 a x time (rflm c.control)) (holds-received (goes_into F0 a) c.fifo0 l _ (rflm c.control) h)
stored-keeps F1 c a x time = λ l h. rw (arrival-known F1 a x time (rflm c.control)) (holds-received (goes_into F1 a) c.fifo1 l _ (rflm c.control) h)

with_errors-fifo : (f : Fifo) (c : Core) (k : controls.Control) (e : Errors) → fifo_of f (with_errors c k e) ≡ fifo_of f c
with_errors-fifo F0 c k e = refl
with_errors-fifo F1 c k e = refl

looped : (b : Bool) (f : Fifo) (a : Option (Fifo × FilterNumber)) (x : Frame) (time : ℕ) (locked : Bool) → pick b (arrival f a x time locked) none ≡ arrival f (pick b a None) x time locked
looped true f a x time locked = refl
looped false f a x time locked = refl

module _ (z : Controller) (i : InRange z) where
  rflm-read : bit 3 (shown z 0x000) ≡ rflm z.core.control
  rflm-read = ap (λ (w : ℕ). bit 3 w) (mcr-shown z)

  receive_known : (f : Fifo) (x : Frame)
      → arrival f (filtered z x.identifier) x z.core.control.timer (bit 3 (shown z 0x000))
      ≡ arrival f (acceptance bank_count z.core.filters z.banks x.identifier) x z.core.control.timer (rflm z.core.control)
  receive_known f x = λ j. arrival f (filtered-read z x.identifier i j) x z.core.control.timer (rflm-read j)

  module _ (m : Mailbox) where
    abbrev x : MailboxState
    x = at z.core.transmit.mailboxes m

    sent-known : (f : Fifo) (r : ℕ) → end_traffic f (Some m) z r ≡ arrival f (looped_back z.core z.banks m r) (sent_frame x) (x.tdt / 65536) (rflm z.core.control)
    unfolding looped_back
    sent-known f r =
        (λ j. pick (eqb r 0 && bit 30 (btr-shown z j) && not (finit-read z j))
        (arrival f (filtered-read z (frame-read z m i j).identifier i j) (frame-read z m i j) (tdt-shown m z j / 65536) (rflm-read j))
        none)
        ∙ looped (eqb r 0 && lbkm z.core.control && not z.core.filters.finit) f _ (sent_frame x) (x.tdt / 65536) (rflm z.core.control)

    end_keeps : (f : Fifo) (r : ℕ) → Keeps f z.core (ended_by (Some m) z.core z.banks r) (end_traffic f (Some m) z r)
    unfolding ended_by
    end_keeps F0 r = λ l h. rw (sent-known F0 r) (stored-keeps F0 z.core (looped_back z.core z.banks m r) (sent_frame x) (x.tdt / 65536) l h)
    end_keeps F1 r = λ l h. rw (sent-known F1 r) (stored-keeps F1 z.core (looped_back z.core z.banks m r) (sent_frame x) (x.tdt / 65536) l h)

  ends_keep : (f : Fifo) (v : Option Mailbox) (r : ℕ) → Keeps f z.core (ended_by v z.core z.banks r) (end_traffic f v z r)
  unfolding ended_by
  ends_keep f None r = λ l h. h
  ends_keep f (Some m) r = end_keeps m f r

-- ---- every step

pub start-keeps : (f : Fifo) (v : Option Mailbox) (c : Core) → fifo_of f (started_by v c) ≡ fifo_of f c
unfolding started_by
start-keeps f None c = refl
start-keeps F0 (Some m) c = refl
start-keeps F1 (Some m) c = refl

applied-keeps : (f : Fifo) (z : Controller) (s : steps.Step) → InRange z
    → Keeps f z.core (applied z.core z.banks s) (step_traffic f z.core.control.timer z.core.transmit.queue.transmitting z s)
unfolding applied reset
applied-keeps F0 z Reset i = λ l h. no_frame_lem refl
applied-keeps F1 z Reset i = λ l h. no_frame_lem refl
applied-keeps f z (Read o) i = λ l h. h
applied-keeps f z (Write o w) i = write_keeps f o z.core w
applied-keeps F0 z Idle i = λ l h. h
applied-keeps F1 z Idle i = λ l h. h
applied-keeps F0 z (BitTimes n) i = λ l h. h
applied-keeps F1 z (BitTimes n) i = λ l h. h
applied-keeps F0 z Activity i = λ l h. h
applied-keeps F1 z Activity i = λ l h. h
applied-keeps f z Start i = λ l h. rw (start-keeps f _ z.core) h
applied-keeps f z (Outcome r) i = ends_keep z i f z.core.transmit.queue.transmitting r
applied-keeps f z (Receive x) i =
    λ l h. rw (receive_known z i f x, with_errors-fifo f _ _ _)
    (stored-keeps f z.core (acceptance bank_count z.core.filters z.banks x.identifier) x z.core.control.timer l h)
applied-keeps F0 z (ReceiveError k n) i = λ l h. h
applied-keeps F1 z (ReceiveError k n) i = λ l h. h

pub settled-fifo : (f : Fifo) (c : Core) → fifo_of f (settled c) ≡ fifo_of f c
unfolding settled
settled-fifo F0 c = refl
settled-fifo F1 c = refl

by_code : (ok : Bool) (f : Fifo) (c d : Core) (x : Traffic) → Keeps f c d x → Keeps f c (pick ok (settled d) c) (pick ok x none)
by_code true f c d x k l h = rw (settled-fifo f d) (k l h)
by_code false f c d x k l h = h

step_keeps : (f : Fifo) (z : Controller) (s : steps.Step) (l : List StoredFrame) → InRange z → Holds (fifo_of f z.core) l
    → Holds (fifo_of f (step z s).controller.core) (waiting_next l (traffic f z.core.control.timer z.core.transmit.queue.transmitting z s))
unfolding step answered core_after
step_keeps f z s l i h = by_code (eqb (refusal z.core s) 0) f z.core _ _ (applied-keeps f z s i) l h

abbrev frames_from : Fifo → List StoredFrame → Controller → List steps.Step → List StoredFrame
frames_from f l z r = waiting_from f l z.core.control.timer (requests_of (view_of z.core)) z r

holds-from : (f : Fifo) (l : List StoredFrame) (z : Controller) (r : List steps.Step) → InRange z → StepsRange r → Holds (fifo_of f z.core) l
    → Holds (fifo_of f (after z r).core) (frames_from f l z r)
unfolding after waiting_from
holds-from f l z [] i h k = k
holds-from f l z (s ∷ r) i h k =
    subst (λ (x : List StoredFrame). Holds (fifo_of f (after (step z s).controller r).core) x)
    (λ j. waiting_from f (waiting_next l (traffic f z.core.control.timer z.core.transmit.queue.transmitting z s)) (step-timer z s i h.0 j) (sym (step-requests z s (good z i)) j) (step z s).controller r)
    (holds-from f (waiting_next l (traffic f z.core.control.timer z.core.transmit.queue.transmitting z s)) (step z s).controller r (step-in_range z s i h.0) h.1 (step_keeps f z s l i k))

pub holds-reset : (f : Fifo) (l : List steps.Step) → StepsRange l → Holds (fifo_of f (after reset l).core) (frames f reset l)
unfolding reset control_reset
holds-reset F0 l h = holds-from F0 [] reset l reset-in_range h (no_frame_lem refl)
holds-reset F1 l h = holds-from F1 [] reset l reset-in_range h (no_frame_lem refl)
