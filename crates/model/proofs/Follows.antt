-- Each step of the controller does to its requests what the event that the observer sees of it says.
use Rattle.std.proofs.Common.{Option, Some, None, ℕ}
use mathlib.Core.Bool.{Bool, true, false, not, ◌&&◌, ◌||◌, true≢false, false≢true}
use mathlib.Core.List.{List}
use mathlib.Core.Path.{◌≡◌, refl, sym, ap, ◌∙◌}
use Prim.Native.Nat.{ℕ, ◌-◌, ◌/◌, ◌%◌, ◌^◌}
use native.Mathlib.Omega.{arith}
use lib.Dec.{ltb, eqb}
use borrow.Author.Tests.{eqb-true}
use Rattle.base.specs.Base.{pick, bit}
use Rattle.model.specs.Queue.{number, numbered, sender_number, same, holds, oldest, is_from, is_nobody, is_empty, requested}
use Rattle.model.specs.Mailboxes.{first_in_wire_order, sooner, before, first, first_of, identifiers, requested_by, tsr_written, started, ended, over}
use Rattle.model.specs.Control.{nart, txfp, awum, silm, lbkm, is_normal, epvf, boff, mcr_masked, sleep_cleared, entered, counted, idled, ticked, woken, errors_changed, control_reset, master_reset, mcr_written, msr_written, ier_written, btr_written}
use Rattle.model.specs.Control as control
use Rattle.model.specs.Registers.{register_at, reset, core_reset, written, write_refusal, is_free, has_request, with_control, with_transmit}
use Rattle.model.specs.Step.{step, answered, core_after, refusal, word_of, applied, settled, stored_by, started_by, ended_by, may_start, may_end}
use Rattle.model.specs.Reachable.{carried}
use Rattle.model.specs.Requests.{Event, nothing, drops, modes, accepts, starts, ends, write_event, step_event, start_word, event, entry}
use Rattle.model.specs.declared.ByMailbox.{ByMailbox}
use Rattle.model.specs.declared.Mailbox.{Mailbox}
use Rattle.model.specs.declared.MailboxState.{MailboxState}
use Rattle.model.specs.declared.Mailbox.TheVariants.{M0, M1, M2}
use Rattle.model.specs.declared.RequestOrder.{RequestOrder}
use Rattle.model.specs.declared.RequestOrder.TheVariants.{Empty, One, Two, Three}
use Rattle.model.specs.declared.Fifo.TheVariants.{F0, F1}
use Rattle.model.specs.declared.Queue.{Queue}
use Rattle.model.specs.declared.Control as controls
use Rattle.model.specs.declared.Core.{Core}
use Rattle.model.specs.declared.Controller.{Controller}
use Rattle.model.specs.declared.Register.{Register}
use Rattle.model.specs.declared.Register.TheVariants.{Mcr, Msr, Tsr, Rfr, Ier, Esr, Btr, Ti, Tdt, Tdl, Tdh, Ri, Rdt, Rdl, Rdh, Fmr, Fm1r, Fs1r, Ffa1r, Fa1r, R1, R2, Absent}
use Rattle.model.specs.declared.Step as steps
use Rattle.model.specs.declared.Step.TheVariants.{Reset, Read, Write, Idle, BitTimes, Activity, Start, Outcome, Receive, ReceiveError}
use Rattle.base.proofs.Choices.{Is, Not, and_l, and_r, Is-not, not-Is, pick_cases}
use Rattle.model.proofs.Orders.{oldest-held, each, each-mailbox}
use Rattle.model.proofs.Views.{View, view_next, Granted, MayStart, off_view}
use Rattle.model.specs.declared.ByMailbox.{ByMailbox}

abbrev pub view_of : Core → View
view_of c = record { queue = c.transmit.queue; nart = nart c.control; txfp = txfp c.control }

-- a core d in which the event has happened to the requests of c
pub record Does (c d : Core) (x : Event) : Type 0 where
  pub view : view_of d ≡ view_next (view_of c) x
  pub granted : Granted (view_of c) x

-- ---- NART and TXFP

-- bits 2 and 4 of MCR come through its mask, and are not touched where SLEEP clears
mask_keeps : (w : ℕ) → (bit 4 (mcr_masked w) ≡ bit 4 w) × (bit 2 (mcr_masked w) ≡ bit 2 w)
mask_keeps w =
    let n : mcr_masked w / 2 ^ 4 % 2 ≡ w / 2 ^ 4 % 2 = omega arith in
    let t : mcr_masked w / 2 ^ 2 % 2 ≡ w / 2 ^ 2 % 2 = omega arith in
    (ap (λ x. eqb x 1) n, ap (λ x. eqb x 1) t)

wake-keeps : (m : ℕ) → (bit 4 (sleep_cleared m) ≡ bit 4 m) × (bit 2 (sleep_cleared m) ≡ bit 2 m)
wake-keeps m = pick_cases (λ (x : ℕ). (bit 4 x ≡ bit 4 m) × (bit 2 x ≡ bit 2 m)) (bit 1 m) (m - 2) m
    (λ h. lower (eqb-true _ _ h))
    (λ _. (refl, refl))
  where
    lower : m / 2 ^ 1 % 2 ≡ 1 → (bit 4 (m - 2) ≡ bit 4 m) × (bit 2 (m - 2) ≡ bit 2 m)
    lower h =
        let q : (m - 2) / 2 ^ 2 ≡ m / 2 ^ 2 = omega arith in
        let a : (m - 2) / 2 ^ 4 ≡ (m - 2) / 2 ^ 2 / 4 = omega arith in
        let b : m / 2 ^ 4 ≡ m / 2 ^ 2 / 4 = omega arith in
        (ap (λ x. eqb (x % 2) 1) (a ∙ (ap (λ x. x / 4) q ∙ sym b)), ap (λ x. eqb (x % 2) 1) q)

-- the same requests under another MCR with the same two bits
remade : (q : Queue) (a b c d : Bool) → a ≡ c → b ≡ d → ◌≡◌ {A = View} (record { queue = q; nart = a; txfp = b }) (record { queue = q; nart = c; txfp = d })
remade q a b c d p r = λ i. record { queue = q; nart = p i; txfp = r i }

settled-mcr : (free off : Bool) (k : controls.Control) → (control.settled k free off).mcr ≡ k.mcr
unfolding control.settled entered
settled-mcr true off k = refl
settled-mcr false off k = refl

pub settled_view : (c : Core) → view_of (settled c) ≡ view_of c
unfolding settled
settled_view c =
    let e = settled-mcr (is_free c) (boff c.errors) c.control in
    remade c.transmit.queue _ _ _ _ (ap (λ m. bit 4 m) e) (ap (λ m. bit 2 m) e)

woken_view : (c : Core) → view_of (with_control c (woken c.control)) ≡ view_of c
unfolding woken
woken_view c = pick_cases (λ (m : ℕ). ◌≡◌ {A = View} (record { queue = c.transmit.queue; nart = bit 4 m; txfp = bit 2 m }) (view_of c))
    (awum c.control) (sleep_cleared c.control.mcr) c.control.mcr
    (λ _. remade c.transmit.queue _ _ _ _ (wake-keeps c.control.mcr).0 (wake-keeps c.control.mcr).1)
    (λ _. refl)

-- ---- writes

-- a step of which the observer notes nothing
still : (c d : Core) → view_of d ≡ view_of c → Does c d nothing
still c d e = record { view = e; granted = tt }

mcr_does : (b : Bool) (c : Core) (w : ℕ) → Does c (pick b (core_reset c) (with_control c (mcr_written c.control w))) (pick b drops (modes (bit 4 w) (bit 2 w)))
unfolding core_reset master_reset mcr_written
mcr_does true c w = record { view = refl; granted = tt }
mcr_does false c w = record { view = remade c.transmit.queue _ _ _ _ (mask_keeps w).0 (mask_keeps w).1; granted = tt }

ti_does : (b : Bool) (c : Core) (m : Mailbox) (x : ByMailbox MailboxState) → Not (has_request c m)
    → Does c (with_transmit c (record { mailboxes = x; queue = pick b (requested c.transmit.queue m) c.transmit.queue })) (pick b (accepts m) nothing)
ti_does true c m x h = record { view = refl; granted = not-Is h }
ti_does false c m x h = record { view = refl; granted = tt }

-- a mailbox that may be written to is empty
empty_mailbox_lem : (b : Bool) → eqb (pick b 2 0) 0 ≡ true → b ≡ false
empty_mailbox_lem true h = absurd (false≢true h)
empty_mailbox_lem false h = refl

written_does : (r : Register) (c : Core) (w : ℕ) → eqb (write_refusal r c) 0 ≡ true → Does c (written r c w) (write_event r w)
unfolding written write_refusal msr_written ier_written btr_written tsr_written requested_by
written_does Mcr c w h = mcr_does (bit 15 w) c w
written_does Msr c w h = still c _ refl
written_does Tsr c w h = record { view = refl; granted = tt }
written_does (Rfr F0) c w h = still c _ refl
written_does (Rfr F1) c w h = still c _ refl
written_does Ier c w h = still c _ refl
written_does Esr c w h = still c _ refl
written_does Btr c w h = still c _ refl
written_does (Ti m) c w h = ti_does (bit 0 w) c m _ (empty_mailbox_lem (has_request c m) h)
written_does (Tdt m) c w h = still c _ refl
written_does (Tdl m) c w h = still c _ refl
written_does (Tdh m) c w h = still c _ refl
written_does (Ri f) c w h = still c _ refl
written_does (Rdt f) c w h = still c _ refl
written_does (Rdl f) c w h = still c _ refl
written_does (Rdh f) c w h = still c _ refl
written_does Fmr c w h = still c _ refl
written_does Fm1r c w h = still c _ refl
written_does Fs1r c w h = still c _ refl
written_does Ffa1r c w h = still c _ refl
written_does Fa1r c w h = still c _ refl
written_does (R1 b) c w h = still c _ refl
written_does (R2 b) c w h = still c _ refl
written_does Absent c w h = still c _ refl

-- ---- start

-- whoever is first by the bits on the wire has a request
sooner-held : (i : ByMailbox ℕ) (a b : Mailbox) (o : RequestOrder) → Is (holds o a) → Is (holds o b) → Is (holds o (sooner i a b))
unfolding sooner
sooner-held i a b o h k = pick_cases (λ (m : Mailbox). Is (holds o m)) (before i a b) a b (λ _. h) (λ _. k)

same_refl : (a : Mailbox) → Is (same a a)
same_refl a = each-mailbox (λ a. same a a) refl a

held_two : (a b : Mailbox) → Is (holds (Two a b) a && holds (Two a b) b)
held_two a b = each (λ o a b c. holds (Two a b) a && holds (Two a b) b) refl Empty a b b

held-three : (a b c : Mailbox) → Is (holds (Three a b c) a && (holds (Three a b c) b && holds (Three a b c) c))
held-three a b c = each (λ o a b c. holds (Three a b c) a && (holds (Three a b c) b && holds (Three a b c) c)) refl Empty a b c

pub from-eq : (a m : Mailbox) → Some a ≡ Some m → a ≡ m
from-eq a m e = cc

first_in_wire_order-held : (i : ByMailbox ℕ) (o : RequestOrder) (m : Mailbox) → first_in_wire_order i o ≡ Some m → Is (holds o m)
unfolding first_in_wire_order
first_in_wire_order-held i Empty m e = absurd (true≢false (ap is_nobody e))
first_in_wire_order-held i (One a) m e = rw (← (from-eq a m e)) (same_refl a)
first_in_wire_order-held i (Two a b) m e =
    let o : RequestOrder = Two a b in
    rw (← (from-eq (sooner i a b) m e)) (sooner-held i a b o (and_l (holds o a) (holds o b) (held_two a b)) (and_r (holds o a) (holds o b) (held_two a b)))
first_in_wire_order-held i (Three a b c) m e =
    let o : RequestOrder = Three a b c in
    let k : Is (holds o b && holds o c) = and_r (holds o a) (holds o b && holds o c) (held-three a b c) in
    rw (← (from-eq (sooner i (sooner i a b) c) m e))
    (sooner-held i (sooner i a b) c o
    (sooner-held i a b o (and_l (holds o a) (holds o b && holds o c) (held-three a b c)) (and_l (holds o b) (holds o c) k))
    (and_r (holds o b) (holds o c) k))

first-held : (b : Bool) (i : ByMailbox ℕ) (o : RequestOrder) (m : Mailbox) → first b i o ≡ Some m → Is (holds o m) × (Is b → Is (is_from (oldest o) m))
unfolding first
first-held true i o m e =
    let k : Is (is_from (oldest o) m) = rw e (same_refl m) in
    (oldest-held o m k, λ _. k)
first-held false i o m e = (first_in_wire_order-held i o m e, λ f. absurd (false≢true f))

pub first-carried : (b : Bool) (i : ByMailbox ℕ) (o : RequestOrder) → Is (carried (first b i o) o)
first-carried b i o = go (first b i o) refl
  where
    go : (v : Option Mailbox) → first b i o ≡ v → Is (carried v o)
    go None e = refl
    go (Some m) e = (first-held b i o m e).0

-- where there is a request, there is a first one
someone : (v : Option Mailbox) (m : Mailbox) → v ≡ Some m → v ≡ None → ⊥
someone v m p q = absurd (true≢false (ap is_nobody (sym q ∙ p)))

first_some : (b : Bool) (i : ByMailbox ℕ) (o : RequestOrder) → first b i o ≡ None → Is (is_empty o)
unfolding first first_in_wire_order
first_some true i Empty e = refl
first_some true i (One a) e = absurd (someone _ a refl e)
first_some true i (Two a b) e = absurd (someone _ a refl e)
first_some true i (Three a b c) e = absurd (someone _ a refl e)
first_some false i Empty e = refl
first_some false i (One a) e = absurd (someone _ a refl e)
first_some false i (Two a b) e = absurd (someone _ (sooner i a b) refl e)
first_some false i (Three a b c) e = absurd (someone _ (sooner i (sooner i a b) c) refl e)

-- what a start needs
pub record Startable (c : Core) : Type 0 where
  pub normal : Is (is_normal c.control.mode)
  pub on : Not (boff c.errors)
  pub free : Is (is_free c)
  pub asked : Not (is_empty c.transmit.queue.order)

pub startable : (c : Core) → Is (may_start c) → Startable c
unfolding may_start
startable c h =
    let a : Bool = is_normal c.control.mode in
    let b : Bool = not (boff c.errors) in
    let f : Bool = is_free c in
    let e : Bool = not (is_empty c.transmit.queue.order) in
    let k : Is (a && b && f && e) = and_l (a && b && f && e) (not (silm c.control && not (lbkm c.control))) h in
    let l : Is (a && b && f) = and_l (a && b && f) e k in
    let n : Is (a && b) = and_l (a && b) f l in
    record { normal = and_l a b n; on = Is-not _ (and_r a b n); free = and_r (a && b) f l; asked = Is-not _ (and_r (a && b && f) e k) }

numbered-number : (m : Mailbox) → numbered (number m) ≡ m
numbered-number M0 = refl
numbered-number M1 = refl
numbered-number M2 = refl

start-one : (m : Mailbox) (c : Core) → MayStart (view_of c) m → Does c (started_by (Some m) c) (starts m)
unfolding started_by started
start-one m c k = record { view = refl; granted = k }

start_does : (v : Option Mailbox) (c : Core) → first_of (txfp c.control) c.transmit ≡ v → Startable c → Does c (started_by v c) (starts (numbered (sender_number v)))
start_does None c e k = absurd (true≢false (sym (first_some (txfp c.control) (identifiers c.transmit.mailboxes) c.transmit.queue.order e) ∙ k.asked))
start_does (Some m) c e k =
    let h = first-held (txfp c.control) (identifiers c.transmit.mailboxes) c.transmit.queue.order m e in
    rw (numbered-number m) (start-one m c (record { free = k.free; held = h.0; oldest = h.1 }))

-- ---- own end

end_does : (v : Option Mailbox) (c : Core) (b : List ℕ) (r : ℕ) → c.transmit.queue.transmitting ≡ v → Is (not (is_nobody v)) → Does c (ended_by v c b r) (ends (eqb r 0))
unfolding ended_by ended over errors_changed stored_by
end_does None c b r e k = absurd (false≢true k)
end_does (Some m) c b r e k = record {
  view = sym (ap (λ (v : Option Mailbox). off_view v (view_of c) (eqb r 0)) e);
  granted = ap (λ (v : Option Mailbox). not (is_nobody v)) e;
}

-- ---- every step

reset_does : (c : Core) → Does c reset.core drops
unfolding reset control_reset
reset_does c = record { view = refl; granted = tt }

-- what code 0 says
pub start-accepted : (b : Bool) → eqb (pick b 0 4) 0 ≡ true → b ≡ true
start-accepted true h = refl
start-accepted false h = absurd (false≢true h)

pub end_accepted : (a b : Bool) → eqb (pick a 5 (pick b 0 4)) 0 ≡ true → b ≡ true
end_accepted true b h = absurd (false≢true h)
end_accepted false b h = start-accepted b h

pub may_end_lem : (c : Core) (r : ℕ) → Is (may_end c r) → Is (not (is_free c))
unfolding may_end
may_end_lem c r h =
    let a : Bool = not (is_free c) in
    let b : Bool = not ((eqb r 3 || eqb r 8) && lbkm c.control) in
    and_l a b (and_l (a && b) (not (eqb r 8 && not (epvf c.errors))) h)

applied_does : (c : Core) (b : List ℕ) (s : steps.Step) → eqb (refusal c s) 0 ≡ true → Does c (applied c b s) (step_event s (start_word s (word_of c b s)))
unfolding applied refusal word_of idled entered counted ticked errors_changed stored_by
applied_does c b Reset h = reset_does c
applied_does c b (Read o) h = still c c refl
applied_does c b (Write o w) h = written_does (register_at o) c w h
applied_does c b Idle h = still c _ refl
applied_does c b (BitTimes n) h = still c _ refl
applied_does c b Activity h = still c _ (woken_view c)
applied_does c b Start h = start_does (first_of (txfp c.control) c.transmit) c refl (startable c (start-accepted (may_start c) h))
applied_does c b (Outcome r) h = end_does c.transmit.queue.transmitting c b r refl (may_end_lem c r (end_accepted (ltb 8 r) (may_end c r) h))
applied_does c b (Receive x) h = still c _ refl
applied_does c b (ReceiveError k n) h = still c _ refl

-- a refused step does nothing to the requests, and the observer notes nothing of it
by_code : (ok : Bool) (c d : Core) (say : ℕ → Event) (w : ℕ) → (ok ≡ true → Does c d (say w)) → Does c (pick ok (settled d) c) (pick ok (say (pick ok w 0)) nothing)
by_code true c d say w h = record { view = settled_view d ∙ (h refl).view; granted = (h refl).granted }
by_code false c d say w h = record { view = refl; granted = tt }

pub follows : (z : Controller) (s : steps.Step) → Does z.core (step z s).controller.core (event (entry s (step z s)))
unfolding step answered core_after
follows z s = by_code (eqb (refusal z.core s) 0) z.core (applied z.core z.banks s) (λ w. step_event s (start_word s w)) (word_of z.core z.banks s) (λ h. applied_does z.core z.banks s h)
