-- What TSR writes, TI writes, a master reset and an own end do to the flags and the requests; nothing else does.
use Rattle.std.proofs.Common.{Option, Some, None, Bool}
use mathlib.Core.Bool.{Bool, true, false, not, ◌&&◌, ◌||◌, true≢false, false≢true, or-true, or-false}
use mathlib.Core.List.{List, [], ◌∷◌, ◌++◌}
use mathlib.Core.Path.{◌≡◌, refl, sym, ap, ap₂, ◌∙◌}
use Prim.Native.Nat.{ℕ, ◌+◌, ◌*◌, ◌≤◌}
use native.Mathlib.Omega.{arith}
use lib.Dec.{eqb, ltb}
use lib.ListN.{length}
use borrow.Author.Tests.{eqb-true, ltb-false}
use Rattle.base.specs.Base.{pick, bit}
use Rattle.model.specs.Queue.{number, same, put, holds, joined, without, is_from, no_flags, requested, emptied, remembered, aborted, aborted_all, off_wire, order_numbers, sender_numbers}
use Rattle.model.specs.Mailboxes.{at, ti_written, tdt_written, tdl_written, tdh_written, requested_by, cleared, completed, tsr_written, abrq, dropped, started, over, outcome_flags, ended}
use Rattle.model.specs.Control.{nart}
use Rattle.model.specs.Registers.{register_at, core_reset, written, write_refusal}
use Rattle.model.specs.Step.{step, answered, core_after, refusal, applied, settled, stored_by, started_by, ended_by, may_end}
use Rattle.model.specs.Codes.{offset_of}
use Rattle.model.specs.Requests.{Event, nothing, event, entry}
use Rattle.model.specs.Reachable.{distinct, carried, QueueRange, InRange}
use Rattle.model.specs.ReadBack.{Accepts, after_write, has}
use Rattle.model.specs.Arbitration.{on_wire, is_pending}
use Rattle.model.specs.TransmitStatus.{except, asks_abort, TsrWrite, TiWrite, Dropped, ends_request, after_end, OwnEnd, concerns, FlagsStay, RequestsStay}
use Rattle.model.specs.declared.Mailbox.{Mailbox}
use Rattle.model.specs.declared.Mailbox.TheVariants.{M0, M1, M2}
use Rattle.model.specs.declared.RequestOrder.{RequestOrder}
use Rattle.model.specs.declared.RequestOrder.TheVariants.{Empty, One, Two, Three}
use Rattle.model.specs.declared.Queue.{Queue}
use Rattle.model.specs.declared.MailboxState.{MailboxState}
use Rattle.model.specs.declared.Transmit.{Transmit}
use Rattle.model.specs.declared.Core.{Core}
use Rattle.model.specs.declared.Controller.{Controller}
use Rattle.model.specs.declared.Fifo.TheVariants.{F0, F1}
use Rattle.model.specs.declared.Register.{Register}
use Rattle.model.specs.declared.Register.TheVariants.{Mcr, Msr, Tsr, Rfr, Ier, Esr, Btr, Ti, Tdt, Tdl, Tdh, Ri, Rdt, Rdl, Rdh, Fmr, Fm1r, Fs1r, Ffa1r, Fa1r, R1, R2, Absent}
use Rattle.model.specs.declared.Step as steps
use Rattle.model.specs.declared.Step.TheVariants.{Reset, Read, Write, Idle, BitTimes, Activity, Start, Outcome, Receive, ReceiveError}
use Rattle.base.proofs.Choices.{imp, imp_Is, not-Is, and_l, and_r, or_l, or_r, opposed, pick_cases}
use Rattle.model.proofs.Orders.{orders, mailboxes, each-order, each-mailbox, same-eq}
use Rattle.model.proofs.QueueRanges.{aborted-range, aborted-wire, aborted_all-wire}
use Rattle.model.proofs.Views.{View, view_next}
use Rattle.model.proofs.Follows.{view_of, follows}
use Rattle.model.proofs.RegisterAccess.{write_core, accepts, accepted, elsewhere, step_keeps}
use Rattle.model.proofs.WordsKept.{put_there, put-field, number-eq}
use Rattle.model.proofs.Arbitrated.{pending_by, each_of, has-wire, same_self}
use Rattle.model.proofs.ShownWords.{mcr-shown}
use Rattle.model.proofs.StatusWord.{flags-shown}
use Rattle.model.proofs.ErrorRules.{coded_end}
use Rattle.model.specs.declared.ByMailbox.{ByMailbox}

-- ---- lists of numbers, by computed tests

abbrev same_list : List ℕ → List ℕ → Bool
same_list [] [] = true
same_list [] (y ∷ b) = false
same_list (x ∷ a) [] = false
same_list (x ∷ a) (y ∷ b) = eqb x y && same_list a b

list_eq : (a b : List ℕ) → same_list a b ≡ true → a ≡ b
list_eq [] [] h = refl
list_eq [] (y ∷ b) h = absurd (false≢true h)
list_eq (x ∷ a) [] h = absurd (false≢true h)
list_eq (x ∷ a) (y ∷ b) h = ap₂ (λ (u : ℕ) (v : List ℕ). u ∷ v) (eqb-true x y (and_l (eqb x y) (same_list a b) h)) (list_eq a b (and_r (eqb x y) (same_list a b) h))

joined_numbers : (o : RequestOrder) (m : Mailbox) → distinct o ≡ true → holds o m ≡ false → order_numbers (joined o m) ≡ order_numbers o ++ number m ∷ []
joined_numbers o m d n = list_eq _ _ (imp_Is (imp_Is (each_of (λ o m. imp (distinct o) (imp (not (holds o m)) (same_list (order_numbers (joined o m)) (order_numbers o ++ number m ∷ [])))) refl o m) d) (not-Is n))

without-numbers : (o : RequestOrder) (m : Mailbox) → distinct o ≡ true → order_numbers (without o m) ≡ except (λ n. eqb n (number m)) (order_numbers o)
without-numbers o m d = list_eq _ _ (imp_Is (each_of (λ o m. imp (distinct o) (same_list (order_numbers (without o m)) (except (λ n. eqb n (number m)) (order_numbers o)))) refl o m) d)

-- ---- ABRQ and the requests

abbrev bools : (Bool → Bool) → Bool
bools p = p true && p false

each_bool : (p : Bool → Bool) → bools p ≡ true → (b : Bool) → p b ≡ true
each_bool p h true = and_l (p true) (p false) h
each_bool p h false = and_r (p true) (p false) h

abbrev senders : ((Option Mailbox) → Bool) → Bool
senders p = p None && mailboxes (λ m. p (Some m))

each_sender : (p : Option Mailbox → Bool) → senders p ≡ true → (v : Option Mailbox) → p v ≡ true
each_sender p h None = and_l (p None) (mailboxes (λ m. p (Some m))) h
each_sender p h (Some m) = each-mailbox (λ m. p (Some m)) (and_r (p None) (mailboxes (λ m. p (Some m))) h) m

-- one of three flags by a mailbox's number
abbrev numbered_flag : Bool → Bool → Bool → ℕ → Bool
numbered_flag a b c n = pick (eqb n 0) a (pick (eqb n 1) b c)

-- the requests after the aborts a, b, c, the wire being v
module _ (g : ByMailbox Bool) where
  unfoldable abort_test : Bool → Bool → Bool → Option Mailbox → RequestOrder → Bool
  abort_test a b c v o =
      imp (distinct o) (same_list
      (order_numbers (aborted c (aborted b (aborted a (record { order = o; transmitting = v; aborts = g }) M0) M1) M2).order)
      (except (λ n. numbered_flag a b c n && not (has (sender_numbers v) n)) (order_numbers o)))

  all-aborts : bools (λ a. bools (λ b. bools (λ c. senders (λ v. orders (λ o. abort_test a b c v o))))) ≡ true
  unfolding abort_test aborted
  all-aborts = refl

  each_abort : (a b c : Bool) (v : Option Mailbox) (o : RequestOrder) → abort_test a b c v o ≡ true
  each_abort a b c v =
      each-order (λ o. abort_test a b c v o)
      (each_sender (λ v. orders (λ o. abort_test a b c v o))
      (each_bool (λ c. senders (λ v. orders (λ o. abort_test a b c v o)))
      (each_bool (λ b. bools (λ c. senders (λ v. orders (λ o. abort_test a b c v o))))
      (each_bool (λ a. bools (λ b. bools (λ c. senders (λ v. orders (λ o. abort_test a b c v o))))) all-aborts a) b) c) v)

-- two tests that agree on the numbers of mailboxes
except-same : (p q : ℕ → Bool) → ((m : Mailbox) → p (number m) ≡ q (number m)) → (o : RequestOrder) → except p (order_numbers o) ≡ except q (order_numbers o)
except-same p q h Empty = refl
except-same p q h (One a) = rw (h a)
except-same p q h (Two a b) = rw (h a, h b)
except-same p q h (Three a b c) = rw (h a, h b, h c)

aborted-numbers : (q : Queue) (w : ℕ) → distinct q.order ≡ true
    → order_numbers (aborted_all q (abrq w)).order ≡ except (λ n. asks_abort w n && not (has (sender_numbers q.transmitting) n)) (order_numbers q.order)
unfolding aborted_all abort_test
aborted-numbers q w d =
    list_eq _ _ (imp_Is (each_abort q.aborts (bit 7 w) (bit 15 w) (bit 23 w) q.transmitting q.order) d)
    ∙ except-same _ _ (λ m. ap (λ (b : Bool). b && not (has (sender_numbers q.transmitting) (number m))) (by_number m)) q.order
  where
    by_number : (m : Mailbox) → numbered_flag (bit 7 w) (bit 15 w) (bit 23 w) (number m) ≡ bit (8 * number m + 7) w
    by_number M0 = refl
    by_number M1 = refl
    by_number M2 = refl

flagged-at : (g : ByMailbox Bool) (k m : Mailbox) (b : Bool) → at (put g k b) m ≡ pick (same k m) b (at g m)
flagged-at g M0 M0 b = refl
flagged-at g M0 M1 b = refl
flagged-at g M0 M2 b = refl
flagged-at g M1 M0 b = refl
flagged-at g M1 M1 b = refl
flagged-at g M1 M2 b = refl
flagged-at g M2 M0 b = refl
flagged-at g M2 M1 b = refl
flagged-at g M2 M2 b = refl

-- one abort: it is remembered on the wire; none was remembered elsewhere
module _ (q : Queue) (r : QueueRange q) (k m : Mailbox) where
  wire-held : is_from q.transmitting k ≡ true → holds q.order k ≡ true
  wire-held h = go q.transmitting r.carries h
    where
      go : (v : Option Mailbox) → carried v q.order ≡ true → is_from v k ≡ true → holds q.order k ≡ true
      go None c e = absurd (false≢true e)
      go (Some a) c e = ap (λ (x : Mailbox). holds q.order x) (sym (same-eq a k e)) ∙ c

  not-remembered : is_from q.transmitting k ≡ false → at q.aborts k ≡ false
  not-remembered n = go (at q.aborts k) refl
    where
      go : (b : Bool) → at q.aborts k ≡ b → b ≡ false
      go true e = opposed (r.aborts k e) n
      go false e = refl

  aborted-flag : (b : Bool) → at (aborted b q k).aborts m ≡ pick (same k m) (at q.aborts m || (b && is_from q.transmitting k)) (at q.aborts m)
  unfolding aborted
  aborted-flag b = go (same k m) (is_from q.transmitting k) (holds q.order k) b refl refl refl
    where
      go : (s f h b : Bool) → same k m ≡ s → is_from q.transmitting k ≡ f → holds q.order k ≡ h
          → at (pick (b && h) (pick f (remembered q k) (emptied q k)) q).aborts m ≡ pick s (at q.aborts m || (b && f)) (at q.aborts m)
      go true f h false p e o = sym (or-false (at q.aborts m))
      go true true true true p e o = flagged-at q.aborts k m true ∙ rw p (sym (or-true (at q.aborts m)))
      go true false true true p e o =
          let n : at q.aborts m ≡ false = ap (λ (x : Mailbox). at q.aborts x) (sym (same-eq k m p)) ∙ not-remembered e in
          flagged-at q.aborts k m false ∙ rw (p, n)
      go true true false true p e o = opposed (wire-held e) o
      go true false false true p e o = sym (or-false (at q.aborts m))
      go false f h false p e o = refl
      go false true true true p e o = flagged-at q.aborts k m true ∙ rw p
      go false false true true p e o = flagged-at q.aborts k m false ∙ rw p
      go false f false true p e o = refl

module _ (q : Queue) (r : QueueRange q) (w : ℕ) where
  abbrev q0 : Queue
  q0 = aborted (bit 7 w) q M0

  abbrev q1 : Queue
  q1 = aborted (bit 15 w) q0 M1

  r0 : QueueRange q0
  r0 = aborted-range q M0 r (bit 7 w)

  r1 : QueueRange q1
  r1 = aborted-range q0 M1 r0 (bit 15 w)

  aborted_all-flag : (m : Mailbox) → at (aborted_all q (abrq w)).aborts m ≡ at q.aborts m || (asks_abort w (number m) && is_from q.transmitting m)
  unfolding aborted_all
  aborted_all-flag M0 = aborted-flag q1 r1 M2 M0 (bit 23 w) ∙ aborted-flag q0 r0 M1 M0 (bit 15 w) ∙ aborted-flag q r M0 M0 (bit 7 w)
  aborted_all-flag M1 =
      aborted-flag q1 r1 M2 M1 (bit 23 w)
      ∙ aborted-flag q0 r0 M1 M1 (bit 15 w)
      ∙ ap₂ (λ (x : Bool) (v : Option Mailbox). x || (bit 15 w && is_from v M1)) (aborted-flag q r M0 M1 (bit 7 w)) (aborted-wire (bit 7 w) q M0)
  aborted_all-flag M2 =
      aborted-flag q1 r1 M2 M2 (bit 23 w)
      ∙ ap₂ (λ (x : Bool) (v : Option Mailbox). x || (bit 23 w && is_from v M2))
      (aborted-flag q0 r0 M1 M2 (bit 15 w) ∙ aborted-flag q r M0 M2 (bit 7 w))
      (aborted-wire (bit 15 w) q0 M1 ∙ aborted-wire (bit 7 w) q M0)

-- ---- TSR

and_assoc : (a b c : Bool) → (a && b && c) ≡ a && (b && c)
and_assoc true b c = refl
and_assoc false b c = refl

module _ (t : Transmit) (w : ℕ) where
  -- the request of m is aborted
  abbrev aborts : Mailbox → Bool
  aborts m = asks_abort w (number m) && (holds t.queue.order m && not (is_from t.queue.transmitting m))

  record Cleared (m : Mailbox) (x y : MailboxState) : Type 0 where
    rqcp : y.rqcp ≡ (x.rqcp && not (bit (8 * number m) w)) || aborts m
    txok : y.txok ≡ x.txok && not (bit (8 * number m) w) && not (bit (8 * number m + 1) w) && not (aborts m)
    alst : y.alst ≡ x.alst && not (bit (8 * number m) w) && not (bit (8 * number m + 2) w)
    terr : y.terr ≡ x.terr && not (bit (8 * number m) w) && not (bit (8 * number m + 3) w)

  tsr-cleared : (m : Mailbox) → Cleared m (at t.mailboxes m) (at (tsr_written t w).mailboxes m)
  unfolding tsr_written completed cleared
  tsr-cleared M0 = let e = and_assoc (bit 7 w) (holds t.queue.order M0) (not (is_from t.queue.transmitting M0)) in record { rqcp = rw e; txok = rw e; alst = refl; terr = refl }
  tsr-cleared M1 = let e = and_assoc (bit 15 w) (holds t.queue.order M1) (not (is_from t.queue.transmitting M1)) in record { rqcp = rw e; txok = rw e; alst = refl; terr = refl }
  tsr-cleared M2 = let e = and_assoc (bit 23 w) (holds t.queue.order M2) (not (is_from t.queue.transmitting M2)) in record { rqcp = rw e; txok = rw e; alst = refl; terr = refl }

tsr-after : (z : Controller) (w : ℕ) → (after_write z Tsr w).core.transmit ≡ tsr_written z.core.transmit w
unfolding settled written write_refusal
tsr-after z w = ap (λ (c : Core). c.transmit) (write_core Tsr z w tt (accepts Tsr z w tt refl))

pub tsr_write : (z : Controller) (w : ℕ) (m : Mailbox) → InRange z → TsrWrite z w m
unfolding tsr_written
tsr_write z w m i =
    let t : Transmit = z.core.transmit in
    let y : Controller = after_write z Tsr w in
    let e : y.core.transmit ≡ tsr_written t w = tsr-after z w in
    let u = tsr-cleared t w m in
    let a : asks_abort w (number m) && is_pending z m ≡ aborts t w m = ap (λ (b : Bool). asks_abort w (number m) && b) (pending_by z m) in
    let s = flags-shown z m in
    let v = flags-shown y m in
    record {
      rqcp = v.rqcp ∙ ap (λ (x : Transmit). (at x.mailboxes m).rqcp) e ∙ u.rqcp ∙ sym (ap₂ (λ (x b : Bool). (x && not (bit (8 * number m) w)) || b) s.rqcp a);
      txok = v.txok ∙ ap (λ (x : Transmit). (at x.mailboxes m).txok) e ∙ u.txok ∙ sym (ap₂ (λ (x b : Bool). x && not (bit (8 * number m) w) && not (bit (8 * number m + 1) w) && not b) s.txok a);
      alst = v.alst ∙ ap (λ (x : Transmit). (at x.mailboxes m).alst) e ∙ u.alst ∙ sym (ap (λ (x : Bool). x && not (bit (8 * number m) w) && not (bit (8 * number m + 2) w)) s.alst);
      terr = v.terr ∙ ap (λ (x : Transmit). (at x.mailboxes m).terr) e ∙ u.terr ∙ sym (ap (λ (x : Bool). x && not (bit (8 * number m) w) && not (bit (8 * number m + 3) w)) s.terr);
      abrq = v.abrq ∙ ap (λ (x : Transmit). at x.queue.aborts m) e ∙ aborted_all-flag t.queue i.core.transmit.queue w m
          ∙ sym (ap₂ (λ (x b : Bool). x || (asks_abort w (number m) && b)) s.abrq (has-wire t.queue.transmitting m));
      empties = ap (λ (x : Transmit). order_numbers x.queue.order) e ∙ aborted-numbers t.queue w i.core.transmit.queue.once;
      wire = ap (λ (x : Transmit). sender_numbers x.queue.transmitting) e ∙ ap sender_numbers (aborted_all-wire t.queue (abrq w));
    }

-- ---- TI

ti-after : (z : Controller) (m : Mailbox) (w : ℕ) → Accepts z (Ti m) w → (after_write z (Ti m) w).core.transmit ≡ requested_by z.core.transmit m w
unfolding settled written
ti-after z m w h = ap (λ (c : Core). c.transmit) (write_core (Ti m) z w tt h)

lock_code : (b : Bool) → ◌≡◌ {A = ℕ} (pick b 2 0) 0 → b ≡ false
lock_code true h = absurd (let n : ◌≡◌ {A = ℕ} 2 0 = h in omega arith)
lock_code false h = refl

ti-empty : (z : Controller) (m : Mailbox) (w : ℕ) → Accepts z (Ti m) w → holds z.core.transmit.queue.order m ≡ false
unfolding write_refusal
ti-empty z m w h = lock_code (holds z.core.transmit.queue.order m) (accepted (Ti m) z w tt h)

requested-numbers : (q : Queue) (m : Mailbox) (b : Bool) → distinct q.order ≡ true → holds q.order m ≡ false
    → order_numbers (pick b (requested q m) q).order ≡ pick b (order_numbers q.order ++ number m ∷ []) (order_numbers q.order)
requested-numbers q m true d n = joined_numbers q.order m d n
requested-numbers q m false d n = refl

requested-wire : (q : Queue) (m : Mailbox) (b : Bool) → (pick b (requested q m) q).transmitting ≡ q.transmitting
requested-wire q m true = refl
requested-wire q m false = refl

pub ti_write : (z : Controller) (m : Mailbox) (w : ℕ) → InRange z → Accepts z (Ti m) w → TiWrite z m w
unfolding requested_by ti_written
ti_write z m w i h =
    let t : Transmit = z.core.transmit in
    let y : Controller = after_write z (Ti m) w in
    let e : y.core.transmit ≡ requested_by t m w = ti-after z m w h in
    let x : MailboxState = ti_written (at t.mailboxes m) w in
    let p : at (requested_by t m w).mailboxes m ≡ x = put_there t.mailboxes m x in
    let b : at y.core.transmit.mailboxes m ≡ x = ap (λ (x : Transmit). at x.mailboxes m) e ∙ p in
    let s = flags-shown z m in
    let v = flags-shown y m in
    record {
      rqcp = v.rqcp ∙ ap (λ (x : MailboxState). x.rqcp) b ∙ sym (ap (λ (x : Bool). x && not (bit 0 w)) s.rqcp);
      txok = v.txok ∙ ap (λ (x : MailboxState). x.txok) b ∙ sym (ap (λ (x : Bool). x && not (bit 0 w)) s.txok);
      alst = v.alst ∙ ap (λ (x : MailboxState). x.alst) b ∙ sym (ap (λ (x : Bool). x && not (bit 0 w)) s.alst);
      terr = v.terr ∙ ap (λ (x : MailboxState). x.terr) b ∙ sym (ap (λ (x : Bool). x && not (bit 0 w)) s.terr);
      requests = ap (λ (x : Transmit). order_numbers x.queue.order) e ∙ requested-numbers t.queue m (bit 0 w) i.core.transmit.queue.once (ti-empty z m w h);
      wire = ap (λ (x : Transmit). sender_numbers x.queue.transmitting) e ∙ ap sender_numbers (requested-wire t.queue m (bit 0 w));
    }

-- ---- MCR with bit 15

dropped-after : (z : Controller) (w : ℕ) → bit 15 w ≡ true → (after_write z Mcr w).core.transmit ≡ dropped z.core.transmit
unfolding settled written write_refusal core_reset
dropped-after z w h = ap (λ (c : Core). c.transmit) (write_core Mcr z w tt (accepts Mcr z w tt refl)) ∙ rw h

no_flag : (m : Mailbox) → at no_flags m ≡ false
no_flag M0 = refl
no_flag M1 = refl
no_flag M2 = refl

pub requests-dropped : (z : Controller) (w : ℕ) (m : Mailbox) → bit 15 w ≡ true → Dropped z w m
requests-dropped z w m h =
    let y : Controller = after_write z Mcr w in
    let e : y.core.transmit ≡ dropped z.core.transmit = dropped-after z w h in
    record {
      requests = ap (λ (x : Transmit). order_numbers x.queue.order) e;
      wire = ap (λ (x : Transmit). sender_numbers x.queue.transmitting) e;
      rqcp = (flags-shown y m).rqcp ∙ ap (λ (x : Transmit). (at x.mailboxes m).rqcp) e ∙ sym (flags-shown z m).rqcp;
      abrq = (flags-shown y m).abrq ∙ ap (λ (x : Transmit). at x.queue.aborts m) e ∙ no_flag m;
    }

-- ---- own end

wire-from : (v : Option Mailbox) (m : Mailbox) → sender_numbers v ≡ number m ∷ [] → v ≡ Some m
wire-from None m e = absurd (let n : ◌≡◌ {A = ℕ} 0 1 = ap length e in omega arith)
wire-from (Some a) m e = ap Some (number-eq a m (let n : number a ≡ number m = cc in n))

end_range : (a b : Bool) → ◌≡◌ {A = ℕ} (pick a 5 (pick b 0 4)) 0 → a ≡ false
end_range true b h = absurd (let n : ◌≡◌ {A = ℕ} 5 0 = h in omega arith)
end_range false b h = refl

result_range_lem : (z : Controller) (r : ℕ) → (step z (Outcome r)).code ≡ 0 → r ≤ 8
unfolding step answered refusal
result_range_lem z r h = ltb-false 8 r (end_range (ltb 8 r) (may_end z.core r) h)

end_core : (z : Controller) (r : ℕ) → (step z (Outcome r)).code ≡ 0 → (step z (Outcome r)).controller.core ≡ settled (ended_by z.core.transmit.queue.transmitting z.core z.banks r)
unfolding step answered core_after refusal applied
end_core z r h = rw h

ended-after : (z : Controller) (m : Mailbox) (r : ℕ) → z.core.transmit.queue.transmitting ≡ Some m → (step z (Outcome r)).code ≡ 0
    → (after_end z r).core.transmit ≡ ended z.core.transmit m r (nart z.core.control)
unfolding settled ended_by
ended-after z m r e h = ap (λ (c : Core). c.transmit) (end_core z r h) ∙ ap (λ (v : Option Mailbox). (ended_by v z.core z.banks r).transmit) e

-- the flags and the request of the mailbox that ends, b saying whether the request ends
off-flag : (q : Queue) (m : Mailbox) (b : Bool) → (b ≡ false → at q.aborts m ≡ false) → at (off_wire q m b).aborts m ≡ false
unfolding off_wire
off-flag q m true h = flagged-at q.aborts m m false ∙ rw (same_self m)
off-flag q m false h = h refl

off-numbers : (q : Queue) (m : Mailbox) (b : Bool) → distinct q.order ≡ true
    → order_numbers (off_wire q m b).order ≡ pick b (except (λ n. eqb n (number m)) (order_numbers q.order)) (order_numbers q.order)
unfolding off_wire
off-numbers q m true d = without-numbers q.order m d
off-numbers q m false d = refl

off_wire_lem : (q : Queue) (m : Mailbox) (b : Bool) → (off_wire q m b).transmitting ≡ None
unfolding off_wire
off_wire_lem q m true = refl
off_wire_lem q m false = refl

pub own_end : (z : Controller) (m : Mailbox) (r : ℕ) → InRange z → on_wire z ≡ number m ∷ [] → (step z (Outcome r)).code ≡ 0 → OwnEnd z m r
unfolding ended over outcome_flags
own_end z m r i f h =
    let t : Transmit = z.core.transmit in
    let y : Controller = after_end z r in
    let n : Bool = nart z.core.control in
    let b : Bool = over t.queue m r n in
    let w : t.queue.transmitting ≡ Some m = wire-from t.queue.transmitting m f in
    let e : y.core.transmit ≡ ended t m r n = ended-after z m r w h in
    let x : MailboxState = outcome_flags (at t.mailboxes m) r b in
    let p : at y.core.transmit.mailboxes m ≡ x = ap (λ (x : Transmit). at x.mailboxes m) e ∙ put_there t.mailboxes m x in
    let k : ends_request z m r ≡ b = ap₂ (λ (u v : Bool). eqb r 0 || u || v) (ap (λ (w : ℕ). bit 4 w) (mcr-shown z)) (flags-shown z m).abrq in
    let held : holds t.queue.order m ≡ true = ap (λ (v : Option Mailbox). carried v t.queue.order) (sym w) ∙ i.core.transmit.queue.carries in
    let none : (at t.mailboxes m).rqcp ≡ false = i.core.transmit.pending m held in
    let v = flags-shown y m in
    record {
      rqcp = v.rqcp ∙ ap (λ (x : MailboxState). x.rqcp) p ∙ ap (λ (c : Bool). c || b) none ∙ sym k;
      txok = v.txok ∙ ap (λ (x : MailboxState). x.txok) p;
      alst = v.alst ∙ ap (λ (x : MailboxState). x.alst) p;
      terr = v.terr ∙ ap (λ (x : MailboxState). x.terr) p ∙ coded_end r (result_range_lem z r h);
      abrq = v.abrq ∙ ap (λ (x : Transmit). at x.queue.aborts m) e ∙ off-flag t.queue m b (λ o. or_r (eqb r 0 || n) (at t.queue.aborts m) o);
      requests = ap (λ (x : Transmit). order_numbers x.queue.order) e ∙ off-numbers t.queue m b i.core.transmit.queue.once
          ∙ sym (ap (λ (c : Bool). pick c (except (λ n. eqb n (number m)) (order_numbers t.queue.order)) (order_numbers t.queue.order)) k);
      wire = ap (λ (x : Transmit). sender_numbers x.queue.transmitting) e ∙ ap sender_numbers (off_wire_lem t.queue m b);
    }

-- ---- nothing else

record Flags : Type 0 where
  rqcp : Bool
  txok : Bool
  alst : Bool
  terr : Bool

abbrev flags : MailboxState → Flags
flags x = record { rqcp = x.rqcp; txok = x.txok; alst = x.alst; terr = x.terr }

abbrev flags_at : Core → Mailbox → Flags
flags_at c m = flags (at c.transmit.mailboxes m)

written-flags : (r : Register) (o : ℕ) (c : Core) (w : ℕ) (m : Mailbox) → register_at o ≡ r → eqb o (offset_of Tsr) || eqb o (offset_of (Ti m)) ≡ false → flags_at (written r c w) m ≡ flags_at c m
unfolding written core_reset requested_by tdt_written tdl_written tdh_written
written-flags Mcr o c w m e h = pick_cases (λ (d : Core). flags_at d m ≡ flags_at c m) (bit 15 w) _ _ (λ _. refl) (λ _. refl)
written-flags Msr o c w m e h = refl
written-flags Tsr o c w m e h = elsewhere o Tsr e refl (or_l (eqb o (offset_of Tsr)) (eqb o (offset_of (Ti m))) h)
written-flags (Rfr F0) o c w m e h = refl
written-flags (Rfr F1) o c w m e h = refl
written-flags Ier o c w m e h = refl
written-flags Esr o c w m e h = refl
written-flags Btr o c w m e h = refl
written-flags (Ti k) o c w m e h =
    put-field flags c.transmit.mailboxes k _ m
    (λ q. elsewhere o (Ti k) e refl (ap (λ (x : Mailbox). eqb o (offset_of (Ti x))) q ∙ or_r (eqb o (offset_of Tsr)) (eqb o (offset_of (Ti m))) h))
written-flags (Tdt k) o c w m e h = put-field flags c.transmit.mailboxes k _ m (λ _. refl)
written-flags (Tdl k) o c w m e h = put-field flags c.transmit.mailboxes k _ m (λ _. refl)
written-flags (Tdh k) o c w m e h = put-field flags c.transmit.mailboxes k _ m (λ _. refl)
written-flags (Ri f) o c w m e h = refl
written-flags (Rdt f) o c w m e h = refl
written-flags (Rdl f) o c w m e h = refl
written-flags (Rdh f) o c w m e h = refl
written-flags Fmr o c w m e h = refl
written-flags Fm1r o c w m e h = refl
written-flags Fs1r o c w m e h = refl
written-flags Ffa1r o c w m e h = refl
written-flags Fa1r o c w m e h = refl
written-flags (R1 b) o c w m e h = refl
written-flags (R2 b) o c w m e h = refl
written-flags Absent o c w m e h = refl

started-flags : (v : Option Mailbox) (c : Core) (m : Mailbox) → flags_at (started_by v c) m ≡ flags_at c m
unfolding started_by started
started-flags None c m = refl
started-flags (Some k) c m = put-field flags c.transmit.mailboxes k _ m (λ _. refl)

ended-flags : (v : Option Mailbox) (c : Core) (b : List ℕ) (r : ℕ) (m : Mailbox) → has (sender_numbers v) (number m) ≡ false → flags_at (ended_by v c b r) m ≡ flags_at c m
unfolding ended_by ended
ended-flags None c b r m h = refl
ended-flags (Some k) c b r m h =
    put-field flags c.transmit.mailboxes k _ m
    (λ q. opposed (ap (λ (x : Mailbox). same k x) (sym q) ∙ same_self k) (sym (has-wire (Some k) m) ∙ h))

applied-flags : (s : steps.Step) (z : Controller) (m : Mailbox) → concerns z s m ≡ false → flags_at (applied z.core z.banks s) m ≡ flags_at z.core m
unfolding applied stored_by
applied-flags Reset z m h = absurd (true≢false h)
applied-flags (Read o) z m h = refl
applied-flags (Write o w) z m h = written-flags (register_at o) o z.core w m refl h
applied-flags Idle z m h = refl
applied-flags (BitTimes n) z m h = refl
applied-flags Activity z m h = refl
applied-flags Start z m h = started-flags _ z.core m
applied-flags (Outcome r) z m h = ended-flags z.core.transmit.queue.transmitting z.core z.banks r m h
applied-flags (Receive x) z m h = refl
applied-flags (ReceiveError k n) z m h = refl

pub flags_stay : (z : Controller) (s : steps.Step) (m : Mailbox) → concerns z s m ≡ false → FlagsStay z s m
unfolding settled
flags_stay z s m h =
    let y : Controller = (step z s).controller in
    let e : flags_at y.core m ≡ flags_at z.core m = step_keeps (λ (c : Core). flags_at c m) z s (λ c. refl) (λ _. applied-flags s z m h) in
    let v = flags-shown y m in
    let u = flags-shown z m in
    record {
      rqcp = v.rqcp ∙ ap (λ (x : Flags). x.rqcp) e ∙ sym u.rqcp;
      txok = v.txok ∙ ap (λ (x : Flags). x.txok) e ∙ sym u.txok;
      alst = v.alst ∙ ap (λ (x : Flags). x.alst) e ∙ sym u.alst;
      terr = v.terr ∙ ap (λ (x : Flags). x.terr) e ∙ sym u.terr;
    }

pub requests_stay : (z : Controller) (s : steps.Step) → event (entry s (step z s)) ≡ nothing → RequestsStay z s
requests_stay z s h =
    let y : Controller = (step z s).controller in
    let e : y.core.transmit.queue ≡ z.core.transmit.queue = ap (λ (v : View). v.queue) ((follows z s).view ∙ ap (λ (x : Event). view_next (view_of z.core) x) h) in
    record {
      requests = ap (λ (q : Queue). order_numbers q.order) e;
      wire = ap (λ (q : Queue). sender_numbers q.transmitting) e;
      abrq = λ m. (flags-shown y m).abrq ∙ ap (λ (q : Queue). at q.aborts m) e ∙ sym (flags-shown z m).abrq;
    }
