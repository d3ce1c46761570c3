-- The error flags, ERRI, REC and LEC after each step.
use Rattle.std.proofs.Common.{Option, Some, None}
use mathlib.Core.Bool.{Bool, true, false, not, ◌&&◌, ◌||◌, beq, true≢false, and-false, or-false}
use mathlib.Core.Path.{◌≡◌, refl, sym, ap, ◌∙◌}
use mathlib.Core.List.{List}
use Prim.Native.Nat.{ℕ, ◌+◌, ◌-◌, ◌≤◌, ◌<◌, min}
use native.Mathlib.Omega.{arith}
use lib.Dec.{eqb, ltb, leb}
use borrow.Author.Tests.{eqb-true, ltb-true, ltb-false, leb-true, leb-false, le-leb, lt-leb, lt-ltb, le-ltb, not-true}
use Rattle.base.specs.Base.{pick, bit, bits}
use Rattle.model.specs.Queue.{is_nobody}
use Rattle.model.specs.Control.{ewgf, epvf, boff, idle_errors, recovers, idle_counts, idled, counted, entered, ticked, woken, outcome_errors, received_errors, rec_plus, receive_error_counters, errors_changed, control_reset, esr_written}
use Rattle.model.specs.Registers.{register_at, reset, written, is_free}
use Rattle.model.specs.Step.{refusal, applied, settled, started_by, ended_by, receive_error_in_range}
use Rattle.model.specs.Reachable.{InRange, StepRange}
use Rattle.model.specs.Shown.{msr, Done, next_of, is_error_result, result_code}
use Rattle.model.specs.ErrorFlags.{rec_after, lec_after, puts_code, rises, clears_erri, ErrorStatus, ErrorChange, ErrorFlags}
use Rattle.model.specs.Shown as read
use Rattle.model.specs.declared.Control.{Control}
use Rattle.model.specs.declared.Errors.{Errors}
use Rattle.model.specs.declared.Core.{Core}
use Rattle.model.specs.declared.Controller.{Controller}
use Rattle.model.specs.declared.Step as steps
use Rattle.model.specs.declared.Step.TheVariants.{Reset, Read, Write, Idle, BitTimes, Activity, Start, Outcome, Receive, ReceiveError}
use Rattle.base.proofs.Choices.{pick_cases, or_l, or_r, and_l, and_r, refused_if, refused_unless, beq_eq}
use Rattle.model.proofs.Bounded.{all_below, each_below}
use Rattle.model.proofs.Follows.{may_end_lem}
use Rattle.model.proofs.Reached.{step-in_range}
use Rattle.model.proofs.ShownWords.{msr-shown, ier-shown, esr-shown, msr-erri, esr-ewgf, esr-lec, esr-tec, esr-rec}
use Rattle.model.proofs.WriteTargets.{control-written, errors-written, flags-written}
use Rattle.model.proofs.DoneSteps.{accepted, done-core, rule_left}
use Rattle.model.proofs.ReadFields.{epvf-read, boff-read}
use Rattle.model.specs.declared.Mailbox.{Mailbox}

-- ---- what ESR shows

shown-rec : (z : Controller) → InRange z → read.rec z ≡ z.core.errors.rec
shown-rec z i = rw (esr-shown z) (esr-rec z.core.errors i.core.errors.lec i.core.errors.rec)

shown-lec : (z : Controller) → InRange z → read.lec z ≡ z.core.errors.lec
shown-lec z i = rw (esr-shown z) (esr-lec z.core.errors i.core.errors.lec)

shown-ewgf : (z : Controller) → read.ewgf z ≡ ewgf z.core.errors
shown-ewgf z = rw (esr-shown z) (esr-ewgf z.core.errors)

shown-erri : (z : Controller) → bit 2 (msr z) ≡ z.core.control.erri
shown-erri z = rw (msr-shown z) (msr-erri z.core.control (is_free z.core))

error-status : (z : Controller) → InRange z → ErrorStatus z
error-status z i = record {
  tec_field = rw (esr-shown z) (esr-tec z.core.errors i.core.errors.lec);
  warning = rw (shown-rec z i) (shown-ewgf z);
  passive = rw (shown-rec z i) (epvf-read z);
  bus_off = boff-read z;
}

-- ---- REC and LEC

pub start-errors : (v : Option Mailbox) (c : Core) → (started_by v c).errors ≡ c.errors
unfolding started_by
start-errors None c = refl
start-errors (Some m) c = refl

-- an accepted own end has a frame on the wire
pub end_sender : (c : Core) (r : ℕ) → eqb (refusal c (Outcome r)) 0 ≡ true → (is_free c ≡ false) × (r ≤ 8)
unfolding refusal
end_sender c r h =
    let k = refused_if (ltb 8 r) 5 _ refl h in
    (not-true (is_free c) (may_end_lem c r (refused_unless _ 0 4 refl k.1).0), ltb-false _ _ k.0)

pub end_errors : (v : Option Mailbox) (c : Core) (b : List ℕ) (r : ℕ) → is_nobody v ≡ false → (ended_by v c b r).errors ≡ outcome_errors c.errors r
unfolding ended_by
end_errors None c b r h = absurd (true≢false h)
end_errors (Some m) c b r h = refl

pub outcome_rec : (e : Errors) (r : ℕ) → (outcome_errors e r).rec ≡ e.rec
unfolding outcome_errors
outcome_rec e r =
    pick_cases (λ (d : Errors). d.rec ≡ e.rec) (eqb r 0) _ _ (λ _. refl)
    (λ _. pick_cases (λ (d : Errors). d.rec ≡ e.rec) (eqb r 7) _ _ (λ _. refl)
    (λ _. pick_cases (λ (d : Errors). d.rec ≡ e.rec) (eqb r 8) _ _ (λ _. refl) (λ _. refl)))

pub outcome_lec : (e : Errors) (r : ℕ) → (outcome_errors e r).lec ≡ pick (eqb r 7) e.lec (result_code r)
unfolding outcome_errors
outcome_lec e r = go (eqb r 0) (eqb r 7) (eqb r 8) refl refl refl
  where
    go : (a b c : Bool) → eqb r 0 ≡ a → eqb r 7 ≡ b → eqb r 8 ≡ c → (outcome_errors e r).lec ≡ pick b e.lec (pick c 3 r)
    go true true c p q s = let x : r ≡ 0 = eqb-true _ _ p in let y : r ≡ 7 = eqb-true _ _ q in absurd (omega arith)
    go true false true p q s = let x : r ≡ 0 = eqb-true _ _ p in let y : r ≡ 8 = eqb-true _ _ s in absurd (omega arith)
    go true false false p q s = rw p (sym (eqb-true _ _ p))
    go false true c p q s = rw (p, q)
    go false false true p q s = rw (p, q, s)
    go false false false p q s = rw (p, q, s)

-- TEC, in any state that is reached
pub outcome_tec : (e : Errors) (r : ℕ) → e.tec ≤ 263 → (outcome_errors e r).tec ≡ pick (eqb r 0) (e.tec - 1) (pick (eqb r 7 || eqb r 8) e.tec (e.tec + 8))
unfolding outcome_errors
outcome_tec e r h = go (eqb r 0) (eqb r 7) (eqb r 8) refl refl refl
  where
    go : (a b c : Bool) → eqb r 0 ≡ a → eqb r 7 ≡ b → eqb r 8 ≡ c → (outcome_errors e r).tec ≡ pick a (e.tec - 1) (pick (b || c) e.tec (e.tec + 8))
    go true b c p q s = rw p
    go false true c p q s = rw (p, q)
    go false false true p q s = rw (p, q, s)
    go false false false p q s = rw (p, q, s) (omega arith)

esr_written-rec : (b : Bool) (e : Errors) (w : ℕ) → (pick b (esr_written e w) e).rec ≡ e.rec
unfolding esr_written
esr_written-rec true e w = refl
esr_written-rec false e w = refl

esr_written-lec : (b : Bool) (e : Errors) (w : ℕ) → (pick b (esr_written e w) e).lec ≡ pick (b && eqb (bits 4 3 w) 7) 7 e.lec
unfolding esr_written
esr_written-lec true e w = refl
esr_written-lec false e w = refl

pub esr_written-tec : (b : Bool) (e : Errors) (w : ℕ) → (pick b (esr_written e w) e).tec ≡ e.tec
unfolding esr_written
esr_written-tec true e w = refl
esr_written-tec false e w = refl

-- an idle event that recovers is one with which bus-off ends
recovers-off : (k : Control) (e : Errors) → recovers k e ≡ true → boff e ≡ true
unfolding recovers idle_counts
recovers-off k e h = and_l (boff e) _ (and_l (boff e && _) _ (and_l (idle_counts k e) _ h))

not_and_self : (b : Bool) → (b && not b) ≡ false
not_and_self true = refl
not_and_self false = refl

recovers-on : (k : Control) (e : Errors) → recovers k e ≡ (boff e && not (boff (idle_errors k e)))
unfolding idle_errors
recovers-on k e = go (recovers k e) refl
  where
    go : (b : Bool) → recovers k e ≡ b → b ≡ (boff e && not (ltb 255 (pick b 0 e.tec)))
    go true h = rw (recovers-off k e h)
    go false h = sym (not_and_self (boff e))

idle-rec : (k : Control) (e : Errors) → (idle_errors k e).rec ≡ pick (boff e && not (boff (idle_errors k e))) 0 e.rec
unfolding idle_errors
idle-rec k e = ap (λ (b : Bool). pick b 0 e.rec) (recovers-on k e)

received-rec : (n : ℕ) → pick (ltb 128 n) 120 (n - 1) ≡ pick (leb 129 n) 120 (n - 1)
received-rec n = go (ltb 128 n) refl
  where
    go : (b : Bool) → ltb 128 n ≡ b → pick b 120 (n - 1) ≡ pick (leb 129 n) 120 (n - 1)
    go true h = rw (le-leb 129 n (ltb-true _ _ h))
    go false h = let l : n ≤ 128 = ltb-false _ _ h in rw (lt-leb 129 n (omega arith))

rec_plus_lem : (x n : ℕ) → n ≤ 255 → rec_plus x n ≡ min (x + n) 255
unfolding rec_plus
rec_plus_lem x n l =
    pick_cases (λ (y : ℕ). y ≡ min (x + n) 255) (ltb (255 - n) x) _ _
    (λ h. let k : 255 - n < x = ltb-true _ _ h in omega arith)
    (λ h. let k : x ≤ 255 - n = ltb-false _ _ h in omega arith)

-- a receive error's code and step
error-coded : (k n : ℕ) → receive_error_in_range k n ≡ true → (leb 1 k && leb k 6) ≡ true
unfolding receive_error_in_range
error-coded k n h = and_l (leb 1 k && leb k 6) (eqb n 1 || eqb n 8) h

error-step : (k n : ℕ) → receive_error_in_range k n ≡ true → n ≤ 255
unfolding receive_error_in_range
error-step k n h = go (eqb n 1) refl (and_r (leb 1 k && leb k 6) (eqb n 1 || eqb n 8) h)
  where
    go : (b : Bool) → eqb n 1 ≡ b → (b || eqb n 8) ≡ true → n ≤ 255
    go true e q = let l : n ≡ 1 = eqb-true _ _ e in omega arith
    go false e q = let l : n ≡ 8 = eqb-true _ _ q in omega arith

error-in_range : (c : Core) (k n : ℕ) → eqb (refusal c (ReceiveError k n)) 0 ≡ true → receive_error_in_range k n ≡ true
unfolding refusal
error-in_range c k n h = (refused_unless (receive_error_in_range k n) _ 5 refl h).0

module _ (c : Core) (v : List ℕ) where
  abbrev e : Errors
  e = c.errors

  end_of : (r : ℕ) → eqb (refusal c (Outcome r)) 0 ≡ true → (applied c v (Outcome r)).errors ≡ outcome_errors e r
  unfolding applied
  end_of r h = end_errors c.transmit.queue.transmitting c v r (end_sender c r h).0

  applied-rec : (s : steps.Step) → eqb (refusal c s) 0 ≡ true → (applied c v s).errors.rec ≡ rec_after s (boff e && not (boff (applied c v s).errors)) e.rec
  unfolding applied reset received_errors receive_error_counters
  applied-rec Reset h = refl
  applied-rec (Read o) h = refl
  applied-rec (Write o w) h = rw (errors-written o c w) (esr_written-rec (eqb o 0x018) e w)
  applied-rec Idle h = idle-rec c.control e
  applied-rec (BitTimes t) h = refl
  applied-rec Activity h = refl
  applied-rec Start h = rw (start-errors _ c)
  applied-rec (Outcome r) h = rw (end_of r h) (outcome_rec e r)
  applied-rec (Receive x) h = received-rec e.rec
  applied-rec (ReceiveError k n) h = rec_plus_lem e.rec n (error-step k n (error-in_range c k n h))

  applied-lec : (s : steps.Step) → eqb (refusal c s) 0 ≡ true → (applied c v s).errors.lec ≡ lec_after s e.lec
  unfolding applied reset received_errors receive_error_counters idle_errors
  applied-lec Reset h = refl
  applied-lec (Read o) h = refl
  applied-lec (Write o w) h = rw (errors-written o c w) (esr_written-lec (eqb o 0x018) e w)
  applied-lec Idle h = refl
  applied-lec (BitTimes t) h = refl
  applied-lec Activity h = refl
  applied-lec Start h = rw (start-errors _ c)
  applied-lec (Outcome r) h = rw (end_of r h) (outcome_lec e r)
  applied-lec (Receive x) h = refl
  applied-lec (ReceiveError k n) h = refl

-- ---- ERRI

-- the flags from e to d, with the enables of k
abbrev raised : Control → Errors → Errors → Bool → Bool
raised k e d coded =
    k.erri
    || (bit 8 k.ier && rises (ewgf e) (ewgf d))
    || (bit 9 k.ier && rises (epvf e) (epvf d))
    || (bit 10 k.ier && rises (boff e) (boff d))
    || (bit 11 k.ier && coded)

risen : (a x y : Bool) → (a && y && not x) ≡ (a && rises x y)
risen true true true = refl
risen true true false = refl
risen true false true = refl
risen true false false = refl
risen false x y = refl

changed-erri : (k : Control) (e d : Errors) (coded : Bool) → (errors_changed k e d coded).erri ≡ raised k e d coded
unfolding errors_changed
changed-erri k e d coded =
    rw (risen (bit 8 k.ier) (ewgf e) (ewgf d), risen (bit 9 k.ier) (epvf e) (epvf d), risen (bit 10 k.ier) (boff e) (boff d))

-- counters that do not go up raise no flag
unrisen : (x y : Bool) → (x ≡ false → y ≡ false) → rises x y ≡ false
unrisen true y f = refl
unrisen false y f = f refl

module _ (e d : Errors) (t : d.tec ≤ e.tec) (r : d.rec ≤ e.rec) where
  no_ewgf : rises (ewgf e) (ewgf d) ≡ false
  no_ewgf = unrisen (ewgf e) (ewgf d) (λ h.
      let x : e.tec < 96 = leb-false _ _ (or_l (leb 96 e.tec) (leb 96 e.rec) h) in
      let y : e.rec < 96 = leb-false _ _ (or_r (leb 96 e.tec) (leb 96 e.rec) h) in
      rw (lt-leb 96 d.tec (omega arith)) (lt-leb 96 d.rec (omega arith)))

  no_epvf : rises (epvf e) (epvf d) ≡ false
  no_epvf = unrisen (epvf e) (epvf d) (λ h.
      let x : e.tec ≤ 127 = ltb-false _ _ (or_l (ltb 127 e.tec) (ltb 127 e.rec) h) in
      let y : e.rec ≤ 127 = ltb-false _ _ (or_r (ltb 127 e.tec) (ltb 127 e.rec) h) in
      rw (le-ltb 127 d.tec (omega arith)) (le-ltb 127 d.rec (omega arith)))

  no_boff : rises (boff e) (boff d) ≡ false
  no_boff = unrisen (boff e) (boff d) (λ h. let x : e.tec ≤ 255 = ltb-false _ _ h in le-ltb 255 d.tec (omega arith))

  unraised : (k : Control) → raised k e d false ≡ k.erri
  unraised k = rw (no_ewgf, no_epvf, no_boff) (none k.erri (bit 8 k.ier) (bit 9 k.ier) (bit 10 k.ier) (bit 11 k.ier))
    where
      none : (i a b c d : Bool) → (i || (a && false) || (b && false) || (c && false) || (d && false)) ≡ i
      none i a b c d = simp (and-false, or-false)

start-control : (v : Option Mailbox) (c : Core) → (started_by v c).control ≡ c.control
unfolding started_by
start-control None c = refl
start-control (Some m) c = refl

end_control : (v : Option Mailbox) (c : Core) (b : List ℕ) (r : ℕ) → is_nobody v ≡ false
    → (ended_by v c b r).control ≡ errors_changed c.control c.errors (outcome_errors c.errors r) (not (eqb r 0) && not (eqb r 7))
unfolding ended_by
end_control None c b r h = absurd (true≢false h)
end_control (Some m) c b r h = refl

-- an error code of an own end
pub coded_end : (r : ℕ) → r ≤ 8 → (not (eqb r 0) && not (eqb r 7)) ≡ is_error_result r
unfolding all_below
coded_end r l = beq_eq _ _ (each_below (λ r. beq (not (eqb r 0) && not (eqb r 7)) (is_error_result r)) 9 refl r (omega arith))

less_idle : (k : Control) (e : Errors) → ((idle_errors k e).tec ≤ e.tec) × ((idle_errors k e).rec ≤ e.rec)
unfolding idle_errors
less_idle k e = (
  pick_cases (λ (n : ℕ). n ≤ e.tec) (recovers k e) 0 e.tec (λ _. omega arith) (λ _. omega arith),
  pick_cases (λ (n : ℕ). n ≤ e.rec) (recovers k e) 0 e.rec (λ _. omega arith) (λ _. omega arith),
)

less_received : (e : Errors) → (received_errors e).rec ≤ e.rec
unfolding received_errors
less_received e = pick_cases (λ (n : ℕ). n ≤ e.rec) (ltb 128 e.rec) 120 (e.rec - 1) (λ h. let l : 128 < e.rec = ltb-true _ _ h in omega arith) (λ _. omega arith)

module _ (c : Core) (v : List ℕ) where
  abbrev k : Control
  k = c.control

  still : raised k c.errors c.errors false ≡ k.erri
  still = unraised c.errors c.errors (omega arith) (omega arith) k

  written-still : (o w : ℕ) → raised k c.errors (written (register_at o) c w).errors false ≡ k.erri
  written-still o w =
      rw (errors-written o c w)
      (unraised c.errors (pick (eqb o 0x018) (esr_written c.errors w) c.errors)
      (omega (arith, esr_written-tec (eqb o 0x018) c.errors w)) (omega (arith, esr_written-rec (eqb o 0x018) c.errors w)) k)

  applied-erri : (s : steps.Step) → eqb (refusal c s) 0 ≡ true
      → (applied c v s).control.erri ≡ (not (clears_erri s) && raised k c.errors (applied c v s).errors (puts_code s))
  unfolding applied reset control_reset idled counted entered ticked woken received_errors
  applied-erri Reset h = refl
  applied-erri (Read o) h = sym still
  applied-erri (Write o w) h = rw (written-still o w, control-written o c w) (flags-written o k w).erri
  applied-erri Idle h = let l = less_idle k c.errors in sym (unraised c.errors (idle_errors k c.errors) l.0 l.1 k)
  applied-erri (BitTimes t) h = sym still
  applied-erri Activity h = sym still
  applied-erri Start h = rw (start-errors _ c, start-control _ c, still)
  applied-erri (Outcome r) h =
      let n = end_sender c r h in
      rw (end_errors c.transmit.queue.transmitting c v r n.0, end_control c.transmit.queue.transmitting c v r n.0, ← coded_end r n.1)
      (changed-erri k c.errors (outcome_errors c.errors r) (not (eqb r 0) && not (eqb r 7)))
  applied-erri (Receive x) h = sym (unraised c.errors (received_errors c.errors) (omega arith) (less_received c.errors) k)
  applied-erri (ReceiveError j n) h =
      rw (error-coded j n (error-in_range c j n h)) (changed-erri k c.errors (receive_error_counters c.errors j n) true)

-- ---- EWGF rises

warned : (x y : Bool) (a b c d : ℕ) → x ≡ leb 96 a || leb 96 b → y ≡ leb 96 c || leb 96 d → rises x y ≡ (ltb a 96 && ltb b 96 && (leb 96 c || leb 96 d))
warned x y a b c d p q = rw (p, q) (go (leb 96 a) (leb 96 b) refl refl)
  where
    go : (s t : Bool) → leb 96 a ≡ s → leb 96 b ≡ t → rises (s || t) (leb 96 c || leb 96 d) ≡ (ltb a 96 && ltb b 96 && (leb 96 c || leb 96 d))
    go true t e f = rw (le-ltb a 96 (leb-true _ _ e))
    go false true e f = rw (lt-ltb a 96 (leb-false _ _ e), le-ltb b 96 (leb-true _ _ f))
    go false false e f = rw (lt-ltb a 96 (leb-false _ _ e), lt-ltb b 96 (leb-false _ _ f))

-- ---- every step

settled-errors : (c : Core) → (settled c).errors ≡ c.errors
unfolding settled
settled-errors c = refl

pub done-errors : (z : Controller) (s : steps.Step) → Done z s → (next_of z s).core.errors ≡ (applied z.core z.banks s).errors
done-errors z s h = rw (done-core z s h) (settled-errors _)

error-change : (z : Controller) (s : steps.Step) → InRange z → InRange (next_of z s) → Done z s → ErrorChange z s (next_of z s)
error-change z s i j h =
    let a = accepted z s h in
    let d = done-errors z s h in
    let y : Controller = next_of z s in
    record {
      received = rw (shown-rec y j, shown-rec z i, boff-read z, boff-read y, d) (applied-rec z.core z.banks s a);
      last = rw (shown-lec y j, shown-lec z i, d) (applied-lec z.core z.banks s a);
      warned = warned (read.ewgf z) (read.ewgf y) (read.tec z) (read.rec z) (read.tec y) (read.rec y) (error-status z i).warning (error-status y j).warning;
      erri = rw (shown-erri y, shown-erri z, shown-ewgf z, shown-ewgf y, epvf-read z, epvf-read y, boff-read z, boff-read y, ier-shown z, d, done-core z s h)
          ((rule_left (applied z.core z.banks s)).erri ∙ applied-erri z.core z.banks s a);
    }

pub error-flags : (z : Controller) (s : steps.Step) → InRange z → StepRange s → ErrorFlags z s
error-flags z s i l =
    let j : InRange (next_of z s) = step-in_range z s i l in
    record { before = error-status z i; after = error-status (next_of z s) j; change = λ h. error-change z s i j h }
