-- What an accepted step does to TEC, REC, LEC, the recovery count, and to whether Initialization was entered since bus-off.
use Rattle.std.proofs.Common.{Option, Some, None}
use mathlib.Core.Bool.{Bool, true, false, not, ◌&&◌, ◌||◌, true≢false, and_comm, and-true, and-false, or-false}
use mathlib.Core.Path.{◌≡◌, refl, sym, ap, ◌∙◌}
use mathlib.Core.List.{List}
use Prim.Native.Nat.{ℕ, ◌+◌, ◌-◌, ◌/◌, ◌%◌, ◌^◌, ◌≤◌, ◌<◌}
use native.Mathlib.Omega.{arith}
use lib.Dec.{eqb, ltb, leb}
use borrow.Author.Tests.{eqb-true, ltb-true, ltb-false, eq-eqb, ne_eqb, leb-true, leb-false, lt-ltb, le-ltb}
use Rattle.base.specs.Base.{pick, bit}
use Rattle.model.specs.Queue.{is_nobody}
use Rattle.model.specs.Control.{abom, inrq, sleep, is_initialization, is_normal, boff, outcome_errors, idle_errors, received_errors, rec_plus, receive_error_counters, idle_counts, recovers, counted, idled, idle_mode, mode_next, entered, errors_changed, ticked, woken, control_reset, master_reset, mcr_written, msr_written, ier_written, btr_written, esr_written}
use Rattle.model.specs.Control as control
use Rattle.model.specs.Registers.{register_at, reset, core_reset, written, is_free, with_control}
use Rattle.model.specs.Step.{step, answered, core_after, refusal, applied, settled, stored_by, started_by, ended_by, may_end, may_receive, receive_error_in_range}
use Rattle.model.specs.Shown.{result_code}
use Rattle.model.specs.Reachable.{InRange}
use Rattle.model.specs.History.{ErrorCounts, no_errors, Seen, counters_become, write_counted, is_counted, is_last, idle_counted, end_counted, step_counted, initialization_entered, counts_next}
use Rattle.model.specs.declared.Fifo.TheVariants.{F0, F1}
use Rattle.model.specs.declared.Mode.{Mode}
use Rattle.model.specs.declared.Mode.TheVariants.{Normal}
use Rattle.model.specs.declared.Control as controls
use Rattle.model.specs.declared.Errors.{Errors}
use Rattle.model.specs.declared.Frame.{Frame}
use Rattle.model.specs.declared.Core.{Core}
use Rattle.model.specs.declared.Controller.{Controller}
use Rattle.model.specs.declared.Register.{Register}
use Rattle.model.specs.declared.Register.TheVariants.{Mcr, Msr, Tsr, Rfr, Ier, Esr, Btr, Ti, Tdt, Tdl, Tdh, Ri, Rdt, Rdl, Rdh, Fmr, Fm1r, Fs1r, Ffa1r, Fa1r, R1, R2, Absent}
use Rattle.model.specs.declared.Step as steps
use Rattle.model.specs.declared.Step.TheVariants.{Reset, Read, Write, Idle, BitTimes, Activity, Start, Outcome, Receive, ReceiveError}
use Rattle.base.proofs.Choices.{Is, Not, and_l, and_r, Is-not, pick_cases, refused_unless}
use Rattle.model.proofs.Follows.{end_accepted, may_end_lem}
use Rattle.model.proofs.ErrorRules.{outcome_tec, outcome_rec, outcome_lec}
use Rattle.model.proofs.Mapped.{map}
use Rattle.model.proofs.RegisterAccess.{elsewhere}
use Rattle.model.proofs.ReceiveErrors.{receive_error-step}
use Rattle.model.specs.declared.Mailbox.{Mailbox}

-- the counts as the controller stores them
abbrev pub counts_of : Core → ErrorCounts
counts_of c = record { tec = c.errors.tec; rec = c.errors.rec; lec = c.errors.lec; idles = c.control.recovery; reinitialized = c.control.reinitialized }

abbrev pub stored : Controller → ErrorCounts
stored z = counts_of z.core

-- ---- tests

not-and : (a : Bool) → (not a && a) ≡ false
not-and true = refl
not-and false = refl

-- ---- the mode rule

not_entered : (a : ErrorCounts) → initialization_entered false a ≡ a
not_entered a = λ j. record { tec = a.tec; rec = a.rec; lec = a.lec; idles = a.idles; reinitialized = or-false a.reinitialized j }

mode-rule : (d : Core) (free : Bool)
    → counts_of (with_control d (control.settled d.control free (boff d.errors)))
    ≡ initialization_entered (not (is_initialization d.control.mode) && is_initialization (control.settled d.control free (boff d.errors)).mode) (counts_of d)
unfolding control.settled entered
mode-rule d true = ap (λ (b : Bool). initialization_entered b (counts_of d)) (and_comm (is_initialization (mode_next d.control.mode (inrq d.control) (sleep d.control))) (not (is_initialization d.control.mode)))
mode-rule d false = rw (not-and (is_initialization d.control.mode)) (sym (not_entered (counts_of d)))

abbrev init_after : Core → Bool
init_after d = is_initialization (settled d).control.mode

settled-counts : (d : Core) → counts_of (settled d) ≡ initialization_entered (not (is_initialization d.control.mode) && init_after d) (counts_of d)
unfolding settled
settled-counts d = mode-rule d (is_free d)

-- after the step's own effect, which takes c to d and the counts to a
abbrev Settles : Core → Core → ErrorCounts → Type 0
Settles c d a = counts_of (settled d) ≡ initialization_entered (not (is_initialization c.control.mode) && init_after d) a

-- a step that leaves the mode to the mode rule
kept-mode : (c d : Core) (a : ErrorCounts) → d.control.mode ≡ c.control.mode → counts_of d ≡ a → Settles c d a
kept-mode c d a m e =
    settled-counts d
    ∙ (ap (λ (x : Mode). initialization_entered (not (is_initialization x) && init_after d) (counts_of d)) m
    ∙ ap (λ (x : ErrorCounts). initialization_entered (not (is_initialization c.control.mode) && init_after d) x) e)

-- a step that does not end in Initialization
left_out : (c d : Core) (a : ErrorCounts) → init_after d ≡ false → counts_of d ≡ a → Settles c d a
left_out c d a h e =
    let f : (x : Bool) → (x && init_after d) ≡ false = λ x. ap (λ (b : Bool). x && b) h ∙ and-false x in
    settled-counts d
    ∙ (ap (λ (b : Bool). initialization_entered b (counts_of d)) (f (not (is_initialization d.control.mode)) ∙ sym (f (not (is_initialization c.control.mode))))
    ∙ ap (λ (x : ErrorCounts). initialization_entered (not (is_initialization c.control.mode) && init_after d) x) e)

-- ---- writes

record Kept (c d : Core) : Type 0 where
  mode : d.control.mode ≡ c.control.mode
  counts : counts_of d ≡ counts_of c

other-writes : (r : Register) (c : Core) (w : ℕ) → (r ≡ Mcr → ⊥) → (r ≡ Esr → ⊥) → Kept c (written r c w)
unfolding written msr_written ier_written btr_written
other-writes Mcr c w m e = absurd (m refl)
other-writes Msr c w m e = record { mode = refl; counts = refl }
other-writes Tsr c w m e = record { mode = refl; counts = refl }
other-writes (Rfr F0) c w m e = record { mode = refl; counts = refl }
other-writes (Rfr F1) c w m e = record { mode = refl; counts = refl }
other-writes Ier c w m e = record { mode = refl; counts = refl }
other-writes Esr c w m e = absurd (e refl)
other-writes Btr c w m e = record { mode = refl; counts = refl }
other-writes (Ti x) c w m e = record { mode = refl; counts = refl }
other-writes (Tdt x) c w m e = record { mode = refl; counts = refl }
other-writes (Tdl x) c w m e = record { mode = refl; counts = refl }
other-writes (Tdh x) c w m e = record { mode = refl; counts = refl }
other-writes (Ri f) c w m e = record { mode = refl; counts = refl }
other-writes (Rdt f) c w m e = record { mode = refl; counts = refl }
other-writes (Rdl f) c w m e = record { mode = refl; counts = refl }
other-writes (Rdh f) c w m e = record { mode = refl; counts = refl }
other-writes Fmr c w m e = record { mode = refl; counts = refl }
other-writes Fm1r c w m e = record { mode = refl; counts = refl }
other-writes Fs1r c w m e = record { mode = refl; counts = refl }
other-writes Ffa1r c w m e = record { mode = refl; counts = refl }
other-writes Fa1r c w m e = record { mode = refl; counts = refl }
other-writes (R1 b) c w m e = record { mode = refl; counts = refl }
other-writes (R2 b) c w m e = record { mode = refl; counts = refl }
other-writes Absent c w m e = record { mode = refl; counts = refl }

mcr_write : (b : Bool) (c : Core) (w : ℕ) → bit 15 w ≡ b → Settles c (written Mcr c w) (write_counted (counts_of c) 0x000 w)
unfolding written mcr_written core_reset master_reset settled control.settled entered mode_next
mcr_write true c w h = left_out c (written Mcr c w) (write_counted (counts_of c) 0x000 w) (rw h) (rw h)
mcr_write false c w h = kept-mode c (written Mcr c w) (write_counted (counts_of c) 0x000 w) (rw h) (rw h)

esr_write : (c : Core) (w : ℕ) → Settles c (written Esr c w) (write_counted (counts_of c) 0x018 w)
unfolding written esr_written
esr_write c w = kept-mode c (written Esr c w) (write_counted (counts_of c) 0x018 w) refl refl

write_counts : (m e : Bool) (o : ℕ) (c : Core) (w : ℕ) → eqb o 0x000 ≡ m → eqb o 0x018 ≡ e
    → Settles c (written (register_at o) c w) (write_counted (counts_of c) o w)
write_counts true e o c w p q = rw (eqb-true o 0x000 p, map.found Mcr tt) (mcr_write (bit 15 w) c w refl)
write_counts false true o c w p q = rw (eqb-true o 0x018 q, map.found Esr tt) (esr_write c w)
write_counts false false o c w p q =
    let k : Kept c (written (register_at o) c w) = other-writes (register_at o) c w (λ e. elsewhere o Mcr e refl p) (λ e. elsewhere o Esr e refl q) in
    rw (p, q) (kept-mode c (written (register_at o) c w) (counts_of c) k.mode k.counts)

-- ---- idle

-- the event itself does not lead into Initialization
idle_way : (b : Bool) (m : Mode) (mcr : ℕ) → eqb (mcr % 4) 0 ≡ b → (is_initialization (idle_mode m mcr) && not (is_initialization m)) ≡ false
unfolding idle_mode
idle_way true m mcr h = rw h
idle_way false m mcr h = rw h (and_comm (is_initialization m) (not (is_initialization m)) ∙ not-and (is_initialization m))

-- a count below 128 is at least 127 just when one more is 128
last-count : (b : Bool) (n : ℕ) → n < 128 → leb 127 n ≡ b → b ≡ eqb (n + 1) 128
last-count true n h e = let k : 127 ≤ n = leb-true _ _ e in sym (eq-eqb (n + 1) 128 (omega arith))
last-count false n h e = let k : n < 127 = leb-false _ _ e in sym (ne_eqb (n + 1) 128 (λ q. omega arith))

-- an idle event that leads to Normal is not followed by the way into Initialization
normal-stays : (k : controls.Control) (free off : Bool) → k.mode ≡ Normal → eqb (k.mcr % 4) 0 ≡ true → is_initialization (control.settled k free off).mode ≡ false
unfolding control.settled entered mode_next
normal-stays k free off m h =
    let z : k.mcr % 4 ≡ 0 = eqb-true _ _ h in
    let i : k.mcr / 2 ^ 0 % 2 ≡ 0 = omega arith in
    let s : k.mcr / 2 ^ 1 % 2 ≡ 0 = omega arith in
    pick_cases (λ (x : controls.Control). is_initialization x.mode ≡ false) free _ _
    (λ _. rw (m, i, s)) (λ _. rw m)

module _ (c : Core) (small : c.control.recovery < 128) where
  abbrev known : Bool → Bool → Seen
  known done enters = record { done = done; abom = abom c.control; normal = is_normal c.control.mode; enters = enters }

  recovers-last : (done enters : Bool) → recovers c.control c.errors ≡ is_last (counts_of c) (known done enters)
  unfolding recovers idle_counts
  recovers-last done enters = ap (λ (b : Bool). is_counted (counts_of c) (known done enters) && b) (last-count (leb 127 c.control.recovery) c.control.recovery small refl)

  idle-count : (l b : Bool) → pick l 0 (pick b ((c.control.recovery + 1) % 2 ^ 8) c.control.recovery) ≡ pick l 0 (pick b (c.control.recovery + 1) c.control.recovery)
  idle-count true b = refl
  idle-count false true = omega arith
  idle-count false false = refl

  abbrev idle : List ℕ → Core
  idle v = applied c v Idle

  idle-own : (v : List ℕ) (done enters : Bool) → counts_of (idle v) ≡ idle_counted (counts_of c) (known done enters)
  unfolding applied idled idle_errors counted entered idle_counts
  idle-own v done enters =
      rw (
        idle_way (eqb (c.control.mcr % 4) 0) c.control.mode c.control.mcr refl,
        or-false (c.control.reinitialized && not (recovers c.control c.errors)),
        recovers-last done enters,
        idle-count (is_last (counts_of c) (known done enters)) (is_counted (counts_of c) (known done enters)),
      )

  idle_settles : (b : Bool) (v : List ℕ) (a : ErrorCounts) → eqb (c.control.mcr % 4) 0 ≡ b → counts_of (idle v) ≡ a → Settles c (idle v) a
  unfolding applied settled idled entered counted idle_mode
  idle_settles true v a h e = left_out c (idle v) a (normal-stays (idle v).control (is_free c) (boff (idle v).errors) (rw h) h) e
  idle_settles false v a h e = kept-mode c (idle v) a (rw h) e

-- ---- own end, frame, receive error

-- out of bus-off the counters become those of d
changed : (c : Core) (d : Errors) → Not (boff c.errors)
    → ◌≡◌ {A = ErrorCounts} (record { tec = d.tec; rec = d.rec; lec = d.lec; idles = pick (boff d) 0 c.control.recovery; reinitialized = c.control.reinitialized && not (boff d) })
    (counters_become (counts_of c) d.tec d.rec d.lec)
changed c d h = rw h

outcome_errors_lem : (e : Errors) (r : ℕ) → e.tec ≤ 263
    → outcome_errors e r ≡ record { tec = pick (eqb r 0) (e.tec - 1) (pick (eqb r 7 || eqb r 8) e.tec (e.tec + 8)); rec = e.rec; lec = pick (eqb r 7) e.lec (result_code r) }
outcome_errors_lem e r h = λ j. record { tec = outcome_tec e r h j; rec = outcome_rec e r j; lec = outcome_lec e r j }

wire-taken : (z : Controller) (r : ℕ) → eqb (refusal z.core (Outcome r)) 0 ≡ true → Not (is_free z.core)
unfolding refusal
wire-taken z r h = Is-not _ (may_end_lem z.core r (end_accepted (ltb 8 r) (may_end z.core r) h))

end_counts : (v : Option Mailbox) (c : Core) (b : List ℕ) (r : ℕ) → Not (is_nobody v) → Not (boff c.errors) → c.errors.tec ≤ 263
    → Settles c (ended_by v c b r) (end_counted (counts_of c) r)
unfolding ended_by stored_by errors_changed
end_counts None c b r n f t = absurd (true≢false n)
end_counts (Some m) c b r n f t =
    kept-mode c (ended_by (Some m) c b r) (end_counted (counts_of c) r) refl
    (changed c (outcome_errors c.errors r) f
    ∙ ap (λ (d : Errors). counters_become (counts_of c) d.tec d.rec d.lec) (outcome_errors_lem c.errors r t))

-- who hears a frame or an error is not in bus-off
hears_on : (c : Core) → Is (may_receive c) → Not (boff c.errors)
unfolding may_receive
hears_on c h =
    let a : Bool = is_normal c.control.mode in
    let b : Bool = not (boff c.errors) in
    Is-not _ (and_r a b (and_l (a && b) (is_free c) (and_l (a && b && is_free c) (not (control.lbkm c.control)) (and_l (a && b && is_free c && not (control.lbkm c.control)) (not c.filters.finit) h))))

-- a step of at most 255: the model takes it away from 255, the paper stops at 255
rec_plus_lem : (b : Bool) (x n : ℕ) → n ≤ 255 → ltb (255 - n) x ≡ b → pick b 255 (x + n) ≡ pick (ltb 255 (x + n)) 255 (x + n)
rec_plus_lem true x n h e = let k : 255 - n < x = ltb-true _ _ e in rw (lt-ltb 255 (x + n) (omega arith))
rec_plus_lem false x n h e = let k : x ≤ 255 - n = ltb-false _ _ e in rw (le-ltb 255 (x + n) (omega arith))

receive_error_counts : (c : Core) (b : List ℕ) (k n : ℕ) (v : Seen) → Is (receive_error_in_range k n) → Is (may_receive c)
    → Settles c (applied c b (ReceiveError k n)) (step_counted (counts_of c) v (ReceiveError k n))
unfolding applied errors_changed receive_error_counters rec_plus receive_error_in_range
receive_error_counts c b k n v r h =
    let s : n ≤ 255 = omega (arith, receive_error-step k n r) in
    kept-mode c (applied c b (ReceiveError k n)) (step_counted (counts_of c) v (ReceiveError k n)) refl
    (changed c (receive_error_counters c.errors k n) (hears_on c h)
    ∙ ap (λ (x : ℕ). counters_become (counts_of c) c.errors.tec x k) (rec_plus_lem (ltb (255 - n) c.errors.rec) c.errors.rec n s refl))

receive_counts : (c : Core) (b : List ℕ) (x : Frame) (v : Seen) → Settles c (applied c b (Receive x)) (step_counted (counts_of c) v (Receive x))
unfolding applied stored_by received_errors
receive_counts c b x v =
    kept-mode c (applied c b (Receive x)) (step_counted (counts_of c) v (Receive x)) refl
    (rw (not-and (boff c.errors), and-true c.control.reinitialized))

start-counts : (v : Option Mailbox) (c : Core) → Settles c (started_by v c) (counts_of c)
unfolding started_by
start-counts None c = kept-mode c c (counts_of c) refl refl
start-counts (Some m) c = kept-mode c (started_by (Some m) c) (counts_of c) refl refl

-- ---- every step

-- what is seen of a step, by what the controller stores
abbrev pub known_of : Controller → steps.Step → Seen
known_of z s = record {
  done = eqb (refusal z.core s) 0;
  abom = abom z.core.control;
  normal = is_normal z.core.control.mode;
  enters = not (is_initialization z.core.control.mode) && is_initialization (step z s).controller.core.control.mode;
}

applied-counts : (z : Controller) (s : steps.Step) (v : Seen) → InRange z → v.abom ≡ abom z.core.control → v.normal ≡ is_normal z.core.control.mode → eqb (refusal z.core s) 0 ≡ true
    → Settles z.core (applied z.core z.banks s) (step_counted (stored z) v s)
unfolding applied reset control_reset ticked woken refusal settled control.settled entered mode_next
applied-counts z Reset v i p q h = left_out z.core reset.core no_errors refl refl
applied-counts z (Read o) v i p q h = kept-mode z.core z.core (stored z) refl refl
applied-counts z (Write o w) v i p q h = write_counts (eqb o 0x000) (eqb o 0x018) o z.core w refl refl
applied-counts z Idle v i p q h =
    idle_settles z.core i.core.control.recovery (eqb (z.core.control.mcr % 4) 0) z.banks (idle_counted (stored z) v) refl
    (rw (p, q) (idle-own z.core i.core.control.recovery z.banks v.done v.enters))
applied-counts z (BitTimes n) v i p q h = kept-mode z.core (applied z.core z.banks (BitTimes n)) (stored z) refl refl
applied-counts z Activity v i p q h = kept-mode z.core (applied z.core z.banks Activity) (stored z) refl refl
applied-counts z Start v i p q h = start-counts _ z.core
applied-counts z (Outcome r) v i p q h =
    let n : Not (is_free z.core) = wire-taken z r h in
    end_counts z.core.transmit.queue.transmitting z.core z.banks r n (i.core.wire.on n) i.core.errors.tec
applied-counts z (Receive x) v i p q h = receive_counts z.core z.banks x v
applied-counts z (ReceiveError k n) v i p q h =
    let a = refused_unless (receive_error_in_range k n) (pick (may_receive z.core) 0 4) 5 refl h in
    receive_error_counts z.core z.banks k n v a.0 (refused_unless (may_receive z.core) 0 4 refl a.1).0

-- a refused step leaves all
by_code : (ok : Bool) (c d : Core) (s : steps.Step) (a n : Bool)
    → ((v : Seen) → v.abom ≡ a → v.normal ≡ n → ok ≡ true → Settles c d (step_counted (counts_of c) v s))
    → counts_of (pick ok (settled d) c)
    ≡ counts_next (counts_of c) (record { done = ok; abom = a; normal = n; enters = not (is_initialization c.control.mode) && is_initialization (pick ok (settled d) c).control.mode }) s
by_code true c d s a n h = h (record { done = true; abom = a; normal = n; enters = not (is_initialization c.control.mode) && is_initialization (settled d).control.mode }) refl refl refl
by_code false c d s a n h = rw (not-and (is_initialization c.control.mode)) (sym (not_entered (counts_of c)))

pub known-counts : (z : Controller) (s : steps.Step) → InRange z → stored (step z s).controller ≡ counts_next (stored z) (known_of z s) s
unfolding step answered core_after
known-counts z s i = by_code (eqb (refusal z.core s) 0) z.core (applied z.core z.banks s) s (abom z.core.control) (is_normal z.core.control.mode) (λ v p q h. applied-counts z s v i p q h)
