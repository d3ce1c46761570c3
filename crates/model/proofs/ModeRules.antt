-- The mode, the flags of MSR and the timer after each step.
use Rattle.std.proofs.Common.{Option, Some, None}
use mathlib.Core.Bool.{Bool, true, false, not, ◌&&◌, ◌||◌, true≢false, false≢true, and-false, or-false}
use mathlib.Core.Path.{◌≡◌, refl, sym, ap, ◌∙◌}
use mathlib.Core.List.{List}
use Prim.Native.Nat.{ℕ, ◌+◌, ◌-◌, ◌*◌, ◌/◌, ◌%◌, ◌^◌, ◌<◌}
use native.Mathlib.Omega.{arith}
use lib.Dec.{eqb}
use borrow.Author.Tests.{eqb-true, eqb-false, not-true}
use Rattle.base.specs.Base.{pick, bit, bits, one}
use Rattle.model.specs.Queue.{is_nobody, is_empty, off_wire}
use Rattle.model.specs.Mailboxes.{identifiers, first, first_in_wire_order, first_of, ended, over, started}
use Rattle.model.specs.Control.{inrq, sleep, txfp, nart, awum, ttcm, is_sleep, is_normal, mode_bits, mode_next, idle_mode, idled, counted, entered, ticked, woken, errors_changed, control_reset, master_reset, mcr_written, msr_written, ier_written, btr_written, sleep_cleared}
use Rattle.model.specs.Control as control
use Rattle.model.specs.Registers.{register_at, reset, written, is_free}
use Rattle.model.specs.Step.{refusal, applied, settled, stored_by, started_by, ended_by, may_start}
use Rattle.model.specs.Reachable.{InRange, StepRange}
use Rattle.model.specs.Shown.{mcr, msr, ier, Done, next_of, writes_one, is_idle, is_activity, is_start, is_outcome, resets, bit_times}
use Rattle.model.specs.Modes.{touches_mcr, ModeStatus, ModeRule, SleepFlag, Timer, ModeChange, Wake, Modes}
use Rattle.model.specs.Shown as read
use Rattle.model.specs.declared.Mode.{Mode}
use Rattle.model.specs.declared.Mode.TheVariants.{Sleep, Initialization, Normal}
use Rattle.model.specs.declared.RequestOrder.{RequestOrder}
use Rattle.model.specs.declared.RequestOrder.TheVariants.{Empty, One, Two, Three}
use Rattle.model.specs.declared.Queue.{Queue}
use Rattle.model.specs.declared.Control.{Control}
use Rattle.model.specs.declared.Core.{Core}
use Rattle.model.specs.declared.Controller.{Controller}
use Rattle.model.specs.declared.Step as steps
use Rattle.model.specs.declared.Step.TheVariants.{Reset, Read, Write, Idle, BitTimes, Activity, Start, Outcome, Receive, ReceiveError}
use Rattle.base.proofs.Choices.{pick_cases, and_l, and_r, refused_unless, opposed}
use Rattle.model.proofs.Masks.{lowest, ttcm_masked}
use Rattle.model.proofs.Reached.{step-in_range}
use Rattle.model.proofs.ShownWords.{mcr-shown, msr-shown, ier-shown, msr-mode, msr-wkui, msr-slaki, msr-rest, mode_bits_small}
use Rattle.model.proofs.WriteTargets.{control_written, control-written, wire-written, flags-written}
use Rattle.model.proofs.DoneSteps.{accepted, done-core, rule_left, start-same, end_same}
use Rattle.model.proofs.ReadFields.{slak-read, txm-read}
use Rattle.model.specs.declared.Mailbox.{Mailbox}

-- ---- what MSR shows

shown-mode : (z : Controller) → read.mode z ≡ mode_bits z.core.control.mode
shown-mode z = rw (msr-shown z) (msr-mode z.core.control (is_free z.core))

shown-wkui : (z : Controller) → read.wkui z ≡ z.core.control.wkui
shown-wkui z = rw (msr-shown z) (msr-wkui z.core.control (is_free z.core))

shown-slaki : (z : Controller) → read.slaki z ≡ z.core.control.slaki
shown-slaki z = rw (msr-shown z) (msr-slaki z.core.control (is_free z.core))

mode-status : (z : Controller) → ModeStatus z
mode-status z =
    let r : (bits 5 3 (msr z) ≡ 0) × (msr z / 2 ^ 9 ≡ 6) = rw (msr-shown z) (msr-rest z.core.control (is_free z.core)) in
    let a : msr z / 2 ^ 10 % 2 ≡ 1 = omega arith in
    let b : msr z / 2 ^ 11 % 2 ≡ 1 = omega arith in
    let c : msr z / 2 ^ 9 % 2 ≡ 0 = omega arith in
    record {
      modes = rw (shown-mode z) (mode_bits_small z.core.control (is_free z.core));
      samp = ap (λ (n : ℕ). eqb n 1) a;
      rx = ap (λ (n : ℕ). eqb n 1) b;
      rxm = ap (λ (n : ℕ). eqb n 1) c;
      none = r.0;
      word = omega arith;
    }

-- ---- what a step itself does to the mode and SLAKI, before the mode rule

-- from c to d; x: SLAKI if the mode stays; idle, reset: what the step is
data Went (c d : Core) (x idle reset : Bool) : Type 0 where
  stayed : reset ≡ false → d.control.mode ≡ c.control.mode → d.control.slaki ≡ x → (idle ≡ true → inrq d.control ≡ false → sleep d.control ≡ false → ⊥) → Went c d x idle reset
  woke : reset ≡ false → idle ≡ true → d.control.mode ≡ Normal → inrq d.control ≡ false → sleep d.control ≡ false → is_free d ≡ true → Went c d x idle reset
  wiped : reset ≡ true → d.control.mode ≡ Sleep → inrq d.control ≡ false → sleep d.control ≡ true → is_free d ≡ true → d.control.slaki ≡ false → Went c d x idle reset

-- the mode after the rule
abbrev ruled : Core → Mode
ruled d = pick (is_free d) (mode_next d.control.mode (inrq d.control) (sleep d.control)) d.control.mode

settled-mode : (d : Core) → (settled d).control.mode ≡ ruled d
unfolding settled control.settled entered
settled-mode d = go (is_free d)
  where
    go : (b : Bool) → (pick b (entered d.control (mode_next d.control.mode (inrq d.control) (sleep d.control)) (control.boff d.errors)) d.control).mode
        ≡ pick b (mode_next d.control.mode (inrq d.control) (sleep d.control)) d.control.mode
    go true = refl
    go false = refl

next-initialization : (m : Mode) → mode_next m true false ≡ Initialization
unfolding mode_next
next-initialization Normal = refl
next-initialization Initialization = refl
next-initialization Sleep = refl

next-sleep : (m : Mode) → mode_next m false true ≡ Sleep
unfolding mode_next
next-sleep Normal = refl
next-sleep Initialization = refl
next-sleep Sleep = refl

next-stays : (m : Mode) (b : Bool) → mode_next m b b ≡ m
unfolding mode_next
next-stays Normal true = refl
next-stays Normal false = refl
next-stays Initialization true = refl
next-stays Initialization false = refl
next-stays Sleep true = refl
next-stays Sleep false = refl

-- the five cases of the rule
module _ (c d : Core) (x idle reset : Bool) where
  abbrev i : Bool
  i = inrq d.control

  abbrev s : Bool
  s = sleep d.control

  rule-busy : Went c d x idle reset → is_free d ≡ false → ruled d ≡ c.control.mode
  rule-busy (stayed r m k n) f = rw f m
  rule-busy (woke r e m a b g) f = opposed g f
  rule-busy (wiped r m a b g k) f = opposed g f

  rule-initialization : is_free d ≡ true → i ≡ true → s ≡ false → ruled d ≡ Initialization
  rule-initialization f a b = rw (f, a, b) (next-initialization d.control.mode)

  rule-asleep : is_free d ≡ true → i ≡ false → s ≡ true → ruled d ≡ Sleep
  rule-asleep f a b = rw (f, a, b) (next-sleep d.control.mode)

  rule-both : Went c d x idle reset → is_free d ≡ true → i ≡ true → s ≡ true → ruled d ≡ c.control.mode
  rule-both (stayed r m k n) f a b = rw (f, a, b) (next-stays d.control.mode true ∙ m)
  rule-both (woke r e m p q g) f a b = opposed a p
  rule-both (wiped r m p q g k) f a b = opposed a p

  rule-neither : Went c d x idle reset → is_free d ≡ true → i ≡ false → s ≡ false → mode_bits (ruled d) ≡ pick idle 0 (mode_bits c.control.mode)
  rule-neither (stayed r m k n) f a b =
      rw (f, a, b) (ap mode_bits (next-stays d.control.mode false ∙ m) ∙ go idle refl)
    where
      go : (e : Bool) → idle ≡ e → mode_bits c.control.mode ≡ pick e 0 (mode_bits c.control.mode)
      go true e = absurd (n e a b)
      go false e = refl
  rule-neither (woke r e m p q g) f a b = rw (f, a, b, e) (ap mode_bits (next-stays d.control.mode false ∙ m))
  rule-neither (wiped r m p q g k) f a b = opposed q b

-- ---- SLAKI after the rule

free_slaki : (d : Core) → is_free d ≡ true → is_sleep (ruled d) ≡ true → (settled d).control.slaki ≡ (d.control.slaki || (not (is_sleep d.control.mode) && bit 17 d.control.ier))
unfolding settled control.settled entered
free_slaki d f a = let b : is_sleep (mode_next d.control.mode (inrq d.control) (sleep d.control)) ≡ true = rw f at a in rw (f, b)

busy-slaki : (d : Core) → is_free d ≡ false → (settled d).control.slaki ≡ d.control.slaki
unfolding settled control.settled
busy-slaki d f = rw f

awake-not-asleep : {A : Type 0} (m : Mode) → m ≡ Normal → is_sleep m ≡ true → A
awake-not-asleep m e a = opposed a (ap is_sleep e)

module _ (c d : Core) (x idle reset : Bool) where
  abbrev asleep : Core → Bool
  asleep b = is_sleep b.control.mode

  woke_awake : d.control.mode ≡ Normal → inrq d.control ≡ false → sleep d.control ≡ false → is_free d ≡ true → is_sleep (ruled d) ≡ false
  woke_awake m a b g = rw (g, a, b, next-stays d.control.mode false, m)

  slaki-entered : Went c d x idle reset → reset ≡ false → x ≡ false → asleep c ≡ false → is_sleep (ruled d) ≡ true → (settled d).control.slaki ≡ bit 17 d.control.ier
  slaki-entered (stayed r m k n) e u p q = go (is_free d) refl
    where
      go : (b : Bool) → is_free d ≡ b → (settled d).control.slaki ≡ bit 17 d.control.ier
      go true f = free_slaki d f q ∙ rw (k, u, m, p)
      go false f = let t : asleep d ≡ true = rw f at q in opposed t (ap is_sleep m ∙ p)
  slaki-entered (woke r h m a b g) e u p q = opposed q (woke_awake m a b g)
  slaki-entered (wiped r m a b g k) e u p q = opposed r e

  slaki-stayed : Went c d x idle reset → reset ≡ false → asleep c ≡ true → is_sleep (ruled d) ≡ true → (settled d).control.slaki ≡ x
  slaki-stayed (stayed r m k n) e p q = go (is_free d) refl
    where
      go : (b : Bool) → is_free d ≡ b → (settled d).control.slaki ≡ x
      go true f = free_slaki d f q ∙ rw (k, m, p) (or-false x)
      go false f = busy-slaki d f ∙ k
  slaki-stayed (woke r h m a b g) e p q = opposed q (woke_awake m a b g)
  slaki-stayed (wiped r m a b g k) e p q = opposed r e

  slaki-reset : Went c d x idle reset → reset ≡ true → (settled d).control.slaki ≡ false
  slaki-reset (stayed r m k n) e = opposed e r
  slaki-reset (woke r h m a b g) e = opposed e r
  slaki-reset (wiped r m a b g k) e = free_slaki d g (rw (g, a, b, next-sleep d.control.mode)) ∙ rw (k, m)

-- a start finds a mailbox
first_found : (c : Core) → may_start c ≡ true → is_nobody (first_of (txfp c.control) c.transmit) ≡ false
unfolding may_start first first_in_wire_order
first_found c h = go c.transmit.queue.order (txfp c.control) (not-true _ (and_r (is_normal c.control.mode && not (control.boff c.errors) && is_free c) _ (and_l (is_normal c.control.mode && not (control.boff c.errors) && is_free c && _) _ h)))
  where
    go : (o : RequestOrder) (b : Bool) → is_empty o ≡ false → is_nobody (first b (identifiers c.transmit.mailboxes) o) ≡ false
    go Empty b e = absurd (true≢false e)
    go (One m) true e = refl
    go (One m) false e = refl
    go (Two m n) true e = refl
    go (Two m n) false e = refl
    go (Three m n p) true e = refl
    go (Three m n p) false e = refl

-- ---- every step

-- MCR with both request bits clear
clear_requests : (w : ℕ) → eqb (w % 4) 0 ≡ true → (bit 0 w ≡ false) × (bit 1 w ≡ false)
clear_requests w h =
    let e : w % 4 ≡ 0 = eqb-true _ _ h in
    let a : w / 2 ^ 0 % 2 ≡ 0 = omega arith in
    let b : w / 2 ^ 1 % 2 ≡ 0 = omega arith in
    (ap (λ (n : ℕ). eqb n 1) a, ap (λ (n : ℕ). eqb n 1) b)

no_requests_lem : (w : ℕ) → eqb (w % 4) 0 ≡ false → bit 0 w ≡ false → bit 1 w ≡ false → ⊥
no_requests_lem w h p q =
    let a : w / 2 ^ 0 % 2 ≡ 1 → ⊥ = eqb-false _ _ p in
    let b : w / 2 ^ 1 % 2 ≡ 1 → ⊥ = eqb-false _ _ q in
    let d : w / 2 ^ 0 % 2 ≡ 0 = omega arith in
    let e : w / 2 ^ 1 % 2 ≡ 0 = omega arith in
    eqb-false (w % 4) 0 h (requests-sum d e)
  where
    requests-sum : w / 2 ^ 0 % 2 ≡ 0 → w / 2 ^ 1 % 2 ≡ 0 → w % 4 ≡ 0
    requests-sum d e = lowest 4 w (w / 2 ^ 1 / 2) 0 (omega arith) (omega arith)

-- into the mode that it has
entered-same : (b x y : Bool) → pick b (x || (not b && y)) (x && not b) ≡ x
entered-same true x y = or-false x
entered-same false true y = refl
entered-same false false y = refl

written-mode : (o : ℕ) (k : Control) (w : ℕ) (b : Bool) → (eqb o 0x000 && bit 15 w) ≡ b → (control_written o k w).mode ≡ pick b Sleep k.mode
unfolding master_reset mcr_written msr_written ier_written btr_written
written-mode o k w b e = go (eqb o 0x000) (bit 15 w) (eqb o 0x004) (eqb o 0x014) (eqb o 0x01C) ∙ rw e
  where
    go : (a m n i j : Bool)
        → (pick a (pick m (master_reset k) (mcr_written k w)) (pick n (msr_written k w) (pick i (ier_written k w) (pick j (btr_written k w) k)))).mode ≡ pick (a && m) Sleep k.mode
    go true true n i j = refl
    go true false n i j = refl
    go false m true i j = refl
    go false m false true j = refl
    go false m false false true = refl
    go false m false false false = refl

-- MCR with bit 15 set
written-reset : (o : ℕ) (k : Control) (w : ℕ) → (eqb o 0x000 && bit 15 w) ≡ true → control_written o k w ≡ master_reset k
written-reset o k w h = rw (and_l (eqb o 0x000) (bit 15 w) h, and_r (eqb o 0x000) (bit 15 w) h)

no_idle : {A B : Type 0} → false ≡ true → A → B → ⊥
no_idle h a b = false≢true h

module _ (c : Core) (v : List ℕ) where
  abbrev k : Control
  k = c.control

  write_went : (o w : ℕ) (b : Bool) → (eqb o 0x000 && bit 15 w) ≡ b
      → Went c (written (register_at o) c w) (not (eqb o 0x004 && bit 4 w) && k.slaki) false b
  unfolding master_reset
  write_went o w true e =
      let m : (written (register_at o) c w).control ≡ master_reset k = control-written o c w ∙ written-reset o k w e in
      wiped refl (rw m) (rw m) (rw m) (rw (wire-written o c w, e)) (rw m)
  write_went o w false e =
      stayed refl (rw (control-written o c w) (written-mode o k w false e)) (rw (control-written o c w) ((flags-written o k w).slaki ∙ rw e)) no_idle

  idle_went : (b : Bool) → eqb (k.mcr % 4) 0 ≡ b → is_free c ≡ true → Went c (applied c v Idle) k.slaki true false
  unfolding applied idled counted entered idle_mode
  idle_went true e f = woke refl refl (rw e) (clear_requests k.mcr e).0 (clear_requests k.mcr e).1 f
  idle_went false e f = stayed refl (rw e) (rw e (entered-same (is_sleep k.mode) k.slaki (bit 17 k.ier))) (λ h a b. no_requests_lem k.mcr e a b)

  went : (s : steps.Step) → eqb (refusal c s) 0 ≡ true → Went c (applied c v s) (not (writes_one 0x004 4 s) && k.slaki) (is_idle s) (resets s)
  unfolding applied refusal reset control_reset ticked woken errors_changed
  went Reset h = wiped refl refl refl refl refl refl
  went (Read o) h = stayed refl refl refl no_idle
  went (Write o w) h = write_went o w _ refl
  went Idle h = idle_went _ refl (refused_unless (is_free c) 0 4 refl h).0
  went (BitTimes n) h = stayed refl refl refl no_idle
  went Activity h = stayed refl refl refl no_idle
  went Start h = let d = start-same _ c in stayed refl d.mode d.slaki no_idle
  went (Outcome r) h = let d = end_same _ c v r in stayed refl d.mode d.slaki no_idle
  went (Receive x) h = stayed refl refl refl no_idle
  went (ReceiveError j n) h = stayed refl refl refl no_idle

  -- ---- TXM

  write_wire : (o w : ℕ) (b : Bool) → (eqb o 0x000 && bit 15 w) ≡ b → not (is_free (written (register_at o) c w)) ≡ (not b && not (is_free c))
  write_wire o w true e = rw (wire-written o c w, e)
  write_wire o w false e = rw (wire-written o c w, e)

  start-wire : (u : Option Mailbox) → is_nobody u ≡ false → not (is_free (started_by u c)) ≡ true
  unfolding started_by started
  start-wire None h = absurd (true≢false h)
  start-wire (Some m) h = refl

  end_wire : (u : Option Mailbox) (r : ℕ) → c.transmit.queue.transmitting ≡ u → not (is_free (ended_by u c v r)) ≡ false
  unfolding ended_by ended off_wire
  end_wire None r e = ap (λ (x : Option Mailbox). not (is_nobody x)) e
  end_wire (Some m) r e =
      pick_cases (λ (q : Queue). not (is_nobody q.transmitting) ≡ false) (over c.transmit.queue m r (nart k)) _ _ (λ _. refl) (λ _. refl)

  applied-wire : (s : steps.Step) → eqb (refusal c s) 0 ≡ true → not (is_free (applied c v s)) ≡ (is_start s || (not (is_outcome s || resets s) && not (is_free c)))
  unfolding applied refusal reset stored_by
  applied-wire Reset h = refl
  applied-wire (Read o) h = refl
  applied-wire (Write o w) h = write_wire o w _ refl
  applied-wire Idle h = refl
  applied-wire (BitTimes n) h = refl
  applied-wire Activity h = refl
  applied-wire Start h = start-wire _ (first_found c (refused_unless (may_start c) 0 4 refl h).0)
  applied-wire (Outcome r) h = end_wire _ r refl
  applied-wire (Receive x) h = refl
  applied-wire (ReceiveError j n) h = refl

  -- ---- MCR

  written-mcr : (o w : ℕ) → eqb o 0x000 ≡ false → (control_written o k w).mcr ≡ k.mcr
  unfolding msr_written ier_written btr_written
  written-mcr o w e = rw e (go (eqb o 0x004) (eqb o 0x014) (eqb o 0x01C))
    where
      go : (n i j : Bool) → (pick n (msr_written k w) (pick i (ier_written k w) (pick j (btr_written k w) k))).mcr ≡ k.mcr
      go true i j = refl
      go false true j = refl
      go false false true = refl
      go false false false = refl

  same_mcr_lem : (s : steps.Step) → touches_mcr s ≡ false → (applied c v s).control.mcr ≡ k.mcr
  unfolding applied idled counted entered ticked errors_changed
  same_mcr_lem Reset h = absurd (true≢false h)
  same_mcr_lem (Read o) h = refl
  same_mcr_lem (Write o w) h = rw (control-written o c w) (written-mcr o w h)
  same_mcr_lem Idle h = refl
  same_mcr_lem (BitTimes n) h = refl
  same_mcr_lem Activity h = absurd (true≢false h)
  same_mcr_lem Start h = (start-same _ c).mcr
  same_mcr_lem (Outcome r) h = (end_same _ c v r).mcr
  same_mcr_lem (Receive x) h = refl
  same_mcr_lem (ReceiveError j n) h = refl

  reset_mcr_lem : (s : steps.Step) → resets s ≡ true → (applied c v s).control.mcr ≡ 0x00010002
  unfolding applied reset control_reset master_reset
  reset_mcr_lem Reset h = refl
  reset_mcr_lem (Read o) h = absurd (false≢true h)
  reset_mcr_lem (Write o w) h = rw (control-written o c w, written-reset o k w h)
  reset_mcr_lem Idle h = absurd (false≢true h)
  reset_mcr_lem (BitTimes n) h = absurd (false≢true h)
  reset_mcr_lem Activity h = absurd (false≢true h)
  reset_mcr_lem Start h = absurd (false≢true h)
  reset_mcr_lem (Outcome r) h = absurd (false≢true h)
  reset_mcr_lem (Receive x) h = absurd (false≢true h)
  reset_mcr_lem (ReceiveError j n) h = absurd (false≢true h)

  -- ---- WKUI

  applied-wkui : (s : steps.Step) → (applied c v s).control.wkui ≡ (is_activity s || (not (resets s || writes_one 0x004 3 s) && k.wkui))
  unfolding applied reset control_reset idled counted entered ticked woken errors_changed
  applied-wkui Reset = refl
  applied-wkui (Read o) = refl
  applied-wkui (Write o w) = rw (control-written o c w) (flags-written o k w).wkui
  applied-wkui Idle = refl
  applied-wkui (BitTimes n) = refl
  applied-wkui Activity = refl
  applied-wkui Start = (start-same _ c).wkui
  applied-wkui (Outcome r) = (end_same _ c v r).wkui
  applied-wkui (Receive x) = refl
  applied-wkui (ReceiveError j n) = refl

  -- ---- the timer

  module _ (l : k.timer < 65536) where
    time_by : (b : Bool) → k.timer ≡ (k.timer + pick b 0 0) % 65536
    time_by true = omega arith
    time_by false = omega arith

    same-time : k.timer ≡ (k.timer + pick (eqb (mode_bits k.mode) 0) 0 0) % 65536
    same-time = time_by (eqb (mode_bits k.mode) 0)

    ticked-time : (m : Mode) (n : ℕ) → pick (is_normal m && true) ((k.timer + n) % 65536) k.timer ≡ (k.timer + pick (eqb (mode_bits m) 0) n 0) % 65536
    ticked-time Normal n = refl
    ticked-time Initialization n = time_by true
    ticked-time Sleep n = time_by true

    write_time : (o w : ℕ) → ttcm (control_written o k w) ≡ true → (control_written o k w).timer ≡ k.timer
    unfolding master_reset mcr_written msr_written ier_written btr_written
    write_time o w h = go (eqb o 0x000) (bit 15 w) (eqb o 0x004) (eqb o 0x014) (eqb o 0x01C) h
      where
        go : (a m n i j : Bool) → ttcm (pick a (pick m (master_reset k) (mcr_written k w)) (pick n (msr_written k w) (pick i (ier_written k w) (pick j (btr_written k w) k)))) ≡ true
            → (pick a (pick m (master_reset k) (mcr_written k w)) (pick n (msr_written k w) (pick i (ier_written k w) (pick j (btr_written k w) k)))).timer ≡ k.timer
        go true true n i j h = absurd (false≢true h)
        go true false n i j h = rw (sym (ttcm_masked w) ∙ h)
        go false m true i j h = refl
        go false m false true j h = refl
        go false m false false true h = refl
        go false m false false false h = refl

    applied-time : (s : steps.Step) → ttcm (applied c v s).control ≡ true → (applied c v s).control.timer ≡ (k.timer + pick (eqb (mode_bits k.mode) 0) (bit_times s) 0) % 65536
    unfolding applied reset control_reset idled counted entered ticked woken errors_changed
    applied-time Reset h = absurd (false≢true h)
    applied-time (Read o) h = same-time
    applied-time (Write o w) h = rw (control-written o c w) (write_time o w (rw (control-written o c w) at h) ∙ same-time)
    applied-time Idle h = same-time
    applied-time (BitTimes n) h = rw h (ticked-time k.mode n)
    applied-time Activity h = same-time
    applied-time Start h = (start-same _ c).timer ∙ same-time
    applied-time (Outcome r) h = (end_same _ c v r).timer ∙ same-time
    applied-time (Receive x) h = same-time
    applied-time (ReceiveError j n) h = same-time

-- ---- the laws

settled_free : (d : Core) → is_free (settled d) ≡ is_free d
unfolding settled
settled_free d = refl

not-not : (b c : Bool) → not b ≡ c → b ≡ not c
not-not true c h = ap not h
not-not false c h = ap not h

module _ (z : Controller) (s : steps.Step) (h : Done z s) where
  abbrev y : Controller
  y = next_of z s

  abbrev d : Core
  d = applied z.core z.banks s

  abbrev x : Bool
  x = not (writes_one 0x004 4 s) && z.core.control.slaki

  way : Went z.core d x (is_idle s) (resets s)
  way = went z.core z.banks s (accepted z s h)

  after-mode : y.core.control.mode ≡ ruled d
  after-mode = rw (done-core z s h) (settled-mode d)

  after-ier : ier y ≡ d.control.ier
  after-ier = rw (ier-shown y, done-core z s h) (rule_left d).ier

  after-timer : y.core.control.timer ≡ d.control.timer
  after-timer = rw (done-core z s h) (rule_left d).timer

  after_free : is_free y.core ≡ is_free d
  after_free = rw (done-core z s h) (settled_free d)

  after-mcr : mcr y ≡ d.control.mcr
  after-mcr = rw (mcr-shown y, done-core z s h) (rule_left d).mcr

  free_by_txm : (b : Bool) → read.txm y ≡ b → is_free d ≡ not b
  free_by_txm b e = sym after_free ∙ not-not (is_free y.core) b (sym (txm-read y) ∙ e)

  by_mcr : (i : ℕ) (b : Bool) → bit i (mcr y) ≡ b → bit i d.control.mcr ≡ b
  by_mcr i b e = rw after-mcr at e

  mode-shown : (m : Mode) → ruled d ≡ m → read.mode y ≡ mode_bits m
  mode-shown m e = shown-mode y ∙ ap mode_bits (after-mode ∙ e)

  mode-kept : ruled d ≡ z.core.control.mode → read.mode y ≡ read.mode z
  mode-kept e = mode-shown _ e ∙ sym (shown-mode z)

  mode-rule : ModeRule z s y
  mode-rule = record {
    busy = λ t. mode-kept (rule-busy z.core d x (is_idle s) (resets s) way (free_by_txm true t));
    initialization = λ t a b. mode-shown Initialization (rule-initialization z.core d x (is_idle s) (resets s) (free_by_txm false t) (by_mcr 0 true a) (by_mcr 1 false b));
    asleep = λ t a b. mode-shown Sleep (rule-asleep z.core d x (is_idle s) (resets s) (free_by_txm false t) (by_mcr 0 false a) (by_mcr 1 true b));
    both = λ t a b. mode-kept (rule-both z.core d x (is_idle s) (resets s) way (free_by_txm false t) (by_mcr 0 true a) (by_mcr 1 true b));
    neither = λ t a b. shown-mode y ∙ (ap mode_bits after-mode
        ∙ (rule-neither z.core d x (is_idle s) (resets s) way (free_by_txm false t) (by_mcr 0 false a) (by_mcr 1 false b)
        ∙ ap (λ (n : ℕ). pick (is_idle s) 0 n) (sym (shown-mode z))));
  }

  slak-ruled : (b : Bool) → read.slak y ≡ b → is_sleep (ruled d) ≡ b
  slak-ruled b e = sym (ap is_sleep after-mode) ∙ (sym (slak-read y) ∙ e)

  after-slaki : read.slaki y ≡ (settled d).control.slaki
  after-slaki = rw (shown-slaki y, done-core z s h)

  sleep_flag_lem : InRange z → InRange y → SleepFlag z s y
  sleep_flag_lem p q = record {
    awake = λ e. shown-slaki y ∙ awake y.core.control.slaki q.core.control.slaki (sym (slak-read y) ∙ e);
    reset = λ r. after-slaki ∙ slaki-reset z.core d x (is_idle s) (resets s) way r;
    entered = λ r a b. after-slaki ∙ (slaki-entered z.core d x (is_idle s) (resets s) way r (none (sym (slak-read z) ∙ a)) (sym (slak-read z) ∙ a) (slak-ruled true b)
        ∙ ap (λ (w : ℕ). bit 17 w) (sym after-ier));
    stayed = λ r a b. after-slaki ∙ (slaki-stayed z.core d x (is_idle s) (resets s) way r (sym (slak-read z) ∙ a) (slak-ruled true b)
        ∙ ap (λ (q : Bool). not (writes_one 0x004 4 s) && q) (sym (shown-slaki z)));
  }
    where
      awake : {a : Bool} (b : Bool) → (b ≡ true → a ≡ true) → a ≡ false → b ≡ false
      awake true f e = opposed (f refl) e
      awake false f e = refl

      none : is_sleep z.core.control.mode ≡ false → x ≡ false
      none e = ap (λ (q : Bool). not (writes_one 0x004 4 s) && q) (awake z.core.control.slaki p.core.control.slaki e) ∙ and-false (not (writes_one 0x004 4 s))

  timed : InRange z → InRange y → Timer z s y
  timed p q = record {
    stopped = λ e. q.core.control.stopped (rw (mcr-shown y) at e);
    runs = λ e. after-timer ∙ rw (shown-mode z) (applied-time z.core z.banks p.core.control.timer s (by_mcr 7 true e));
  }

  mode-change : InRange z → InRange y → ModeChange z s y
  mode-change p q = record {
    rule = mode-rule;
    reset_mcr = λ r. after-mcr ∙ reset_mcr_lem z.core z.banks s r;
    same_mcr = λ t. after-mcr ∙ (same_mcr_lem z.core z.banks s t ∙ sym (mcr-shown z));
    sleep_flag = sleep_flag_lem p q;
    wake_up = rw (shown-wkui y, shown-wkui z, done-core z s h) ((rule_left d).wkui ∙ applied-wkui z.core z.banks s);
    on_wire = rw (txm-read y, txm-read z, after_free) (applied-wire z.core z.banks s (accepted z s h));
    timed = timed p q;
  }

-- ---- activity

woken-mcr : (a b : Bool) (w : ℕ) → bit 1 w ≡ b
    → (bit 1 (pick a (pick b (w - 2) w) w) ≡ (b && not a)) × (pick a (pick b (w - 2) w) w + 2 * one (b && a) ≡ w)
woken-mcr true true w e =
    let d : w / 2 ^ 1 % 2 ≡ 1 = eqb-true _ _ e in
    let q : (w - 2) / 2 ^ 1 % 2 ≡ 0 = omega arith in
    (ap (λ (n : ℕ). eqb n 1) q, omega arith)
woken-mcr true false w e = (e, omega arith)
woken-mcr false true w e = (e, omega arith)
woken-mcr false false w e = (e, omega arith)

wake : (z : Controller) → Done z Activity → Wake z (next_of z Activity)
unfolding applied woken
wake z h =
    let m : mcr (next_of z Activity) ≡ pick (awum z.core.control) (sleep_cleared z.core.control.mcr) z.core.control.mcr = after-mcr z Activity h in
    let w = woken-mcr (awum z.core.control) (sleep z.core.control) z.core.control.mcr refl in
    record { clears = rw (m, mcr-shown z) w.0; rest = rw (m, mcr-shown z) w.1 }

pub modes : (z : Controller) (s : steps.Step) → InRange z → StepRange s → Modes z s
modes z s i l = record { before = mode-status z; change = λ h. mode-change z s h i (step-in_range z s i l); wake = wake z }
