-- Control words, modes and error counters stay in their ranges.
use mathlib.Core.Bool.{Bool, true, false, not, ◌&&◌, ◌||◌, and-false, or-true, false≢true}
use mathlib.Core.Path.{◌≡◌, refl, sym, ◌∙◌}
use Prim.Native.Nat.{ℕ, ◌+◌, ◌-◌, ◌%◌, ◌^◌, ◌<◌, ◌≤◌}
use native.Mathlib.Omega.{arith}
use lib.Dec.{eqb, ltb, leb}
use borrow.Author.Tests.{eqb-false, ltb-false, leb-false, not-true}
use Rattle.base.specs.Base.{pick, bit, bits}
use Rattle.model.specs.Control.{inrq, sleep, ttcm, awum, is_sleep, is_initialization, is_normal, boff, mode_next, entered, settled, master_reset, mcr_masked, mcr_written, msr_written, ier_written, btr_written, esr_written, idle_counts, recovers, counted, idle_mode, idled, idle_errors, ticked, woken, outcome_errors, received_errors, rec_plus, receive_error_counters, errors_changed}
use Rattle.model.specs.Reachable.{ControlRange, ErrorRange, RecoveryRange}
use Rattle.model.specs.declared.Mode.{Mode}
use Rattle.model.specs.declared.Mode.TheVariants.{Sleep, Initialization, Normal}
use Rattle.model.specs.declared.Control.{Control}
use Rattle.model.specs.declared.Errors.{Errors}
use Rattle.base.proofs.Choices.{pick_cases, and_l, and_r, opposed}
use Rattle.model.proofs.Masks.{mcr_masked_lem, ier_masked_lem, btr_masked_lem, ttcm_masked, sleep_cleared_lem, ttcm-kept}

-- ---- register writes

module _ (k : Control) (r : ControlRange k) where
  pub mcr_written-range : (w : ℕ) → ControlRange (mcr_written k w)
  unfolding mcr_written
  mcr_written-range w = record {
    mcr = mcr_masked_lem w;
    ier = r.ier;
    btr = r.btr;
    timer = pick_cases (λ (t : ℕ). t < 65536) (bit 7 w) k.timer 0 (λ _. r.timer) (λ _. omega arith);
    stopped = λ off. let e : bit 7 w ≡ false = sym (ttcm_masked w) ∙ off in rw e;
    recovery = r.recovery;
    slaki = r.slaki;
  }

  pub msr_written-range : (w : ℕ) → ControlRange (msr_written k w)
  unfolding msr_written
  msr_written-range w = record {
    mcr = r.mcr;
    ier = r.ier;
    btr = r.btr;
    timer = r.timer;
    stopped = r.stopped;
    recovery = r.recovery;
    slaki = λ on. r.slaki (and_l k.slaki (not (bit 4 w)) on);
  }

  pub ier_written-range : (w : ℕ) → ControlRange (ier_written k w)
  unfolding ier_written
  ier_written-range w = record { mcr = r.mcr; ier = ier_masked_lem w; btr = r.btr; timer = r.timer; stopped = r.stopped; recovery = r.recovery; slaki = r.slaki }

  pub btr_written-range : (w : ℕ) → ControlRange (btr_written k w)
  unfolding btr_written
  btr_written-range w = record { mcr = r.mcr; ier = r.ier; btr = btr_masked_lem w; timer = r.timer; stopped = r.stopped; recovery = r.recovery; slaki = r.slaki }

  pub master_reset-range : ControlRange (master_reset k)
  unfolding master_reset
  master_reset-range = record { mcr = refl; ier = r.ier; btr = r.btr; timer = omega arith; stopped = λ _. refl; recovery = omega arith; slaki = λ _. refl }

  -- ---- modes

  slaki-entered : (m : Mode) (off : Bool) → (entered k m off).slaki ≡ true → is_sleep m ≡ true
  unfolding entered
  slaki-entered Sleep off on = refl
  slaki-entered Initialization off on = opposed (r.slaki (and_l k.slaki (not (is_sleep k.mode)) on)) (not-true (is_sleep k.mode) (and_r k.slaki (not (is_sleep k.mode)) on))
  slaki-entered Normal off on = opposed (r.slaki (and_l k.slaki (not (is_sleep k.mode)) on)) (not-true (is_sleep k.mode) (and_r k.slaki (not (is_sleep k.mode)) on))

  entered-recovery : (m : Mode) (off : Bool) → (entered k m off).recovery < 128
  unfolding entered
  entered-recovery m off = pick_cases (λ (n : ℕ). n < 128) (is_initialization m && not (is_initialization k.mode)) 0 k.recovery (λ _. omega arith) (λ _. r.recovery)

  pub entered-range : (m : Mode) (off : Bool) → ControlRange (entered k m off)
  unfolding entered
  entered-range m off = record {
    mcr = r.mcr;
    ier = r.ier;
    btr = r.btr;
    timer = r.timer;
    stopped = r.stopped;
    recovery = entered-recovery m off;
    slaki = slaki-entered m off;
  }

  pub settled-range : (free off : Bool) → ControlRange (settled k free off)
  unfolding settled
  settled-range true off = entered-range (mode_next k.mode (inrq k) (sleep k)) off
  settled-range false off = r

  -- ---- events

  counted-recovery : (e : Errors) → (counted k e).recovery < 128
  unfolding counted recovers
  counted-recovery e =
      pick_cases (λ (n : ℕ). n < 128) (recovers k e) 0 _ (λ _. omega arith)
      (λ no. pick_cases (λ (n : ℕ). n < 128) (idle_counts k e) _ _
      (λ yes. let few : leb 127 k.recovery ≡ false = rw yes at no in
      let f : k.recovery < 127 = leb-false _ _ few in
      omega arith)
      (λ _. r.recovery))

  counted-range : (e : Errors) → ControlRange (counted k e)
  unfolding counted
  counted-range e = record {
    mcr = r.mcr;
    ier = r.ier;
    btr = r.btr;
    timer = r.timer;
    stopped = r.stopped;
    recovery = counted-recovery e;
    slaki = r.slaki;
  }

  pub ticked-range : (n : ℕ) → ControlRange (ticked k n)
  unfolding ticked
  ticked-range n = record {
    mcr = r.mcr;
    ier = r.ier;
    btr = r.btr;
    timer = pick_cases (λ (t : ℕ). t < 65536) (is_normal k.mode && ttcm k) _ _ (λ _. omega arith) (λ _. r.timer);
    stopped = λ off. simp (off, and-false) (r.stopped off);
    recovery = r.recovery;
    slaki = r.slaki;
  }

  pub woken-range : ControlRange (woken k)
  unfolding woken
  woken-range = record {
    mcr = pick_cases (λ (w : ℕ). mcr_masked w ≡ w) (awum k) _ _ (λ _. sleep_cleared_lem k.mcr r.mcr) (λ _. r.mcr);
    ier = r.ier;
    btr = r.btr;
    timer = r.timer;
    stopped = pick_cases (λ (w : ℕ). bit 7 w ≡ false → k.timer ≡ 0) (awum k) _ _ (λ _ off. r.stopped (sym (ttcm-kept k.mcr) ∙ off)) (λ _. r.stopped);
    recovery = r.recovery;
    slaki = r.slaki;
  }

  pub errors_changed-range : (e d : Errors) (coded : Bool) → ControlRange (errors_changed k e d coded)
  unfolding errors_changed
  errors_changed-range e d coded = record {
    mcr = r.mcr;
    ier = r.ier;
    btr = r.btr;
    timer = r.timer;
    stopped = r.stopped;
    recovery = pick_cases (λ (n : ℕ). n < 128) (boff d) _ _ (λ _. omega arith) (λ _. r.recovery);
    slaki = r.slaki;
  }

pub idled-range : (k : Control) → ControlRange k → (e : Errors) → ControlRange (idled k e)
unfolding idled
idled-range k r e = entered-range (counted k e) (counted-range k r e) (idle_mode k.mode k.mcr) (boff e)

-- ---- error counters

module _ (e : Errors) (r : ErrorRange e) where
  pub esr_written-range : (w : ℕ) → ErrorRange (esr_written e w)
  unfolding esr_written
  esr_written-range w = record {
    tec = r.tec;
    rec = r.rec;
    lec = pick_cases (λ (n : ℕ). n ≤ 7) (eqb (bits 4 3 w) 7) _ _ (λ _. omega arith) (λ _. r.lec);
  }

  pub idle_errors-range : (k : Control) → ErrorRange (idle_errors k e)
  unfolding idle_errors
  idle_errors-range k = record {
    tec = pick_cases (λ (n : ℕ). n ≤ 263) (recovers k e) _ _ (λ _. omega arith) (λ _. r.tec);
    rec = pick_cases (λ (n : ℕ). n ≤ 255) (recovers k e) _ _ (λ _. omega arith) (λ _. r.rec);
    lec = r.lec;
  }

  -- a frame that was on the wire: not in bus-off
  pub outcome_errors-range : (n : ℕ) → n ≤ 8 → boff e ≡ false → ErrorRange (outcome_errors e n)
  unfolding outcome_errors
  outcome_errors-range n l on =
      let t : e.tec ≤ 255 = ltb-false _ _ on in
      pick_cases ErrorRange (eqb n 0) _ _ (λ _. record { tec = omega arith; rec = r.rec; lec = omega arith })
      (λ _. pick_cases ErrorRange (eqb n 7) _ _ (λ _. r)
      (λ _. pick_cases ErrorRange (eqb n 8) _ _ (λ _. record { tec = omega arith; rec = r.rec; lec = omega arith })
      (λ d. record { tec = omega arith; rec = r.rec; lec = omega (arith, eqb-false n 8 d) })))

  pub received_errors-range : ErrorRange (received_errors e)
  unfolding received_errors
  received_errors-range = record {
    tec = r.tec;
    rec = pick_cases (λ (n : ℕ). n ≤ 255) (ltb 128 e.rec) _ _ (λ _. omega arith) (λ _. let l : e.rec ≤ 255 = r.rec in omega arith);
    lec = omega arith;
  }

  pub receive_error_counters-range : (c n : ℕ) → c ≤ 7 → n ≤ 8 → ErrorRange (receive_error_counters e c n)
  unfolding receive_error_counters rec_plus
  receive_error_counters-range c n l j = record {
    tec = r.tec;
    rec = pick_cases (λ (x : ℕ). x ≤ 255) (ltb (255 - n) e.rec) _ _ (λ _. omega arith) (λ low. let h : e.rec ≤ 255 - n = ltb-false _ _ low in omega arith);
    lec = l;
  }

-- ---- recovery from bus-off

-- an idle event never enters Initialization
idle-not_init : (b : Bool) (m : Mode) → (is_initialization (pick b Normal m) && not (is_initialization m)) ≡ false
idle-not_init true m = refl
idle-not_init false Sleep = refl
idle-not_init false Initialization = refl
idle-not_init false Normal = refl

-- what is in Initialization after it was so before
idle_was_init : (b : Bool) (m : Mode) → is_initialization (pick b Normal m) ≡ true → is_initialization m ≡ true
idle_was_init true m h = absurd (false≢true h)
idle_was_init false m h = h

pub not-normal : (m : Mode) → is_initialization m ≡ true → is_normal m ≡ false
not-normal Sleep h = refl
not-normal Initialization h = refl
not-normal Normal h = absurd (false≢true h)

module _ (k : Control) (e : Errors) (r : RecoveryRange k e) where
  -- b: it was in Initialization before
  entered-fresh : (b : Bool) → is_initialization k.mode ≡ b → pick (not b) 0 k.recovery ≡ 0
  entered-fresh true h = r.fresh h
  entered-fresh false h = refl

  entered-begins : (b : Bool) → is_initialization k.mode ≡ b → boff e ≡ true → (k.reinitialized || (not b && boff e)) ≡ true
  entered-begins true h off = rw (r.begins h off)
  entered-begins false h off = rw off (or-true k.reinitialized)

  entered-recovery-range : (m : Mode) → RecoveryRange (entered k m (boff e)) e
  unfolding entered
  entered-recovery-range m = record {
    count = λ on. pick_cases (λ (n : ℕ). n ≡ 0) (is_initialization m && not (is_initialization k.mode)) _ _ (λ _. refl) (λ _. r.count on);
    reinitialized = λ on. simp (r.reinitialized on, on, and-false);
    fresh = λ h. rw h (entered-fresh (is_initialization k.mode) refl);
    begins = λ h off. rw h (entered-begins (is_initialization k.mode) refl off);
  }

  pub settled-recovery-range : (free : Bool) → RecoveryRange (settled k free (boff e)) e
  unfolding settled
  settled-recovery-range true = entered-recovery-range (mode_next k.mode (inrq k) (sleep k))
  settled-recovery-range false = r

  pub errors_changed-recovery-range : (d : Errors) (coded : Bool) → is_normal k.mode ≡ true → boff e ≡ false → RecoveryRange (errors_changed k e d coded) d
  unfolding errors_changed
  errors_changed-recovery-range d coded normal on = record {
    count = λ off. rw off (r.count on);
    reinitialized = λ off. rw (r.reinitialized on);
    fresh = λ h. opposed normal (not-normal k.mode h);
    begins = λ h _. opposed normal (not-normal k.mode h);
  }

  -- ---- an idle event, with the test whether it ends bus-off

  idled-count : (b : Bool) → ltb 255 (pick b 0 e.tec) ≡ false → pick b 0 (pick (idle_counts k e) ((k.recovery + 1) % 2 ^ 8) k.recovery) ≡ 0
  unfolding idle_counts
  idled-count true on = refl
  idled-count false on = rw on (r.count on)

  idled-reinitialized : (b : Bool) → ltb 255 (pick b 0 e.tec) ≡ false → (k.reinitialized && not b) ≡ false
  idled-reinitialized true on = and-false k.reinitialized
  idled-reinitialized false on = rw (r.reinitialized on)

  -- it does not count in Initialization
  not-counted : is_initialization k.mode ≡ true → idle_counts k e ≡ false
  unfolding idle_counts
  not-counted h = simp (not-normal k.mode h, and-false)

  not_recovered : is_initialization k.mode ≡ true → recovers k e ≡ false
  unfolding recovers
  not_recovered h = rw (not-counted h)

  pub idled-recovery-range : RecoveryRange (idled k e) (idle_errors k e)
  unfolding idled entered counted idle_errors idle_mode
  idled-recovery-range =
      let b : Bool = eqb (k.mcr % 4) 0 in
      record {
        count = λ on. rw (idle-not_init b k.mode) (idled-count (recovers k e) on);
        reinitialized = λ on. rw (idle-not_init b k.mode, idled-reinitialized (recovers k e) on);
        fresh = λ h. let i : is_initialization k.mode ≡ true = idle_was_init b k.mode h in
            rw (idle-not_init b k.mode, not_recovered i, not-counted i) (r.fresh i);
        begins = λ h off. let i : is_initialization k.mode ≡ true = idle_was_init b k.mode h in
            let o : boff e ≡ true = rw (not_recovered i) at off in
            rw (not_recovered i, r.begins i o);
      }
