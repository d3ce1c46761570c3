-- What was written to a control register or a filter word reads back, and no other step but a reset changes it.
use Rattle.std.proofs.Common.{Option, Some, None}
use mathlib.Core.Bool.{Bool, true, false, true≢false}
use mathlib.Core.List.{List, [], ◌∷◌}
use mathlib.Core.Path.{◌≡◌, refl, sym, ap, subst, ◌∙◌}
use Prim.Native.Nat.{ℕ, zero, suc, ◌+◌, ◌*◌, ◌-◌, ◌/◌, ◌%◌, ◌^◌, ◌<◌}
use native.Mathlib.Omega.{arith}
use lib.Dec.{eqb, ltb}
use lib.ListN.{get_or-replicate}
use borrow.Author.Tests.{eqb-true, eqb-false, ne_eqb, ltb-true}
use Rattle.base.specs.Base.{pick, bit, bits, one}
use Rattle.model.specs.Control.{awum, sleep_cleared, entered, idled, counted, ticked, woken, errors_changed, master_reset, mcr_written, msr_written, ier_written, btr_written, mcr_masked, ier_masked, btr_masked}
use Rattle.model.specs.Registers.{register_at, is_absent, reset, core_reset, written, write_refusal, read_word, filter_masked, bank_word, bank_count}
use Rattle.model.specs.Step.{step, answered, refusal, word_of, applied, settled, stored_by, started_by, ended_by}
use Rattle.model.specs.Codes.{offset_of, IsPresent, reads}
use Rattle.model.specs.ReadBack.{Accepts, after_write, Within, ReadBack, sets, Stays, OnlyWrites, has, ResetWords}
use Rattle.model.specs.declared.Mailbox.TheVariants.{M0, M1, M2}
use Rattle.model.specs.declared.Bank.{Bank}
use Rattle.model.specs.declared.Fifo.TheVariants.{F0, F1}
use Rattle.model.specs.declared.Filters.{Filters}
use Rattle.model.specs.declared.Core.{Core}
use Rattle.model.specs.declared.Controller.{Controller}
use Rattle.model.specs.declared.Register.{Register}
use Rattle.model.specs.declared.Register.TheVariants.{Mcr, Msr, Tsr, Rfr, Ier, Esr, Btr, Ti, Tdt, Tdl, Tdh, Ri, Rdt, Rdl, Rdh, Fmr, Fm1r, Fs1r, Ffa1r, Fa1r, R1, R2, Absent}
use Rattle.model.specs.declared.Step as steps
use Rattle.model.specs.declared.Step.TheVariants.{Reset, Read, Write, Idle, BitTimes, Activity, Start, Outcome, Receive, ReceiveError}
use Rattle.base.proofs.Choices.{pick_cases, or_l, or_r}
use Rattle.model.proofs.Computed.{everything}
use Rattle.model.proofs.MaskedBits.{next_bit, mcr-bits, ier-bits, btr-bits, filter-bits}
use Rattle.model.proofs.RegisterAccess.{read_word_lem, write_core, accepts, elsewhere, step_keeps}
use Rattle.model.proofs.DoneSteps.{rule_left}
use Rattle.model.specs.declared.Mailbox.{Mailbox}

-- ---- read back

-- the part f of the core is the register's word, and the rule of writes makes it x
module _ (r : Register) (f : Core → ℕ) (p : IsPresent r) (a : is_absent r ≡ false) (word : (c : Core) (v : List ℕ) → read_word r c v ≡ f c)
    (rule : (c : Core) → f (settled c) ≡ f c) where
  back : (z : Controller) (w : ℕ) → Accepts z r w → reads (after_write z r w) r ≡ f (written r z.core w)
  back z w h = read_word_lem r (after_write z r w) p a ∙ word _ _ ∙ ap f (write_core r z w p h) ∙ rule (written r z.core w)

  stays : (z : Controller) (s : steps.Step) → ((step z s).code ≡ 0 → f (applied z.core z.banks s) ≡ f z.core) → Stays z s r
  stays z s h = read_word_lem r (step z s).controller p a ∙ word _ _ ∙ step_keeps f z s rule h ∙ sym (read_word_lem r z p a ∙ word _ _)

mcr-back : (z : Controller) (w : ℕ) → bit 15 w ≡ false → reads (after_write z Mcr w) Mcr ≡ mcr_masked w
unfolding read_word written write_refusal mcr_written
mcr-back z w h = back Mcr (λ c. c.control.mcr) tt refl (λ c v. refl) (λ c. (rule_left c).mcr) z w (accepts Mcr z w tt refl) ∙ rw h

ier-back : (z : Controller) (w : ℕ) → reads (after_write z Ier w) Ier ≡ ier_masked w
unfolding read_word written write_refusal ier_written
ier-back z w = back Ier (λ c. c.control.ier) tt refl (λ c v. refl) (λ c. (rule_left c).ier) z w (accepts Ier z w tt refl)

btr-back : (z : Controller) (w : ℕ) → Accepts z Btr w → reads (after_write z Btr w) Btr ≡ btr_masked w
unfolding read_word written btr_written
btr-back z w h = back Btr (λ c. c.control.btr) tt refl (λ c v. refl) (λ c. (rule_left c).btr) z w h

fmr-back : (z : Controller) (w : ℕ) → reads (after_write z Fmr w) Fmr ≡ 0x2A1C0E00 + one (bit 0 w)
unfolding read_word written write_refusal settled
fmr-back z w = back Fmr (λ c. 0x2A1C0E00 + one c.filters.finit) tt refl (λ c v. refl) (λ c. refl) z w (accepts Fmr z w tt refl)

fm1r-back : (z : Controller) (w : ℕ) → Accepts z Fm1r w → reads (after_write z Fm1r w) Fm1r ≡ filter_masked w
unfolding read_word written settled
fm1r-back z w h = back Fm1r (λ c. c.filters.mode) tt refl (λ c v. refl) (λ c. refl) z w h

fs1r-back : (z : Controller) (w : ℕ) → Accepts z Fs1r w → reads (after_write z Fs1r w) Fs1r ≡ filter_masked w
unfolding read_word written settled
fs1r-back z w h = back Fs1r (λ c. c.filters.scale) tt refl (λ c v. refl) (λ c. refl) z w h

ffa1r-back : (z : Controller) (w : ℕ) → Accepts z Ffa1r w → reads (after_write z Ffa1r w) Ffa1r ≡ filter_masked w
unfolding read_word written settled
ffa1r-back z w h = back Ffa1r (λ c. c.filters.assignment) tt refl (λ c v. refl) (λ c. refl) z w h

fa1r-back : (z : Controller) (w : ℕ) → reads (after_write z Fa1r w) Fa1r ≡ filter_masked w
unfolding read_word written write_refusal settled
fa1r-back z w = back Fa1r (λ c. c.filters.activation) tt refl (λ c v. refl) (λ c. refl) z w (accepts Fa1r z w tt refl)

-- one bit as a number
one-bit_of : (w : ℕ) → one (bit 0 w) ≡ bits 0 1 w
one-bit_of w = go (bit 0 w) refl
  where
    go : (b : Bool) → bit 0 w ≡ b → one b ≡ w / 2 ^ 0 % 2 ^ 1
    go true e = let k : w / 2 ^ 0 % 2 ≡ 1 = eqb-true _ _ e in omega arith
    go false e = low (eqb-false _ _ e)
      where
        low : (w / 2 ^ 0 % 2 ≡ 1 → ⊥) → 0 ≡ w / 2 ^ 0 % 2 ^ 1
        low n = omega arith

pub read_back : (z : Controller) (w : ℕ) → ReadBack z w
read_back z w = record {
  mcr = λ h. subst (λ (x : ℕ). Within 0x000100FF w x) (sym (mcr-back z w h)) (mcr-bits w);
  ier = subst (λ (x : ℕ). Within 0x00038F7F w x) (sym (ier-back z w)) (ier-bits w);
  btr = λ h. subst (λ (x : ℕ). Within 0xC37F03FF w x) (sym (btr-back z w h)) (btr-bits w);
  fmr = fmr-back z w ∙ ap (λ (x : ℕ). 0x2A1C0E00 + x) (one-bit_of w);
  fm1r = λ h. subst (λ (x : ℕ). Within 0x3FFF w x) (sym (fm1r-back z w h)) (filter-bits w);
  fs1r = λ h. subst (λ (x : ℕ). Within 0x3FFF w x) (sym (fs1r-back z w h)) (filter-bits w);
  ffa1r = λ h. subst (λ (x : ℕ). Within 0x3FFF w x) (sym (ffa1r-back z w h)) (filter-bits w);
  fa1r = subst (λ (x : ℕ). Within 0x3FFF w x) (sym (fa1r-back z w)) (filter-bits w);
}

-- ---- no other step

-- MCR but for SLEEP, IER, BTR and the filters are what they were
record Unchanged (c d : Core) : Type 0 where
  mcr : (i : ℕ) → eqb i 1 ≡ false → bit i d.control.mcr ≡ bit i c.control.mcr
  ier : d.control.ier ≡ c.control.ier
  btr : d.control.btr ≡ c.control.btr
  filters : d.filters ≡ c.filters

-- a step that does not set the register keeps it
record Left (s : steps.Step) (c d : Core) : Type 0 where
  mcr : sets s Mcr ≡ false → (i : ℕ) → eqb i 1 ≡ false → bit i d.control.mcr ≡ bit i c.control.mcr
  ier : sets s Ier ≡ false → d.control.ier ≡ c.control.ier
  btr : sets s Btr ≡ false → d.control.btr ≡ c.control.btr
  fmr : sets s Fmr ≡ false → d.filters.finit ≡ c.filters.finit
  fm1r : sets s Fm1r ≡ false → d.filters.mode ≡ c.filters.mode
  fs1r : sets s Fs1r ≡ false → d.filters.scale ≡ c.filters.scale
  ffa1r : sets s Ffa1r ≡ false → d.filters.assignment ≡ c.filters.assignment
  fa1r : sets s Fa1r ≡ false → d.filters.activation ≡ c.filters.activation

left : (s : steps.Step) (c d : Core) → Unchanged c d → Left s c d
left s c d u = record {
  mcr = λ _. u.mcr;
  ier = λ _. u.ier;
  btr = λ _. u.btr;
  fmr = λ _. ap (λ (g : Filters). g.finit) u.filters;
  fm1r = λ _. ap (λ (g : Filters). g.mode) u.filters;
  fs1r = λ _. ap (λ (g : Filters). g.scale) u.filters;
  ffa1r = λ _. ap (λ (g : Filters). g.assignment) u.filters;
  fa1r = λ _. ap (λ (g : Filters). g.activation) u.filters;
}

mcr_left : (o : ℕ) (c d : Core) (w : ℕ) → register_at o ≡ Mcr → d.control.ier ≡ c.control.ier → d.control.btr ≡ c.control.btr → d.filters ≡ c.filters → Left (Write o w) c d
mcr_left o c d w e i b g = record {
  mcr = λ h. elsewhere o Mcr e refl h;
  ier = λ _. i;
  btr = λ _. b;
  fmr = λ _. ap (λ (g : Filters). g.finit) g;
  fm1r = λ _. ap (λ (g : Filters). g.mode) g;
  fs1r = λ _. ap (λ (g : Filters). g.scale) g;
  ffa1r = λ _. ap (λ (g : Filters). g.assignment) g;
  fa1r = λ _. ap (λ (g : Filters). g.activation) g;
}

written_left : (r : Register) (o : ℕ) (c : Core) (w : ℕ) → register_at o ≡ r → Left (Write o w) c (written r c w)
unfolding written core_reset master_reset mcr_written msr_written ier_written btr_written
written_left Mcr o c w e =
    pick_cases (λ (d : Core). Left (Write o w) c d) (bit 15 w) _ _
    (λ _. mcr_left o c (core_reset c) w e refl refl refl)
    (λ _. mcr_left o c _ w e refl refl refl)
written_left Msr o c w e = left (Write o w) c _ (record { mcr = λ i n. refl; ier = refl; btr = refl; filters = refl })
written_left Tsr o c w e = left (Write o w) c _ (record { mcr = λ i n. refl; ier = refl; btr = refl; filters = refl })
written_left (Rfr F0) o c w e = left (Write o w) c _ (record { mcr = λ i n. refl; ier = refl; btr = refl; filters = refl })
written_left (Rfr F1) o c w e = left (Write o w) c _ (record { mcr = λ i n. refl; ier = refl; btr = refl; filters = refl })
written_left Ier o c w e = record { mcr = λ _ i n. refl; ier = elsewhere o Ier e refl; btr = λ _. refl; fmr = λ _. refl; fm1r = λ _. refl; fs1r = λ _. refl; ffa1r = λ _. refl; fa1r = λ _. refl }
written_left Esr o c w e = left (Write o w) c _ (record { mcr = λ i n. refl; ier = refl; btr = refl; filters = refl })
written_left Btr o c w e = record { mcr = λ _ i n. refl; ier = λ _. refl; btr = elsewhere o Btr e refl; fmr = λ _. refl; fm1r = λ _. refl; fs1r = λ _. refl; ffa1r = λ _. refl; fa1r = λ _. refl }
written_left (Ti m) o c w e = left (Write o w) c _ (record { mcr = λ i n. refl; ier = refl; btr = refl; filters = refl })
written_left (Tdt m) o c w e = left (Write o w) c _ (record { mcr = λ i n. refl; ier = refl; btr = refl; filters = refl })
written_left (Tdl m) o c w e = left (Write o w) c _ (record { mcr = λ i n. refl; ier = refl; btr = refl; filters = refl })
written_left (Tdh m) o c w e = left (Write o w) c _ (record { mcr = λ i n. refl; ier = refl; btr = refl; filters = refl })
written_left (Ri f) o c w e = left (Write o w) c _ (record { mcr = λ i n. refl; ier = refl; btr = refl; filters = refl })
written_left (Rdt f) o c w e = left (Write o w) c _ (record { mcr = λ i n. refl; ier = refl; btr = refl; filters = refl })
written_left (Rdl f) o c w e = left (Write o w) c _ (record { mcr = λ i n. refl; ier = refl; btr = refl; filters = refl })
written_left (Rdh f) o c w e = left (Write o w) c _ (record { mcr = λ i n. refl; ier = refl; btr = refl; filters = refl })
written_left Fmr o c w e = record { mcr = λ _ i n. refl; ier = λ _. refl; btr = λ _. refl; fmr = elsewhere o Fmr e refl; fm1r = λ _. refl; fs1r = λ _. refl; ffa1r = λ _. refl; fa1r = λ _. refl }
written_left Fm1r o c w e = record { mcr = λ _ i n. refl; ier = λ _. refl; btr = λ _. refl; fmr = λ _. refl; fm1r = elsewhere o Fm1r e refl; fs1r = λ _. refl; ffa1r = λ _. refl; fa1r = λ _. refl }
written_left Fs1r o c w e = record { mcr = λ _ i n. refl; ier = λ _. refl; btr = λ _. refl; fmr = λ _. refl; fm1r = λ _. refl; fs1r = elsewhere o Fs1r e refl; ffa1r = λ _. refl; fa1r = λ _. refl }
written_left Ffa1r o c w e = record { mcr = λ _ i n. refl; ier = λ _. refl; btr = λ _. refl; fmr = λ _. refl; fm1r = λ _. refl; fs1r = λ _. refl; ffa1r = elsewhere o Ffa1r e refl; fa1r = λ _. refl }
written_left Fa1r o c w e = record { mcr = λ _ i n. refl; ier = λ _. refl; btr = λ _. refl; fmr = λ _. refl; fm1r = λ _. refl; fs1r = λ _. refl; ffa1r = λ _. refl; fa1r = elsewhere o Fa1r e refl }
written_left (R1 b) o c w e = left (Write o w) c _ (record { mcr = λ i n. refl; ier = refl; btr = refl; filters = refl })
written_left (R2 b) o c w e = left (Write o w) c _ (record { mcr = λ i n. refl; ier = refl; btr = refl; filters = refl })
written_left Absent o c w e = left (Write o w) c _ (record { mcr = λ i n. refl; ier = refl; btr = refl; filters = refl })

started_unchanged : (v : Option Mailbox) (c : Core) → Unchanged c (started_by v c)
unfolding started_by
started_unchanged None c = record { mcr = λ i n. refl; ier = refl; btr = refl; filters = refl }
started_unchanged (Some m) c = record { mcr = λ i n. refl; ier = refl; btr = refl; filters = refl }

ended_unchanged : (x : Option Mailbox) (c : Core) (v : List ℕ) (n : ℕ) → Unchanged c (ended_by x c v n)
unfolding ended_by stored_by errors_changed
ended_unchanged None c v n = record { mcr = λ i n. refl; ier = refl; btr = refl; filters = refl }
ended_unchanged (Some m) c v n = record { mcr = λ i n. refl; ier = refl; btr = refl; filters = refl }

-- SLEEP cleared: no other bit changes
sleep_cleared_lem : (w i : ℕ) → w / 2 ^ 1 % 2 ≡ 1 → eqb i 1 ≡ false → bit i (w - 2) ≡ bit i w
sleep_cleared_lem w zero h n = let e : (w - 2) / 2 ^ 0 % 2 ≡ w / 2 ^ 0 % 2 = omega arith in ap (λ (x : ℕ). eqb x 1) e
sleep_cleared_lem w (suc zero) h n = absurd (true≢false n)
sleep_cleared_lem w (suc (suc i)) h n =
    let e : (w - 2) / 2 / 2 ≡ w / 2 / 2 = omega arith in
    next_bit (suc i) (w - 2) ∙ next_bit i ((w - 2) / 2) ∙ ap (λ (x : ℕ). bit i x) e ∙ sym (next_bit (suc i) w ∙ next_bit i (w / 2))

wake_left : (w : ℕ) (b : Bool) (i : ℕ) → eqb i 1 ≡ false → bit i (pick b (sleep_cleared w) w) ≡ bit i w
wake_left w true i n = pick_cases (λ (x : ℕ). bit i x ≡ bit i w) (bit 1 w) (w - 2) w (λ e. sleep_cleared_lem w i (eqb-true _ _ e) n) (λ _. refl)
wake_left w false i n = refl

applied_left : (s : steps.Step) (c : Core) (v : List ℕ) → Left s c (applied c v s)
unfolding applied stored_by idled entered counted ticked woken errors_changed
applied_left Reset c v = record { mcr = λ h. absurd (true≢false h); ier = λ h. absurd (true≢false h); btr = λ h. absurd (true≢false h); fmr = λ h. absurd (true≢false h); fm1r = λ h. absurd (true≢false h); fs1r = λ h. absurd (true≢false h); ffa1r = λ h. absurd (true≢false h); fa1r = λ h. absurd (true≢false h) }
applied_left (Read o) c v = left (Read o) c c (record { mcr = λ i n. refl; ier = refl; btr = refl; filters = refl })
applied_left (Write o w) c v = written_left (register_at o) o c w refl
applied_left Idle c v = left Idle c _ (record { mcr = λ i n. refl; ier = refl; btr = refl; filters = refl })
applied_left (BitTimes n) c v = left (BitTimes n) c _ (record { mcr = λ i n. refl; ier = refl; btr = refl; filters = refl })
applied_left Activity c v = left Activity c _ (record { mcr = wake_left c.control.mcr (awum c.control); ier = refl; btr = refl; filters = refl })
applied_left Start c v = left Start c _ (started_unchanged _ c)
applied_left (Outcome n) c v = left (Outcome n) c _ (ended_unchanged c.transmit.queue.transmitting c v n)
applied_left (Receive x) c v = left (Receive x) c _ (record { mcr = λ i n. refl; ier = refl; btr = refl; filters = refl })
applied_left (ReceiveError k n) c v = left (ReceiveError k n) c _ (record { mcr = λ i n. refl; ier = refl; btr = refl; filters = refl })

pub only-writes : (z : Controller) (s : steps.Step) → OnlyWrites z s
unfolding read_word settled
only-writes z s =
    let u = applied_left s z.core z.banks in
    let k : reads (step z s).controller Mcr ≡ (step z s).controller.core.control.mcr = read_word_lem Mcr (step z s).controller tt refl in
    record {
      mcr = λ h i n. ap (λ (w : ℕ). bit i w) k ∙ step_keeps (λ (c : Core). bit i c.control.mcr) z s (λ c. ap (λ (w : ℕ). bit i w) (rule_left c).mcr) (λ _. u.mcr h i n) ∙ sym (ap (λ (w : ℕ). bit i w) (read_word_lem Mcr z tt refl));
      ier = λ h. stays Ier (λ c. c.control.ier) tt refl (λ c v. refl) (λ c. (rule_left c).ier) z s (λ _. u.ier h);
      btr = λ h. stays Btr (λ c. c.control.btr) tt refl (λ c v. refl) (λ c. (rule_left c).btr) z s (λ _. u.btr h);
      fmr = λ h. stays Fmr (λ c. 0x2A1C0E00 + one c.filters.finit) tt refl (λ c v. refl) (λ c. refl) z s (λ _. ap (λ (b : Bool). 0x2A1C0E00 + one b) (u.fmr h));
      fm1r = λ h. stays Fm1r (λ c. c.filters.mode) tt refl (λ c v. refl) (λ c. refl) z s (λ _. u.fm1r h);
      fs1r = λ h. stays Fs1r (λ c. c.filters.scale) tt refl (λ c v. refl) (λ c. refl) z s (λ _. u.fs1r h);
      ffa1r = λ h. stays Ffa1r (λ c. c.filters.assignment) tt refl (λ c v. refl) (λ c. refl) z s (λ _. u.ffa1r h);
      fa1r = λ h. stays Fa1r (λ c. c.filters.activation) tt refl (λ c v. refl) (λ c. refl) z s (λ _. u.fa1r h);
    }

-- ---- hardware reset

-- an offset other than these five
record Elsewhere (o : ℕ) : Type 0 where
  mcr : eqb o (offset_of Mcr) ≡ false
  msr : eqb o (offset_of Msr) ≡ false
  tsr : eqb o (offset_of Tsr) ≡ false
  btr : eqb o (offset_of Btr) ≡ false
  fmr : eqb o (offset_of Fmr) ≡ false

eqb_comm : (a b : ℕ) → eqb a b ≡ false → eqb b a ≡ false
eqb_comm a b h = ne_eqb b a (λ e. eqb-false a b h (sym e))

not_listed : (o : ℕ) → has (0x000 ∷ 0x004 ∷ 0x008 ∷ 0x01C ∷ 0x200 ∷ []) o ≡ false → Elsewhere o
not_listed o h =
    let a = or_r (eqb 0x000 o) _ h in
    let b = or_r (eqb 0x004 o) _ a in
    let c = or_r (eqb 0x008 o) _ b in
    let d = or_r (eqb 0x01C o) _ c in
    record {
      mcr = eqb_comm 0x000 o (or_l (eqb 0x000 o) _ h);
      msr = eqb_comm 0x004 o (or_l (eqb 0x004 o) _ a);
      tsr = eqb_comm 0x008 o (or_l (eqb 0x008 o) _ b);
      btr = eqb_comm 0x01C o (or_l (eqb 0x01C o) _ c);
      fmr = eqb_comm 0x200 o (or_l (eqb 0x200 o) _ d);
    }

no_bank_word : (b : Bank) (i : ℕ) → i < 2 → bank_word reset.banks b i ≡ 0
unfolding bank_word reset
no_bank_word b i h =
    pick_cases (λ (x : ℕ). x ≡ 0) (ltb b.0 bank_count) _ _
    (λ e. let l : b.0 < bank_count = ltb-true _ _ e in get_or-replicate (2 * bank_count) (2 * b.0 + i) 0 0 (omega arith))
    (λ _. refl)

zero_word : (r : Register) (o : ℕ) → register_at o ≡ r → Elsewhere o → read_word r reset.core reset.banks ≡ 0
unfolding everything
zero_word Mcr o e h = elsewhere o Mcr e refl h.mcr
zero_word Msr o e h = elsewhere o Msr e refl h.msr
zero_word Tsr o e h = elsewhere o Tsr e refl h.tsr
zero_word (Rfr F0) o e h = refl
zero_word (Rfr F1) o e h = refl
zero_word Ier o e h = refl
zero_word Esr o e h = refl
zero_word Btr o e h = elsewhere o Btr e refl h.btr
zero_word (Ti M0) o e h = refl
zero_word (Ti M1) o e h = refl
zero_word (Ti M2) o e h = refl
zero_word (Tdt M0) o e h = refl
zero_word (Tdt M1) o e h = refl
zero_word (Tdt M2) o e h = refl
zero_word (Tdl M0) o e h = refl
zero_word (Tdl M1) o e h = refl
zero_word (Tdl M2) o e h = refl
zero_word (Tdh M0) o e h = refl
zero_word (Tdh M1) o e h = refl
zero_word (Tdh M2) o e h = refl
zero_word (Ri F0) o e h = refl
zero_word (Ri F1) o e h = refl
zero_word (Rdt F0) o e h = refl
zero_word (Rdt F1) o e h = refl
zero_word (Rdl F0) o e h = refl
zero_word (Rdl F1) o e h = refl
zero_word (Rdh F0) o e h = refl
zero_word (Rdh F1) o e h = refl
zero_word Fmr o e h = elsewhere o Fmr e refl h.fmr
zero_word Fm1r o e h = refl
zero_word Fs1r o e h = refl
zero_word Ffa1r o e h = refl
zero_word Fa1r o e h = refl
zero_word (R1 b) o e h = no_bank_word b 0 (omega arith)
zero_word (R2 b) o e h = no_bank_word b 1 (omega arith)
zero_word Absent o e h = refl

reset-again : (z : Controller) → (step z Reset).controller ≡ reset
unfolding everything
reset-again z = refl

reset-read : (o : ℕ) → Elsewhere o → (step reset (Read o)).word ≡ 0
unfolding step answered refusal word_of
reset-read o h = pick_cases (λ (x : ℕ). x ≡ 0) (eqb (refusal reset.core (Read o)) 0) _ _ (λ _. zero_word (register_at o) o refl h) (λ _. refl)

pub reset_words_lem : (z : Controller) → ResetWords z
unfolding everything
reset_words_lem z = record {
  mcr = refl;
  msr = refl;
  tsr = refl;
  btr = refl;
  fmr = refl;
  others = λ o h. ap (λ (y : Controller). (step y (Read o)).word) (reset-again z) ∙ reset-read o (not_listed o h);
}
