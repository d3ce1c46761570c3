-- The words of a mailbox read back; only a write to a word, a reset and, for TIME, a start change them.
use Rattle.std.proofs.Common.{Option, Some, None}
use mathlib.Core.Bool.{Bool, true, false, not, true≢false, false≢true, not-not}
use mathlib.Core.List.{List}
use mathlib.Core.Path.{◌≡◌, refl, sym, ap, subst, ◌∙◌}
use Prim.Native.Nat.{ℕ, suc, ◌+◌, ◌*◌, ◌/◌, ◌%◌, ◌^◌, ◌<◌}
use native.Mathlib.Omega.{arith}
use lib.Dec.{eqb}
use borrow.Author.Tests.{eqb-true, eq-eqb}
use Rattle.base.specs.Base.{bit, bits, one}
use Rattle.model.specs.Queue.{number, holds}
use Rattle.model.specs.Mailboxes.{at, put, with_words, ti_written, tdt_written, tdl_written, tdh_written, tdt_masked, requested_by, cleared, completed, tsr_written, started, outcome_flags, ended}
use Rattle.model.specs.Registers.{register_at, is_absent, core_reset, written}
use Rattle.model.specs.Step.{step, answered, core_after, refusal, applied, settled, stored_by, started_by, ended_by}
use Rattle.model.specs.Shown.{ti, tme, is_start}
use Rattle.model.specs.Codes.{offset_of}
use Rattle.model.specs.ReadBack.{Accepts, after_write, Within, sets}
use Rattle.model.specs.MailboxWords.{MailboxWords, starts, MailboxStays}
use Rattle.model.specs.declared.Mailbox.{Mailbox}
use Rattle.model.specs.declared.Mailbox.TheVariants.{M0, M1, M2}
use Rattle.model.specs.declared.Fifo.TheVariants.{F0, F1}
use Rattle.model.specs.declared.MailboxState.{MailboxState}
use Rattle.model.specs.declared.Core.{Core}
use Rattle.model.specs.declared.Controller.{Controller}
use Rattle.model.specs.declared.Register.{Register}
use Rattle.model.specs.declared.Register.TheVariants.{Mcr, Msr, Tsr, Rfr, Ier, Esr, Btr, Ti, Tdt, Tdl, Tdh, Ri, Rdt, Rdl, Rdh, Fmr, Fm1r, Fs1r, Ffa1r, Fa1r, R1, R2, Absent}
use Rattle.model.specs.declared.Step as steps
use Rattle.model.specs.declared.Step.TheVariants.{Reset, Read, Write, Idle, BitTimes, Activity, Start, Outcome, Receive, ReceiveError}
use Rattle.base.proofs.Choices.{pick_cases, and_l, and_r, opposed, one-le, one_bit}
use Rattle.model.proofs.MaskedBits.{tdt-bits, next_bit}
use Rattle.model.proofs.RegisterAccess.{write_core, elsewhere, step_keeps, Starts, start-accepted}
use Rattle.model.proofs.StatusWord.{flags-shown}
use Rattle.model.proofs.ShownWords.{ti-shown, tdt-shown, tdl-shown, tdh-shown}
use Rattle.model.specs.declared.ByMailbox.{ByMailbox}

-- ---- one of three

pub put_there : (b : ByMailbox MailboxState) (m : Mailbox) (y : MailboxState) → at (put b m y) m ≡ y
put_there b M0 y = refl
put_there b M1 y = refl
put_there b M2 y = refl

-- what f shows of mailbox x is what it was, if that is so where x is the one that changed
pub put-field : {A : Type 0} (f : MailboxState → A) (b : ByMailbox MailboxState) (m : Mailbox) (y : MailboxState) (x : Mailbox) → (m ≡ x → f y ≡ f (at b m)) → f (at (put b m y) x) ≡ f (at b x)
put-field f b M0 y M0 h = h refl
put-field f b M0 y M1 h = refl
put-field f b M0 y M2 h = refl
put-field f b M1 y M0 h = refl
put-field f b M1 y M1 h = h refl
put-field f b M1 y M2 h = refl
put-field f b M2 y M0 h = refl
put-field f b M2 y M1 h = refl
put-field f b M2 y M2 h = h refl

-- ---- reads

-- bits of a TI word from bit 1 on, and bit 0
upper-bit : (x i : ℕ) (b : Bool) → bit (1 + i) (x / 2 * 2 + one b) ≡ bit (1 + i) x
upper-bit x i b =
    let e : 1 + i ≡ suc i = omega arith in
    let d : (x / 2 * 2 + one b) / 2 ≡ x / 2 = omega (arith, one-le b) in
    ap (λ (n : ℕ). bit n (x / 2 * 2 + one b)) e
    ∙ next_bit i (x / 2 * 2 + one b)
    ∙ ap (λ (y : ℕ). bit i y) d
    ∙ sym (next_bit i x)
    ∙ ap (λ (n : ℕ). bit n x) (sym e)

lower-bit : (x : ℕ) (b : Bool) → bit 0 (x / 2 * 2 + one b) ≡ b
lower-bit x b = one_bit ((x / 2 * 2 + one b) / 2 ^ 0 % 2) b (omega (arith, one-le b))

txrq-read : (z : Controller) (m : Mailbox) → bit 0 (ti m z) ≡ not (tme m z)
txrq-read z m =
    ap (λ (w : ℕ). bit 0 w) (ti-shown m z)
    ∙ lower-bit (at z.core.transmit.mailboxes m).ti (holds z.core.transmit.queue.order m)
    ∙ sym (not-not (holds z.core.transmit.queue.order m))
    ∙ ap not (sym (flags-shown z m).tme)

-- ---- read back

-- the mailbox that was written, after the write
box_written : (z : Controller) (m : Mailbox) (r : Register) (w : ℕ) (y : MailboxState) → (after_write z r w).core ≡ settled (written r z.core w)
    → (settled (written r z.core w)).transmit.mailboxes ≡ put z.core.transmit.mailboxes m y → at (after_write z r w).core.transmit.mailboxes m ≡ y
box_written z m r w y e p = ap (λ (c : Core). at c.transmit.mailboxes m) e ∙ (ap (λ (b : ByMailbox MailboxState). at b m) p ∙ put_there z.core.transmit.mailboxes m y)

ti_written_lem : (z : Controller) (m : Mailbox) (w : ℕ) → Accepts z (Ti m) w → (at (after_write z (Ti m) w).core.transmit.mailboxes m).ti ≡ w / 2 * 2
unfolding settled written requested_by ti_written
ti_written_lem z m w h = ap (λ (x : MailboxState). x.ti) (box_written z m (Ti m) w _ (write_core (Ti m) z w tt h) refl)

tdt_written_lem : (z : Controller) (m : Mailbox) (w : ℕ) → Accepts z (Tdt m) w → (at (after_write z (Tdt m) w).core.transmit.mailboxes m).tdt ≡ tdt_masked w
unfolding settled written tdt_written
tdt_written_lem z m w h = ap (λ (x : MailboxState). x.tdt) (box_written z m (Tdt m) w _ (write_core (Tdt m) z w tt h) refl)

tdl_written_lem : (z : Controller) (m : Mailbox) (w : ℕ) → Accepts z (Tdl m) w → (at (after_write z (Tdl m) w).core.transmit.mailboxes m).tdl ≡ w
unfolding settled written tdl_written
tdl_written_lem z m w h = ap (λ (x : MailboxState). x.tdl) (box_written z m (Tdl m) w _ (write_core (Tdl m) z w tt h) refl)

tdh_written_lem : (z : Controller) (m : Mailbox) (w : ℕ) → Accepts z (Tdh m) w → (at (after_write z (Tdh m) w).core.transmit.mailboxes m).tdh ≡ w
unfolding settled written tdh_written
tdh_written_lem z m w h = ap (λ (x : MailboxState). x.tdh) (box_written z m (Tdh m) w _ (write_core (Tdh m) z w tt h) refl)

even-bit : (w i : ℕ) → bit (1 + i) (w / 2 * 2) ≡ bit (1 + i) w
even-bit w i = let e : w / 2 * 2 ≡ w / 2 * 2 + one false = omega arith in ap (λ (x : ℕ). bit (1 + i) x) e ∙ upper-bit w i false

pub mailbox-words : (z : Controller) (m : Mailbox) (w : ℕ) → MailboxWords z m w
mailbox-words z m w = record {
  ti = λ h i.
      ap (λ (x : ℕ). bit (1 + i) x) (ti-shown m (after_write z (Ti m) w))
      ∙ upper-bit (at (after_write z (Ti m) w).core.transmit.mailboxes m).ti i (holds (after_write z (Ti m) w).core.transmit.queue.order m)
      ∙ ap (λ (x : ℕ). bit (1 + i) x) (ti_written_lem z m w h)
      ∙ even-bit w i;
  tdt = λ h. subst (λ (x : ℕ). Within 0xFFFF010F w x) (sym (tdt-shown m (after_write z (Tdt m) w) ∙ tdt_written_lem z m w h)) (tdt-bits w);
  tdl = λ h. tdl-shown m (after_write z (Tdl m) w) ∙ tdl_written_lem z m w h;
  tdh = λ h. tdh-shown m (after_write z (Tdh m) w) ∙ tdh_written_lem z m w h;
}

-- ---- what else changes them

abbrev box : Core → Mailbox → MailboxState
box c m = at c.transmit.mailboxes m

record Unchanged (x y : MailboxState) : Type 0 where
  ti : y.ti ≡ x.ti
  tdt : y.tdt ≡ x.tdt
  tdl : y.tdl ≡ x.tdl
  tdh : y.tdh ≡ x.tdh

-- a step keeps the words that it does not set, and all but a start the whole of TDT
record Left (s : steps.Step) (m : Mailbox) (x y : MailboxState) : Type 0 where
  ti : sets s (Ti m) ≡ false → y.ti ≡ x.ti
  tdt : sets s (Tdt m) ≡ false → is_start s ≡ false → y.tdt ≡ x.tdt
  low : sets s (Tdt m) ≡ false → y.tdt % 65536 ≡ x.tdt % 65536
  tdl : sets s (Tdl m) ≡ false → y.tdl ≡ x.tdl
  tdh : sets s (Tdh m) ≡ false → y.tdh ≡ x.tdh

left : (s : steps.Step) (m : Mailbox) (x y : MailboxState) → Unchanged x y → Left s m x y
left s m x y u = record { ti = λ _. u.ti; tdt = λ _ _. u.tdt; low = λ _. ap (λ (n : ℕ). n % 65536) u.tdt; tdl = λ _. u.tdl; tdh = λ _. u.tdh }

same : (s : steps.Step) (m : Mailbox) (x : MailboxState) → Left s m x x
same s m x = left s m x x (record { ti = refl; tdt = refl; tdl = refl; tdh = refl })

-- a mailbox is put back with other flags
put-flags : (s : steps.Step) (b : ByMailbox MailboxState) (k : Mailbox) (y : MailboxState) (m : Mailbox) → Unchanged (at b k) y → Left s m (at b m) (at (put b k y) m)
put-flags s b k y m u = left s m _ _ (record {
  ti = put-field (λ x. x.ti) b k y m (λ _. u.ti);
  tdt = put-field (λ x. x.tdt) b k y m (λ _. u.tdt);
  tdl = put-field (λ x. x.tdl) b k y m (λ _. u.tdl);
  tdh = put-field (λ x. x.tdh) b k y m (λ _. u.tdh);
})

tsr_left : (o w : ℕ) (c : Core) (m : Mailbox) → Left (Write o w) m (box c m) (at (tsr_written c.transmit w).mailboxes m)
unfolding tsr_written completed cleared
tsr_left o w c M0 = left (Write o w) M0 _ _ (record { ti = refl; tdt = refl; tdl = refl; tdh = refl })
tsr_left o w c M1 = left (Write o w) M1 _ _ (record { ti = refl; tdt = refl; tdl = refl; tdh = refl })
tsr_left o w c M2 = left (Write o w) M2 _ _ (record { ti = refl; tdt = refl; tdl = refl; tdh = refl })

-- a write to a word of mailbox k at offset o is none to that word of m
module _ (o : ℕ) (k m : Mailbox) (r : Mailbox → Register) (e : register_at o ≡ r k) (a : is_absent (r k) ≡ false) where
  another : {A : Type 0} → eqb o (offset_of (r m)) ≡ false → k ≡ m → A
  another h q = elsewhere o (r k) e a (ap (λ (x : Mailbox). eqb o (offset_of (r x))) q ∙ h)

written_left : (r : Register) (o : ℕ) (c : Core) (w : ℕ) (m : Mailbox) → register_at o ≡ r → Left (Write o w) m (box c m) (box (written r c w) m)
unfolding written core_reset requested_by ti_written tdt_written tdl_written tdh_written
written_left Mcr o c w m e =
    pick_cases (λ (d : Core). Left (Write o w) m (box c m) (box d m)) (bit 15 w) _ _ (λ _. same (Write o w) m (box c m)) (λ _. same (Write o w) m (box c m))
written_left Msr o c w m e = same (Write o w) m (box c m)
written_left Tsr o c w m e = tsr_left o w c m
written_left (Rfr F0) o c w m e = same (Write o w) m (box c m)
written_left (Rfr F1) o c w m e = same (Write o w) m (box c m)
written_left Ier o c w m e = same (Write o w) m (box c m)
written_left Esr o c w m e = same (Write o w) m (box c m)
written_left Btr o c w m e = same (Write o w) m (box c m)
written_left (Ti k) o c w m e =
    let b : (ByMailbox MailboxState) = c.transmit.mailboxes in
    record {
      ti = λ h. put-field (λ x. x.ti) b k _ m (another o k m Ti e refl h);
      tdt = λ _ _. put-field (λ x. x.tdt) b k _ m (λ _. refl);
      low = λ _. put-field (λ x. x.tdt % 65536) b k _ m (λ _. refl);
      tdl = λ _. put-field (λ x. x.tdl) b k _ m (λ _. refl);
      tdh = λ _. put-field (λ x. x.tdh) b k _ m (λ _. refl);
    }
written_left (Tdt k) o c w m e =
    let b : (ByMailbox MailboxState) = c.transmit.mailboxes in
    record {
      ti = λ _. put-field (λ x. x.ti) b k _ m (λ _. refl);
      tdt = λ h _. put-field (λ x. x.tdt) b k _ m (another o k m Tdt e refl h);
      low = λ h. put-field (λ x. x.tdt % 65536) b k _ m (another o k m Tdt e refl h);
      tdl = λ _. put-field (λ x. x.tdl) b k _ m (λ _. refl);
      tdh = λ _. put-field (λ x. x.tdh) b k _ m (λ _. refl);
    }
written_left (Tdl k) o c w m e =
    let b : (ByMailbox MailboxState) = c.transmit.mailboxes in
    record {
      ti = λ _. put-field (λ x. x.ti) b k _ m (λ _. refl);
      tdt = λ _ _. put-field (λ x. x.tdt) b k _ m (λ _. refl);
      low = λ _. put-field (λ x. x.tdt % 65536) b k _ m (λ _. refl);
      tdl = λ h. put-field (λ x. x.tdl) b k _ m (another o k m Tdl e refl h);
      tdh = λ _. put-field (λ x. x.tdh) b k _ m (λ _. refl);
    }
written_left (Tdh k) o c w m e =
    let b : (ByMailbox MailboxState) = c.transmit.mailboxes in
    record {
      ti = λ _. put-field (λ x. x.ti) b k _ m (λ _. refl);
      tdt = λ _ _. put-field (λ x. x.tdt) b k _ m (λ _. refl);
      low = λ _. put-field (λ x. x.tdt % 65536) b k _ m (λ _. refl);
      tdl = λ _. put-field (λ x. x.tdl) b k _ m (λ _. refl);
      tdh = λ h. put-field (λ x. x.tdh) b k _ m (another o k m Tdh e refl h);
    }
written_left (Ri f) o c w m e = same (Write o w) m (box c m)
written_left (Rdt f) o c w m e = same (Write o w) m (box c m)
written_left (Rdl f) o c w m e = same (Write o w) m (box c m)
written_left (Rdh f) o c w m e = same (Write o w) m (box c m)
written_left Fmr o c w m e = same (Write o w) m (box c m)
written_left Fm1r o c w m e = same (Write o w) m (box c m)
written_left Fs1r o c w m e = same (Write o w) m (box c m)
written_left Ffa1r o c w m e = same (Write o w) m (box c m)
written_left Fa1r o c w m e = same (Write o w) m (box c m)
written_left (R1 b) o c w m e = same (Write o w) m (box c m)
written_left (R2 b) o c w m e = same (Write o w) m (box c m)
written_left Absent o c w m e = same (Write o w) m (box c m)

pub tdt-kept : (o : ℕ) (c : Core) (w : ℕ) (m : Mailbox) → eqb o (offset_of (Tdt m)) ≡ false → (box (written (register_at o) c w) m).tdt ≡ (box c m).tdt
tdt-kept o c w m h = (written_left (register_at o) o c w m refl).tdt h refl

timed : (x t : ℕ) → (x % 65536 + t * 65536) % 65536 ≡ x % 65536
timed x t = omega arith

started_left : (v : Option Mailbox) (c : Core) (m : Mailbox) → Left Start m (box c m) (box (started_by v c) m)
unfolding started_by started
started_left None c m = same Start m (box c m)
started_left (Some k) c m =
    let b : (ByMailbox MailboxState) = c.transmit.mailboxes in
    record {
      ti = λ _. put-field (λ x. x.ti) b k _ m (λ _. refl);
      tdt = λ _ h. absurd (true≢false h);
      low = λ _. put-field (λ x. x.tdt % 65536) b k _ m (λ _. timed (at b k).tdt c.control.timer);
      tdl = λ _. put-field (λ x. x.tdl) b k _ m (λ _. refl);
      tdh = λ _. put-field (λ x. x.tdh) b k _ m (λ _. refl);
    }

ended_left : (n : ℕ) (x : Option Mailbox) (c : Core) (v : List ℕ) (m : Mailbox) → Left (Outcome n) m (box c m) (box (ended_by x c v n) m)
unfolding ended_by ended outcome_flags
ended_left n None c v m = same (Outcome n) m (box c m)
ended_left n (Some k) c v m = put-flags (Outcome n) c.transmit.mailboxes k _ m (record { ti = refl; tdt = refl; tdl = refl; tdh = refl })

applied_left : (s : steps.Step) (c : Core) (v : List ℕ) (m : Mailbox) → Left s m (box c m) (box (applied c v s) m)
unfolding applied stored_by
applied_left Reset c v m = record { ti = λ h. absurd (true≢false h); tdt = λ h _. absurd (true≢false h); low = λ h. absurd (true≢false h); tdl = λ h. absurd (true≢false h); tdh = λ h. absurd (true≢false h) }
applied_left (Read o) c v m = same (Read o) m (box c m)
applied_left (Write o w) c v m = written_left (register_at o) o c w m refl
applied_left Idle c v m = same Idle m (box c m)
applied_left (BitTimes n) c v m = same (BitTimes n) m (box c m)
applied_left Activity c v m = same Activity m (box c m)
applied_left Start c v m = started_left _ c m
applied_left (Outcome n) c v m = ended_left n c.transmit.queue.transmitting c v m
applied_left (Receive x) c v m = same (Receive x) m (box c m)
applied_left (ReceiveError k n) c v m = same (ReceiveError k n) m (box c m)

-- what f shows of the words of mailbox m stays
stays : {A : Type 0} (f : MailboxState → A) (z : Controller) (s : steps.Step) (m : Mailbox) → ((step z s).code ≡ 0 → f (box (applied z.core z.banks s) m) ≡ f (box z.core m))
    → f (box (step z s).controller.core m) ≡ f (box z.core m)
unfolding settled
stays f z s m h = step_keeps (λ (c : Core). f (box c m)) z s (λ c. refl) h

-- ---- TIME

pub number-eq : (k m : Mailbox) → number k ≡ number m → k ≡ m
number-eq M0 M0 h = refl
number-eq M0 M1 h = absurd (let n : ◌≡◌ {A = ℕ} 0 1 = h in omega arith)
number-eq M0 M2 h = absurd (let n : ◌≡◌ {A = ℕ} 0 2 = h in omega arith)
number-eq M1 M0 h = absurd (let n : ◌≡◌ {A = ℕ} 1 0 = h in omega arith)
number-eq M1 M1 h = refl
number-eq M1 M2 h = absurd (let n : ◌≡◌ {A = ℕ} 1 2 = h in omega arith)
number-eq M2 M0 h = absurd (let n : ◌≡◌ {A = ℕ} 2 0 = h in omega arith)
number-eq M2 M1 h = absurd (let n : ◌≡◌ {A = ℕ} 2 1 = h in omega arith)
number-eq M2 M2 h = refl

time_half : (x t : ℕ) → t < 65536 → (x % 65536 + t * 65536) / 2 ^ 16 % 2 ^ 16 ≡ t
time_half x t l = omega arith

-- TDT after an accepted start
module _ (z : Controller) (h : (step z Start).code ≡ 0) (m : Mailbox) where
  from : Starts z
  from = start-accepted z h

  taken : from.mailbox ≡ m → (box (step z Start).controller.core m).tdt ≡ (box z.core m).tdt % 65536 + z.core.control.timer * 65536
  unfolding settled started
  taken q =
      ap (λ (c : Core). (box c m).tdt) from.core
      ∙ ap (λ (k : Mailbox). (at (put z.core.transmit.mailboxes from.mailbox (with_words (box z.core from.mailbox) (box z.core from.mailbox).ti ((box z.core from.mailbox).tdt % 65536 + z.core.control.timer * 65536) (box z.core from.mailbox).tdl (box z.core from.mailbox).tdh)) k).tdt) (sym q)
      ∙ ap (λ (x : MailboxState). x.tdt) (put_there z.core.transmit.mailboxes from.mailbox _)
      ∙ ap (λ (k : Mailbox). (box z.core k).tdt % 65536 + z.core.control.timer * 65536) q

  other : (from.mailbox ≡ m → ⊥) → (box (step z Start).controller.core m).tdt ≡ (box z.core m).tdt
  unfolding settled started
  other n = ap (λ (c : Core). (box c m).tdt) from.core ∙ put-field (λ x. x.tdt) z.core.transmit.mailboxes from.mailbox _ m (λ q. absurd (n q))

time-taken : (s : steps.Step) (z : Controller) (m : Mailbox) → starts z s m ≡ true → z.core.control.timer < 65536 → bits 16 16 (box (step z s).controller.core m).tdt ≡ z.core.control.timer
time-taken Reset z m h l = absurd (false≢true h)
time-taken (Read o) z m h l = absurd (false≢true h)
time-taken (Write o w) z m h l = absurd (false≢true h)
time-taken Idle z m h l = absurd (false≢true h)
time-taken (BitTimes n) z m h l = absurd (false≢true h)
time-taken Activity z m h l = absurd (false≢true h)
time-taken Start z m h l =
    let k : (step z Start).code ≡ 0 = eqb-true _ _ (and_l (eqb (step z Start).code 0) (eqb (step z Start).word (number m)) h) in
    let w : (step z Start).word ≡ number m = eqb-true _ _ (and_r (eqb (step z Start).code 0) (eqb (step z Start).word (number m)) h) in
    let q : (from z k m).mailbox ≡ m = number-eq _ m (sym (from z k m).word ∙ w) in
    ap (λ (x : ℕ). bits 16 16 x) (taken z k m q) ∙ time_half (box z.core m).tdt z.core.control.timer l
time-taken (Outcome n) z m h l = absurd (false≢true h)
time-taken (Receive x) z m h l = absurd (false≢true h)
time-taken (ReceiveError k n) z m h l = absurd (false≢true h)

-- TIME of a mailbox that is not started
left_alone : (s : steps.Step) (z : Controller) (m : Mailbox) → sets s (Tdt m) ≡ false → starts z s m ≡ false → (step z s).code ≡ 0
    → (box (step z s).controller.core m).tdt ≡ (box z.core m).tdt
left_alone Reset z m h n k = absurd (true≢false h)
left_alone (Read o) z m h n k = stays (λ x. x.tdt) z (Read o) m (λ _. (applied_left (Read o) z.core z.banks m).tdt h refl)
left_alone (Write o w) z m h n k = stays (λ x. x.tdt) z (Write o w) m (λ _. (applied_left (Write o w) z.core z.banks m).tdt h refl)
left_alone Idle z m h n k = stays (λ x. x.tdt) z Idle m (λ _. (applied_left Idle z.core z.banks m).tdt h refl)
left_alone (BitTimes t) z m h n k = stays (λ x. x.tdt) z (BitTimes t) m (λ _. (applied_left (BitTimes t) z.core z.banks m).tdt h refl)
left_alone Activity z m h n k = stays (λ x. x.tdt) z Activity m (λ _. (applied_left Activity z.core z.banks m).tdt h refl)
left_alone Start z m h n k = other z k m (λ q. opposed (rw (eq-eqb _ 0 k) (eq-eqb (step z Start).word (number m) ((from z k m).word ∙ ap number q))) n)
left_alone (Outcome t) z m h n k = stays (λ x. x.tdt) z (Outcome t) m (λ _. (applied_left (Outcome t) z.core z.banks m).tdt h refl)
left_alone (Receive x) z m h n k = stays (λ x. x.tdt) z (Receive x) m (λ _. (applied_left (Receive x) z.core z.banks m).tdt h refl)
left_alone (ReceiveError j t) z m h n k = stays (λ x. x.tdt) z (ReceiveError j t) m (λ _. (applied_left (ReceiveError j t) z.core z.banks m).tdt h refl)

-- a refused step changes nothing
if_accepted : {A : Type 0} (f : Core → A) (z : Controller) (s : steps.Step) → ((step z s).code ≡ 0 → f (step z s).controller.core ≡ f z.core) → f (step z s).controller.core ≡ f z.core
unfolding step answered core_after
if_accepted f z s h = go (eqb (refusal z.core s) 0) refl
  where
    go : (b : Bool) → eqb (refusal z.core s) 0 ≡ b → f (step z s).controller.core ≡ f z.core
    go true e = h (eqb-true _ _ e)
    go false e = rw e

pub mailbox-stays : (z : Controller) (s : steps.Step) (m : Mailbox) → MailboxStays z s m
mailbox-stays z s m =
    let y : Controller = (step z s).controller in
    let u = applied_left s z.core z.banks m in
    record {
      txrq = txrq-read z m;
      ti = λ h i.
          ap (λ (w : ℕ). bit (1 + i) w) (ti-shown m y)
          ∙ upper-bit (box y.core m).ti i (holds y.core.transmit.queue.order m)
          ∙ ap (λ (w : ℕ). bit (1 + i) w) (stays (λ x. x.ti) z s m (λ _. u.ti h))
          ∙ sym (ap (λ (w : ℕ). bit (1 + i) w) (ti-shown m z) ∙ upper-bit (box z.core m).ti i (holds z.core.transmit.queue.order m));
      tdt = λ h. ap (λ (w : ℕ). bits 0 16 w) (tdt-shown m y) ∙ low_half (box y.core m).tdt (box z.core m).tdt (stays (λ x. x.tdt % 65536) z s m (λ _. u.low h)) ∙ ap (λ (w : ℕ). bits 0 16 w) (sym (tdt-shown m z));
      tdl = λ h. tdl-shown m y ∙ stays (λ x. x.tdl) z s m (λ _. u.tdl h) ∙ sym (tdl-shown m z);
      tdh = λ h. tdh-shown m y ∙ stays (λ x. x.tdh) z s m (λ _. u.tdh h) ∙ sym (tdh-shown m z);
      time = λ h i. ap (λ (w : ℕ). bits 16 16 w) (tdt-shown m y) ∙ time-taken s z m h i.core.control.timer;
      not_started = λ h n. tdt-shown m y ∙ if_accepted (λ (c : Core). (box c m).tdt) z s (left_alone s z m h n) ∙ sym (tdt-shown m z);
    }
  where
    low_half : (a b : ℕ) → a % 65536 ≡ b % 65536 → a / 2 ^ 0 % 2 ^ 16 ≡ b / 2 ^ 0 % 2 ^ 16
    low_half a b e = omega arith
