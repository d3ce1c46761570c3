-- A write to the register at an offset: what it changes of the control words, the error counters, the FIFOs and the frame on the wire.
use Rattle.std.proofs.Common.{Option, None}
use mathlib.Core.Bool.{Bool, true, false, not, ◌&&◌, ◌||◌, false≢true, and_comm}
use mathlib.Core.Path.{◌≡◌, refl, sym, ap, ◌∙◌}
use Prim.Native.Nat.{ℕ, ◌+◌, ◌*◌}
use native.Mathlib.Omega.{arith}
use lib.Dec.{eqb, ltb}
use borrow.Author.Tests.{eqb-true, eqb-false, eq-eqb}
use Rattle.base.specs.Base.{pick, bit}
use Rattle.model.specs.Queue.{aborted_all}
use Rattle.model.specs.Mailboxes.{requested_by, tsr_written}
use Rattle.model.specs.Reception.{empty_fifo, rfr_written}
use Rattle.model.specs.Control.{master_reset, mcr_written, msr_written, ier_written, btr_written, esr_written}
use Rattle.model.specs.Registers.{register_at, control_register, is_absent, written, core_reset, fifo_of, with_control}
use Rattle.model.specs.Codes.{offset_of}
use Rattle.model.specs.Shown.{fifo_number}
use Rattle.model.specs.declared.Queue.{Queue}
use Rattle.model.specs.declared.Fifo.{Fifo}
use Rattle.model.specs.declared.Fifo.TheVariants.{F0, F1}
use Rattle.model.specs.declared.Control.{Control}
use Rattle.model.specs.declared.Core.{Core}
use Rattle.model.specs.declared.Register.{Register}
use Rattle.model.specs.declared.Register.TheVariants.{Mcr, Msr, Tsr, Rfr, Ier, Esr, Btr, Ti, Tdt, Tdl, Tdh, Ri, Rdt, Rdl, Rdh, Fmr, Fm1r, Fs1r, Ffa1r, Fa1r, R1, R2, Absent}
use Rattle.base.proofs.Choices.{pick_cases}
use Rattle.model.proofs.Mapped.{map}
use Rattle.model.proofs.QueueRanges.{aborted-wire}
use Rattle.model.specs.declared.Mailbox.{Mailbox}

-- ---- which of the first eight registers an offset names

-- 8: none of them
abbrev place : Register → ℕ
place Mcr = 0
place Msr = 1
place Tsr = 2
place (Rfr F0) = 3
place (Rfr F1) = 4
place Ier = 5
place Esr = 6
place Btr = 7
place (Ti m) = 8
place (Tdt m) = 8
place (Tdl m) = 8
place (Tdh m) = 8
place (Ri f) = 8
place (Rdt f) = 8
place (Rdl f) = 8
place (Rdh f) = 8
place Fmr = 8
place Fm1r = 8
place Fs1r = 8
place Ffa1r = 8
place Fa1r = 8
place (R1 b) = 8
place (R2 b) = 8
place Absent = 8

abbrev register_of : ℕ → Register
register_of k =
    pick (eqb k 0) Mcr (pick (eqb k 1) Msr (pick (eqb k 2) Tsr (pick (eqb k 3) (Rfr F0) (pick (eqb k 4) (Rfr F1) (pick (eqb k 5) Ier (pick (eqb k 6) Esr (pick (eqb k 7) Btr Absent)))))))

placed : (r : Register) → ltb (place r) 8 ≡ true → register_of (place r) ≡ r
placed Mcr h = refl
placed Msr h = refl
placed Tsr h = refl
placed (Rfr F0) h = refl
placed (Rfr F1) h = refl
placed Ier h = refl
placed Esr h = refl
placed Btr h = refl
placed (Ti m) h = absurd (false≢true h)
placed (Tdt m) h = absurd (false≢true h)
placed (Tdl m) h = absurd (false≢true h)
placed (Tdh m) h = absurd (false≢true h)
placed (Ri f) h = absurd (false≢true h)
placed (Rdt f) h = absurd (false≢true h)
placed (Rdl f) h = absurd (false≢true h)
placed (Rdh f) h = absurd (false≢true h)
placed Fmr h = absurd (false≢true h)
placed Fm1r h = absurd (false≢true h)
placed Fs1r h = absurd (false≢true h)
placed Ffa1r h = absurd (false≢true h)
placed Fa1r h = absurd (false≢true h)
placed (R1 b) h = absurd (false≢true h)
placed (R2 b) h = absurd (false≢true h)
placed Absent h = absurd (false≢true h)

-- what holds of each of the eight by computation
record Placed (k : ℕ) : Type 0 where
  few : ltb k 8 ≡ true
  found : register_at (4 * k) ≡ register_of k
  place : place (register_of k) ≡ k
  offset : offset_of (register_of k) ≡ 4 * k
  present : is_absent (register_of k) ≡ false

named : (o k : ℕ) → Placed k → eqb o (4 * k) ≡ eqb (place (register_at o)) k
named o k p = go (eqb o (4 * k)) refl
  where
    other : (b : Bool) → eqb (place (register_at o)) k ≡ b → (o ≡ 4 * k → ⊥) → false ≡ b
    other false e h = refl
    other true e h =
        let q : place (register_at o) ≡ k = eqb-true _ _ e in
        let r : register_at o ≡ register_of k = sym (placed (register_at o) (rw q p.few)) ∙ ap register_of q in
        absurd (h (sym (map.only o (ap is_absent r ∙ p.present)) ∙ (ap offset_of r ∙ p.offset)))

    go : (b : Bool) → eqb o (4 * k) ≡ b → b ≡ eqb (place (register_at o)) k
    go true e = sym (eq-eqb _ _ (ap (λ (n : ℕ). place (register_at n)) (eqb-true _ _ e) ∙ (ap place p.found ∙ p.place)))
    go false e = other _ refl (eqb-false _ _ e)

mcr-named : (o : ℕ) → eqb o 0x0 ≡ eqb (place (register_at o)) 0
unfolding register_at control_register
mcr-named o = named o 0 (record { few = refl; found = refl; place = refl; offset = refl; present = refl })

msr-named : (o : ℕ) → eqb o 0x4 ≡ eqb (place (register_at o)) 1
unfolding register_at control_register
msr-named o = named o 1 (record { few = refl; found = refl; place = refl; offset = refl; present = refl })

ier-named : (o : ℕ) → eqb o 0x14 ≡ eqb (place (register_at o)) 5
unfolding register_at control_register
ier-named o = named o 5 (record { few = refl; found = refl; place = refl; offset = refl; present = refl })

esr-named : (o : ℕ) → eqb o 0x18 ≡ eqb (place (register_at o)) 6
unfolding register_at control_register
esr-named o = named o 6 (record { few = refl; found = refl; place = refl; offset = refl; present = refl })

btr-named : (o : ℕ) → eqb o 0x1c ≡ eqb (place (register_at o)) 7
unfolding register_at control_register
btr-named o = named o 7 (record { few = refl; found = refl; place = refl; offset = refl; present = refl })

rfr-named : (f : Fifo) (o : ℕ) → eqb o (0x00C + 4 * fifo_number f) ≡ eqb (place (register_at o)) (3 + fifo_number f)
unfolding register_at control_register
rfr-named F0 o = named o 3 (record { few = refl; found = refl; place = refl; offset = refl; present = refl })
rfr-named F1 o = named o 4 (record { few = refl; found = refl; place = refl; offset = refl; present = refl })

-- ---- what a write changes

abbrev pub control_written : ℕ → Control → ℕ → Control
control_written o k w =
    pick (eqb o 0x000) (pick (bit 15 w) (master_reset k) (mcr_written k w))
    (pick (eqb o 0x004) (msr_written k w) (pick (eqb o 0x014) (ier_written k w) (pick (eqb o 0x01C) (btr_written k w) k)))

abbrev control_by : ℕ → Control → ℕ → Control
control_by p k w =
    pick (eqb p 0) (pick (bit 15 w) (master_reset k) (mcr_written k w))
    (pick (eqb p 1) (msr_written k w) (pick (eqb p 5) (ier_written k w) (pick (eqb p 7) (btr_written k w) k)))

control_by_lem : (r : Register) (c : Core) (w : ℕ) → (written r c w).control ≡ control_by (place r) c.control w
unfolding written core_reset
control_by_lem Mcr c w = go (bit 15 w)
  where
    go : (b : Bool) → (pick b (core_reset c) (with_control c (mcr_written c.control w))).control ≡ pick b (master_reset c.control) (mcr_written c.control w)
    go true = refl
    go false = refl
control_by_lem Msr c w = refl
control_by_lem Tsr c w = refl
control_by_lem (Rfr F0) c w = refl
control_by_lem (Rfr F1) c w = refl
control_by_lem Ier c w = refl
control_by_lem Esr c w = refl
control_by_lem Btr c w = refl
control_by_lem (Ti m) c w = refl
control_by_lem (Tdt m) c w = refl
control_by_lem (Tdl m) c w = refl
control_by_lem (Tdh m) c w = refl
control_by_lem (Ri f) c w = refl
control_by_lem (Rdt f) c w = refl
control_by_lem (Rdl f) c w = refl
control_by_lem (Rdh f) c w = refl
control_by_lem Fmr c w = refl
control_by_lem Fm1r c w = refl
control_by_lem Fs1r c w = refl
control_by_lem Ffa1r c w = refl
control_by_lem Fa1r c w = refl
control_by_lem (R1 b) c w = refl
control_by_lem (R2 b) c w = refl
control_by_lem Absent c w = refl

pub control-written : (o : ℕ) (c : Core) (w : ℕ) → (written (register_at o) c w).control ≡ control_written o c.control w
control-written o c w = rw (mcr-named o, msr-named o, ier-named o, btr-named o) (control_by_lem (register_at o) c w)

-- the flags of MSR: a master reset clears them, and 1 written to MSR
abbrev wiped : ℕ → ℕ → ℕ → Bool
wiped o i w = (eqb o 0x000 && bit 15 w) || (eqb o 0x004 && bit i w)

pub record FlagsWritten (o : ℕ) (k : Control) (w : ℕ) : Type 0 where
  pub erri : (control_written o k w).erri ≡ (not (wiped o 2 w) && k.erri)
  pub wkui : (control_written o k w).wkui ≡ (not (wiped o 3 w) && k.wkui)
  pub slaki : (control_written o k w).slaki ≡ (not (wiped o 4 w) && k.slaki)

pub flags-written : (o : ℕ) (k : Control) (w : ℕ) → FlagsWritten o k w
unfolding master_reset mcr_written msr_written ier_written btr_written
flags-written o k w = go (eqb o 0x000) (eqb o 0x004) (bit 15 w) (eqb o 0x014) (eqb o 0x01C) refl refl refl refl refl
  where
    two_offsets : eqb o 0x000 ≡ true → eqb o 0x004 ≡ true → ⊥
    two_offsets p q = let x : o ≡ 0 = eqb-true _ _ p in let y : o ≡ 4 = eqb-true _ _ q in omega arith

    go : (a b m i j : Bool) → eqb o 0x000 ≡ a → eqb o 0x004 ≡ b → bit 15 w ≡ m → eqb o 0x014 ≡ i → eqb o 0x01C ≡ j → FlagsWritten o k w
    go true true m i j p q r s t = absurd (two_offsets p q)
    go true false true i j p q r s t = record { erri = rw (p, r); wkui = rw (p, r); slaki = rw (p, r) }
    go true false false i j p q r s t = record { erri = rw (p, q, r); wkui = rw (p, q, r); slaki = rw (p, q, r) }
    go false true m i j p q r s t = record { erri = rw (p, q) (and_comm k.erri (not (bit 2 w))); wkui = rw (p, q) (and_comm k.wkui (not (bit 3 w))); slaki = rw (p, q) (and_comm k.slaki (not (bit 4 w))) }
    go false false m true j p q r s t = record { erri = rw (p, q, s); wkui = rw (p, q, s); slaki = rw (p, q, s) }
    go false false m false true p q r s t = record { erri = rw (p, q, s, t); wkui = rw (p, q, s, t); slaki = rw (p, q, s, t) }
    go false false m false false p q r s t = record { erri = rw (p, q, s, t); wkui = rw (p, q, s, t); slaki = rw (p, q, s, t) }

errors_by : (r : Register) (c : Core) (w : ℕ) → (written r c w).errors ≡ pick (eqb (place r) 6) (esr_written c.errors w) c.errors
unfolding written core_reset
errors_by Mcr c w = pick_cases (λ (d : Core). d.errors ≡ c.errors) (bit 15 w) _ _ (λ _. refl) (λ _. refl)
errors_by Msr c w = refl
errors_by Tsr c w = refl
errors_by (Rfr F0) c w = refl
errors_by (Rfr F1) c w = refl
errors_by Ier c w = refl
errors_by Esr c w = refl
errors_by Btr c w = refl
errors_by (Ti m) c w = refl
errors_by (Tdt m) c w = refl
errors_by (Tdl m) c w = refl
errors_by (Tdh m) c w = refl
errors_by (Ri f) c w = refl
errors_by (Rdt f) c w = refl
errors_by (Rdl f) c w = refl
errors_by (Rdh f) c w = refl
errors_by Fmr c w = refl
errors_by Fm1r c w = refl
errors_by Fs1r c w = refl
errors_by Ffa1r c w = refl
errors_by Fa1r c w = refl
errors_by (R1 b) c w = refl
errors_by (R2 b) c w = refl
errors_by Absent c w = refl

pub errors-written : (o : ℕ) (c : Core) (w : ℕ) → (written (register_at o) c w).errors ≡ pick (eqb o 0x018) (esr_written c.errors w) c.errors
errors-written o c w = rw (esr-named o) (errors_by (register_at o) c w)

both_by : (r : Register) (c : Core) (w : ℕ)
    → ((written r c w).fifo0 ≡ pick (eqb (place r) 0 && bit 15 w) empty_fifo (pick (eqb (place r) 3) (rfr_written c.fifo0 w) c.fifo0))
    × ((written r c w).fifo1 ≡ pick (eqb (place r) 0 && bit 15 w) empty_fifo (pick (eqb (place r) 4) (rfr_written c.fifo1 w) c.fifo1))
unfolding written core_reset
both_by Mcr c w = go (bit 15 w)
  where
    go : (b : Bool)
        → ((pick b (core_reset c) (with_control c (mcr_written c.control w))).fifo0 ≡ pick b empty_fifo c.fifo0)
        × ((pick b (core_reset c) (with_control c (mcr_written c.control w))).fifo1 ≡ pick b empty_fifo c.fifo1)
    go true = (refl, refl)
    go false = (refl, refl)
both_by Msr c w = (refl, refl)
both_by Tsr c w = (refl, refl)
both_by (Rfr F0) c w = (refl, refl)
both_by (Rfr F1) c w = (refl, refl)
both_by Ier c w = (refl, refl)
both_by Esr c w = (refl, refl)
both_by Btr c w = (refl, refl)
both_by (Ti m) c w = (refl, refl)
both_by (Tdt m) c w = (refl, refl)
both_by (Tdl m) c w = (refl, refl)
both_by (Tdh m) c w = (refl, refl)
both_by (Ri f) c w = (refl, refl)
both_by (Rdt f) c w = (refl, refl)
both_by (Rdl f) c w = (refl, refl)
both_by (Rdh f) c w = (refl, refl)
both_by Fmr c w = (refl, refl)
both_by Fm1r c w = (refl, refl)
both_by Fs1r c w = (refl, refl)
both_by Ffa1r c w = (refl, refl)
both_by Fa1r c w = (refl, refl)
both_by (R1 b) c w = (refl, refl)
both_by (R2 b) c w = (refl, refl)
both_by Absent c w = (refl, refl)

fifo_by : (f : Fifo) (r : Register) (c : Core) (w : ℕ)
    → fifo_of f (written r c w) ≡ pick (eqb (place r) 0 && bit 15 w) empty_fifo (pick (eqb (place r) (3 + fifo_number f)) (rfr_written (fifo_of f c) w) (fifo_of f c))
fifo_by F0 r c w = (both_by r c w).0
fifo_by F1 r c w = (both_by r c w).1

pub fifo-written : (f : Fifo) (o : ℕ) (c : Core) (w : ℕ)
    → fifo_of f (written (register_at o) c w)
    ≡ pick (eqb o 0x000 && bit 15 w) empty_fifo (pick (eqb o (0x00C + 4 * fifo_number f)) (rfr_written (fifo_of f c) w) (fifo_of f c))
fifo-written f o c w = rw (mcr-named o, rfr-named f o) (fifo_by f (register_at o) c w)

-- ---- the frame on the wire

abbrev wire : Core → Option Mailbox
wire c = c.transmit.queue.transmitting

wire_by : (r : Register) (c : Core) (w : ℕ) → wire (written r c w) ≡ pick (eqb (place r) 0 && bit 15 w) None (wire c)
unfolding written core_reset tsr_written aborted_all requested_by
wire_by Mcr c w = go (bit 15 w)
  where
    go : (b : Bool) → wire (pick b (core_reset c) (with_control c (mcr_written c.control w))) ≡ pick b None (wire c)
    go true = refl
    go false = refl
wire_by Msr c w = refl
wire_by Tsr c w = aborted-wire _ _ _ ∙ (aborted-wire _ _ _ ∙ aborted-wire _ _ _)
wire_by (Rfr F0) c w = refl
wire_by (Rfr F1) c w = refl
wire_by Ier c w = refl
wire_by Esr c w = refl
wire_by Btr c w = refl
wire_by (Ti m) c w = pick_cases (λ (q : Queue). q.transmitting ≡ wire c) (bit 0 w) _ _ (λ _. refl) (λ _. refl)
wire_by (Tdt m) c w = refl
wire_by (Tdl m) c w = refl
wire_by (Tdh m) c w = refl
wire_by (Ri f) c w = refl
wire_by (Rdt f) c w = refl
wire_by (Rdl f) c w = refl
wire_by (Rdh f) c w = refl
wire_by Fmr c w = refl
wire_by Fm1r c w = refl
wire_by Fs1r c w = refl
wire_by Ffa1r c w = refl
wire_by Fa1r c w = refl
wire_by (R1 b) c w = refl
wire_by (R2 b) c w = refl
wire_by Absent c w = refl

pub wire-written : (o : ℕ) (c : Core) (w : ℕ) → wire (written (register_at o) c w) ≡ pick (eqb o 0x000 && bit 15 w) None (wire c)
wire-written o c w = rw (mcr-named o) (wire_by (register_at o) c w)
