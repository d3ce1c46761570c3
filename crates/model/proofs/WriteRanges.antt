-- Every register write that is not refused keeps the core and the banks' words in range.
use mathlib.Core.Bool.{Bool, true, false, false≢true}
use mathlib.Core.List.{List, [], ◌∷◌}
use mathlib.Core.Path.{◌≡◌, refl}
use Prim.Native.Nat.{ℕ, zero, suc, ◌+◌, ◌*◌, ◌^◌, ◌<◌}
use lib.Dec.{ltb, eqb}
use lib.ListN.{length, set, length-set}
use Rattle.base.specs.Base.{bit}
use Rattle.model.specs.Mailboxes.{requested_by, tsr_written, abrq}
use Rattle.model.specs.Control.{is_initialization, master_reset, mcr_written, msr_written, ier_written, btr_written, esr_written}
use Rattle.model.specs.Reception.{rfr_written}
use Rattle.model.specs.Registers.{fifo_of, has_request, is_free, core_reset, written, banks_written, with_bank_word, bank_count, write_refusal}
use Rattle.model.specs.Reachable.{Words, CoreRange}
use Rattle.model.specs.declared.Mailbox.{Mailbox}
use Rattle.model.specs.declared.Queue.{Queue}
use Rattle.model.specs.declared.Core.{Core}
use Rattle.model.specs.declared.Register.{Register}
use Rattle.model.specs.declared.Register.TheVariants.{Mcr, Msr, Tsr, Rfr, Ier, Esr, Btr, Ti, Tdt, Tdl, Tdh, Ri, Rdt, Rdl, Rdh, Fmr, Fm1r, Fs1r, Ffa1r, Fa1r, R1, R2, Absent}
use Rattle.base.proofs.Choices.{pick_cases, opposed, refused_if, refused_unless}
use Rattle.model.proofs.Masks.{filter_masked_lem}
use Rattle.model.proofs.ControlRanges.{not-normal, mcr_written-range, msr_written-range, ier_written-range, btr_written-range, master_reset-range, esr_written-range}
use Rattle.model.proofs.MailboxRanges.{dropped-range, tsr_written-range, tdt-transmit-range, tdl-transmit-range, tdh-transmit-range, requested_by-range}
use Rattle.model.proofs.QueueRanges.{aborted_all-wire}
use Rattle.model.proofs.FifoRanges.{empty_fifo-range, rfr_written-range}
use Rattle.model.proofs.CoreRanges.{free_wire-range, with_errors-range, with_filters-range, fifo_of-range, with_fifo-range, with_words-range, same-wire-range}

-- ---- the banks' words

set_words : (v : List ℕ) (i w : ℕ) → Words v → w < 2 ^ 32 → Words (set v i w)
set_words [] i w r l = r
set_words (x ∷ v) zero w r l = (l, r.1)
set_words (x ∷ v) (suc i) w r l = (r.0, set_words v i w r.1 l)

-- what holds of the words, and with one of them set, holds of them written
banks_cases : (P : List ℕ → Type 0) (g : Register) (v : List ℕ) (w : ℕ) → P v → ((i : ℕ) → P (set v i w)) → P (banks_written g v w)
unfolding banks_written with_bank_word
banks_cases P Mcr v w p s = p
banks_cases P Msr v w p s = p
banks_cases P Tsr v w p s = p
banks_cases P (Rfr f) v w p s = p
banks_cases P Ier v w p s = p
banks_cases P Esr v w p s = p
banks_cases P Btr v w p s = p
banks_cases P (Ti m) v w p s = p
banks_cases P (Tdt m) v w p s = p
banks_cases P (Tdl m) v w p s = p
banks_cases P (Tdh m) v w p s = p
banks_cases P (Ri f) v w p s = p
banks_cases P (Rdt f) v w p s = p
banks_cases P (Rdl f) v w p s = p
banks_cases P (Rdh f) v w p s = p
banks_cases P Fmr v w p s = p
banks_cases P Fm1r v w p s = p
banks_cases P Fs1r v w p s = p
banks_cases P Ffa1r v w p s = p
banks_cases P Fa1r v w p s = p
banks_cases P (R1 b) v w p s = pick_cases P (ltb b.0 bank_count) _ _ (λ _. s (2 * b.0 + 0)) (λ _. p)
banks_cases P (R2 b) v w p s = pick_cases P (ltb b.0 bank_count) _ _ (λ _. s (2 * b.0 + 1)) (λ _. p)
banks_cases P Absent v w p s = p

pub banks_written-length : (g : Register) (v : List ℕ) (w : ℕ) → length (banks_written g v w) ≡ length v
banks_written-length g v w = banks_cases (λ (u : List ℕ). length u ≡ length v) g v w refl (λ i. length-set v i w)

pub banks_written-words : (g : Register) (v : List ℕ) (w : ℕ) → Words v → w < 2 ^ 32 → Words (banks_written g v w)
banks_written-words g v w r l = banks_cases Words g v w r (λ i. set_words v i w r l)

-- ---- the core

module _ (c : Core) (r : CoreRange c) where
  core_reset-range : CoreRange (core_reset c)
  unfolding core_reset master_reset
  core_reset-range = record {
    control = master_reset-range c.control r.control;
    errors = r.errors;
    recovery = record { count = λ _. refl; reinitialized = r.recovery.reinitialized; fresh = λ _. refl; begins = λ h _. absurd (false≢true h) };
    wire = free_wire-range (core_reset c) refl;
    transmit = dropped-range c.transmit r.transmit;
    fifo0 = empty_fifo-range;
    fifo1 = empty_fifo-range;
    filters = r.filters;
  }

  mcr-core-range : (w : ℕ) → CoreRange (written Mcr c w)
  unfolding written mcr_written
  mcr-core-range w =
      pick_cases CoreRange (bit 15 w) (core_reset c) _ (λ _. core_reset-range)
      (λ _. with_words-range c r (mcr_written c.control w) (mcr_written-range c.control r.control w) refl refl refl refl)

  msr-core-range : (w : ℕ) → CoreRange (written Msr c w)
  unfolding written msr_written
  msr-core-range w = with_words-range c r (msr_written c.control w) (msr_written-range c.control r.control w) refl refl refl refl

  ier-core-range : (w : ℕ) → CoreRange (written Ier c w)
  unfolding written ier_written
  ier-core-range w = with_words-range c r (ier_written c.control w) (ier_written-range c.control r.control w) refl refl refl refl

  -- in Initialization no own frame is on the wire
  initialization_free : (b : Bool) → is_free c ≡ b → is_initialization c.control.mode ≡ true → is_free c ≡ true
  initialization_free true e h = e
  initialization_free false e h = opposed (r.wire.normal e) (not-normal c.control.mode h)

  btr-core-range : (w : ℕ) → is_initialization c.control.mode ≡ true → CoreRange (written Btr c w)
  unfolding written btr_written
  btr-core-range w h =
      with_errors-range c r (btr_written c.control w) c.errors (btr_written-range c.control r.control w) r.errors
      (record { count = r.recovery.count; reinitialized = r.recovery.reinitialized; fresh = r.recovery.fresh; begins = r.recovery.begins })
      (free_wire-range _ (initialization_free (is_free c) refl h))

  esr-core-range : (w : ℕ) → CoreRange (written Esr c w)
  unfolding written esr_written
  esr-core-range w =
      with_errors-range c r c.control (esr_written c.errors w) r.control (esr_written-range c.errors r.errors w)
      (record { count = r.recovery.count; reinitialized = r.recovery.reinitialized; fresh = r.recovery.fresh; begins = r.recovery.begins })
      (record { normal = r.wire.normal; on = r.wire.on; heard = r.wire.heard })

  tsr-core-range : (w : ℕ) → CoreRange (written Tsr c w)
  unfolding written tsr_written
  tsr-core-range w = same-wire-range c r (tsr_written c.transmit w) (tsr_written-range c.transmit r.transmit w) (aborted_all-wire c.transmit.queue (abrq w))

  ti-core-range : (m : Mailbox) (w : ℕ) → w < 2 ^ 32 → has_request c m ≡ false → CoreRange (written (Ti m) c w)
  unfolding written requested_by
  ti-core-range m w l n =
      same-wire-range c r (requested_by c.transmit m w) (requested_by-range c.transmit r.transmit m w l n)
      (pick_cases (λ (q : Queue). q.transmitting ≡ c.transmit.queue.transmitting) (bit 0 w) _ _ (λ _. refl) (λ _. refl))

pub written-range : (g : Register) (c : Core) (w : ℕ) → CoreRange c → w < 2 ^ 32 → eqb (write_refusal g c) 0 ≡ true → CoreRange (written g c w)
unfolding written write_refusal
written-range Mcr c w r l h = mcr-core-range c r w
written-range Msr c w r l h = msr-core-range c r w
written-range Tsr c w r l h = tsr-core-range c r w
written-range (Rfr f) c w r l h = with_fifo-range c r f (rfr_written (fifo_of f c) w) (rfr_written-range (fifo_of f c) w (fifo_of-range c r f))
written-range Ier c w r l h = ier-core-range c r w
written-range Esr c w r l h = esr-core-range c r w
written-range Btr c w r l h = btr-core-range c r w (refused_unless (is_initialization c.control.mode) 0 2 refl h).0
written-range (Ti m) c w r l h = ti-core-range c r m w l (refused_if (has_request c m) 2 0 refl h).0
written-range (Tdt m) c w r l h = same-wire-range c r _ (tdt-transmit-range c.transmit r.transmit m w) refl
written-range (Tdl m) c w r l h = same-wire-range c r _ (tdl-transmit-range c.transmit r.transmit m w l) refl
written-range (Tdh m) c w r l h = same-wire-range c r _ (tdh-transmit-range c.transmit r.transmit m w l) refl
written-range (Ri f) c w r l h = r
written-range (Rdt f) c w r l h = r
written-range (Rdl f) c w r l h = r
written-range (Rdh f) c w r l h = r
written-range Fmr c w r l h = with_filters-range c r _ (record { mode = r.filters.mode; scale = r.filters.scale; assignment = r.filters.assignment; activation = r.filters.activation })
written-range Fm1r c w r l h = with_filters-range c r _ (record { mode = filter_masked_lem w; scale = r.filters.scale; assignment = r.filters.assignment; activation = r.filters.activation })
written-range Fs1r c w r l h = with_filters-range c r _ (record { mode = r.filters.mode; scale = filter_masked_lem w; assignment = r.filters.assignment; activation = r.filters.activation })
written-range Ffa1r c w r l h = with_filters-range c r _ (record { mode = r.filters.mode; scale = r.filters.scale; assignment = filter_masked_lem w; activation = r.filters.activation })
written-range Fa1r c w r l h = with_filters-range c r _ (record { mode = r.filters.mode; scale = r.filters.scale; assignment = r.filters.assignment; activation = filter_masked_lem w })
written-range (R1 b) c w r l h = r
written-range (R2 b) c w r l h = r
written-range Absent c w r l h = r
