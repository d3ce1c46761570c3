-- The register map: an offset decoded once, and what each register reads and takes.
-- Document 01: "Register map"; codes 1, 3 and 2 of "Refusal numbers".
use Rattle.std.specs.Prelude.{Bool, true, false, not, ◌&&◌, List, ℕ, ◌+◌, ◌*◌, ◌-◌, ◌/◌, ◌%◌, ◌^◌, eqb, ltb, leb, get_or, set, replicate}
use Rattle.base.specs.Base.{pick, bit, one}
use Rattle.model.specs.Queue.{holds, is_nobody, no_requests}
use Rattle.model.specs.Mailboxes.{at, empty_mailbox, requested_by, with_mailbox, tdt_written, tdl_written, tdh_written, tsr_written, tsr, ti_word, dropped}
use Rattle.model.specs.Banks.{bank}
use Rattle.model.specs.Reception.{empty_fifo, rfr_written, rfr_word, output}
use Rattle.model.specs.Control.{txfp, is_initialization, control_reset, master_reset, mcr_written, msr_written, ier_written, btr_written, esr_written, msr_word, esr_word}
use Rattle.model.specs.declared.Mailbox.{Mailbox}
use Rattle.model.specs.declared.Mailbox.TheVariants.{M0, M1, M2}
use Rattle.model.specs.declared.Fifo.{Fifo}
use Rattle.model.specs.declared.Fifo.TheVariants.{F0, F1}
use Rattle.model.specs.declared.Bank.{Bank}
use Rattle.model.specs.declared.Control.{Control}
use Rattle.model.specs.declared.Errors.{Errors}
use Rattle.model.specs.declared.Transmit.{Transmit}
use Rattle.model.specs.declared.FifoState.{FifoState}
use Rattle.model.specs.declared.Filters.{Filters}
use Rattle.model.specs.declared.Core.{Core}
use Rattle.model.specs.declared.Controller.{Controller}
use Rattle.model.specs.declared.Register.{Register}
use Rattle.model.specs.declared.Register.TheVariants.{Mcr, Msr, Tsr, Rfr, Ier, Esr, Btr, Ti, Tdt, Tdl, Tdh, Ri, Rdt, Rdl, Rdh, Fmr, Fm1r, Fs1r, Ffa1r, Fa1r, R1, R2, Absent}

-- ---- the map

-- 0x00 to 0x1C
unfoldable pub control_register : ℕ → Register
control_register o =
    pick (eqb o 0x00) Mcr
    (pick (eqb o 0x04) Msr
    (pick (eqb o 0x08) Tsr
    (pick (eqb o 0x0C) (Rfr F0)
    (pick (eqb o 0x10) (Rfr F1)
    (pick (eqb o 0x14) Ier
    (pick (eqb o 0x18) Esr
    (pick (eqb o 0x1C) Btr Absent)))))))

-- the word at byte k of a mailbox's block of 16
unfoldable pub mailbox_register : Mailbox → ℕ → Register
mailbox_register m k = pick (eqb k 0) (Ti m) (pick (eqb k 4) (Tdt m) (pick (eqb k 8) (Tdl m) (pick (eqb k 12) (Tdh m) Absent)))

-- the word at byte k of a FIFO output's block of 16
unfoldable pub output_register : Fifo → ℕ → Register
output_register f k = pick (eqb k 0) (Ri f) (pick (eqb k 4) (Rdt f) (pick (eqb k 8) (Rdl f) (pick (eqb k 12) (Rdh f) Absent)))

-- the blocks of 16 from 0x180 on
unfoldable pub block_register : ℕ → ℕ → Register
block_register b k =
    pick (eqb b 0x18) (mailbox_register M0 k)
    (pick (eqb b 0x19) (mailbox_register M1 k)
    (pick (eqb b 0x1A) (mailbox_register M2 k)
    (pick (eqb b 0x1B) (output_register F0 k)
    (pick (eqb b 0x1C) (output_register F1 k) Absent))))

-- the word at byte k of a bank's block of 8
unfoldable pub bank_register : Bank → ℕ → Register
bank_register b k = pick (eqb k 0) (R1 b) (pick (eqb k 4) (R2 b) Absent)

-- 0x200 on, with n banks
unfoldable pub filter_register : ℕ → ℕ → Register
filter_register n o =
    pick (eqb o 0x200) Fmr
    (pick (eqb o 0x204) Fm1r
    (pick (eqb o 0x20C) Fs1r
    (pick (eqb o 0x214) Ffa1r
    (pick (eqb o 0x21C) Fa1r
    (pick (leb 0x240 o && ltb o (0x240 + 8 * n)) (bank_register (bank ((o - 0x240) / 8)) (o % 8)) Absent)))))

-- this board has 14 banks
abbrev pub bank_count : ℕ
bank_count = 14

unfoldable pub register_at : ℕ → Register
register_at o = pick (ltb o 0x20) (control_register o) (pick (ltb o 0x200) (block_register (o / 16) (o % 16)) (filter_register bank_count o))

abbrev pub is_absent : Register → Bool
is_absent Mcr = false
is_absent Msr = false
is_absent Tsr = false
is_absent (Rfr f) = false
is_absent Ier = false
is_absent Esr = false
is_absent Btr = false
is_absent (Ti m) = false
is_absent (Tdt m) = false
is_absent (Tdl m) = false
is_absent (Tdh m) = false
is_absent (Ri f) = false
is_absent (Rdt f) = false
is_absent (Rdl f) = false
is_absent (Rdh f) = false
is_absent Fmr = false
is_absent Fm1r = false
is_absent Fs1r = false
is_absent Ffa1r = false
is_absent Fa1r = false
is_absent (R1 b) = false
is_absent (R2 b) = false
is_absent Absent = true

-- ---- a core with some parts changed

abbrev pub with_control : Core → Control → Core
with_control c k = record { control = k; errors = c.errors; transmit = c.transmit; fifo0 = c.fifo0; fifo1 = c.fifo1; filters = c.filters }

abbrev pub with_errors : Core → Control → Errors → Core
with_errors c k e = record { control = k; errors = e; transmit = c.transmit; fifo0 = c.fifo0; fifo1 = c.fifo1; filters = c.filters }

abbrev pub with_transmit : Core → Transmit → Core
with_transmit c t = record { control = c.control; errors = c.errors; transmit = t; fifo0 = c.fifo0; fifo1 = c.fifo1; filters = c.filters }

abbrev pub with_filters : Core → Filters → Core
with_filters c g = record { control = c.control; errors = c.errors; transmit = c.transmit; fifo0 = c.fifo0; fifo1 = c.fifo1; filters = g }

abbrev pub fifo_of : Fifo → Core → FifoState
fifo_of F0 c = c.fifo0
fifo_of F1 c = c.fifo1

abbrev pub with_fifo : Fifo → Core → FifoState → Core
with_fifo F0 c q = record { control = c.control; errors = c.errors; transmit = c.transmit; fifo0 = q; fifo1 = c.fifo1; filters = c.filters }
with_fifo F1 c q = record { control = c.control; errors = c.errors; transmit = c.transmit; fifo0 = c.fifo0; fifo1 = q; filters = c.filters }

abbrev pub has_request : Core → Mailbox → Bool
has_request c m = holds c.transmit.queue.order m

abbrev pub is_free : Core → Bool
is_free c = is_nobody c.transmit.queue.transmitting

-- ---- resets

-- FMR 0x2A1C0E01: FINIT=1
abbrev pub filter_reset : Filters
filter_reset = record { mode = 0; scale = 0; assignment = 0; activation = 0; finit = true }

unfoldable pub reset : Controller
reset = record {
  core = record {
    control = control_reset;
    errors = record { tec = 0; rec = 0; lec = 0 };
    transmit = record { mailboxes = record { m0 = empty_mailbox; m1 = empty_mailbox; m2 = empty_mailbox }; queue = no_requests };
    fifo0 = empty_fifo;
    fifo1 = empty_fifo;
    filters = filter_reset;
  };
  banks = replicate (2 * bank_count) 0;
}

-- MCR with bit 15 set
unfoldable pub core_reset : Core → Core
core_reset c = record {
  control = master_reset c.control;
  errors = c.errors;
  transmit = dropped c.transmit;
  fifo0 = empty_fifo;
  fifo1 = empty_fifo;
  filters = c.filters;
}

-- ---- the banks' words: R1 (i = 0) and R2 (i = 1) of each in turn

unfoldable pub bank_word : List ℕ → Bank → ℕ → ℕ
bank_word v b i = pick (ltb b.0 bank_count) (get_or v (2 * b.0 + i) 0) 0

unfoldable pub with_bank_word : List ℕ → Bank → ℕ → ℕ → List ℕ
with_bank_word v b i w = pick (ltb b.0 bank_count) (set v (2 * b.0 + i) w) v

-- ---- writes

-- writable bits 0x3FFF
abbrev pub filter_masked : ℕ → ℕ
filter_masked w = w % 2 ^ bank_count

abbrev pub with_filter_words : Filters → ℕ → ℕ → ℕ → ℕ → Bool → Filters
with_filter_words g m s f a i = record { mode = m; scale = s; assignment = f; activation = a; finit = i }

-- what a write does to the core
unfoldable pub written : Register → Core → ℕ → Core
written Mcr c w = pick (bit 15 w) (core_reset c) (with_control c (mcr_written c.control w))
written Msr c w = with_control c (msr_written c.control w)
written Tsr c w = with_transmit c (tsr_written c.transmit w)
written (Rfr f) c w = with_fifo f c (rfr_written (fifo_of f c) w)
written Ier c w = with_control c (ier_written c.control w)
written Esr c w = with_errors c c.control (esr_written c.errors w)
written Btr c w = with_control c (btr_written c.control w)
written (Ti m) c w = with_transmit c (requested_by c.transmit m w)
written (Tdt m) c w = with_transmit c (with_mailbox c.transmit m (tdt_written (at c.transmit.mailboxes m) w))
written (Tdl m) c w = with_transmit c (with_mailbox c.transmit m (tdl_written (at c.transmit.mailboxes m) w))
written (Tdh m) c w = with_transmit c (with_mailbox c.transmit m (tdh_written (at c.transmit.mailboxes m) w))
written (Ri f) c w = c
written (Rdt f) c w = c
written (Rdl f) c w = c
written (Rdh f) c w = c
written Fmr c w = with_filters c (with_filter_words c.filters c.filters.mode c.filters.scale c.filters.assignment c.filters.activation (bit 0 w))
written Fm1r c w = with_filters c (with_filter_words c.filters (filter_masked w) c.filters.scale c.filters.assignment c.filters.activation c.filters.finit)
written Fs1r c w = with_filters c (with_filter_words c.filters c.filters.mode (filter_masked w) c.filters.assignment c.filters.activation c.filters.finit)
written Ffa1r c w = with_filters c (with_filter_words c.filters c.filters.mode c.filters.scale (filter_masked w) c.filters.activation c.filters.finit)
written Fa1r c w = with_filters c (with_filter_words c.filters c.filters.mode c.filters.scale c.filters.assignment (filter_masked w) c.filters.finit)
written (R1 b) c w = c
written (R2 b) c w = c
written Absent c w = c

-- what a write does to the banks' words
unfoldable pub banks_written : Register → List ℕ → ℕ → List ℕ
banks_written Mcr v w = v
banks_written Msr v w = v
banks_written Tsr v w = v
banks_written (Rfr f) v w = v
banks_written Ier v w = v
banks_written Esr v w = v
banks_written Btr v w = v
banks_written (Ti m) v w = v
banks_written (Tdt m) v w = v
banks_written (Tdl m) v w = v
banks_written (Tdh m) v w = v
banks_written (Ri f) v w = v
banks_written (Rdt f) v w = v
banks_written (Rdl f) v w = v
banks_written (Rdh f) v w = v
banks_written Fmr v w = v
banks_written Fm1r v w = v
banks_written Fs1r v w = v
banks_written Ffa1r v w = v
banks_written Fa1r v w = v
banks_written (R1 b) v w = with_bank_word v b 0 w
banks_written (R2 b) v w = with_bank_word v b 1 w
banks_written Absent v w = v

-- codes 1, 3 and 2 of a write
unfoldable pub write_refusal : Register → Core → ℕ
write_refusal Mcr c = 0
write_refusal Msr c = 0
write_refusal Tsr c = 0
write_refusal (Rfr f) c = 0
write_refusal Ier c = 0
write_refusal Esr c = 0
write_refusal Btr c = pick (is_initialization c.control.mode) 0 2
write_refusal (Ti m) c = pick (has_request c m) 2 0
write_refusal (Tdt m) c = pick (has_request c m) 2 0
write_refusal (Tdl m) c = pick (has_request c m) 2 0
write_refusal (Tdh m) c = pick (has_request c m) 2 0
write_refusal (Ri f) c = 3
write_refusal (Rdt f) c = 3
write_refusal (Rdl f) c = 3
write_refusal (Rdh f) c = 3
write_refusal Fmr c = 0
write_refusal Fm1r c = pick c.filters.finit 0 2
write_refusal Fs1r c = pick c.filters.finit 0 2
write_refusal Ffa1r c = pick c.filters.finit 0 2
write_refusal Fa1r c = 0
write_refusal (R1 b) c = pick (not c.filters.finit && bit b.0 c.filters.activation) 2 0
write_refusal (R2 b) c = pick (not c.filters.finit && bit b.0 c.filters.activation) 2 0
write_refusal Absent c = 1

-- ---- reads

unfoldable pub read_word : Register → Core → List ℕ → ℕ
read_word Mcr c v = c.control.mcr
read_word Msr c v = msr_word c.control (is_free c)
read_word Tsr c v = tsr (txfp c.control) c.transmit
read_word (Rfr f) c v = rfr_word (fifo_of f c)
read_word Ier c v = c.control.ier
read_word Esr c v = esr_word c.errors
read_word Btr c v = c.control.btr
read_word (Ti m) c v = ti_word c.transmit m
read_word (Tdt m) c v = (at c.transmit.mailboxes m).tdt
read_word (Tdl m) c v = (at c.transmit.mailboxes m).tdl
read_word (Tdh m) c v = (at c.transmit.mailboxes m).tdh
read_word (Ri f) c v = (output (fifo_of f c)).ri
read_word (Rdt f) c v = (output (fifo_of f c)).rdt
read_word (Rdl f) c v = (output (fifo_of f c)).rdl
read_word (Rdh f) c v = (output (fifo_of f c)).rdh
read_word Fmr c v = 0x2A1C0E00 + one c.filters.finit
read_word Fm1r c v = c.filters.mode
read_word Fs1r c v = c.filters.scale
read_word Ffa1r c v = c.filters.assignment
read_word Fa1r c v = c.filters.activation
read_word (R1 b) c v = bank_word v b 0
read_word (R2 b) c v = bank_word v b 1
read_word Absent c v = 0
