-- Frames and the two FIFOs of three.
-- Document 01: "Bus events" (frame), "Order, filters, storage" (storage), "Register map" (RFxR, FIFO output).
use Rattle.std.specs.Prelude.{Bool, true, false, not, ◌&&◌, ◌||◌, ℕ, ◌+◌, ◌*◌, ◌-◌, ◌%◌, ◌^◌, eqb, ltb, leb, Option, Some, None}
use Rattle.base.specs.Base.{pick, bit, bits, one}
use Rattle.model.specs.Mailboxes.{sent_identifier}
use Rattle.model.specs.declared.Fifo.{Fifo}
use Rattle.model.specs.declared.Fifo.TheVariants.{F0, F1}
use Rattle.model.specs.declared.StoredFrame.{StoredFrame}
use Rattle.model.specs.declared.FifoState.{FifoState}
use Rattle.model.specs.declared.Frame.{Frame}
use Rattle.model.specs.declared.FilterNumber.{FilterNumber}
use Rattle.model.specs.declared.MailboxState.{MailboxState}

-- ---- frames

-- code 5: bit 0 of the identifier word is 1, a standard one has extended bits, or the length code exceeds 15
unfoldable pub malformed : Frame → Bool
malformed x = bit 0 x.identifier || (not (bit 2 x.identifier) && not (eqb (bits 3 18 x.identifier) 0)) || ltb 15 x.length

-- how many data bytes a frame carries: those of its length code, at most 8; a remote frame has none
unfoldable pub data_bytes : Frame → ℕ
data_bytes x = pick (bit 1 x.identifier) 0 (pick (leb 8 x.length) 8 x.length)

-- the first n bytes of a word of four, the others as 0
unfoldable pub bytes_kept : ℕ → ℕ → ℕ
bytes_kept n w = pick (leb 4 n) w (w % 2 ^ (8 * n))

-- a frame as it is stored: bytes past the length as 0, its filter number as FMI, the time as TIME
unfoldable pub stored_frame : Frame → FilterNumber → ℕ → StoredFrame
stored_frame x n time = record {
  ri = x.identifier;
  rdt = x.length + n.0 * 256 + time * 65536;
  rdl = bytes_kept (data_bytes x) x.low;
  rdh = bytes_kept (data_bytes x - 4) x.high;
}

-- what a mailbox sends
unfoldable pub sent_frame : MailboxState → Frame
sent_frame x = record { identifier = sent_identifier x.ti; low = x.tdl; high = x.tdh; length = x.tdt % 16 }

-- ---- the FIFO

abbrev pub no_frame : StoredFrame
no_frame = record { ri = 0; rdt = 0; rdl = 0; rdh = 0 }

abbrev pub empty_fifo : FifoState
empty_fifo = record { first = no_frame; second = no_frame; third = no_frame; count = 0; full = false; fovr = false }

-- a third frame sets FULL; a fourth sets FOVR: RFLM=0 replaces the newest, RFLM=1 drops the new one
unfoldable pub pushed : FifoState → StoredFrame → Bool → FifoState
pushed q x rflm =
    pick (eqb q.count 0) (record { first = x; second = q.second; third = q.third; count = 1; full = q.full; fovr = q.fovr })
    (pick (eqb q.count 1) (record { first = q.first; second = x; third = q.third; count = 2; full = q.full; fovr = q.fovr })
    (pick (eqb q.count 2) (record { first = q.first; second = q.second; third = x; count = 3; full = true; fovr = q.fovr })
    (record { first = q.first; second = q.second; third = pick rflm q.third x; count = q.count; full = q.full; fovr = true })))

-- the frame goes into this FIFO
abbrev pub goes_into : Fifo → Option (Fifo × FilterNumber) → Bool
goes_into F0 (Some (F0, x)) = true
goes_into F0 (Some (F1, x)) = false
goes_into F0 None = false
goes_into F1 (Some (F0, x)) = false
goes_into F1 (Some (F1, x)) = true
goes_into F1 None = false

-- its filter number; 0 where there is none
abbrev pub fmi_of : Option (Fifo × FilterNumber) → FilterNumber
fmi_of (Some (f, x)) = x
fmi_of None = record { 0 = 0 }

unfoldable pub received : Fifo → Option (Fifo × FilterNumber) → StoredFrame → Bool → FifoState → FifoState
received f a x rflm q = pick (goes_into f a) (pushed q x rflm) q

-- RFOM drops the oldest frame, if any
unfoldable pub released : FifoState → FifoState
released q = pick (eqb q.count 0) q
    (record { first = q.second; second = q.third; third = no_frame; count = q.count - 1; full = q.full; fovr = q.fovr })

-- 1 clears FULL or FOVR
unfoldable pub cleared : FifoState → ℕ → FifoState
cleared q w = record {
  first = q.first;
  second = q.second;
  third = q.third;
  count = q.count;
  full = q.full && not (bit 3 w);
  fovr = q.fovr && not (bit 4 w);
}

-- RFxR: the clears, then the release
unfoldable pub rfr_written : FifoState → ℕ → FifoState
rfr_written q w = pick (bit 5 w) (released (cleared q w)) (cleared q w)

-- RFxR: FMP, FULL, FOVR
unfoldable pub rfr_word : FifoState → ℕ
rfr_word q = q.count + one q.full * 8 + one q.fovr * 16

-- the FIFO's output; an empty one reads 0
unfoldable pub output : FifoState → StoredFrame
output q = pick (eqb q.count 0) no_frame q.first

-- FMP, FULL, FOVR with their enables, which stand from bit i of IER on
unfoldable pub fifo_line : FifoState → ℕ → ℕ → Bool
fifo_line q i ier = (bit i ier && not (eqb q.count 0)) || (bit (i + 1) ier && q.full) || (bit (i + 2) ier && q.fovr)
