-- The two FIFOs, of what registers show.
-- Document 01: "Order, filters, storage" (storage), "Bus events" (own end, frame), "Register map" (RFxR, FIFO output, MCR with bit 15).
-- Which filter takes a frame is `acceptance`.
use Rattle.std.specs.Prelude.{Bool, true, false, not, ◌&&◌, ◌||◌, ◌≡◌, ℕ, ◌+◌, ◌*◌, ◌-◌, ◌^◌, ◌<◌, min, eqb, ltb, Option, Some, None}
use Rattle.base.specs.Base.{pick, bit, bits, one}
use Rattle.model.specs.Mailboxes.{at}
use Rattle.model.specs.Search.{acceptance}
use Rattle.model.specs.Reception.{sent_frame}
use Rattle.model.specs.Registers.{bank_count, fifo_of}
use Rattle.model.specs.Shown.{rfr, ri, rdt, rdl, rdh, ti, tdt, tdl, tdh, fmp, full, fovr, lbkm, finit, timer, Done, next_of, resets, fifo_number}
use Rattle.model.specs.declared.Mailbox.{Mailbox}
use Rattle.model.specs.declared.Fifo.{Fifo}
use Rattle.model.specs.declared.Fifo.TheVariants.{F0, F1}
use Rattle.model.specs.declared.Frame.{Frame}
use Rattle.model.specs.declared.FilterNumber.{FilterNumber}
use Rattle.model.specs.declared.Controller.{Controller}
use Rattle.model.specs.declared.Step as steps
use Rattle.model.specs.declared.Step.TheVariants.{Reset, Read, Write, Idle, BitTimes, Activity, Start, Outcome, Receive, ReceiveError}

abbrev pub other : Fifo → Fifo
other F0 = F1
other F1 = F0

-- ---- the output

-- an empty output reads 0
pub record NoOutput (f : Fifo) (z : Controller) : Type 0 where
  pub no_ri : ri f z ≡ 0
  pub no_rdt : rdt f z ≡ 0
  pub no_rdl : rdl f z ≡ 0
  pub no_rdh : rdh f z ≡ 0

-- the same frame at the output of z and of y
pub record SameOutput (f : Fifo) (z y : Controller) : Type 0 where
  pub same_ri : ri f y ≡ ri f z
  pub same_rdt : rdt f y ≡ rdt f z
  pub same_rdl : rdl f y ≡ rdl f z
  pub same_rdh : rdh f y ≡ rdh f z

-- nothing of the FIFO differs, the frames that wait behind the output included
pub record Kept (f : Fifo) (z y : Controller) : Type 0 where
  pub same_rfr : rfr f y ≡ rfr f z
  pub output : SameOutput f z y
  pub behind : fifo_of f y.core ≡ fifo_of f z.core

-- the frame has a data byte i: those within its length, at most 8; a remote frame has none
abbrev pub has_byte : Frame → ℕ → Bool
has_byte x i = not (bit 1 x.identifier) && ltb i x.length

-- the output shows the frame x that filter n took, with its time: the identifier word, the length code as it came, FMI and TIME,
-- and the data bytes, 0 where the frame has none
pub record Shows (f : Fifo) (y : Controller) (x : Frame) (n : FilterNumber) (time : ℕ) : Type 0 where
  pub identifier : ri f y ≡ x.identifier
  pub code : bits 0 4 (rdt f y) ≡ x.length
  pub none : bits 4 4 (rdt f y) ≡ 0
  pub fmi : bits 8 8 (rdt f y) ≡ n.0
  pub timed : bits 16 16 (rdt f y) ≡ time
  pub low : (i : ℕ) → i < 4 → bits (8 * i) 8 (rdl f y) ≡ pick (has_byte x i) (bits (8 * i) 8 x.low) 0
  pub high : (i : ℕ) → i < 4 → bits (8 * i) 8 (rdh f y) ≡ pick (has_byte x (4 + i)) (bits (8 * i) 8 x.high) 0
  pub words : (rdt f y < 2 ^ 32) × (rdl f y < 2 ^ 32) × (rdh f y < 2 ^ 32)

-- ---- a frame that passes the filters

-- it goes into FIFO f: a third frame sets FULL, a fourth sets FOVR, and nothing clears either. The output stays that of the oldest frame
pub record Stored (f : Fifo) (z y : Controller) (x : Frame) (n : FilterNumber) (time : ℕ) : Type 0 where
  pub counted : fmp f y ≡ min (fmp f z + 1) 3
  pub third : full f y ≡ full f z || eqb (fmp f z) 2
  pub fourth : fovr f y ≡ fovr f z || eqb (fmp f z) 3
  pub oldest : fmp f z ≡ 0 → Shows f y x n time
  pub later : 0 < fmp f z → SameOutput f z y
  -- and into no other
  pub alone : Kept (other f) z y

abbrev pub Passed : Option (Fifo × FilterNumber) → Controller → Controller → Frame → ℕ → Type 0
Passed (Some (f, n)) z y x time = Stored f z y x n time
Passed None z y x time = (f : Fifo) → Kept f z y

-- ---- loopback

-- the frame that mailbox m sends
abbrev pub sent : Controller → Mailbox → Frame
sent z m = sent_frame (at z.core.transmit.mailboxes m)

-- x has the mailbox's words as they read, without TXRQ, and EXID of a standard one as 0
pub record SentBy (m : Mailbox) (z : Controller) (x : Frame) : Type 0 where
  pub stid : bits 21 11 x.identifier ≡ bits 21 11 (ti m z)
  pub exid : bits 3 18 x.identifier ≡ pick (bit 2 x.identifier) (bits 3 18 (ti m z)) 0
  pub ide : bit 2 x.identifier ≡ bit 2 (ti m z)
  pub rtr : bit 1 x.identifier ≡ bit 1 (ti m z)
  pub none : bit 0 x.identifier ≡ false
  pub word : x.identifier < 2 ^ 32
  pub code : x.length ≡ bits 0 4 (tdt m z)
  pub low : x.low ≡ tdl m z
  pub high : x.high ≡ tdh m z

-- LBKM=1 and FINIT=0
abbrev pub is_looped : Controller → Bool
is_looped z = lbkm z && not (finit z)

-- an own end: in loopback a good frame passes the filters too, with the mailbox's TIME
pub record EndRule (z : Controller) (r : ℕ) (y : Controller) : Type 0 where
  pub loops : (m : Mailbox) → z.core.transmit.queue.transmitting ≡ Some m → eqb r 0 && is_looped z ≡ true
      → Passed (acceptance bank_count z.core.filters z.banks (sent z m).identifier) z y (sent z m) (bits 16 16 (tdt m z))
  pub otherwise : eqb r 0 && is_looped z ≡ false → (f : Fifo) → Kept f z y

-- ---- writes

-- RFxR: 1 clears FULL or FOVR, then RFOM drops the oldest frame if any. Release does not clear FULL
pub record Released (f : Fifo) (z : Controller) (w : ℕ) (y : Controller) : Type 0 where
  pub full : full f y ≡ full f z && not (bit 3 w)
  pub fovr : fovr f y ≡ fovr f z && not (bit 4 w)
  pub fmp : fmp f y ≡ fmp f z - one (bit 5 w)
  pub still : bit 5 w ≡ false → SameOutput f z y

pub record WriteRule (z : Controller) (o w : ℕ) (y : Controller) (f : Fifo) : Type 0 where
  pub released : eqb o (0x00C + 4 * fifo_number f) ≡ true → Released f z w y
  -- MCR with bit 15 set: emptied, FULL and FOVR clear
  pub reset : resets (Write o w) ≡ true → rfr f y ≡ 0
  pub otherwise : eqb o (0x00C + 4 * fifo_number f) ≡ false → resets (Write o w) ≡ false → Kept f z y

-- ---- every accepted step, from z to y

abbrev pub FifoRule : Controller → steps.Step → Controller → Type 0
FifoRule z Reset y = (f : Fifo) → rfr f y ≡ 0
FifoRule z (Read o) y = (f : Fifo) → Kept f z y
FifoRule z (Write o w) y = (f : Fifo) → WriteRule z o w y f
FifoRule z Idle y = (f : Fifo) → Kept f z y
FifoRule z (BitTimes n) y = (f : Fifo) → Kept f z y
FifoRule z Activity y = (f : Fifo) → Kept f z y
FifoRule z Start y = (f : Fifo) → Kept f z y
FifoRule z (Outcome r) y = EndRule z r y
FifoRule z (Receive x) y = Passed (acceptance bank_count z.core.filters z.banks x.identifier) z y x (timer z)
FifoRule z (ReceiveError k n) y = (f : Fifo) → Kept f z y

pub record Fifos (z : Controller) (s : steps.Step) : Type 0 where
  pub empty : (f : Fifo) → fmp f z ≡ 0 → NoOutput f z
  pub sends : (m : Mailbox) → SentBy m z (sent z m)
  pub change : Done z s → FifoRule z s (next_of z s)
