-- What holds of every state that steps reach from hardware reset or from a loaded block: the range of each field, and how fields go
-- together. Each word holds only the bits that its mask lets through. Document 01 does not list these ranges; they follow from its rules,
-- and are the listed ranges of document 02, Q-2 (docs/BLOCK.md).
use Rattle.std.specs.Prelude.{Bool, true, false, not, ◌&&◌, List, [], ◌∷◌, ◌≡◌, ℕ, ◌+◌, ◌*◌, ◌-◌, ◌/◌, ◌%◌, ◌^◌, ◌<◌, ◌≤◌, length, Option, Some, None}
use Rattle.base.specs.Base.{bit, bits, one}
use Rattle.model.specs.Queue.{same, holds, is_from}
use Rattle.model.specs.Mailboxes.{at, tdt_masked}
use Rattle.model.specs.Reception.{data_bytes, bytes_kept, no_frame}
use Rattle.model.specs.Control.{inrq, sleep, ttcm, lbkm, silm, mode_next, is_sleep, is_initialization, is_normal, boff, mcr_masked, ier_masked, btr_masked}
use Rattle.model.specs.Registers.{bank_count, filter_masked, is_free}
use Rattle.model.specs.declared.Mailbox.{Mailbox}
use Rattle.model.specs.declared.RequestOrder.{RequestOrder}
use Rattle.model.specs.declared.RequestOrder.TheVariants.{Empty, One, Two, Three}
use Rattle.model.specs.declared.Queue.{Queue}
use Rattle.model.specs.declared.MailboxState.{MailboxState}
use Rattle.model.specs.declared.Transmit.{Transmit}
use Rattle.model.specs.declared.StoredFrame.{StoredFrame}
use Rattle.model.specs.declared.FifoState.{FifoState}
use Rattle.model.specs.declared.Frame.{Frame}
use Rattle.model.specs.declared.Filters.{Filters}
use Rattle.model.specs.declared.Control.{Control}
use Rattle.model.specs.declared.Errors.{Errors}
use Rattle.model.specs.declared.Core.{Core}
use Rattle.model.specs.declared.Controller.{Controller}
use Rattle.model.specs.declared.Step as steps
use Rattle.model.specs.declared.Step.TheVariants.{Reset, Read, Write, Idle, BitTimes, Activity, Start, Outcome, Receive, ReceiveError}

-- ---- requests

-- no mailbox twice
abbrev pub distinct : RequestOrder → Bool
distinct Empty = true
distinct (One a) = true
distinct (Two a b) = not (same a b)
distinct (Three a b c) = not (same a b) && not (same a c) && not (same b c)

-- the one on the wire has a request
abbrev pub carried : Option Mailbox → RequestOrder → Bool
carried None o = true
carried (Some m) o = holds o m

pub record QueueRange (q : Queue) : Type 0 where
  pub once : distinct q.order ≡ true
  pub carries : carried q.transmitting q.order ≡ true
  -- an abort is remembered only of the mailbox on the wire
  pub aborts : (m : Mailbox) → at q.aborts m ≡ true → is_from q.transmitting m ≡ true

-- TXRQ is not kept in `ti`; TXOK comes with RQCP; at most one of TXOK, ALST and TERR is set
pub record MailboxRange (x : MailboxState) : Type 0 where
  pub ti : x.ti < 2 ^ 32
  pub even : x.ti / 2 * 2 ≡ x.ti
  pub tdt : tdt_masked x.tdt ≡ x.tdt
  pub tdl : x.tdl < 2 ^ 32
  pub tdh : x.tdh < 2 ^ 32
  pub completes : x.txok ≡ true → x.rqcp ≡ true
  pub result : one x.txok + one x.alst + one x.terr ≤ 1

-- RQCP is 0 while the mailbox has a request
pub record TransmitRange (t : Transmit) : Type 0 where
  pub queue : QueueRange t.queue
  pub mailboxes : (m : Mailbox) → MailboxRange (at t.mailboxes m)
  pub pending : (m : Mailbox) → holds t.queue.order m ≡ true → (at t.mailboxes m).rqcp ≡ false

-- ---- frames

-- an identifier word as in RI: bit 0 is 0, and a standard one has no extended bits
pub record IdentifierRange (w : ℕ) : Type 0 where
  pub word : w < 2 ^ 32
  pub even : bit 0 w ≡ false
  pub standard : bit 2 w ≡ false → bits 3 18 w ≡ 0

-- what a stored frame carries
abbrev pub frame_of : StoredFrame → Frame
frame_of x = record { identifier = x.ri; low = x.rdl; high = x.rdh; length = x.rdt % 16 }

-- FMI is below 4 times the number of banks; bytes past the length are 0
pub record FrameRange (x : StoredFrame) : Type 0 where
  pub ri : IdentifierRange x.ri
  pub rdt : x.rdt < 2 ^ 32
  pub reserved : bits 4 4 x.rdt ≡ 0
  pub fmi : bits 8 8 x.rdt < 4 * bank_count
  pub rdl : x.rdl < 2 ^ 32
  pub rdh : x.rdh < 2 ^ 32
  pub low : bytes_kept (data_bytes (frame_of x)) x.rdl ≡ x.rdl
  pub high : bytes_kept (data_bytes (frame_of x) - 4) x.rdh ≡ x.rdh

-- places past the count hold zeros
pub record FifoRange (q : FifoState) : Type 0 where
  pub count : q.count ≤ 3
  pub first : FrameRange q.first
  pub second : FrameRange q.second
  pub third : FrameRange q.third
  pub no_first : q.count ≡ 0 → q.first ≡ no_frame
  pub no_second : q.count ≤ 1 → q.second ≡ no_frame
  pub no_third : q.count ≤ 2 → q.third ≡ no_frame

-- ---- filters

pub record FilterRange (g : Filters) : Type 0 where
  pub mode : filter_masked g.mode ≡ g.mode
  pub scale : filter_masked g.scale ≡ g.scale
  pub assignment : filter_masked g.assignment ≡ g.assignment
  pub activation : filter_masked g.activation ≡ g.activation

abbrev pub Words : List ℕ → Type 0
Words [] = Unit {0}
Words (w ∷ l) = (w < 2 ^ 32) × Words l

-- ---- control and errors

pub record ControlRange (k : Control) : Type 0 where
  pub mcr : mcr_masked k.mcr ≡ k.mcr
  pub ier : ier_masked k.ier ≡ k.ier
  pub btr : btr_masked k.btr ≡ k.btr
  pub timer : k.timer < 65536
  pub stopped : ttcm k ≡ false → k.timer ≡ 0
  pub recovery : k.recovery < 128
  pub slaki : k.slaki ≡ true → is_sleep k.mode ≡ true

pub record ErrorRange (e : Errors) : Type 0 where
  pub tec : e.tec ≤ 263
  pub rec : e.rec ≤ 255
  pub lec : e.lec ≤ 7

-- out of bus-off nothing counts towards recovery; in Initialization the count is 0, and the recovery from bus-off may begin
pub record RecoveryRange (k : Control) (e : Errors) : Type 0 where
  pub count : boff e ≡ false → k.recovery ≡ 0
  pub reinitialized : boff e ≡ false → k.reinitialized ≡ false
  pub fresh : is_initialization k.mode ≡ true → k.recovery ≡ 0
  pub begins : is_initialization k.mode ≡ true → boff e ≡ true → k.reinitialized ≡ true

-- SILM=1 with LBKM=0: nothing is sent
abbrev pub silent : Control → Bool
silent k = silm k && not (lbkm k)

-- with an own frame on the wire: Normal, not bus-off and not silent
pub record WireRange (c : Core) : Type 0 where
  pub normal : is_free c ≡ false → is_normal c.control.mode ≡ true
  pub on : is_free c ≡ false → boff c.errors ≡ false
  pub heard : is_free c ≡ false → silent c.control ≡ false

-- ---- the controller

pub record CoreRange (c : Core) : Type 0 where
  pub control : ControlRange c.control
  pub errors : ErrorRange c.errors
  pub recovery : RecoveryRange c.control c.errors
  pub wire : WireRange c
  pub transmit : TransmitRange c.transmit
  pub fifo0 : FifoRange c.fifo0
  pub fifo1 : FifoRange c.fifo1
  pub filters : FilterRange c.filters

-- with no own frame on the wire the mode has followed INRQ and SLEEP
abbrev pub Followed : Core → Type 0
Followed c = is_free c ≡ true → mode_next c.control.mode (inrq c.control) (sleep c.control) ≡ c.control.mode

pub record InRange (z : Controller) : Type 0 where
  pub core : CoreRange z.core
  pub mode : Followed z.core
  pub bank_words : length z.banks ≡ 2 * bank_count
  pub banks : Words z.banks

-- a step whose numbers fit the widths that a script or a caller can give them
abbrev pub StepRange : steps.Step → Type 0
StepRange Reset = Unit {0}
StepRange (Read o) = Unit {0}
StepRange (Write o w) = w < 2 ^ 32
StepRange Idle = Unit {0}
StepRange (BitTimes n) = Unit {0}
StepRange Activity = Unit {0}
StepRange Start = Unit {0}
StepRange (Outcome r) = Unit {0}
StepRange (Receive x) = (x.identifier < 2 ^ 32) × (x.low < 2 ^ 32) × (x.high < 2 ^ 32)
StepRange (ReceiveError k n) = Unit {0}

abbrev pub StepsRange : List steps.Step → Type 0
StepsRange [] = Unit {0}
StepsRange (s ∷ l) = StepRange s × StepsRange l
