-- Why a step is refused. Document 01: "Refusal numbers", the conditions of codes 1 to 5 one by one.
use Rattle.std.specs.Prelude.{not, ◌&&◌, ◌||◌, ℕ, ◌%◌, eqb, ltb, leb, Option, Some, None}
use Rattle.base.specs.Base.{pick, bit}
use Rattle.model.specs.Queue.{is_empty}
use Rattle.model.specs.Control.{is_normal, boff, lbkm}
use Rattle.model.specs.Reception.{malformed}
use Rattle.model.specs.Registers.{is_free}
use Rattle.model.specs.declared.Core.{Core}
use Rattle.model.specs.declared.Frame.{Frame}
use Rattle.model.specs.declared.Register.{Register}
use Rattle.model.specs.declared.Register.TheVariants.{Mcr, Msr, Tsr, Rfr, Ier, Esr, Btr, Ti, Tdt, Tdl, Tdh, Ri, Rdt, Rdl, Rdh, Fmr, Fm1r, Fs1r, Ffa1r, Fa1r, R1, R2, Absent}
use Rattle.model.specs.declared.Step as steps
use Rattle.model.specs.declared.Step.TheVariants.{Reset, Read, Write, Idle, BitTimes, Activity, Start, Outcome, Receive, ReceiveError}
use Rattle.account.specs.declared.reasons.Bus.{Bus}
use Rattle.account.specs.declared.reasons.Reason.{Reason}
use Rattle.account.specs.declared.reasons.Reason.TheVariants.{Misaligned, NoRegister, ReceiveMailbox, BtrLocked, MailboxNotEmpty, Fm1rLocked, Fs1rLocked, Ffa1rLocked, BankActive, NoBitTimes, UnknownResult, IdentifierBit, ExtendedBits, LengthCode, ErrorCode, ErrorStep, OwnFrame, NotAsleep, NotNormal, BusOff, NonePending, Silent, NoOwnFrame, Acknowledged, Loopback, FilterInitialization, ErrorActive}

abbrev pub bus_of : Core → Bus
bus_of c = record {
  normal = is_normal c.control.mode;
  off = boff c.errors;
  own = not (is_free c);
  empty = is_empty c.transmit.queue.order;
  loopback = lbkm c.control;
}

-- the number of a reason in the laws
abbrev pub reason_number : Reason → ℕ
reason_number Misaligned = 0
reason_number NoRegister = 1
reason_number ReceiveMailbox = 2
reason_number BtrLocked = 3
reason_number (MailboxNotEmpty m) = 4
reason_number Fm1rLocked = 5
reason_number Fs1rLocked = 6
reason_number Ffa1rLocked = 7
reason_number (BankActive b) = 8
reason_number NoBitTimes = 9
reason_number UnknownResult = 10
reason_number IdentifierBit = 11
reason_number ExtendedBits = 12
reason_number LengthCode = 13
reason_number ErrorCode = 14
reason_number ErrorStep = 15
reason_number OwnFrame = 16
reason_number NotAsleep = 17
reason_number NotNormal = 18
reason_number BusOff = 19
reason_number NonePending = 20
reason_number Silent = 21
reason_number NoOwnFrame = 22
reason_number Acknowledged = 23
reason_number Loopback = 24
reason_number FilterInitialization = 25
reason_number ErrorActive = 26

-- 27 nothing keeps the step from being done
abbrev pub number_of : Option Reason → ℕ
number_of None = 27
number_of (Some r) = reason_number r

-- no register has this offset; the offset isn't a multiple of 4
unfoldable pub of_offset : ℕ → Reason
of_offset o = pick (eqb (o % 4) 0) NoRegister Misaligned

-- what keeps each register from being written
unfoldable pub of_write : Register → ℕ → Option Reason
of_write Mcr o = None
of_write Msr o = None
of_write Tsr o = None
of_write (Rfr f) o = None
of_write Ier o = None
of_write Esr o = None
of_write Btr o = Some BtrLocked
of_write (Ti m) o = Some (MailboxNotEmpty m)
of_write (Tdt m) o = Some (MailboxNotEmpty m)
of_write (Tdl m) o = Some (MailboxNotEmpty m)
of_write (Tdh m) o = Some (MailboxNotEmpty m)
of_write (Ri f) o = Some ReceiveMailbox
of_write (Rdt f) o = Some ReceiveMailbox
of_write (Rdl f) o = Some ReceiveMailbox
of_write (Rdh f) o = Some ReceiveMailbox
of_write Fmr o = None
of_write Fm1r o = Some Fm1rLocked
of_write Fs1r o = Some Fs1rLocked
of_write Ffa1r o = Some Ffa1rLocked
of_write Fa1r o = None
of_write (R1 b) o = Some (BankActive b)
of_write (R2 b) o = Some (BankActive b)
of_write Absent o = Some (of_offset o)

-- not in Normal mode, bus-off, an own frame on the wire, or the given reason
unfoldable pub of_bus : Bus → Reason → Reason
of_bus b rest = pick (not b.normal) NotNormal (pick b.off BusOff (pick b.own OwnFrame rest))

-- no request is pending, or silent mode
unfoldable pub of_start : Bus → Reason
of_start b = of_bus b (pick b.empty NonePending Silent)

-- loopback, or FINIT=1
unfoldable pub of_reception : Bus → Reason
of_reception b = of_bus b (pick b.loopback Loopback FilterInitialization)

-- the result is over 8; no frame on the wire; no acknowledgment in loopback; 8 while error active (02, Q-4)
unfoldable pub of_outcome : Bus → ℕ → Reason
of_outcome b r = pick (ltb 8 r) UnknownResult (pick (not b.own) NoOwnFrame (pick b.loopback Acknowledged ErrorActive))

-- bit 0 of the identifier word, length code over 15, standard with extended bits
unfoldable pub of_frame : Bus → Frame → Reason
of_frame b x =
    pick (not (malformed x)) (of_reception b)
    (pick (bit 0 x.identifier) IdentifierBit
    (pick (ltb 15 x.length) LengthCode ExtendedBits))

-- REC goes up by 1 or 8; the error code is 1 to 6
unfoldable pub of_error : Bus → ℕ → ℕ → Reason
of_error b k n = pick (eqb n 1 || eqb n 8) (pick (leb 1 k && leb k 6) (of_reception b) ErrorCode) ErrorStep

-- g is the register that the step reads or writes
unfoldable pub of_step : Bus → steps.Step → Register → Option Reason
of_step b Reset g = None
of_step b (Read o) g = Some (of_offset o)
of_step b (Write o w) g = of_write g o
of_step b Idle g = Some OwnFrame
of_step b (BitTimes n) g = Some NoBitTimes
of_step b Activity g = Some NotAsleep
of_step b Start g = Some (of_start b)
of_step b (Outcome r) g = Some (of_outcome b r)
of_step b (Receive x) g = Some (of_frame b x)
of_step b (ReceiveError c n) g = Some (of_error b c n)
