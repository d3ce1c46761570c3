-- What is looked at of the state before and after a step, and where its frame went.
use Rattle.std.specs.Prelude.{List, [], ◌∷◌, ◌≡◌, ◌≢◌, ℕ, ◌/◌, ◌%◌, ◌<◌, get_or, Option, Some, None}
use Rattle.base.specs.Base.{pick}
use Rattle.model.specs.Queue.{holds, is_from}
use Rattle.model.specs.Registers.{read_word, bank_count}
use Rattle.model.specs.Search.{acceptance}
use Rattle.model.specs.declared.Mailbox.{Mailbox}
use Rattle.model.specs.declared.Mailbox.TheVariants.{M0, M1, M2}
use Rattle.model.specs.declared.Fifo.TheVariants.{F0, F1}
use Rattle.model.specs.declared.Queue.{Queue}
use Rattle.model.specs.declared.Core.{Core}
use Rattle.model.specs.declared.Filters.{Filters}
use Rattle.model.specs.declared.Register.{Register}
use Rattle.model.specs.declared.Register.TheVariants.{Msr, Rfr, Esr}
use Rattle.model.specs.declared.Step as steps
use Rattle.model.specs.declared.Step.TheVariants.{Reset, Read, Write, Idle, BitTimes, Activity, Start, Outcome, Receive, ReceiveError}
use Rattle.account.specs.declared.Aspect.{Aspect}
use Rattle.account.specs.declared.Aspect.TheVariants as aspect
use Rattle.account.specs.declared.Occupancy.{Occupancy}
use Rattle.account.specs.declared.Occupancy.TheVariants.{Empty, Pending, OnWire}
use Rattle.model.specs.declared.FilterNumber.{FilterNumber}
use Rattle.model.specs.declared.Fifo.{Fifo}

unfoldable pub occupancy_of : Queue → Mailbox → Occupancy
occupancy_of q m = pick (is_from q.transmitting m) OnWire (pick (holds q.order m) Pending Empty)

abbrev pub mailbox : Queue → Mailbox → Aspect
mailbox q m = aspect.Mailbox m (occupancy_of q m)

-- what a register shows that is not a bank's
abbrev pub shown : Register → Core → ℕ
shown g c = read_word g c []

-- the three mailboxes; RF0R, RF1R; TEC, REC, the error flags of ESR, the recovery count; the mode and the flags of MSR; the timer
unfoldable pub view_of : Core → List Aspect
view_of c =
    mailbox c.transmit.queue M0
    ∷ mailbox c.transmit.queue M1
    ∷ mailbox c.transmit.queue M2
    ∷ aspect.Fifo F0 (shown (Rfr F0) c)
    ∷ aspect.Fifo F1 (shown (Rfr F1) c)
    ∷ aspect.Tec c.errors.tec
    ∷ aspect.Rec c.errors.rec
    ∷ aspect.Errors (shown Esr c % 8)
    ∷ aspect.Recovery c.control.recovery
    ∷ aspect.Mode c.control.mode
    ∷ aspect.Flags (shown Msr c / 4 % 8)
    ∷ aspect.Timer c.control.timer
    ∷ []

-- what is said of one thing that was a and is b: b, unless it is a
pub record Change (a b : Aspect) (r : Option Aspect) : Type 0 where
  pub same : a ≡ b → r ≡ None
  pub other : a ≢ b → r ≡ Some b

-- one of a view; what stands past its end is never looked at
abbrev pub seen_at : List Aspect → ℕ → Aspect
seen_at v i = get_or v i (aspect.Mailbox M0 Empty)

-- the same of each of the twelve things that are looked at
pub record Changes (old new : List Aspect) (r : List (Option Aspect)) : Type 0 where
  pub each : (i : ℕ) → i < 12 → Change (seen_at old i) (seen_at new i) (get_or r i None)

-- of a frame, which filter takes it, if any does; nothing of another step
unfoldable pub taken_by : Filters → List ℕ → steps.Step → Option (Option (Fifo × FilterNumber))
taken_by g v Reset = None
taken_by g v (Read o) = None
taken_by g v (Write o w) = None
taken_by g v Idle = None
taken_by g v (BitTimes n) = None
taken_by g v Activity = None
taken_by g v Start = None
taken_by g v (Outcome r) = None
taken_by g v (Receive x) = Some (acceptance bank_count g v x.identifier)
taken_by g v (ReceiveError k n) = None
