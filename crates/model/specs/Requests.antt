-- The requests as an observer knows them who sees each step with its code, and a start's word, and nothing of the
-- controller's state. Document 01: "Request book", one clause for each of its lines.
use Rattle.std.specs.Prelude.{Bool, true, false, ◌&&◌, ◌||◌, List, [], ◌∷◌, ℕ, eqb, Option, Some, None}
use Rattle.base.specs.Base.{pick, bit}
use Rattle.model.specs.Queue.{numbered, at, put, no_flags, is_from}
use Rattle.model.specs.Mailboxes.{abrq}
use Rattle.model.specs.Registers.{register_at}
use Rattle.model.specs.Step.{step}
use Rattle.model.specs.declared.Mailbox.{Mailbox}
use Rattle.model.specs.declared.Mailbox.TheVariants.{M0, M1, M2}
use Rattle.model.specs.declared.Controller.{Controller}
use Rattle.model.specs.declared.Stepped.{Stepped}
use Rattle.model.specs.declared.Register.{Register}
use Rattle.model.specs.declared.Register.TheVariants.{Mcr, Msr, Tsr, Rfr, Ier, Esr, Btr, Ti, Tdt, Tdl, Tdh, Ri, Rdt, Rdl, Rdh, Fmr, Fm1r, Fs1r, Ffa1r, Fa1r, R1, R2, Absent}
use Rattle.model.specs.declared.Step as steps
use Rattle.model.specs.declared.Step.TheVariants.{Reset, Read, Write, Idle, BitTimes, Activity, Start, Outcome, Receive, ReceiveError}
use Rattle.model.specs.declared.ByMailbox.{ByMailbox}

-- ---- what the observer is fed: a step, its code, and a start's word

pub record Entry : Type 0 where
  pub step : steps.Step
  pub code : ℕ
  pub word : ℕ

-- of any other step the observer is not told the word
abbrev pub start_word : steps.Step → ℕ → ℕ
start_word Reset w = 0
start_word (Read o) w = 0
start_word (Write o v) w = 0
start_word Idle w = 0
start_word (BitTimes n) w = 0
start_word Activity w = 0
start_word Start w = w
start_word (Outcome r) w = 0
start_word (Receive x) w = 0
start_word (ReceiveError k n) w = 0

-- ---- what a step with code 0 means to the requests

pub data Event : Type 0 where
  nothing : Event
  drops : Event
  modes : Bool → Bool → Event
  accepts : Mailbox → Event
  aborts : ByMailbox Bool → Event
  starts : Mailbox → Event
  ends : Bool → Event

-- a write: MCR with bit 15 set drops all requests; any other MCR write sets NART and TXFP; TI with TXRQ; TSR's ABRQ bits
abbrev pub write_event : Register → ℕ → Event
write_event Mcr w = pick (bit 15 w) drops (modes (bit 4 w) (bit 2 w))
write_event Msr w = nothing
write_event Tsr w = aborts (abrq w)
write_event (Rfr f) w = nothing
write_event Ier w = nothing
write_event Esr w = nothing
write_event Btr w = nothing
write_event (Ti m) w = pick (bit 0 w) (accepts m) nothing
write_event (Tdt m) w = nothing
write_event (Tdl m) w = nothing
write_event (Tdh m) w = nothing
write_event (Ri f) w = nothing
write_event (Rdt f) w = nothing
write_event (Rdl f) w = nothing
write_event (Rdh f) w = nothing
write_event Fmr w = nothing
write_event Fm1r w = nothing
write_event Fs1r w = nothing
write_event Ffa1r w = nothing
write_event Fa1r w = nothing
write_event (R1 b) w = nothing
write_event (R2 b) w = nothing
write_event Absent w = nothing

-- the mailbox of a start is the one in its word; of an own end it matters only whether it went well
abbrev pub step_event : steps.Step → ℕ → Event
step_event Reset word = drops
step_event (Read o) word = nothing
step_event (Write o w) word = write_event (register_at o) w
step_event Idle word = nothing
step_event (BitTimes n) word = nothing
step_event Activity word = nothing
step_event Start word = starts (numbered word)
step_event (Outcome r) word = ends (eqb r 0)
step_event (Receive x) word = nothing
step_event (ReceiveError k n) word = nothing

-- a code other than 0 changes nothing
abbrev pub event : Entry → Event
event e = pick (eqb e.code 0) (step_event e.step e.word) nothing

-- ---- the requests

pub record Requests : Type 0 where
  pub outstanding : ByMailbox Bool
  pub marks : ByMailbox Bool
  pub transmitting : Option Mailbox
  pub nart : Bool
  pub txfp : Bool

-- at first no request is outstanding, no abort mark is set, nothing is on the wire, NART and TXFP are 0
abbrev pub none_yet : Requests
none_yet = record { outstanding = no_flags; marks = no_flags; transmitting = None; nart = false; txfp = false }

-- a request that ends is no longer outstanding, and its mailbox's mark clears
abbrev pub closed : Requests → Mailbox → Requests
closed b m = record { outstanding = put b.outstanding m false; marks = put b.marks m false; transmitting = b.transmitting; nart = b.nart; txfp = b.txfp }

abbrev pub marked : Requests → Mailbox → Requests
marked b m = record { outstanding = b.outstanding; marks = put b.marks m true; transmitting = b.transmitting; nart = b.nart; txfp = b.txfp }

-- an ABRQ bit: an outstanding request that isn't on the wire ends; one on the wire sets its mailbox's mark
abbrev pub abort_seen : Bool → Requests → Mailbox → Requests
abort_seen a b m = pick (a && at b.outstanding m) (pick (is_from b.transmitting m) (marked b m) (closed b m)) b

abbrev pub wire_freed : Requests → Requests
wire_freed b = record { outstanding = b.outstanding; marks = b.marks; transmitting = None; nart = b.nart; txfp = b.txfp }

-- an own end: the request ends on the wire if the frame ended well, NART is 1 or the mark is set, else it stays outstanding
abbrev pub ends_too : Requests → Mailbox → Bool → Bool
ends_too b m good = good || b.nart || at b.marks m

abbrev pub end_seen : Option Mailbox → Requests → Bool → Requests
end_seen None b good = b
end_seen (Some m) b good = pick (ends_too b m good) (closed (wire_freed b) m) (wire_freed b)

unfoldable pub next : Requests → Event → Requests
next b nothing = b
next b drops = none_yet
next b (modes n t) = record { outstanding = b.outstanding; marks = b.marks; transmitting = b.transmitting; nart = n; txfp = t }
next b (accepts m) = record { outstanding = put b.outstanding m true; marks = b.marks; transmitting = b.transmitting; nart = b.nart; txfp = b.txfp }
next b (aborts f) = abort_seen f.m2 (abort_seen f.m1 (abort_seen f.m0 b M0) M1) M2
next b (starts m) = record { outstanding = b.outstanding; marks = b.marks; transmitting = Some m; nart = b.nart; txfp = b.txfp }
next b (ends good) = end_seen b.transmitting b good

-- ---- lists of steps

abbrev pub entry : steps.Step → Stepped → Entry
entry s a = record { step = s; code = a.code; word = start_word s a.word }

-- the controller after a list of steps
unfoldable pub after : Controller → List steps.Step → Controller
after z [] = z
after z (s ∷ l) = after (step z s).controller l

-- what the observer is fed of a list of steps
unfoldable pub entries : Controller → List steps.Step → List Entry
entries z [] = []
entries z (s ∷ l) = entry s (step z s) ∷ entries (step z s).controller l

-- the requests after what was fed
unfoldable pub requests_after : Requests → List Entry → Requests
requests_after b [] = b
requests_after b (e ∷ l) = requests_after (next b (event e)) l
