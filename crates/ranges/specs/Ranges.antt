-- The ranges of a controller's fields as tests: those of the model's `InRange` (specs/Reachable.antt) that the widths of the fields
-- do not give. `Ranged`, below, says that they are the same. Document 02: Q-2.
use Rattle.std.specs.Prelude.{Bool, true, not, ◌&&◌, ◌||◌, List, [], ◌∷◌, ◌≡◌, ℕ, ◌+◌, ◌*◌, ◌/◌, ◌^◌, ◌<◌, ◌≤◌, eqb, ltb, leb, length}
use Rattle.base.specs.Base.{pick, bit, bits}
use Rattle.model.specs.Queue.{holds, is_from}
use Rattle.model.specs.Mailboxes.{at, tdt_masked}
use Rattle.model.specs.Reception.{data_bytes}
use Rattle.model.specs.Control.{inrq, sleep, ttcm, mode_next, mode_bits, is_sleep, is_initialization, is_normal, boff, mcr_masked, ier_masked, btr_masked}
use Rattle.model.specs.Registers.{bank_count, filter_masked, is_free}
use Rattle.model.specs.Reachable.{distinct, carried, frame_of, silent, Words, InRange}
use Rattle.model.specs.declared.Mailbox.{Mailbox}
use Rattle.model.specs.declared.Mailbox.TheVariants.{M0, M1, M2}
use Rattle.model.specs.declared.Queue.{Queue}
use Rattle.model.specs.declared.MailboxState.{MailboxState}
use Rattle.model.specs.declared.Transmit.{Transmit}
use Rattle.model.specs.declared.StoredFrame.{StoredFrame}
use Rattle.model.specs.declared.FifoState.{FifoState}
use Rattle.model.specs.declared.Filters.{Filters}
use Rattle.model.specs.declared.Control.{Control}
use Rattle.model.specs.declared.Errors.{Errors}
use Rattle.model.specs.declared.Core.{Core}
use Rattle.model.specs.declared.Controller.{Controller}

-- every test of a list holds
abbrev pub all : List Bool → Bool
all [] = true
all (b ∷ l) = b && all l

-- ---- transmission: no mailbox twice in the order, the one on the wire among them, an abort remembered of that one alone

abbrev pub queue_tests : Queue → List Bool
queue_tests q =
    distinct q.order
    ∷ carried q.transmitting q.order
    ∷ (not q.aborts.m0 || is_from q.transmitting M0)
    ∷ (not q.aborts.m1 || is_from q.transmitting M1)
    ∷ (not q.aborts.m2 || is_from q.transmitting M2)
    ∷ []

unfoldable pub queue_ok : Queue → Bool
queue_ok q = all (queue_tests q)

-- no two of three flags
abbrev pub at_most_one : Bool → Bool → Bool → Bool
at_most_one a b c = not (a && b) && (not (a && c) && not (b && c))

-- pending: the mailbox has a request
abbrev pub mailbox_tests : MailboxState → Bool → List Bool
mailbox_tests x pending =
    eqb (x.ti / 2 * 2) x.ti
    ∷ eqb (tdt_masked x.tdt) x.tdt
    ∷ (not x.txok || x.rqcp)
    ∷ at_most_one x.txok x.alst x.terr
    ∷ (not pending || not x.rqcp)
    ∷ []

unfoldable pub mailbox_ok : MailboxState → Bool → Bool
mailbox_ok x pending = all (mailbox_tests x pending)

abbrev pub transmit_tests : Transmit → List Bool
transmit_tests t =
    queue_ok t.queue
    ∷ mailbox_ok t.mailboxes.m0 (holds t.queue.order M0)
    ∷ mailbox_ok t.mailboxes.m1 (holds t.queue.order M1)
    ∷ mailbox_ok t.mailboxes.m2 (holds t.queue.order M2)
    ∷ []

unfoldable pub transmit_ok : Transmit → Bool
transmit_ok t = all (transmit_tests t)

-- ---- reception

-- of eight bytes as one number, low byte first: those behind the first n are 0
unfoldable pub none_behind : ℕ → ℕ → Bool
none_behind w n = eqb (w / 2 ^ (8 * n)) 0

abbrev pub frame_tests : StoredFrame → List Bool
frame_tests x =
    not (bit 0 x.ri)
    ∷ eqb (bits 4 4 x.rdt) 0
    ∷ ltb (bits 8 8 x.rdt) (4 * bank_count)
    ∷ none_behind (x.rdl + x.rdh * 2 ^ 32) (data_bytes (frame_of x))
    ∷ (bit 2 x.ri || eqb (bits 3 18 x.ri) 0)
    ∷ []

unfoldable pub frame_ok : StoredFrame → Bool
frame_ok x = all (frame_tests x)

abbrev pub no_frame_tests : StoredFrame → List Bool
no_frame_tests x =
    eqb x.ri 0 ∷ eqb x.rdt 0 ∷ eqb x.rdl 0 ∷ eqb x.rdh 0 ∷ []

unfoldable pub is_no_frame : StoredFrame → Bool
is_no_frame x = all (no_frame_tests x)

-- a place of a FIFO: a frame, or past the count zeros
unfoldable pub place_ok : Bool → StoredFrame → Bool
place_ok held x = pick held (frame_ok x) (is_no_frame x)

abbrev pub fifo_tests : FifoState → List Bool
fifo_tests q = leb q.count 3 ∷ place_ok (ltb 0 q.count) q.first ∷ place_ok (ltb 1 q.count) q.second ∷ place_ok (ltb 2 q.count) q.third ∷ []

unfoldable pub fifo_ok : FifoState → Bool
fifo_ok q = all (fifo_tests q)

-- a bit for each bank and no other
abbrev pub bank_bits_ok : ℕ → Bool
bank_bits_ok w = eqb (filter_masked w) w

abbrev pub filters_tests : Filters → List Bool
filters_tests g =
    bank_bits_ok g.mode
    ∷ bank_bits_ok g.scale
    ∷ bank_bits_ok g.assignment
    ∷ bank_bits_ok g.activation
    ∷ []

unfoldable pub filters_ok : Filters → Bool
filters_ok g = all (filters_tests g)

-- ---- control and errors

abbrev pub control_tests : Control → List Bool
control_tests k =
    eqb (mcr_masked k.mcr) k.mcr
    ∷ eqb (ier_masked k.ier) k.ier
    ∷ eqb (btr_masked k.btr) k.btr
    ∷ (ttcm k || eqb k.timer 0)
    ∷ ltb k.recovery 128
    ∷ (not k.slaki || is_sleep k.mode)
    ∷ []

unfoldable pub control_ok : Control → Bool
control_ok k = all (control_tests k)

abbrev pub errors_tests : Errors → List Bool
errors_tests e =
    leb e.tec 263 ∷ leb e.lec 7 ∷ []

unfoldable pub errors_ok : Errors → Bool
errors_ok e = all (errors_tests e)

abbrev pub recovery_tests : Control → Bool → List Bool
recovery_tests k off =
    (off || eqb k.recovery 0)
    ∷ (off || not k.reinitialized)
    ∷ (not (is_initialization k.mode) || eqb k.recovery 0)
    ∷ (not (is_initialization k.mode) || (not off || k.reinitialized))
    ∷ []

unfoldable pub recovery_ok : Control → Bool → Bool
recovery_ok k off = all (recovery_tests k off)

-- with an own frame on the wire
abbrev pub wire_tests : Control → Bool → Bool → List Bool
wire_tests k free off =
    (free || is_normal k.mode)
    ∷ (free || not off)
    ∷ (free || not (silent k))
    ∷ []

unfoldable pub wire_ok : Control → Bool → Bool → Bool
wire_ok k free off = all (wire_tests k free off)

-- with none on the wire the mode has followed INRQ and SLEEP
unfoldable pub followed_ok : Control → Bool → Bool
followed_ok k free = not free || eqb (mode_bits (mode_next k.mode (inrq k) (sleep k))) (mode_bits k.mode)

-- ---- the controller

abbrev pub core_tests : Core → List Bool
core_tests c =
    control_ok c.control
    ∷ errors_ok c.errors
    ∷ recovery_ok c.control (boff c.errors)
    ∷ wire_ok c.control (is_free c) (boff c.errors)
    ∷ followed_ok c.control (is_free c)
    ∷ transmit_ok c.transmit
    ∷ fifo_ok c.fifo0
    ∷ fifo_ok c.fifo1
    ∷ filters_ok c.filters
    ∷ []

unfoldable pub in_range : Core → Bool
in_range c = all (core_tests c)

-- ---- the tests are the ranges of the model, of numbers that fit the widths of their fields

pub record MailboxFits (x : MailboxState) : Type 0 where
  pub ti : x.ti < 2 ^ 32
  pub tdl : x.tdl < 2 ^ 32
  pub tdh : x.tdh < 2 ^ 32

pub record FrameFits (x : StoredFrame) : Type 0 where
  pub ri : x.ri < 2 ^ 32
  pub rdt : x.rdt < 2 ^ 32
  pub rdl : x.rdl < 2 ^ 32
  pub rdh : x.rdh < 2 ^ 32

pub record FifoFits (q : FifoState) : Type 0 where
  pub first : FrameFits q.first
  pub second : FrameFits q.second
  pub third : FrameFits q.third

pub record Fits (z : Controller) : Type 0 where
  pub timer : z.core.control.timer < 65536
  pub rec : z.core.errors.rec ≤ 255
  pub mailboxes : (m : Mailbox) → MailboxFits (at z.core.transmit.mailboxes m)
  pub fifo0 : FifoFits z.core.fifo0
  pub fifo1 : FifoFits z.core.fifo1
  pub bank_words : length z.banks ≡ 2 * bank_count
  pub banks : Words z.banks

pub record Ranged (z : Controller) : Type 0 where
  pub inside : InRange z → in_range z.core ≡ true
  pub outside : Fits z → in_range z.core ≡ true → InRange z
