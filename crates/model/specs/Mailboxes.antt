-- The transmit mailboxes: their words and flags, their priority, TSR.
-- Document 01: "Register map" (TI, TDT, TSR, CODE, LOW), "Bus events" (start, own end), "Order, filters, storage" (order).
use Rattle.std.specs.Prelude.{Bool, false, not, ◌&&◌, ◌||◌, ℕ, ◌+◌, ◌*◌, ◌/◌, ◌%◌, ◌^◌, eqb, ltb, Option, Some, None}
use Rattle.base.specs.Base.{pick, bit, bits, one}
pub use Rattle.model.specs.Queue.{at, put}
use Rattle.model.specs.Queue.{number, holds, oldest, newest, is_from, besides, sender_number, two_or_more, requested, aborted_all, sending, off_wire, no_requests}
use Rattle.model.specs.declared.Mailbox.{Mailbox}
use Rattle.model.specs.declared.Mailbox.TheVariants.{M0, M1, M2}
use Rattle.model.specs.declared.RequestOrder.{RequestOrder}
use Rattle.model.specs.declared.RequestOrder.TheVariants.{Empty, One, Two, Three}
use Rattle.model.specs.declared.Queue.{Queue}
use Rattle.model.specs.declared.MailboxState.{MailboxState}
use Rattle.model.specs.declared.Transmit.{Transmit}
use Rattle.model.specs.declared.ByMailbox.{ByMailbox}

-- ---- one of three

abbrev pub with_words : MailboxState → ℕ → ℕ → ℕ → ℕ → MailboxState
with_words x i t l h = record { ti = i; tdt = t; tdl = l; tdh = h; rqcp = x.rqcp; txok = x.txok; alst = x.alst; terr = x.terr }

abbrev pub with_flags : MailboxState → Bool → Bool → Bool → Bool → MailboxState
with_flags x r o a e = record { ti = x.ti; tdt = x.tdt; tdl = x.tdl; tdh = x.tdh; rqcp = r; txok = o; alst = a; terr = e }

abbrev pub empty_mailbox : MailboxState
empty_mailbox = record { ti = 0; tdt = 0; tdl = 0; tdh = 0; rqcp = false; txok = false; alst = false; terr = false }

-- ---- register writes ("Register map")

-- TI: TXRQ is not kept; where it is set, the flags clear
unfoldable pub ti_written : MailboxState → ℕ → MailboxState
ti_written x w =
    with_flags (with_words x (w / 2 * 2) x.tdt x.tdl x.tdh)
    (x.rqcp && not (bit 0 w)) (x.txok && not (bit 0 w)) (x.alst && not (bit 0 w)) (x.terr && not (bit 0 w))

-- writable bits 0xFFFF010F
abbrev pub tdt_masked : ℕ → ℕ
tdt_masked w = bits 16 16 w * 65536 + bits 8 1 w * 256 + w % 16

unfoldable pub tdt_written : MailboxState → ℕ → MailboxState
tdt_written x w = with_words x x.ti (tdt_masked w) x.tdl x.tdh

unfoldable pub tdl_written : MailboxState → ℕ → MailboxState
tdl_written x w = with_words x x.ti x.tdt w x.tdh

unfoldable pub tdh_written : MailboxState → ℕ → MailboxState
tdh_written x w = with_words x x.ti x.tdt x.tdl w

abbrev pub with_mailbox : Transmit → Mailbox → MailboxState → Transmit
with_mailbox t m x = record { mailboxes = put t.mailboxes m x; queue = t.queue }

-- TI with TXRQ: the request is accepted, last in request order
unfoldable pub requested_by : Transmit → Mailbox → ℕ → Transmit
requested_by t m w = record {
  mailboxes = put t.mailboxes m (ti_written (at t.mailboxes m) w);
  queue = pick (bit 0 w) (requested t.queue m) t.queue;
}

-- TSR: 1 in RQCP clears it with TXOK, ALST, TERR; 1 in one of those three clears it. A mailbox's byte begins at bit k
unfoldable pub cleared : MailboxState → ℕ → ℕ → MailboxState
cleared x k w =
    with_flags x
    (x.rqcp && not (bit k w))
    (x.txok && not (bit k w) && not (bit (k + 1) w))
    (x.alst && not (bit k w) && not (bit (k + 2) w))
    (x.terr && not (bit k w) && not (bit (k + 3) w))

-- a pending request is aborted: RQCP=1, TXOK=0
unfoldable pub completed : MailboxState → Bool → MailboxState
completed x b = with_flags x (x.rqcp || b) (x.txok && not b) x.alst x.terr

abbrev pub aborts_pending : Queue → Mailbox → Bool → Bool
aborts_pending q m b = b && holds q.order m && not (is_from q.transmitting m)

abbrev pub abrq : ℕ → ByMailbox Bool
abrq w = record { m0 = bit 7 w; m1 = bit 15 w; m2 = bit 23 w }

-- TSR: the clears, then the aborts
unfoldable pub tsr_written : Transmit → ℕ → Transmit
tsr_written t w = record {
  mailboxes = record {
    m0 = completed (cleared t.mailboxes.m0 0 w) (aborts_pending t.queue M0 (bit 7 w));
    m1 = completed (cleared t.mailboxes.m1 8 w) (aborts_pending t.queue M1 (bit 15 w));
    m2 = completed (cleared t.mailboxes.m2 16 w) (aborts_pending t.queue M2 (bit 23 w));
  };
  queue = aborted_all t.queue (abrq w);
}

-- MCR with bit 15: requests and any frame on the wire are dropped
abbrev pub dropped : Transmit → Transmit
dropped t = record { mailboxes = t.mailboxes; queue = no_requests }

-- ---- priority ("Order, filters, storage")

-- what is sent of an identifier word: EXID of a standard one as 0
unfoldable pub sent_identifier : ℕ → ℕ
sent_identifier ti = pick (bit 2 ti) ti (ti / 2 ^ 21 * 2 ^ 21 + bits 1 1 ti * 2)

-- a number that orders identifier words as the bits on the wire do, the lower going first: the top 11 bits, then standard
-- data, standard remote, extended, then the low 18, then data before remote
unfoldable pub wire_key : ℕ → ℕ
wire_key ti =
    pick (bit 2 ti)
    (bits 21 11 ti * 2 ^ 21 + 2 ^ 20 + bits 3 18 ti * 2 + bits 1 1 ti)
    (bits 21 11 ti * 2 ^ 21 + bits 1 1 ti * 2 ^ 19)

abbrev pub identifiers : ByMailbox MailboxState → ByMailbox ℕ
identifiers b = record { m0 = b.m0.ti; m1 = b.m1.ti; m2 = b.m2.ti }

-- equal bits: the lower mailbox
unfoldable pub key : ByMailbox ℕ → Mailbox → ℕ
key i m = wire_key (at i m) * 4 + number m

unfoldable pub before : ByMailbox ℕ → Mailbox → Mailbox → Bool
before i a b = ltb (key i a) (key i b)

unfoldable pub sooner : ByMailbox ℕ → Mailbox → Mailbox → Mailbox
sooner i a b = pick (before i a b) a b

unfoldable pub later : ByMailbox ℕ → Mailbox → Mailbox → Mailbox
later i a b = pick (before i a b) b a

-- first and last in wire order
unfoldable pub first_in_wire_order : ByMailbox ℕ → RequestOrder → Option Mailbox
first_in_wire_order i Empty = None
first_in_wire_order i (One a) = Some a
first_in_wire_order i (Two a b) = Some (sooner i a b)
first_in_wire_order i (Three a b c) = Some (sooner i (sooner i a b) c)

unfoldable pub last_in_wire_order : ByMailbox ℕ → RequestOrder → Option Mailbox
last_in_wire_order i Empty = None
last_in_wire_order i (One a) = Some a
last_in_wire_order i (Two a b) = Some (later i a b)
last_in_wire_order i (Three a b c) = Some (later i (later i a b) c)

-- first and last in priority: request order if TXFP=1, else the bits on the wire
unfoldable pub first : Bool → ByMailbox ℕ → RequestOrder → Option Mailbox
first txfp i o = pick txfp (oldest o) (first_in_wire_order i o)

unfoldable pub last : Bool → ByMailbox ℕ → RequestOrder → Option Mailbox
last txfp i o = pick txfp (newest o) (last_in_wire_order i o)

abbrev pub first_of : Bool → Transmit → Option Mailbox
first_of txfp t = first txfp (identifiers t.mailboxes) t.queue.order

-- the one on the wire stands first, so it is not the last where another waits
abbrev pub last_of : Bool → Transmit → Option Mailbox
last_of txfp t = last txfp (identifiers t.mailboxes) (besides t.queue.transmitting t.queue.order)

-- ---- the word TSR ("Register map"; bit places of 000)

abbrev pub tme : Transmit → Mailbox → Bool
tme t m = not (holds t.queue.order m)

-- with two or more not empty, the lowest in priority
unfoldable pub low : Bool → Transmit → Mailbox → Bool
low txfp t m = two_or_more t.queue.order && is_from (last_of txfp t) m

-- the lowest empty mailbox, else the lowest in priority
unfoldable pub code : Bool → Transmit → ℕ
code txfp t = pick (tme t M0) 0 (pick (tme t M1) 1 (pick (tme t M2) 2 (sender_number (last_of txfp t))))

unfoldable pub tsr_byte : MailboxState → Bool → ℕ
tsr_byte x abort = one x.rqcp + one x.txok * 2 + one x.alst * 4 + one x.terr * 8 + one abort * 128

unfoldable pub tsr : Bool → Transmit → ℕ
tsr txfp t =
    tsr_byte t.mailboxes.m0 t.queue.aborts.m0
    + tsr_byte t.mailboxes.m1 t.queue.aborts.m1 * 2 ^ 8
    + tsr_byte t.mailboxes.m2 t.queue.aborts.m2 * 2 ^ 16
    + code txfp t * 2 ^ 24
    + one (tme t M0) * 2 ^ 26 + one (tme t M1) * 2 ^ 27 + one (tme t M2) * 2 ^ 28
    + one (low txfp t M0) * 2 ^ 29 + one (low txfp t M1) * 2 ^ 30 + one (low txfp t M2) * 2 ^ 31

-- TXRQ, bit 0, reads 1 while the mailbox is not empty
unfoldable pub ti_word : Transmit → Mailbox → ℕ
ti_word t m = (at t.mailboxes m).ti / 2 * 2 + one (holds t.queue.order m)

-- ---- events ("Bus events")

-- a start: the frame goes on the wire, TIME takes the timer
unfoldable pub started : Transmit → Mailbox → ℕ → Transmit
started t m time = record {
  mailboxes = put t.mailboxes m
      (with_words (at t.mailboxes m) (at t.mailboxes m).ti ((at t.mailboxes m).tdt % 65536 + time * 65536) (at t.mailboxes m).tdl (at t.mailboxes m).tdh);
  queue = sending t.queue m;
}

-- an own end: 0 good, 7 arbitration lost, else an error, 8 (02, Q-4) too. The request is over if it went well, with NART=1, or
-- with a remembered abort
unfoldable pub over : Queue → Mailbox → ℕ → Bool → Bool
over q m r nart = eqb r 0 || nart || at q.aborts m

unfoldable pub outcome_flags : MailboxState → ℕ → Bool → MailboxState
outcome_flags x r done = with_flags x (x.rqcp || done) (eqb r 0) (eqb r 7) (not (eqb r 0) && not (eqb r 7))

unfoldable pub ended : Transmit → Mailbox → ℕ → Bool → Transmit
ended t m r nart = record {
  mailboxes = put t.mailboxes m (outcome_flags (at t.mailboxes m) r (over t.queue m r nart));
  queue = off_wire t.queue m (over t.queue m r nart);
}
