-- The state block: a controller as tagged fields, one for each part of the state, and a controller read from such bytes.
-- Document 02: Q-2. docs/BLOCK.md has the same as tables. A field is a tag byte, two length bytes low first, and a body; numbers stand
-- low byte first, a flag is a byte 0 or 1.
use Rattle.std.specs.Prelude.{Bool, not, ◌&&◌, ◌||◌, List, [], ◌∷◌, ◌++◌, ℕ, zero, suc, ◌+◌, ◌/◌, ◌%◌, ◌^◌, eqb, leb, drop, Option, Some, None}
use Rattle.base.specs.Base.{pick, one}
use Rattle.model.specs.Queue.{number, numbered}
use Rattle.model.specs.Control.{mode_bits}
use Rattle.model.specs.Script.{byte_at, number16, number32}
use Rattle.model.specs.declared.RequestOrder.{RequestOrder}
use Rattle.model.specs.declared.RequestOrder.TheVariants.{Empty, One, Two, Three}
use Rattle.model.specs.declared.Queue.{Queue}
use Rattle.model.specs.declared.MailboxState.{MailboxState}
use Rattle.model.specs.declared.Transmit.{Transmit}
use Rattle.model.specs.declared.StoredFrame.{StoredFrame}
use Rattle.model.specs.declared.FifoState.{FifoState}
use Rattle.model.specs.declared.Filters.{Filters}
use Rattle.model.specs.declared.Mode.{Mode}
use Rattle.model.specs.declared.Mode.TheVariants.{Sleep, Initialization, Normal}
use Rattle.model.specs.declared.Control.{Control}
use Rattle.model.specs.declared.Errors.{Errors}
use Rattle.model.specs.declared.Core.{Core}
use Rattle.model.specs.declared.Controller.{Controller}
use Rattle.ranges.specs.Ranges.{all}
use Rattle.model.specs.declared.Mailbox.{Mailbox}

-- ---- numbers

abbrev pub bytes16 : ℕ → List ℕ
bytes16 n = n % 256 ∷ n / 2 ^ 8 % 256 ∷ []

abbrev pub bytes32 : ℕ → List ℕ
bytes32 n = n % 256 ∷ n / 2 ^ 8 % 256 ∷ n / 2 ^ 16 % 256 ∷ n / 2 ^ 24 % 256 ∷ []

abbrev pub flag_at : List ℕ → ℕ → Bool
flag_at b i = not (eqb (byte_at b i) 0)

unfoldable pub mode_at : ℕ → Mode
mode_at n = pick (eqb n 0) Normal (pick (eqb n 1) Initialization Sleep)

-- a mailbox by its number, 3 for none
abbrev pub sender_byte : Option Mailbox → ℕ
sender_byte None = 3
sender_byte (Some m) = number m

unfoldable pub sender_at : ℕ → Option Mailbox
sender_at n = pick (eqb n 3) None (Some (numbered n))

-- the request order as three such bytes, the oldest first
abbrev pub order_byte0 : RequestOrder → ℕ
order_byte0 Empty = 3
order_byte0 (One a) = number a
order_byte0 (Two a b) = number a
order_byte0 (Three a b c) = number a

abbrev pub order_byte1 : RequestOrder → ℕ
order_byte1 Empty = 3
order_byte1 (One a) = 3
order_byte1 (Two a b) = number b
order_byte1 (Three a b c) = number b

abbrev pub order_byte2 : RequestOrder → ℕ
order_byte2 Empty = 3
order_byte2 (One a) = 3
order_byte2 (Two a b) = 3
order_byte2 (Three a b c) = number c

abbrev pub order_bytes : RequestOrder → List ℕ
order_bytes o = order_byte0 o ∷ order_byte1 o ∷ order_byte2 o ∷ []

unfoldable pub order_at : ℕ → ℕ → ℕ → RequestOrder
order_at a b c =
    pick (eqb a 3) Empty
    (pick (eqb b 3) (One (numbered a))
    (pick (eqb c 3) (Two (numbered a) (numbered b))
    (Three (numbered a) (numbered b) (numbered c))))

-- ---- the fields: bytes of each part of the state

unfoldable pub control_bytes : Control → List ℕ
control_bytes k =
    0x40 ∷ 20 ∷ 0 ∷ bytes32 k.mcr ++ bytes32 k.ier ++ bytes32 k.btr ++ bytes16 k.timer
    ++ (mode_bits k.mode ∷ k.recovery ∷ one k.reinitialized ∷ one k.erri ∷ one k.wkui ∷ one k.slaki ∷ [])

unfoldable pub errors_bytes : Errors → List ℕ
errors_bytes e = 0x41 ∷ 4 ∷ 0 ∷ bytes16 e.tec ++ (e.rec ∷ e.lec ∷ [])

abbrev pub words4 : ℕ → ℕ → ℕ → ℕ → List ℕ
words4 w0 w1 w2 w3 = bytes32 w0 ++ bytes32 w1 ++ bytes32 w2 ++ bytes32 w3

unfoldable pub mailbox_bytes : ℕ → MailboxState → List ℕ
mailbox_bytes t x =
    t ∷ 20 ∷ 0 ∷ words4 x.ti x.tdt x.tdl x.tdh
    ++ (one x.rqcp ∷ one x.txok ∷ one x.alst ∷ one x.terr ∷ [])

unfoldable pub queue_bytes : Queue → List ℕ
queue_bytes q =
    0x45 ∷ 7 ∷ 0 ∷ order_byte0 q.order ∷ order_byte1 q.order ∷ order_byte2 q.order ∷ sender_byte q.transmitting
    ∷ one q.aborts.m0 ∷ one q.aborts.m1 ∷ one q.aborts.m2 ∷ []

abbrev pub frame_bytes : StoredFrame → List ℕ
frame_bytes x = words4 x.ri x.rdt x.rdl x.rdh

unfoldable pub fifo_bytes : ℕ → FifoState → List ℕ
fifo_bytes t q =
    t ∷ 52 ∷ 0 ∷ frame_bytes q.first ++ frame_bytes q.second ++ frame_bytes q.third ++ bytes16 q.count
    ++ (one q.full ∷ one q.fovr ∷ [])

unfoldable pub filters_bytes : Filters → List ℕ
filters_bytes g =
    0x48 ∷ 17 ∷ 0 ∷ words4 g.mode g.scale g.assignment g.activation
    ++ (one g.finit ∷ [])

-- R1 and R2 of each bank in turn
unfoldable pub word_bytes : List ℕ → List ℕ
word_bytes [] = []
word_bytes (w ∷ l) = bytes32 w ++ word_bytes l

unfoldable pub banks_bytes : List ℕ → List ℕ
banks_bytes v = 0x49 ∷ 112 ∷ 0 ∷ word_bytes v

abbrev pub block_length : ℕ
block_length = 354

unfoldable pub transmit_bytes : Transmit → List ℕ
transmit_bytes t =
    mailbox_bytes 0x42 t.mailboxes.m0 ++ (mailbox_bytes 0x43 t.mailboxes.m1 ++ (mailbox_bytes 0x44 t.mailboxes.m2 ++ queue_bytes t.queue))

unfoldable pub core_bytes : Core → List ℕ
core_bytes c =
    control_bytes c.control ++ (errors_bytes c.errors ++ (transmit_bytes c.transmit ++ (fifo_bytes 0x46 c.fifo0 ++ (fifo_bytes 0x47 c.fifo1 ++ filters_bytes c.filters))))

unfoldable pub saved : Controller → List ℕ
saved z = core_bytes z.core ++ banks_bytes z.banks

-- ---- the parts of the state that stand at their places

unfoldable pub control_at : List ℕ → Control
control_at b = record {
  mcr = number32 b 3;
  ier = number32 b 7;
  btr = number32 b 11;
  timer = number16 b 15;
  mode = mode_at (byte_at b 17);
  recovery = byte_at b 18;
  reinitialized = flag_at b 19;
  erri = flag_at b 20;
  wkui = flag_at b 21;
  slaki = flag_at b 22;
}

unfoldable pub errors_at : List ℕ → Errors
errors_at b = record { tec = number16 b 26; rec = byte_at b 28; lec = byte_at b 29 }

unfoldable pub mailbox_at : List ℕ → ℕ → MailboxState
mailbox_at b i = record {
  ti = number32 b (i + 3);
  tdt = number32 b (i + 7);
  tdl = number32 b (i + 11);
  tdh = number32 b (i + 15);
  rqcp = flag_at b (i + 19);
  txok = flag_at b (i + 20);
  alst = flag_at b (i + 21);
  terr = flag_at b (i + 22);
}

unfoldable pub queue_at : List ℕ → Queue
queue_at b = record {
  order = order_at (byte_at b 102) (byte_at b 103) (byte_at b 104);
  transmitting = sender_at (byte_at b 105);
  aborts = record { m0 = flag_at b 106; m1 = flag_at b 107; m2 = flag_at b 108 };
}

unfoldable pub frame_at : List ℕ → ℕ → StoredFrame
frame_at b i = record { ri = number32 b i; rdt = number32 b (i + 4); rdl = number32 b (i + 8); rdh = number32 b (i + 12) }

unfoldable pub fifo_at : List ℕ → ℕ → FifoState
fifo_at b i = record {
  first = frame_at b (i + 3);
  second = frame_at b (i + 19);
  third = frame_at b (i + 35);
  count = number16 b (i + 51);
  full = flag_at b (i + 53);
  fovr = flag_at b (i + 54);
}

unfoldable pub filters_at : List ℕ → Filters
filters_at b = record {
  mode = number32 b 222;
  scale = number32 b 226;
  assignment = number32 b 230;
  activation = number32 b 234;
  finit = flag_at b 238;
}

-- n words from the front
unfoldable pub words_of : ℕ → List ℕ → List ℕ
words_of zero b = []
words_of (suc n) b = number32 b 0 ∷ words_of n (drop 4 b)

unfoldable pub transmit_at : List ℕ → Transmit
transmit_at b = record { mailboxes = record { m0 = mailbox_at b 30; m1 = mailbox_at b 53; m2 = mailbox_at b 76 }; queue = queue_at b }

unfoldable pub core_at : List ℕ → Core
core_at b = record {
  control = control_at b;
  errors = errors_at b;
  transmit = transmit_at b;
  fifo0 = fifo_at b 109;
  fifo1 = fifo_at b 164;
  filters = filters_at b;
}

unfoldable pub decoded : List ℕ → Controller
decoded b = record { core = core_at b; banks = words_of 28 (drop 242 b) }

-- ---- blocks of the one form: what stands beside the numbers is as saving writes it

unfoldable pub header_ok : List ℕ → ℕ → ℕ → ℕ → Bool
header_ok b i t n = eqb (byte_at b i) t && (eqb (byte_at b (i + 1)) n && eqb (byte_at b (i + 2)) 0)

abbrev pub header_tests : List ℕ → List Bool
header_tests b =
    header_ok b 0 0x40 20 ∷ header_ok b 23 0x41 4 ∷ header_ok b 30 0x42 20 ∷ header_ok b 53 0x43 20 ∷ header_ok b 76 0x44 20
    ∷ header_ok b 99 0x45 7 ∷ header_ok b 109 0x46 52 ∷ header_ok b 164 0x47 52 ∷ header_ok b 219 0x48 17 ∷ header_ok b 239 0x49 112 ∷ []

unfoldable pub headers_ok : List ℕ → Bool
headers_ok b = all (header_tests b)

-- three bytes of a request order: mailboxes, and behind the last of them nothing but 3
unfoldable pub order_ok : ℕ → ℕ → ℕ → Bool
order_ok x y z = leb x 3 && (leb y 3 && (leb z 3 && ((not (eqb x 3) || eqb y 3) && (not (eqb y 3) || eqb z 3))))

unfoldable pub flag_ok : List ℕ → ℕ → Bool
flag_ok b i = leb (byte_at b i) 1

unfoldable pub flags_ok : List ℕ → ℕ → Bool
flags_ok b i = flag_ok b i && (flag_ok b (i + 1) && (flag_ok b (i + 2) && flag_ok b (i + 3)))

-- the mode, the flags of control and of each mailbox, the order, the mailbox on the wire, the aborts, the flags of each FIFO, FINIT
abbrev pub form_tests : List ℕ → List Bool
form_tests b =
    leb (byte_at b 17) 2 ∷ flags_ok b 19 ∷ flags_ok b 49 ∷ flags_ok b 72 ∷ flags_ok b 95
    ∷ order_ok (byte_at b 102) (byte_at b 103) (byte_at b 104) ∷ leb (byte_at b 105) 3 ∷ flag_ok b 106 ∷ flag_ok b 107 ∷ flag_ok b 108
    ∷ flag_ok b 162 ∷ flag_ok b 163 ∷ flag_ok b 217 ∷ flag_ok b 218 ∷ flag_ok b 238 ∷ []

unfoldable pub form_ok : List ℕ → Bool
form_ok b = all (form_tests b)

unfoldable pub canonical : List ℕ → Bool
canonical b = headers_ok b && form_ok b
