-- What was saved is read back: each part of the state stands at its place, and its bytes give it back.
use Rattle.std.proofs.Common.{Option, Some, None}
use mathlib.Core.Bool.{Bool, true, false, not}
use mathlib.Core.List.{List, [], ◌∷◌}
use mathlib.Core.Path.{◌≡◌, refl, sym, ap, ◌∙◌}
use Prim.Native.Nat.{ℕ, ◌+◌, ◌*◌, ◌/◌, ◌%◌, ◌^◌, ◌<◌}
use native.Mathlib.Omega.{arith}
use lib.Dec.{eqb}
use lib.ListN.{length, drop}
use Rattle.base.specs.Base.{one}
use Rattle.model.specs.Queue.{number, numbered}
use Rattle.model.specs.Control.{mode_bits}
use Rattle.model.specs.Reachable.{MailboxRange, FrameRange, FifoRange, FilterRange, Words, ControlRange, InRange}
use Rattle.model.specs.declared.Mailbox.{Mailbox}
use Rattle.model.specs.declared.Mailbox.TheVariants.{M0, M1, M2}
use Rattle.model.specs.declared.RequestOrder.{RequestOrder}
use Rattle.model.specs.declared.RequestOrder.TheVariants.{Empty, One, Two, Three}
use Rattle.model.specs.declared.Queue.{Queue}
use Rattle.model.specs.declared.MailboxState.{MailboxState}
use Rattle.model.specs.declared.Transmit.{Transmit}
use Rattle.model.specs.declared.StoredFrame.{StoredFrame}
use Rattle.model.specs.declared.FifoState.{FifoState}
use Rattle.model.specs.declared.Filters.{Filters}
use Rattle.model.specs.declared.Mode.{Mode}
use Rattle.model.specs.declared.Mode.TheVariants.{Sleep, Initialization, Normal}
use Rattle.model.specs.declared.Control.{Control}
use Rattle.model.specs.declared.Controller.{Controller}
use Rattle.block.specs.Block.{control_bytes, errors_bytes, mailbox_bytes, queue_bytes, fifo_bytes, filters_bytes, word_bytes, banks_bytes, transmit_bytes, core_bytes, saved, control_at, errors_at, mailbox_at, queue_at, frame_at, fifo_at, filters_at, words_of, transmit_at, core_at, decoded, mode_at, sender_byte, sender_at, order_byte0, order_byte1, order_byte2, order_at}

-- ---- numbers: two and four bytes give the number back

abbrev again16 : ℕ → ℕ
again16 n = n % 256 + n / 2 ^ 8 % 256 * 256

abbrev again32 : ℕ → ℕ
again32 n = n % 256 + n / 2 ^ 8 % 256 * 256 + (n / 2 ^ 16 % 256 + n / 2 ^ 24 % 256 * 256) * 65536

back16 : (n : ℕ) → n < 65536 → again16 n ≡ n
back16 n h = omega arith

-- by the quotients, one after the other
quarters : (n a b c : ℕ) → a ≡ n / 256 → b ≡ a / 256 → c ≡ b / 256 → n < 2 ^ 32 → n % 256 + a % 256 * 256 + (b % 256 + c % 256 * 256) * 65536 ≡ n
quarters n a b c e f g h =
    let x : n ≡ a * 256 + n % 256 = omega arith in
    let y : a ≡ b * 256 + a % 256 = omega arith in
    let z : b ≡ c * 256 + b % 256 = omega arith in
    let l : c < 256 = omega arith in
    omega arith

back32 : (n : ℕ) → n < 2 ^ 32 → again32 n ≡ n
back32 n h = quarters n (n / 2 ^ 8) (n / 2 ^ 16) (n / 2 ^ 24) (omega arith) (omega arith) (omega arith) h

-- ---- flags and enums

flag-back : (b : Bool) → not (eqb (one b) 0) ≡ b
flag-back true = refl
flag-back false = refl

mode-back : (m : Mode) → mode_at (mode_bits m) ≡ m
unfolding mode_at
mode-back Sleep = refl
mode-back Initialization = refl
mode-back Normal = refl

number-back : (m : Mailbox) → numbered (number m) ≡ m
number-back M0 = refl
number-back M1 = refl
number-back M2 = refl

sender_back : (s : Option Mailbox) → sender_at (sender_byte s) ≡ s
unfolding sender_at
sender_back None = refl
sender_back (Some M0) = refl
sender_back (Some M1) = refl
sender_back (Some M2) = refl

not_none : (m : Mailbox) → eqb (number m) 3 ≡ false
not_none M0 = refl
not_none M1 = refl
not_none M2 = refl

order-back : (o : RequestOrder) → order_at (order_byte0 o) (order_byte1 o) (order_byte2 o) ≡ o
unfolding order_at
order-back Empty = refl
order-back (One a) = simp (not_none, number-back)
order-back (Two a b) = simp (not_none, number-back)
order-back (Three a b c) = simp (not_none, number-back)

-- ---- the parts, as their bytes give them back

abbrev mailbox_again : MailboxState → MailboxState
mailbox_again x = record {
  ti = again32 x.ti;
  tdt = again32 x.tdt;
  tdl = again32 x.tdl;
  tdh = again32 x.tdh;
  rqcp = not (eqb (one x.rqcp) 0);
  txok = not (eqb (one x.txok) 0);
  alst = not (eqb (one x.alst) 0);
  terr = not (eqb (one x.terr) 0);
}

mailbox-back : (x : MailboxState) → MailboxRange x → mailbox_again x ≡ x
mailbox-back x q = λ i. record {
  ti = back32 x.ti q.ti i;
  tdt = back32 x.tdt (omega (arith, q.tdt)) i;
  tdl = back32 x.tdl q.tdl i;
  tdh = back32 x.tdh q.tdh i;
  rqcp = flag-back x.rqcp i;
  txok = flag-back x.txok i;
  alst = flag-back x.alst i;
  terr = flag-back x.terr i;
}

abbrev frame_again : StoredFrame → StoredFrame
frame_again x = record { ri = again32 x.ri; rdt = again32 x.rdt; rdl = again32 x.rdl; rdh = again32 x.rdh }

frame_back : (x : StoredFrame) → FrameRange x → frame_again x ≡ x
frame_back x q = λ i. record { ri = back32 x.ri q.ri.word i; rdt = back32 x.rdt q.rdt i; rdl = back32 x.rdl q.rdl i; rdh = back32 x.rdh q.rdh i }

abbrev fifo_again : FifoState → FifoState
fifo_again x = record {
  first = frame_again x.first;
  second = frame_again x.second;
  third = frame_again x.third;
  count = again16 x.count;
  full = not (eqb (one x.full) 0);
  fovr = not (eqb (one x.fovr) 0);
}

fifo-back : (x : FifoState) → FifoRange x → fifo_again x ≡ x
fifo-back x q = λ i. record {
  first = frame_back x.first q.first i;
  second = frame_back x.second q.second i;
  third = frame_back x.third q.third i;
  count = back16 x.count (omega (arith, q.count)) i;
  full = flag-back x.full i;
  fovr = flag-back x.fovr i;
}

-- ---- each at its place

module _ (z : Controller) (r : InRange z) where
  control-back : control_at (saved z) ≡ z.core.control
  unfolding saved core_bytes control_bytes control_at
  control-back =
      let k : Control = z.core.control in
      let q : ControlRange k = r.core.control in
      λ i. record {
        mcr = back32 k.mcr (omega (arith, q.mcr)) i;
        ier = back32 k.ier (omega (arith, q.ier)) i;
        btr = back32 k.btr (omega (arith, q.btr)) i;
        timer = back16 k.timer q.timer i;
        mode = mode-back k.mode i;
        recovery = k.recovery;
        reinitialized = flag-back k.reinitialized i;
        erri = flag-back k.erri i;
        wkui = flag-back k.wkui i;
        slaki = flag-back k.slaki i;
      }

  errors-back : errors_at (saved z) ≡ z.core.errors
  unfolding saved core_bytes control_bytes errors_bytes errors_at
  errors-back = λ i. record { tec = back16 z.core.errors.tec (omega (arith, r.core.errors.tec)) i; rec = z.core.errors.rec; lec = z.core.errors.lec }

  queue-back : queue_at (saved z) ≡ z.core.transmit.queue
  unfolding saved core_bytes control_bytes errors_bytes transmit_bytes mailbox_bytes queue_bytes queue_at
  queue-back =
      let q : Queue = z.core.transmit.queue in
      λ i. record {
        order = order-back q.order i;
        transmitting = sender_back q.transmitting i;
        aborts = record { m0 = flag-back q.aborts.m0 i; m1 = flag-back q.aborts.m1 i; m2 = flag-back q.aborts.m2 i };
      }

  transmit-back : transmit_at (saved z) ≡ z.core.transmit
  unfolding saved core_bytes control_bytes errors_bytes transmit_bytes mailbox_bytes mailbox_at transmit_at
  transmit-back =
      let t : Transmit = z.core.transmit in
      let q = r.core.transmit.mailboxes in
      λ i. record {
        mailboxes = record { m0 = mailbox-back t.mailboxes.m0 (q M0) i; m1 = mailbox-back t.mailboxes.m1 (q M1) i; m2 = mailbox-back t.mailboxes.m2 (q M2) i };
        queue = queue-back i;
      }

  fifo0-back : fifo_at (saved z) 109 ≡ z.core.fifo0
  unfolding saved core_bytes control_bytes errors_bytes transmit_bytes mailbox_bytes queue_bytes fifo_bytes fifo_at frame_at
  fifo0-back = fifo-back z.core.fifo0 r.core.fifo0

  fifo1-back : fifo_at (saved z) 164 ≡ z.core.fifo1
  unfolding saved core_bytes control_bytes errors_bytes transmit_bytes mailbox_bytes queue_bytes fifo_bytes fifo_at frame_at
  fifo1-back = fifo-back z.core.fifo1 r.core.fifo1

  filters-back : filters_at (saved z) ≡ z.core.filters
  unfolding saved core_bytes control_bytes errors_bytes transmit_bytes mailbox_bytes queue_bytes fifo_bytes filters_bytes filters_at
  filters-back =
      let g : Filters = z.core.filters in
      let q : FilterRange g = r.core.filters in
      λ i. record {
        mode = back32 g.mode (omega (arith, q.mode)) i;
        scale = back32 g.scale (omega (arith, q.scale)) i;
        assignment = back32 g.assignment (omega (arith, q.assignment)) i;
        activation = back32 g.activation (omega (arith, q.activation)) i;
        finit = flag-back g.finit i;
      }

-- the words of the banks

words_back : (l : List ℕ) → Words l → words_of (length l) (word_bytes l) ≡ l
unfolding words_of word_bytes
words_back [] h = refl
words_back (w ∷ l) h = λ i. back32 w h.0 i ∷ words_back l h.1 i

banks-place : (z : Controller) → drop 242 (saved z) ≡ word_bytes z.banks
unfolding saved core_bytes control_bytes errors_bytes transmit_bytes mailbox_bytes queue_bytes fifo_bytes filters_bytes banks_bytes
banks-place z = refl

banks-back : (z : Controller) → InRange z → words_of 28 (drop 242 (saved z)) ≡ z.banks
banks-back z r =
    ap (words_of 28) (banks-place z)
    ∙ (ap (λ (n : ℕ). words_of n (word_bytes z.banks)) (sym r.bank_words) ∙ words_back z.banks r.banks)

-- what was saved is read back
pub core-saved : (z : Controller) → InRange z → core_at (saved z) ≡ z.core
unfolding core_at
core-saved z r = λ i. record {
  control = control-back z r i;
  errors = errors-back z r i;
  transmit = transmit-back z r i;
  fifo0 = fifo0-back z r i;
  fifo1 = fifo1-back z r i;
  filters = filters-back z r i;
}

pub decoded-saved : (z : Controller) → InRange z → decoded (saved z) ≡ z
unfolding decoded
decoded-saved z r = λ i. record { core = core-saved z r i; banks = banks-back z r i }
