-- Which mailbox goes first: by the bits on the wire, or by the order of the requests.
-- Document 01: "Order, filters, storage" (order), "Bus events" (start). The bits of a frame are those of 000.
use Rattle.std.specs.Prelude.{Bool, true, false, not, ◌&&◌, ◌||◌, List, [], ◌∷◌, ◌++◌, ◌≡◌, ℕ, zero, suc, ◌+◌, eqb, ltb, leb}
use Rattle.base.specs.Base.{pick, bit}
use Rattle.model.specs.Queue.{number, order_numbers, sender_numbers}
use Rattle.model.specs.Mailboxes.{at, before, sent_identifier}
use Rattle.model.specs.Step.{step}
use Rattle.model.specs.Shown.{ti, txfp, next_of}
use Rattle.model.specs.ReadBack.{has}
use Rattle.model.specs.declared.Mailbox.{Mailbox}
use Rattle.model.specs.declared.Controller.{Controller}
use Rattle.model.specs.declared.Step.TheVariants.{Start}
use Rattle.model.specs.declared.ByMailbox.{ByMailbox}

-- ---- the bits on the wire

-- n bits of a word, the highest first, down to bit i
unfoldable pub down_to : ℕ → ℕ → ℕ → List Bool
down_to i w zero = []
down_to i w (suc n) = bit (i + n) w ∷ down_to i w n

-- the bits that a mailbox with this TI word sends in arbitration. Standard: 11 identifier bits, RTR, IDE=0; extended: the top 11 bits,
-- SRR=1, IDE=1, the low 18 bits, RTR
unfoldable pub arbitration : ℕ → List Bool
arbitration ti =
    pick (bit 2 ti)
    (down_to 21 ti 11 ++ (true ∷ true ∷ (down_to 3 ti 18 ++ (bit 1 ti ∷ []))))
    (down_to 21 ti 11 ++ bit 1 ti ∷ false ∷ [])

-- of the first two bits that differ, the first sender's is dominant (0)
unfoldable pub wins : List Bool → List Bool → Bool
wins [] b = false
wins (x ∷ a) [] = false
wins (true ∷ a) (true ∷ b) = wins a b
wins (true ∷ a) (false ∷ b) = false
wins (false ∷ a) (true ∷ b) = true
wins (false ∷ a) (false ∷ b) = wins a b

-- mailbox a with the TI word v goes before mailbox b with w: its bits win, or they are equal and it is the lower mailbox
abbrev pub goes_before : Mailbox → ℕ → Mailbox → ℕ → Bool
goes_before a v b w = wins (arbitration v) (arbitration w) || (not (wins (arbitration w) (arbitration v)) && ltb (number a) (number b))

-- the definition `before` orders as the bits do
pub record WireOrder (i : ByMailbox ℕ) (a b : Mailbox) : Type 0 where
  pub agrees : before i a b ≡ goes_before a (at i a) b (at i b)

-- "EXID of a standard mailbox is ignored and sent as 0"
pub record SentIdentifier (ti : ℕ) : Type 0 where
  pub extended : bit 2 ti ≡ true → sent_identifier ti ≡ ti
  pub standard : bit 2 ti ≡ false → (i : ℕ) → bit i (sent_identifier ti) ≡ (leb 21 i || eqb i 1) && bit i ti

-- ---- the requests

-- the numbers of the mailboxes that are not empty, the oldest request first, and of the one on the wire
abbrev pub requests : Controller → List ℕ
requests z = order_numbers z.core.transmit.queue.order

abbrev pub on_wire : Controller → List ℕ
on_wire z = sender_numbers z.core.transmit.queue.transmitting

-- not empty, and not on the wire
abbrev pub is_pending : Controller → Mailbox → Bool
is_pending z m = has (requests z) (number m) && not (has (on_wire z) (number m))

-- a stands before b in the list
abbrev pub earlier : List ℕ → ℕ → ℕ → Bool
earlier [] a b = false
earlier (x ∷ l) a b = pick (eqb x a) (has l b) (earlier l a b)

-- ---- priority

-- "Request order if TXFP=1. Otherwise the bits on the wire"
abbrev pub precedes : Controller → Mailbox → Mailbox → Bool
precedes z a b = pick (txfp z) (earlier (requests z) (number a) (number b)) (goes_before a (ti a z) b (ti b z))

-- the first and the last in priority of the pending mailboxes
pub record IsFirst (z : Controller) (m : Mailbox) : Type 0 where
  pub pending : is_pending z m ≡ true
  pub before : (x : Mailbox) → is_pending z x ≡ true → eqb (number x) (number m) ≡ false → precedes z m x ≡ true

pub record IsLast (z : Controller) (m : Mailbox) : Type 0 where
  pub pending : is_pending z m ≡ true
  pub behind : (x : Mailbox) → is_pending z x ≡ true → eqb (number x) (number m) ≡ false → precedes z x m ≡ true

-- P holds of some mailbox
pub record SomeMailbox (P : Mailbox → Type 0) : Type 0 where
  pub mailbox : Mailbox
  pub meets : P mailbox

-- an accepted start: "The first in priority goes on the wire .. the word is its number"; its request stays in its place
pub record StartsFirst (z : Controller) : Type 0 where
  pub word : SomeMailbox (λ m. ((step z Start).word ≡ number m) × IsFirst z m)
  pub wire : on_wire (next_of z Start) ≡ (step z Start).word ∷ []
  pub kept : requests (next_of z Start) ≡ requests z
