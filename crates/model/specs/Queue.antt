-- The requests of the three mailboxes: their order, the mailbox that is transmitting, the remembered aborts.
-- Document 01: "Register map" (TSR, TI with TXRQ), "Bus events" (start, own end). 01 says "on the wire" for transmitting,
-- "own end" for the outcome of a transmission, "request order" for the order.
use Rattle.std.specs.Prelude.{Bool, true, false, ◌&&◌, ◌||◌, List, [], ◌∷◌, ℕ, eqb, Option, Some, None, is_none}
use Rattle.base.specs.Base.{pick}
use Rattle.model.specs.declared.Mailbox.{Mailbox}
use Rattle.model.specs.declared.Mailbox.TheVariants.{M0, M1, M2}
use Rattle.model.specs.declared.RequestOrder.{RequestOrder}
use Rattle.model.specs.declared.RequestOrder.TheVariants.{Empty, One, Two, Three}
use Rattle.model.specs.declared.Queue.{Queue}
use Rattle.model.specs.declared.ByMailbox.{ByMailbox}

-- ---- mailboxes and their numbers

abbrev pub number : Mailbox → ℕ
number M0 = 0
number M1 = 1
number M2 = 2

abbrev pub numbered : ℕ → Mailbox
numbered n = pick (eqb n 0) M0 (pick (eqb n 1) M1 M2)

abbrev pub same : Mailbox → Mailbox → Bool
same M0 M0 = true
same M0 M1 = false
same M0 M2 = false
same M1 M0 = false
same M1 M1 = true
same M1 M2 = false
same M2 M0 = false
same M2 M1 = false
same M2 M2 = true

-- what is kept for a mailbox
abbrev pub at : {A : Type 0} → ByMailbox A → Mailbox → A
at b M0 = b.m0
at b M1 = b.m1
at b M2 = b.m2

-- the same with x for that mailbox
abbrev pub put : {A : Type 0} → ByMailbox A → Mailbox → A → ByMailbox A
put b M0 x = record { m0 = x; m1 = b.m1; m2 = b.m2 }
put b M1 x = record { m0 = b.m0; m1 = x; m2 = b.m2 }
put b M2 x = record { m0 = b.m0; m1 = b.m1; m2 = x }

abbrev pub no_flags : ByMailbox Bool
no_flags = record { m0 = false; m1 = false; m2 = false }

-- ---- the order of requests

-- the mailbox has a request: it is not empty
abbrev pub holds : RequestOrder → Mailbox → Bool
holds Empty m = false
holds (One a) m = same a m
holds (Two a b) m = same a m || same b m
holds (Three a b c) m = same a m || same b m || same c m

-- a new request is the last one; no fourth comes, since a mailbox with a request refuses TI
abbrev pub joined : RequestOrder → Mailbox → RequestOrder
joined Empty m = One m
joined (One a) m = Two a m
joined (Two a b) m = Three a b m
joined (Three a b c) m = Three a b c

abbrev pub without : RequestOrder → Mailbox → RequestOrder
without Empty m = Empty
without (One a) m = pick (same a m) Empty (One a)
without (Two a b) m = pick (same a m) (One b) (pick (same b m) (One a) (Two a b))
without (Three a b c) m = pick (same a m) (Two b c) (pick (same b m) (Two a c) (pick (same c m) (Two a b) (Three a b c)))

abbrev pub oldest : RequestOrder → Option Mailbox
oldest Empty = None
oldest (One a) = Some a
oldest (Two a b) = Some a
oldest (Three a b c) = Some a

abbrev pub newest : RequestOrder → Option Mailbox
newest Empty = None
newest (One a) = Some a
newest (Two a b) = Some b
newest (Three a b c) = Some c

abbrev pub is_empty : RequestOrder → Bool
is_empty Empty = true
is_empty (One a) = false
is_empty (Two a b) = false
is_empty (Three a b c) = false

-- the numbers of the mailboxes that are not empty, in the order of their requests
abbrev pub order_numbers : RequestOrder → List ℕ
order_numbers Empty = []
order_numbers (One a) = number a ∷ []
order_numbers (Two a b) = number a ∷ number b ∷ []
order_numbers (Three a b c) = number a ∷ number b ∷ number c ∷ []

-- two or more mailboxes are not empty
abbrev pub two_or_more : RequestOrder → Bool
two_or_more Empty = false
two_or_more (One a) = false
two_or_more (Two a b) = true
two_or_more (Three a b c) = true

-- ---- the mailbox that is transmitting

abbrev pub is_from : Option Mailbox → Mailbox → Bool
is_from None m = false
is_from (Some a) m = same a m

abbrev pub is_nobody : Option Mailbox → Bool
is_nobody s = is_none s

-- the number of a mailbox; 0 where there is none
abbrev pub sender_number : Option Mailbox → ℕ
sender_number None = 0
sender_number (Some m) = number m

-- the number of a mailbox, if there is one; it tells nobody apart from mailbox 0
abbrev pub sender_numbers : Option Mailbox → List ℕ
sender_numbers None = []
sender_numbers (Some m) = number m ∷ []

-- the order without the mailbox that is transmitting
abbrev pub besides : Option Mailbox → RequestOrder → RequestOrder
besides None o = o
besides (Some m) o = without o m

-- ---- what happens to requests

abbrev pub no_requests : Queue
no_requests = record { order = Empty; transmitting = None; aborts = no_flags }

-- TI with TXRQ
abbrev pub requested : Queue → Mailbox → Queue
requested q m = record { order = joined q.order m; transmitting = q.transmitting; aborts = q.aborts }

-- the mailbox becomes empty, which clears ABRQ
abbrev pub emptied : Queue → Mailbox → Queue
emptied q m = record { order = without q.order m; transmitting = q.transmitting; aborts = put q.aborts m false }

abbrev pub remembered : Queue → Mailbox → Queue
remembered q m = record { order = q.order; transmitting = q.transmitting; aborts = put q.aborts m true }

-- ABRQ: a pending mailbox empties, one on the wire remembers it, an empty one ignores it
unfoldable pub aborted : Bool → Queue → Mailbox → Queue
aborted b q m = pick (b && holds q.order m) (pick (is_from q.transmitting m) (remembered q m) (emptied q m)) q

unfoldable pub aborted_all : Queue → ByMailbox Bool → Queue
aborted_all q f = aborted f.m2 (aborted f.m1 (aborted f.m0 q M0) M1) M2

-- a start
abbrev pub sending : Queue → Mailbox → Queue
sending q m = record { order = q.order; transmitting = Some m; aborts = q.aborts }

abbrev pub freed : Queue → Queue
freed q = record { order = q.order; transmitting = None; aborts = q.aborts }

-- the transmission ends; over: the request too, else it is pending in its old place
unfoldable pub off_wire : Queue → Mailbox → Bool → Queue
off_wire q m over = pick over (emptied (freed q) m) (freed q)
