-- TSR: what its bits show, and what each step does to them.
-- Document 01: "Register map" (TSR, TI with TXRQ, MCR with bit 15, CODE, LOW), "Bus events" (own end).
use Rattle.std.specs.Prelude.{Bool, true, false, not, ◌&&◌, ◌||◌, List, [], ◌∷◌, ◌++◌, ◌≡◌, ℕ, ◌+◌, ◌*◌, ◌<◌, ◌≤◌, eqb, length}
use Rattle.base.specs.Base.{pick, bit}
use Rattle.model.specs.Queue.{number}
use Rattle.model.specs.Shown.{status_bit, rqcp, txok, alst, terr, abrq, code, tme, low, nart, next_of, is_error_result}
use Rattle.model.specs.Codes.{offset_of}
use Rattle.model.specs.ReadBack.{after_write, has}
use Rattle.model.specs.Arbitration.{requests, on_wire, is_pending, IsLast, SomeMailbox}
use Rattle.model.specs.declared.Mailbox.{Mailbox}
use Rattle.model.specs.declared.Controller.{Controller}
use Rattle.model.specs.declared.Register.TheVariants.{Mcr, Tsr, Ti}
use Rattle.model.specs.declared.Step as steps
use Rattle.model.specs.declared.Step.TheVariants.{Reset, Read, Write, Idle, BitTimes, Activity, Start, Outcome, Receive, ReceiveError}

-- ---- TME, CODE and LOW

-- "CODE: lowest empty mailbox, else the lowest in priority. LOW: with two or more not empty, the lowest in priority. For both, one on
-- the wire stands first." So the lowest in priority is the last of the pending ones. In every state that is reached (`InRange`)
pub record StatusWord (z : Controller) (m : Mailbox) : Type 0 where
  pub empty : tme m z ≡ not (has (requests z) (number m))
  pub code_empty : tme m z ≡ true → ((x : Mailbox) → number x < number m → tme x z ≡ false) → code z ≡ number m
  pub code_full : ((x : Mailbox) → tme x z ≡ false) → SomeMailbox (λ x. (code z ≡ number x) × IsLast z x)
  pub low_last : low m z ≡ true → (2 ≤ length (requests z)) × IsLast z m
  pub lowest : 2 ≤ length (requests z) → IsLast z m → low m z ≡ true
  pub low_some : 2 ≤ length (requests z) → SomeMailbox (λ x. low x z ≡ true)
  -- an abort is remembered of the mailbox on the wire alone
  pub abrq : abrq m z ≡ true → on_wire z ≡ number m ∷ []
  pub reserved : (status_bit 4 m z ≡ false) × (status_bit 5 m z ≡ false) × (status_bit 6 m z ≡ false)

-- ---- writes

-- a list without the numbers that p names
abbrev pub except : (ℕ → Bool) → List ℕ → List ℕ
except p [] = []
except p (x ∷ l) = pick (p x) (except p l) (x ∷ except p l)

-- ABRQ of mailbox n in a word written to TSR
abbrev pub asks_abort : ℕ → ℕ → Bool
asks_abort w n = bit (8 * n + 7) w

-- "TSR: 1 in RQCP clears it with TXOK, ALST, TERR; 1 in one of those three clears it. Then ABRQ acts: a pending mailbox empties, RQCP=1, TXOK=0;
-- one on the wire remembers it; an empty one ignores it." In every state that is reached
pub record TsrWrite (z : Controller) (w : ℕ) (m : Mailbox) : Type 0 where
  pub rqcp : rqcp m (after_write z Tsr w) ≡ (rqcp m z && not (bit (8 * number m) w)) || (asks_abort w (number m) && is_pending z m)
  pub txok : txok m (after_write z Tsr w) ≡ txok m z && not (bit (8 * number m) w) && not (bit (8 * number m + 1) w) && not (asks_abort w (number m) && is_pending z m)
  pub alst : alst m (after_write z Tsr w) ≡ alst m z && not (bit (8 * number m) w) && not (bit (8 * number m + 2) w)
  pub terr : terr m (after_write z Tsr w) ≡ terr m z && not (bit (8 * number m) w) && not (bit (8 * number m + 3) w)
  pub abrq : abrq m (after_write z Tsr w) ≡ abrq m z || (asks_abort w (number m) && has (on_wire z) (number m))
  pub empties : requests (after_write z Tsr w) ≡ except (λ n. asks_abort w n && not (has (on_wire z) n)) (requests z)
  pub wire : on_wire (after_write z Tsr w) ≡ on_wire z

-- "TI with TXRQ: request accepted, RQCP, TXOK, ALST, TERR clear, last in request order." Without TXRQ nothing of
-- that. An accepted write, in every state that is reached
pub record TiWrite (z : Controller) (m : Mailbox) (w : ℕ) : Type 0 where
  pub rqcp : rqcp m (after_write z (Ti m) w) ≡ rqcp m z && not (bit 0 w)
  pub txok : txok m (after_write z (Ti m) w) ≡ txok m z && not (bit 0 w)
  pub alst : alst m (after_write z (Ti m) w) ≡ alst m z && not (bit 0 w)
  pub terr : terr m (after_write z (Ti m) w) ≡ terr m z && not (bit 0 w)
  pub requests : requests (after_write z (Ti m) w) ≡ pick (bit 0 w) (requests z ++ number m ∷ []) (requests z)
  pub wire : on_wire (after_write z (Ti m) w) ≡ on_wire z

-- "MCR with bit 15 set: .. requests and any frame on the wire are dropped without RQCP, and ABRQ clears"
pub record Dropped (z : Controller) (w : ℕ) (m : Mailbox) : Type 0 where
  pub requests : requests (after_write z Mcr w) ≡ []
  pub wire : on_wire (after_write z Mcr w) ≡ []
  pub rqcp : rqcp m (after_write z Mcr w) ≡ rqcp m z
  pub abrq : abrq m (after_write z Mcr w) ≡ false

-- ---- an accepted own end of mailbox m, which is on the wire, with the result r; in every state that is reached

-- it ends the request: good, NART=1 or a remembered abort
abbrev pub ends_request : Controller → Mailbox → ℕ → Bool
ends_request z m r = eqb r 0 || nart z || abrq m z

abbrev pub after_end : Controller → ℕ → Controller
after_end z r = next_of z (Outcome r)

-- "Good: empty, RQCP=TXOK=1, ALST=TERR=0 .. Lost: ALST=1, TERR=TXOK=0. Error: TERR=1, ALST=TXOK=0 .. After lost or error, NART=1 or a
-- remembered abort empties it with RQCP=1; else it is pending in its old place. Empty clears ABRQ." 8 is an error too (02, Q-4)
pub record OwnEnd (z : Controller) (m : Mailbox) (r : ℕ) : Type 0 where
  pub rqcp : rqcp m (after_end z r) ≡ ends_request z m r
  pub txok : txok m (after_end z r) ≡ eqb r 0
  pub alst : alst m (after_end z r) ≡ eqb r 7
  pub terr : terr m (after_end z r) ≡ is_error_result r
  pub abrq : abrq m (after_end z r) ≡ false
  pub requests : requests (after_end z r) ≡ pick (ends_request z m r) (except (λ n. eqb n (number m)) (requests z)) (requests z)
  pub wire : on_wire (after_end z r) ≡ []

-- ---- other steps

-- the step may change the flags of mailbox m
abbrev pub concerns : Controller → steps.Step → Mailbox → Bool
concerns z Reset m = true
concerns z (Read o) m = false
concerns z (Write o w) m = eqb o (offset_of Tsr) || eqb o (offset_of (Ti m))
concerns z Idle m = false
concerns z (BitTimes n) m = false
concerns z Activity m = false
concerns z Start m = false
concerns z (Outcome r) m = has (on_wire z) (number m)
concerns z (Receive x) m = false
concerns z (ReceiveError k n) m = false

-- a step that does not concern mailbox m leaves its flags
pub record FlagsStay (z : Controller) (s : steps.Step) (m : Mailbox) : Type 0 where
  pub rqcp : rqcp m (next_of z s) ≡ rqcp m z
  pub txok : txok m (next_of z s) ≡ txok m z
  pub alst : alst m (next_of z s) ≡ alst m z
  pub terr : terr m (next_of z s) ≡ terr m z

-- a step of which the request book takes no notice leaves the requests, the wire and the remembered aborts
pub record RequestsStay (z : Controller) (s : steps.Step) : Type 0 where
  pub requests : requests (next_of z s) ≡ requests z
  pub wire : on_wire (next_of z s) ≡ on_wire z
  pub abrq : (m : Mailbox) → abrq m (next_of z s) ≡ abrq m z
