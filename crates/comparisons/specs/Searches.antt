-- Which steps search the filters, for which identifier word, and how many filters a search compares.
-- c is the controller before the step but for its banks' words, e the step, code its code.
use Rattle.std.specs.Prelude.{◌≡◌, ℕ, true, false, not, ◌&&◌, List, [], ◌∷◌, ◌==◌, ◌≢◌, Option, Some, None}
use Rattle.base.specs.Base.{pick}
use Rattle.model.specs.Control.{lbkm}
use Rattle.model.specs.Mailboxes.{at}
use Rattle.model.specs.Reception.{sent_frame}
use Rattle.model.specs.declared.Controller.{Controller}
use Rattle.model.specs.declared.Core.{Core}
use Rattle.model.specs.declared.Frame.{Frame}
use Rattle.model.specs.declared.Mailbox.{Mailbox}
use Rattle.model.specs.declared.Step as steps
use Rattle.model.specs.declared.Step.TheVariants.{Reset, Read, Write, Idle, BitTimes, Activity, Start, Outcome, Receive, ReceiveError}
use Rattle.filter.specs.Compared.{compared}

-- its number: the word, if there is a search
abbrev pub searched_numbers : Option ℕ → List ℕ
searched_numbers (Some w) = w ∷ []
searched_numbers None = []

-- the frame of the mailbox on the wire ended with result r. Document 01, "Bus events", own end: "Good: .. with LBKM=1 and FINIT=0 the
-- frame also passes the filters"; "Order, filters, storage": "EXID of a standard mailbox is .. sent as 0"
unfoldable pub looped_word : Option Mailbox → Core → ℕ → Option ℕ
looped_word None c r = None
looped_word (Some m) c r =
    pick (r == 0 && lbkm c.control && not c.filters.finit)
    (Some (sent_frame (at c.transmit.mailboxes m)).identifier)
    None

-- an accepted step. Document 01, "Bus events", frame: "filter; store"; "Order, filters, storage": "A frame's 32-bit word is its
-- identifier word as in RI"
unfoldable pub accepted_word : Core → steps.Step → Option ℕ
accepted_word c Reset = None
accepted_word c (Read o) = None
accepted_word c (Write o w) = None
accepted_word c Idle = None
accepted_word c (BitTimes n) = None
accepted_word c Activity = None
accepted_word c Start = None
accepted_word c (Outcome r) = looped_word c.transmit.queue.transmitting c r
accepted_word c (Receive x) = Some x.identifier
accepted_word c (ReceiveError k n) = None

-- a step that is refused changes nothing. Document 01, "Refusal numbers": "Any other code: .. state unchanged"
unfoldable pub searched_word : Core → steps.Step → ℕ → Option ℕ
searched_word c e code = pick (code == 0) (accepted_word c e) None

-- an accepted frame and the good end of a frame in loopback are searched for, and nothing else
pub record Searching (c : Core) : Type 0 where
  pub frame : (x : Frame) → searched_numbers (searched_word c (Receive x) 0) ≡ x.identifier ∷ []
  pub loopback : (m : Mailbox) → c.transmit.queue.transmitting ≡ Some m → lbkm c.control ≡ true → c.filters.finit ≡ false
      → searched_numbers (searched_word c (Outcome 0) 0) ≡ (sent_frame (at c.transmit.mailboxes m)).identifier ∷ []
  pub off_the_wire : (r : ℕ) → c.transmit.queue.transmitting ≡ None → searched_numbers (searched_word c (Outcome r) 0) ≡ []
  pub not_good : (r : ℕ) → (r ≢ 0) → searched_numbers (searched_word c (Outcome r) 0) ≡ []
  pub no_loopback : (r : ℕ) → lbkm c.control ≡ false → searched_numbers (searched_word c (Outcome r) 0) ≡ []
  pub initializing : (r : ℕ) → c.filters.finit ≡ true → searched_numbers (searched_word c (Outcome r) 0) ≡ []
  pub refused : (e : steps.Step) (code : ℕ) → (code ≢ 0) → searched_numbers (searched_word c e code) ≡ []

-- Document 02, Q-3: "how many filters it compared"
unfoldable pub compared_of : Controller → ℕ → ℕ
compared_of z w = compared 14 z.core.filters z.banks w
