-- Demand 3 of the bench, as one claim about a whole list of steps; and its counterpart under lowest-identifier order.
-- Document 01: "Request book", "How far each contract reaches".
use Rattle.std.specs.Prelude.{Bool, true, false, not, ◌&&◌, List, [], ◌∷◌, ◌++◌, ◌≡◌, ℕ, ◌+◌, ◌≤◌, Option, Some, None}
use Rattle.base.specs.Base.{pick, one}
use Rattle.model.specs.Queue.{at, same}
use Rattle.model.specs.Registers.{reset}
use Rattle.model.specs.Step.{step}
use Rattle.model.specs.Shown.{tme, Done}
use Rattle.model.specs.Requests.{Entry, Event, nothing, drops, modes, accepts, aborts, starts, ends, event, entry, Requests, none_yet, next, requests_after, ends_too, after, entries}
use Rattle.model.specs.declared.Mailbox.{Mailbox}
use Rattle.model.specs.declared.Mailbox.TheVariants.{M0}
use Rattle.model.specs.declared.Controller.{Controller}
use Rattle.model.specs.declared.Step as steps
use Rattle.model.specs.declared.Step.TheVariants.{Read}

-- ---- the time of a request

-- an event, and the requests before it
pub record Moment : Type 0 where
  pub requests : Requests
  pub event : Event

-- what comes while the request of mailbox m is outstanding: up to its end, to a reset that drops it, or to the end of the list
unfoldable pub meanwhile : Mailbox → Requests → List Entry → List Moment
meanwhile m b [] = []
meanwhile m b (e ∷ l) = pick (at b.outstanding m) (record { requests = b; event = event e } ∷ meanwhile m (next b (event e)) l) []

abbrev pub is_drop : Event → Bool
is_drop nothing = false
is_drop drops = true
is_drop (modes a b) = false
is_drop (accepts m) = false
is_drop (aborts f) = false
is_drop (starts m) = false
is_drop (ends g) = false

-- the request of m has ended by the end of the list; one that a reset drops has not
unfoldable pub has_ended : Mailbox → Requests → List Entry → Bool
has_ended m b [] = not (at b.outstanding m)
has_ended m b (e ∷ l) = pick (at b.outstanding m) (not (is_drop (event e)) && has_ended m (next b (event e)) l) true

-- ---- what is asked of that time, and what is counted in it

-- no reset, and at a start the request-order bit is set
abbrev pub in_order : Event → Bool → Bool
in_order nothing t = true
in_order drops t = false
in_order (modes a b) t = true
in_order (accepts m) t = true
in_order (aborts f) t = true
in_order (starts m) t = t
in_order (ends g) t = true

abbrev pub under_request_order : Moment → Bool
under_request_order x = in_order x.event x.requests.txfp

-- the request of a mailbox other than m ends on the wire
abbrev pub other_on : Mailbox → Option Mailbox → Requests → Bool → Bool
other_on m None b good = false
other_on m (Some x) b good = not (same x m) && ends_too b x good

abbrev pub other_end : Mailbox → Event → Requests → Bool
other_end m nothing b = false
other_end m drops b = false
other_end m (modes a c) b = false
other_end m (accepts x) b = false
other_end m (aborts f) b = false
other_end m (starts x) b = false
other_end m (ends g) b = other_on m b.transmitting b g

abbrev pub other_ends : Mailbox → Moment → Bool
other_ends m x = other_end m x.event x.requests

-- an own frame ended well
abbrev pub is_good : Event → Bool
is_good nothing = false
is_good drops = false
is_good (modes a b) = false
is_good (accepts m) = false
is_good (aborts f) = false
is_good (starts m) = false
is_good (ends g) = g

abbrev pub ends_well : Entry → Bool
ends_well e = is_good (event e)

unfoldable pub every : {A : Type 0} → (A → Bool) → List A → Bool
every p [] = true
every p (x ∷ l) = p x && every p l

unfoldable pub count : {A : Type 0} → (A → Bool) → List A → ℕ
count p [] = 0
count p (x ∷ l) = one (p x) + count p l

-- ---- demand 3

-- the requests after a list of steps from a controller z, where the observer had the requests b before
abbrev pub requests_from : Controller → Requests → List steps.Step → Requests
requests_from z b l = requests_after b (entries z l)

-- what follows a list of steps from a controller z
abbrev pub entries_behind : Controller → List steps.Step → List steps.Step → List Entry
entries_behind z l rest = entries (after z l) rest

-- of the request of m: at most two requests of other mailboxes end on the wire, and it has ended once three own frames have ended well
pub record Served (m : Mailbox) (b : Requests) (rest : List Entry) : Type 0 where
  pub few : count (other_ends m) (meanwhile m b rest) ≤ 2
  pub ended : 3 ≤ count ends_well rest → has_ended m b rest ≡ true

-- of a list of steps from a controller z, where the observer had the requests b before: from hardware reset, where it had none,
-- and from any state in range, where it had those that the state holds
pub record Fairness (z : Controller) (b : Requests) (l : List steps.Step) : Type 0 where
  -- a mailbox reads as empty, by TME of a TSR read, exactly when it has no outstanding request
  pub read : Done (after z l) (Read 0x008)
  pub empty : (m : Mailbox) → tme m (after z l) ≡ not (at (requests_from z b l).outstanding m)
  -- each request that is accepted anywhere in the list, by its step s
  pub served : (before : List steps.Step) (s : steps.Step) (rest : List steps.Step) (m : Mailbox)
      → l ≡ before ++ s ∷ rest
      → event (entry s (step (after z before) s)) ≡ accepts m
      → every under_request_order (meanwhile m (requests_from z b (before ++ s ∷ [])) (entries_behind z (before ++ s ∷ []) rest)) ≡ true
      → Served m (requests_from z b (before ++ s ∷ [])) (entries_behind z (before ++ s ∷ []) rest)

-- the same from hardware reset
abbrev pub requests_at : List steps.Step → Requests
requests_at l = requests_from reset none_yet l

abbrev pub entries_from : List steps.Step → List steps.Step → List Entry
entries_from l rest = entries_behind reset l rest

-- demand 3 is not empty, and its numbers are reached: a request under request order while which exactly two others end on
-- the wire; after those two good ends it still waits, and after a third it has ended
pub record TwoOthers : Type 0 where
  pub before : List steps.Step
  pub request : steps.Step
  pub rest : List steps.Step
  pub mailbox : Mailbox
  pub accepted : event (entry request (step (after reset before) request)) ≡ accepts mailbox
  pub ordered : every under_request_order (meanwhile mailbox (requests_at (before ++ request ∷ [])) (entries_from (before ++ request ∷ []) rest)) ≡ true
  pub two : count (other_ends mailbox) (meanwhile mailbox (requests_at (before ++ request ∷ [])) (entries_from (before ++ request ∷ []) rest)) ≡ 2
  pub good : count ends_well (entries_from (before ++ request ∷ []) rest) ≡ 2
  pub waits : has_ended mailbox (requests_at (before ++ request ∷ [])) (entries_from (before ++ request ∷ []) rest) ≡ false
  pub more : List steps.Step
  pub third : count ends_well (entries_from (before ++ request ∷ []) (rest ++ more)) ≡ 3
  pub ended : has_ended mailbox (requests_at (before ++ request ∷ [])) (entries_from (before ++ request ∷ []) (rest ++ more)) ≡ true

-- ---- lowest-identifier order

-- the request of a mailbox other than m ends well
abbrev pub other_well : Mailbox → Moment → Bool
other_well m x = other_ends m x && is_good x.event

-- a history in which a request of mailbox 0 still waits though n others have ended well since its acceptance, TXFP being 0 just
-- before it, after it and ever since: no reset has dropped it, it has not ended, and it is outstanding
pub record Starvation (n : ℕ) : Type 0 where
  pub before : List steps.Step
  pub request : steps.Step
  pub rest : List steps.Step
  pub accepted : event (entry request (step (after reset before) request)) ≡ accepts M0
  pub txfp_before : (requests_at before).txfp ≡ false
  pub txfp_after : (requests_at (before ++ request ∷ [])).txfp ≡ false
  pub by_identifier : every (λ (x : Moment). not x.requests.txfp) (meanwhile M0 (requests_at (before ++ request ∷ [])) (entries_from (before ++ request ∷ []) rest)) ≡ true
  pub kept : every (λ (x : Moment). not (is_drop x.event)) (meanwhile M0 (requests_at (before ++ request ∷ [])) (entries_from (before ++ request ∷ []) rest)) ≡ true
  pub others : count (other_well M0) (meanwhile M0 (requests_at (before ++ request ∷ [])) (entries_from (before ++ request ∷ []) rest)) ≡ n
  pub waits : has_ended M0 (requests_at (before ++ request ∷ [])) (entries_from (before ++ request ∷ []) rest) ≡ false
  pub still_outstanding : at (requests_after (requests_at (before ++ request ∷ [])) (entries_from (before ++ request ∷ []) rest)).outstanding M0 ≡ true
