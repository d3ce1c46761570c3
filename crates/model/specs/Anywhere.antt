-- The promises about lists of steps, said of what callers and scripts can give, and behind a hardware reset in a list that
-- begins anywhere. Document 01: "Register map" (hardware reset), "Bench script", "How far each contract reaches".
use Rattle.std.specs.Prelude.{true, List, [], ◌∷◌, ◌++◌, ◌≡◌, ℕ, ◌-◌, ◌≤◌}
use Rattle.model.specs.Control.{nart, txfp}
use Rattle.model.specs.Registers.{reset, has_request}
use Rattle.model.specs.Step.{step}
use Rattle.model.specs.Shown.{Done, next_of}
use Rattle.model.specs.Queue.{at}
use Rattle.model.specs.Requests.{Requests, none_yet, after, entries}
use Rattle.model.specs.Fairness.{Fairness, Served, meanwhile, every, under_request_order, requests_from}
use Rattle.model.specs.Reachable.{InRange, StepsRange}
use Rattle.model.specs.History.{Tied}
use Rattle.model.specs.Script.{replay, steps_of}
use Rattle.model.specs.Records.{Bytes, AllFit, opening}
use Rattle.model.specs.Scripts.{answered_steps}
use Rattle.model.specs.declared.Mailbox.{Mailbox}
use Rattle.model.specs.declared.Mailbox.TheVariants.{M0, M1, M2}
use Rattle.model.specs.declared.Controller.{Controller}
use Rattle.model.specs.declared.Step as steps
use Rattle.model.specs.declared.Step.TheVariants.{Reset}

-- ---- callers

-- a list of steps that callers give, from hardware reset: the widths of a record's numbers are those of the types `Step` and `Frame`, so
-- `AllFit` holds of it
pub record OfCallers (l : List steps.Step) : Type 0 where
  pub range : AllFit l → StepsRange l
  pub reachable : AllFit l → InRange (after reset l)
  pub tied : AllFit l → Tied reset l
  pub fair : Fairness reset none_yet l

-- ---- scripts

-- a script of bytes, from hardware reset, with any reply space: its steps are such as callers give
pub record OfScripts (s : List ℕ) (space : ℕ) : Type 0 where
  pub fit : Bytes s → AllFit (steps_of s)
  pub range : Bytes s → StepsRange (answered_steps s space)
  pub reachable : Bytes s → InRange (replay reset s space).result.controller
  pub tied : Bytes s → Tied reset (answered_steps s space)
  pub fair : Fairness reset none_yet (answered_steps s space)

-- ---- any start

-- the requests that a controller holds: what an observer has who begins with it, as when it is loaded
abbrev pub requests_held : Controller → Requests
requests_held z = record {
  outstanding = record { m0 = has_request z.core M0; m1 = has_request z.core M1; m2 = has_request z.core M2 };
  marks = z.core.transmit.queue.aborts;
  transmitting = z.core.transmit.queue.transmitting;
  nart = nart z.core.control;
  txfp = txfp z.core.control;
}

-- demand 3 from any state in range, as one that was saved and is loaded (02, Q-2): an observer who then has the requests that the state
-- holds has them ever after, and demand 3 holds
pub record FromState (z : Controller) (l : List steps.Step) : Type 0 where
  pub held : InRange z → requests_from z (requests_held z) l ≡ requests_held (after z l)
  pub fair : InRange z → Fairness z (requests_held z) l
  -- each request that the state holds counts as accepted just then
  pub served : InRange z → (m : Mailbox) → at (requests_held z).outstanding m ≡ true → every under_request_order (meanwhile m (requests_held z) (entries z l)) ≡ true
      → Served m (requests_held z) (entries z l)
  pub reachable : InRange z → StepsRange l → InRange (after z l)

-- a hardware reset is accepted in every state, and nothing of that state is left: no request either
pub record HardwareReset (z : Controller) : Type 0 where
  pub controller : next_of z Reset ≡ reset
  pub code : Done z Reset
  pub lines : (step z Reset).lines ≡ 0
  pub word : (step z Reset).word ≡ 0
  pub requests : requests_held (next_of z Reset) ≡ none_yet

-- the controller after the steps before, from any controller z, and a hardware reset
abbrev pub at_reset : Controller → List steps.Step → Controller
at_reset z before = after z (before ++ Reset ∷ [])

-- the steps l behind a hardware reset, in a list that begins anywhere: whatever an observer had before
pub record BehindReset (z : Controller) (before l : List steps.Step) : Type 0 where
  pub anew : at_reset z before ≡ reset
  pub fair : (b : Requests) → Fairness (at_reset z before) (requests_from z b (before ++ Reset ∷ [])) l
  pub reachable : StepsRange l → InRange (after z (before ++ Reset ∷ l))
  pub tied : StepsRange l → Tied (at_reset z before) l

-- a script that opens with the record of a reset
abbrev pub opened : List ℕ → List ℕ
opened rest = opening ++ rest

-- it gives from any controller what it gives from hardware reset; its steps are a reset and those of the rest, and with the
-- space that the first reply leaves all that is said above holds of them
pub record OpensWithReset (z : Controller) (rest : List ℕ) (space : ℕ) : Type 0 where
  pub whole : steps_of (opened rest) ≡ Reset ∷ steps_of rest
  pub answered : 9 ≤ space → answered_steps (opened rest) space ≡ Reset ∷ answered_steps rest (space - 9)
  pub same : 9 ≤ space → replay z (opened rest) space ≡ replay reset (opened rest) space
  pub behind : BehindReset z [] (answered_steps rest (space - 9))
  pub range : Bytes rest → StepsRange (answered_steps rest (space - 9))
  pub reachable : 9 ≤ space → Bytes rest → InRange (replay z (opened rest) space).result.controller
