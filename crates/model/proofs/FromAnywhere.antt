-- Steps of callers and of scripts are in range, and a hardware reset makes every start the same.
use Rattle.std.proofs.Common.{Some, None, Ok, Err}
use mathlib.Core.List.{List, [], ◌∷◌, ◌++◌}
use mathlib.Core.Path.{◌≡◌, refl, sym, subst, ap, ◌∙◌}
use Prim.Native.Nat.{ℕ, zero, suc, ◌-◌, ◌/◌, ◌≤◌}
use native.Mathlib.Omega.{arith}
use lib.ListN.{length, take}
use borrow.Author.Tests.{le-ltb}
use Rattle.model.specs.Registers.{reset}
use Rattle.model.specs.Step.{step}
use Rattle.model.specs.Requests.{Requests, none_yet, next, requests_after, after, entries, event, entry}
use Rattle.model.specs.Fairness.{Fairness, requests_from}
use Rattle.model.specs.Reachable.{StepRange, StepsRange}
use Rattle.model.specs.History.{Tied}
use Rattle.model.specs.Script.{body_length, decoded, reading, record_at, replayed, begun, after_record, advanced, times, replay, steps_by, steps_from, steps_of}
use Rattle.model.specs.Records.{Bytes, step_fields, FitWidths, AllFit}
use Rattle.model.specs.Scripts.{answered_steps}
use Rattle.model.specs.Anywhere.{OfCallers, OfScripts, FromState, HardwareReset, BehindReset, opened, OpensWithReset}
use Rattle.model.specs.declared.Controller.{Controller}
use Rattle.model.specs.declared.Step as steps
use Rattle.model.specs.declared.Step.TheVariants.{Reset, Read, Write, Idle, BitTimes, Activity, Start, Outcome, Receive, ReceiveError}
use Rattle.model.proofs.Computed.{everything}
use Rattle.model.proofs.Fair.{run-requests, after-append, good-fair, good-held, fairness, good}
use Rattle.model.proofs.Reached.{after-in_range, reachable}
use Rattle.model.proofs.Tied.{tied}
use Rattle.model.proofs.Replays.{steps_on_lem, replays}
use Rattle.model.proofs.Parts.{reading-behind, steps-rest}
use Rattle.model.proofs.Recorded.{record_stands}
use Rattle.model.specs.Script.{Reading}

-- ---- callers

fit-range : (s : steps.Step) → FitWidths (step_fields s) → StepRange s
fit-range Reset h = tt
fit-range (Read o) h = tt
fit-range (Write o w) h = h.1.0
fit-range Idle h = tt
fit-range (BitTimes n) h = tt
fit-range Activity h = tt
fit-range Start h = tt
fit-range (Outcome r) h = tt
fit-range (Receive x) h = (h.0, h.1.1.0, h.1.1.1.0)
fit-range (ReceiveError k n) h = tt

all-range : (l : List steps.Step) → AllFit l → StepsRange l
all-range [] h = tt
all-range (s ∷ l) h = (fit-range s h.0, all-range l h.1)

pub of_callers : (l : List steps.Step) → OfCallers l
of_callers l = record { range = all-range l; reachable = λ h. reachable l (all-range l h); tied = λ h. tied l (all-range l h); fair = fairness l }

-- ---- scripts

-- what is found at a place stands there as its record, and so fits
found-fit : (s : List ℕ) (p : ℕ) → Bytes s → (l : ℕ → List steps.Step) → ((q : ℕ) → AllFit (l q)) → (r : Reading) → reading s p ≡ r → AllFit (steps_by r l)
unfolding steps_by
found-fit s p h l m (Ok None) k = tt
found-fit s p h l m (Err c) k = tt
found-fit s p h l m (Ok (Some (e, q))) k = (((record_stands s p).found h e q k).fits, m q)

steps-fit : (n : ℕ) (s : List ℕ) (p : ℕ) → Bytes s → AllFit (steps_from n s p)
unfolding steps_from
steps-fit zero s p h = tt
steps-fit (suc n) s p h = found-fit s p h (steps_from n s) (λ q. steps-fit n s q h) (reading s p) refl

fit-take : (n : ℕ) (l : List steps.Step) → AllFit l → AllFit (take n l)
fit-take zero l h = tt
fit-take (suc n) [] h = tt
fit-take (suc n) (s ∷ l) h = (h.0, fit-take n l h.1)

pub script-fit : (s : List ℕ) → Bytes s → AllFit (steps_of s)
unfolding steps_of
script-fit s h = steps-fit (length s) s 0 h

pub answered-range : (s : List ℕ) (space : ℕ) → Bytes s → StepsRange (answered_steps s space)
answered-range s space h = all-range (answered_steps s space) (fit-take (space / 9) (steps_of s) (script-fit s h))

pub of_scripts : (s : List ℕ) (space : ℕ) → OfScripts s space
of_scripts s space = record {
  fit = script-fit s;
  range = answered-range s space;
  reachable = λ h. rw (replays reset s space).folds.controller (reachable (answered_steps s space) (answered-range s space h));
  tied = λ h. tied (answered_steps s space) (answered-range s space h);
  fair = fairness (answered_steps s space);
}

-- ---- any start

pub from-state : (z : Controller) (l : List steps.Step) → FromState z l
from-state z l = record {
  held = λ r. run-requests l z (good z r);
  fair = λ r. good-fair z l (good z r);
  served = λ r m. good-held z l m (good z r);
  reachable = after-in_range z l;
}

pub hardware_reset : (z : Controller) → HardwareReset z
unfolding everything
hardware_reset z = record { controller = refl; code = refl; lines = refl; word = refl; requests = refl }

-- whatever an observer had before, a reset leaves it nothing
none_behind_lem : (before : List steps.Step) (z : Controller) (b : Requests) → requests_from z b (before ++ Reset ∷ []) ≡ none_yet
unfolding entries requests_after next
none_behind_lem [] z b = rw (hardware_reset z).code
none_behind_lem (s ∷ l) z b = none_behind_lem l (step z s).controller (next b (event (entry s (step z s))))

anew : (z : Controller) (before l : List steps.Step) → after z (before ++ Reset ∷ l) ≡ after reset l
unfolding after
anew z before l = after-append z before (Reset ∷ l) ∙ ap (λ (y : Controller). after y l) (hardware_reset (after z before)).controller

pub behind-reset : (z : Controller) (before l : List steps.Step) → BehindReset z before l
unfolding after
behind-reset z before l = record {
  anew = anew z before [];
  fair = λ b. subst (λ (y : Controller). Fairness y (requests_from z b (before ++ Reset ∷ [])) l) (sym (anew z before []))
      (subst (λ (c : Requests). Fairness reset c l) (sym (none_behind_lem before z b)) (fairness l));
  reachable = λ h. rw (anew z before l) (reachable l h);
  tied = λ h. subst (λ (y : Controller). Tied y l) (sym (anew z before [])) (tied l h);
}

-- ---- a script that opens with a reset

abbrev reset_record : List ℕ
reset_record = opened []

opened-bytes : (rest : List ℕ) → Bytes rest → Bytes (opened rest)
opened-bytes rest h zero = omega arith
opened-bytes rest h (suc zero) = omega arith
opened-bytes rest h (suc (suc zero)) = omega arith
opened-bytes rest h (suc (suc (suc i))) = h i

module _ (rest : List ℕ) where
  opened-reading : reading (opened rest) 0 ≡ Ok (Some (Reset, 3))
  unfolding reading body_length decoded
  opened-reading = reading-behind reset_record rest 0 refl

  pub opened-steps : steps_of (opened rest) ≡ Reset ∷ steps_of rest
  unfolding steps_of steps_by
  opened-steps = steps_on_lem (opened rest) 0 ∙ rw opened-reading (ap (λ (l : List steps.Step). Reset ∷ l) (steps-rest reset_record rest 3 (omega arith)))

  opened-answered : (space : ℕ) → 9 ≤ space → answered_steps (opened rest) space ≡ Reset ∷ answered_steps rest (space - 9)
  opened-answered space h = let n : space / 9 ≡ suc ((space - 9) / 9) = omega arith in rw (n, opened-steps)

  reset_alike : (z : Controller) → step z Reset ≡ step reset Reset
  unfolding everything
  reset_alike z = refl

  first_alike : (z : Controller) (space : ℕ) → 9 ≤ space → advanced (opened rest) space (begun z) ≡ advanced (opened rest) space (begun reset)
  unfolding advanced after_record record_at replayed
  first_alike z space h = rw (opened-reading, le-ltb (space - 0) 9 (omega arith), reset_alike z)

times_alike : {A : Type 0} (n : ℕ) (f : A → A) (x y : A) → f x ≡ f y → times (suc n) f x ≡ times (suc n) f y
unfolding times
times_alike zero f x y h = h
times_alike (suc n) f x y h = ap f (times_alike n f x y h)

pub opens_with_reset : (z : Controller) (rest : List ℕ) (space : ℕ) → OpensWithReset z rest space
unfolding replay
opens_with_reset z rest space = record {
  whole = opened-steps rest;
  answered = opened-answered rest space;
  same = same;
  behind = behind-reset z [] (answered_steps rest (space - 9));
  range = answered-range rest (space - 9);
  reachable = λ h r. rw (same h) ((of_scripts (opened rest) space).reachable (opened-bytes rest r));
}
  where
    same : 9 ≤ space → replay z (opened rest) space ≡ replay reset (opened rest) space
    same h = times_alike (length (opened rest)) (advanced (opened rest) space) (begun z) (begun reset) (first_alike rest z space h)
