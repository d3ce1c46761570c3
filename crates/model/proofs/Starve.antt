-- Under lowest-identifier order a request can wait past any number of others; and demand 3 is not empty.
use mathlib.Core.Bool.{Bool, true, false, not, ◌&&◌, true≢false}
use mathlib.Core.Path.{◌≡◌, refl, ap, ap₂, ◌∙◌}
use mathlib.Core.List.{List, [], ◌∷◌, ◌++◌}
use Prim.Native.Nat.{ℕ, zero, suc}
use native.Mathlib.Omega.{arith}
use Rattle.base.specs.Base.{pick}
use Rattle.model.specs.Queue.{at}
use Rattle.model.specs.Registers.{reset}
use Rattle.model.specs.Step.{step}
use Rattle.model.specs.Requests.{accepts, Entry, Requests, none_yet, next, requests_after, after, entries, event, entry}
use Rattle.model.specs.Fairness.{is_drop, Moment, meanwhile, has_ended, every, count, other_well, requests_at, TwoOthers, Starvation}
use Rattle.model.specs.declared.Mailbox.{Mailbox}
use Rattle.model.specs.declared.Mailbox.TheVariants.{M0, M2}
use Rattle.model.specs.declared.Controller.{Controller}
use Rattle.model.specs.declared.Step as steps
use Rattle.model.specs.declared.Step.TheVariants.{Write, Idle, Start, Outcome}
use Rattle.model.proofs.Computed.{everything, observed}

-- ---- starvation: mailbox 0 waits with identifier 0x7FF while mailbox 1 sends identifier 0 again and again

-- mailbox 1 asks, starts, and its frame ends well
abbrev round : List steps.Step → List steps.Step
round l = Write 0x190 1 ∷ Start ∷ Outcome 0 ∷ l

rounds : ℕ → List steps.Step
rounds zero = []
rounds (suc n) = round (rounds n)

-- to Normal, and one round
abbrev opening : List steps.Step
opening = Write 0 0 ∷ Idle ∷ Write 0x190 1 ∷ Start ∷ Outcome 0 ∷ []

abbrev request : steps.Step
request = Write 0x180 0xFFE00001

-- the controller from then on, between two rounds
abbrev waiting : Controller
waiting = after reset (opening ++ request ∷ [])

abbrev fed : steps.Step → ℕ → Entry
fed s w = record { step = s; code = 0; word = w }

abbrev round_entries : List Entry → List Entry
round_entries l = fed (Write 0x190 1) 0 ∷ fed Start 1 ∷ fed (Outcome 0) 0 ∷ l

entry_rounds : ℕ → List Entry
entry_rounds zero = []
entry_rounds (suc n) = round_entries (entry_rounds n)

entries-append : (z : Controller) (l r : List steps.Step) → entries z (l ++ r) ≡ entries z l ++ entries (after z l) r
unfolding entries after
entries-append z [] r = refl
entries-append z (s ∷ l) r = ap (λ (x : List Entry). entry s (step z s) ∷ x) (entries-append (step z s).controller l r)

round_state : after waiting (round []) ≡ waiting
unfolding after everything
round_state = refl

round_entries_lem : entries waiting (round []) ≡ round_entries []
unfolding entries after everything
round_entries_lem = refl

round_then : (l : List steps.Step) → entries waiting (round l) ≡ round_entries (entries waiting l)
round_then l = entries-append waiting (round []) l ∙ ap₂ (λ (x : List Entry) (y : Controller). x ++ entries y l) round_entries_lem round_state

rounds-entries : (n : ℕ) → entries waiting (rounds n) ≡ entry_rounds n
unfolding rounds entry_rounds entries
rounds-entries zero = refl
rounds-entries (suc n) = round_then (rounds n) ∙ ap round_entries (rounds-entries n)

abbrev requests_then : Requests
requests_then = requests_at (opening ++ request ∷ [])

request-accepted : event (entry request (step (after reset opening) request)) ≡ accepts M0
unfolding after everything
request-accepted = refl

txfp_before_lem : (requests_at opening).txfp ≡ false
unfolding observed everything
txfp_before_lem = refl

txfp_after_lem : requests_then.txfp ≡ false
unfolding observed everything
txfp_after_lem = refl

-- the observer's requests at the acceptance, computed
abbrev asked : Requests
asked = requests_after none_yet (fed (Write 0 0) 0 ∷ fed Idle 0 ∷ round_entries (fed request 0 ∷ []))

requests_then_lem : requests_then ≡ asked
unfolding entries after everything
requests_then_lem = refl

abbrev by_identifier : Moment → Bool
by_identifier x = not x.requests.txfp

stays-by_identifier : (n : ℕ) → every by_identifier (meanwhile M0 asked (entry_rounds n)) ≡ true
unfolding entry_rounds observed everything
stays-by_identifier zero = refl
stays-by_identifier (suc n) = stays-by_identifier n

abbrev is_kept : Moment → Bool
is_kept x = not (is_drop x.event)

stays-kept : (n : ℕ) → every is_kept (meanwhile M0 asked (entry_rounds n)) ≡ true
unfolding entry_rounds observed everything
stays-kept zero = refl
stays-kept (suc n) = stays-kept n

others_end_well : (n : ℕ) → count (other_well M0) (meanwhile M0 asked (entry_rounds n)) ≡ n
unfolding entry_rounds observed everything
others_end_well zero = refl
others_end_well (suc n) = omega (arith, others_end_well n)

has-not-ended : (n : ℕ) → has_ended M0 asked (entry_rounds n) ≡ false
unfolding entry_rounds observed everything
has-not-ended zero = refl
has-not-ended (suc n) = has-not-ended n

still_outstanding_lem : (n : ℕ) → at (requests_after asked (entry_rounds n)).outstanding M0 ≡ true
unfolding entry_rounds observed everything
still_outstanding_lem zero = refl
still_outstanding_lem (suc n) = still_outstanding_lem n

-- for every n, a request waits past n others that end well
pub starvation : (n : ℕ) → Starvation n
starvation n = record {
  before = opening;
  request = request;
  rest = rounds n;
  accepted = request-accepted;
  txfp_before = txfp_before_lem;
  txfp_after = txfp_after_lem;
  by_identifier = rw (requests_then_lem, rounds-entries n) (stays-by_identifier n);
  kept = rw (requests_then_lem, rounds-entries n) (stays-kept n);
  others = rw (requests_then_lem, rounds-entries n) (others_end_well n);
  waits = rw (requests_then_lem, rounds-entries n) (has-not-ended n);
  still_outstanding = rw (requests_then_lem, rounds-entries n) (still_outstanding_lem n);
}

-- ---- demand 3 is not empty

-- three requests under request order, of which two end well while the third waits; then it ends too
pub two-others : TwoOthers
unfolding observed everything
two-others = record {
  before = Write 0 4 ∷ Idle ∷ Write 0x180 1 ∷ Write 0x190 1 ∷ [];
  request = Write 0x1A0 1;
  rest = Start ∷ Outcome 0 ∷ Start ∷ Outcome 0 ∷ [];
  mailbox = M2;
  accepted = refl;
  ordered = refl;
  two = refl;
  good = refl;
  waits = refl;
  more = Start ∷ Outcome 0 ∷ [];
  third = refl;
  ended = refl;
}

-- a request that a reset drops has not ended: once it has not ended when the reset comes, it never ends
pub dropped_never_ends : (m : Mailbox) (b : Requests) (l : List Entry) (e : Entry) (rest : List Entry)
    → has_ended m b l ≡ false → is_drop (event e) ≡ true → has_ended m b (l ++ e ∷ rest) ≡ false
unfolding has_ended
dropped_never_ends m b [] e rest h d = first (at b.outstanding m) h
  where
    first : (f : Bool) → not f ≡ false → pick f (not (is_drop (event e)) && has_ended m (next b (event e)) rest) true ≡ false
    first true k = rw d
    first false k = absurd (true≢false k)
dropped_never_ends m b (x ∷ l) e rest h d = later (at b.outstanding m) (is_drop (event x)) h (λ k. dropped_never_ends m (next b (event x)) l e rest k d)
  where
    later : (f g : Bool) → pick f (not g && has_ended m (next b (event x)) l) true ≡ false
        → (has_ended m (next b (event x)) l ≡ false → has_ended m (next b (event x)) (l ++ e ∷ rest) ≡ false)
        → pick f (not g && has_ended m (next b (event x)) (l ++ e ∷ rest)) true ≡ false
    later true true k ih = refl
    later true false k ih = ih k
    later false g k ih = absurd (true≢false k)
