-- Demand 3: the fairness of request order, for every list of steps.
use Rattle.std.proofs.Common.{Option, Some, None}
use mathlib.Core.Bool.{Bool, true, false, not, false≢true}
use mathlib.Core.Path.{◌≡◌, refl, sym, subst, ap, ◌∙◌}
use mathlib.Core.List.{List, [], ◌∷◌, ◌++◌}
use mathlib.Core.Logic.{◌⊎◌, inl, inr}
use Prim.Native.Nat.{ℕ, ◌≤◌, ◌+◌}
use native.Mathlib.Omega.{arith}
use Rattle.base.specs.Base.{one}
use Rattle.model.specs.Queue.{at, holds}
use Rattle.model.specs.Control.{txfp, control_reset}
use Rattle.model.specs.Registers.{reset, register_at, control_register}
use Rattle.model.specs.Step.{step, answered, refusal}
use Rattle.model.specs.Reachable.{InRange, carried}
use Rattle.model.specs.Requests.{Event, nothing, drops, modes, accepts, aborts, starts, ends, Entry, Requests, none_yet, next, requests_after, after, entries, event, entry}
use Rattle.model.specs.Shown.{tme}
use Rattle.model.specs.Fairness.{is_drop, in_order, Moment, meanwhile, has_ended, under_request_order, other_ends, other_end, is_good, ends_well, every, count, Served, Fairness, requests_from, entries_behind}
use Rattle.model.specs.declared.Mailbox.{Mailbox}
use Rattle.model.specs.declared.Queue.{Queue}
use Rattle.model.specs.declared.Controller.{Controller}
use Rattle.model.specs.declared.Step as steps
use Rattle.model.specs.declared.Step.TheVariants.{Read}
use Rattle.base.proofs.Choices.{Is, Not, Is-not, and_l, and_r}
use Rattle.model.proofs.Orders.{ahead, ahead_two, rank-two, flag_out, holds-joined}
use Rattle.model.proofs.Views.{View, view_next, Granted, Sound, requests_of, requests_follow, sound_next, Waits, in_front, rank, Turn, over, on, turn}
use Rattle.model.proofs.Follows.{view_of, follows}
use Rattle.model.proofs.StatusWord.{flags-shown}

-- ---- the observer's requests are the controller's

abbrev pub Good : Controller → Type 0
Good z = Sound z.core.transmit.queue

abbrev pub view : Controller → View
view z = view_of z.core

pub good : (z : Controller) → InRange z → Good z
good z i = record { once = i.core.transmit.queue.once; wired = i.core.transmit.queue.carries }

step_sound : (z : Controller) (s : steps.Step) → Good z → Good (step z s).controller
step_sound z s g = subst (λ (d : View). Sound d.queue) (sym (follows z s).view) (sound_next (view z) (event (entry s (step z s))) g (follows z s).granted)

pub step-requests : (z : Controller) (s : steps.Step) → Good z → next (requests_of (view z)) (event (entry s (step z s))) ≡ requests_of (view (step z s).controller)
step-requests z s g = requests_follow (view z) (event (entry s (step z s))) g (follows z s).granted ∙ ap requests_of (sym (follows z s).view)

run_sound : (l : List steps.Step) (z : Controller) → Good z → Good (after z l)
unfolding after
run_sound [] z g = g
run_sound (s ∷ l) z g = run_sound l (step z s).controller (step_sound z s g)

pub run-requests : (l : List steps.Step) (z : Controller) → Good z → requests_after (requests_of (view z)) (entries z l) ≡ requests_of (view (after z l))
unfolding after entries requests_after
run-requests [] z g = refl
run-requests (s ∷ l) z g =
    ap (λ (b : Requests). requests_after b (entries (step z s).controller l)) (step-requests z s g)
    ∙ run-requests l (step z s).controller (step_sound z s g)

reset_sound : Good reset
unfolding reset
reset_sound = record { once = refl; wired = refl }

reset-requests : requests_of (view reset) ≡ none_yet
unfolding reset control_reset
reset-requests = refl

-- ---- what is shown of the time in which m waits, k places from the front

record Shown (m : Mailbox) (b : Requests) (es : List Entry) (k : ℕ) : Type 0 where
  few : count (other_ends m) (meanwhile m b es) ≤ k
  ended : (has_ended m b es ≡ true) ⊎ (count ends_well es ≤ k)

gone_meanwhile : (m : Mailbox) (b : Requests) (es : List Entry) → Not (at b.outstanding m) → meanwhile m b es ≡ []
unfolding meanwhile
gone_meanwhile m b [] h = refl
gone_meanwhile m b (e ∷ es) h = rw h

gone_ended : (m : Mailbox) (b : Requests) (es : List Entry) → Not (at b.outstanding m) → has_ended m b es ≡ true
unfolding has_ended
gone_ended m b [] h = rw h
gone_ended m b (e ∷ es) h = rw h

meanwhile-cons : (m : Mailbox) (b : Requests) (e : Entry) (es : List Entry) → Is (at b.outstanding m)
    → meanwhile m b (e ∷ es) ≡ record { requests = b; event = event e } ∷ meanwhile m (next b (event e)) es
unfolding meanwhile
meanwhile-cons m b e es h = rw h

ended-cons : (m : Mailbox) (b : Requests) (e : Entry) (es : List Entry) → Not (is_drop (event e)) → Is (at b.outstanding m) → has_ended m b (e ∷ es) ≡ has_ended m (next b (event e)) es
unfolding has_ended
ended-cons m b e es k h = rw (h, k)

-- one step more
extend : (m : Mailbox) (b : Requests) (e : Entry) (es : List Entry) (k k' : ℕ) → Not (is_drop (event e)) → Is (at b.outstanding m) → Shown m (next b (event e)) es k'
    → one (other_end m (event e) b) + k' ≤ k → one (is_good (event e)) ≤ one (other_end m (event e) b) → Shown m b (e ∷ es) k
unfolding count
extend m b e es k k' nd h o l l' = record {
  few = rw (meanwhile-cons m b e es h) (omega (arith, o.few));
  ended = go o.ended;
}
  where
    go : (has_ended m (next b (event e)) es ≡ true) ⊎ (count ends_well es ≤ k') → (has_ended m b (e ∷ es) ≡ true) ⊎ (count ends_well (e ∷ es) ≤ k)
    go (inl x) = inl (ended-cons m b e es nd h ∙ x)
    go (inr x) = inr (omega arith)

finish : (m : Mailbox) (b : Requests) (e : Entry) (es : List Entry) (k : ℕ) → Not (is_drop (event e)) → Is (at b.outstanding m) → Not (at (next b (event e)).outstanding m)
    → other_end m (event e) b ≡ false → Shown m b (e ∷ es) k
unfolding count
finish m b e es k nd h g x = record {
  few = rw (meanwhile-cons m b e es h, gone_meanwhile m (next b (event e)) es g, x) (omega arith);
  ended = inl (ended-cons m b e es nd h ∙ gone_ended m (next b (event e)) es g);
}

every_head : (p : Moment → Bool) (x : Moment) (l : List Moment) → every p (x ∷ l) ≡ true → p x ≡ true
unfolding every
every_head p x l h = and_l (p x) (every p l) h

every_tail : (p : Moment → Bool) (x : Moment) (l : List Moment) → every p (x ∷ l) ≡ true → every p l ≡ true
unfolding every
every_tail p x l h = and_r (p x) (every p l) h

abbrev Promise : Mailbox → List Entry → View → Type 0
Promise m es d = every under_request_order (meanwhile m (requests_of d) es) ≡ true → Shown m (requests_of d) es (rank d.queue m)

outstanding-held : (d : View) (m : Mailbox) (b : Bool) → holds d.queue.order m ≡ b → at (requests_of d).outstanding m ≡ b
outstanding-held d m b h = flag_out d.queue.order m ∙ h

ordered_keeps : (x : Event) (t : Bool) → Is (in_order x t) → Not (is_drop x)
ordered_keeps nothing t h = refl
ordered_keeps drops t h = absurd (false≢true h)
ordered_keeps (modes a b) t h = refl
ordered_keeps (accepts m) t h = refl
ordered_keeps (aborts f) t h = refl
ordered_keeps (starts m) t h = refl
ordered_keeps (ends g) t h = refl

advance : (m : Mailbox) (d : View) (e : Entry) (es : List Entry) → Not (is_drop (event e)) → next (requests_of d) (event e) ≡ requests_of (view_next d (event e)) → Waits d.queue m
    → Turn d.queue (view_next d (event e)).queue m (other_end m (event e) (requests_of d)) (is_good (event e))
    → (Waits (view_next d (event e)).queue m → Promise m es (view_next d (event e)))
    → every under_request_order (meanwhile m (next (requests_of d) (event e)) es) ≡ true
    → Shown m (requests_of d) (e ∷ es) (rank d.queue m)
advance m d e es nd eq w (over gone o) ih h =
    finish m (requests_of d) e es _ nd (outstanding-held d m true w.held)
    (subst (λ (b : Requests). at b.outstanding m ≡ false) (sym eq) (outstanding-held (view_next d (event e)) m false (Is-not _ gone))) o
advance m d e es nd eq w (on w' l l') ih h =
    extend m (requests_of d) e es _ (rank (view_next d (event e)).queue m) nd (outstanding-held d m true w.held)
    (subst (λ (b : Requests). Shown m b es (rank (view_next d (event e)).queue m)) (sym eq)
    (ih w' (subst (λ (b : Requests). every under_request_order (meanwhile m b es) ≡ true) eq h))) l l'

-- while m waits
waits : (l : List steps.Step) (z : Controller) (m : Mailbox) → Good z → Waits z.core.transmit.queue m → Promise m (entries z l) (view z)
unfolding entries meanwhile count
waits [] z m g w h = record { few = omega arith; ended = inr (omega arith) }
waits (s ∷ l) z m g w h =
    let d : View = view z in
    let e : Entry = entry s (step z s) in
    let es : List Entry = entries (step z s).controller l in
    let h' : every under_request_order (record { requests = requests_of d; event = event e } ∷ meanwhile m (next (requests_of d) (event e)) es) ≡ true =
    rw (meanwhile-cons m (requests_of d) e es (outstanding-held d m true w.held)) at h in
    advance m d e es (ordered_keeps (event e) (txfp z.core.control) (every_head under_request_order _ _ h')) (requests_follow d (event e) g (follows z s).granted) w
    (turn d (event e) m g (follows z s).granted w (every_head under_request_order _ _ h'))
    (subst (λ (d' : View). Waits d'.queue m → Promise m es d') (follows z s).view (waits l (step z s).controller m (step_sound z s g)))
    (every_tail under_request_order _ _ h')

-- ---- an accepted request waits

accepted-waits : (d : View) (m : Mailbox) → Sound d.queue → Is (not (holds d.queue.order m)) → Waits (view_next d (accepts m)).queue m
accepted-waits d m g h = record { held = holds-joined d.queue.order g.once m h }

-- at most two others can end on the wire before a request that waits
few-before : (q : Queue) (m : Mailbox) → Sound q → Waits q m → rank q m ≤ 2
few-before q m g w = go q.transmitting g.wired
  where
    go : (v : Option Mailbox) → Is (carried v q.order) → ahead m q.order + one (not (in_front v m q.order)) ≤ 2
    go None c = omega (arith, ahead_two q.order m)
    go (Some x) c = rank-two q.order m x g.once w.held c

served : (m : Mailbox) (b : Requests) (es : List Entry) (k : ℕ) → k ≤ 2 → Shown m b es k → Served m b es
served m b es k l o = record { few = omega (arith, o.few); ended = go o.ended }
  where
    go : (has_ended m b es ≡ true) ⊎ (count ends_well es ≤ k) → 3 ≤ count ends_well es → has_ended m b es ≡ true
    go (inl e) h = e
    go (inr e) h = absurd (omega arith)

abbrev Claim : Requests → Mailbox → List Entry → Type 0
Claim b m es = every under_request_order (meanwhile m b es) ≡ true → Served m b es

-- just accepted
accepted : (rest : List steps.Step) (z : Controller) (s : steps.Step) (m : Mailbox) → Good z → event (entry s (step z s)) ≡ accepts m
    → Claim (requests_of (view (step z s).controller)) m (entries (step z s).controller rest)
accepted rest z s m g e h =
    let d : View = view z in
    let z' : Controller = (step z s).controller in
    let seen : view z' ≡ view_next d (accepts m) = (follows z s).view ∙ ap (view_next d) e in
    let new : Granted d (accepts m) = subst (Granted d) e (follows z s).granted in
    let w : Waits z'.core.transmit.queue m = subst (λ (x : View). Waits x.queue m) (sym seen) (accepted-waits d m g new) in
    served m _ _ _ (few-before z'.core.transmit.queue m (step_sound z s g) w) (waits rest z' m (step_sound z s g) w h)

-- outstanding at the start
pub good-held : (z : Controller) (l : List steps.Step) (m : Mailbox) → Good z → Is (at (requests_of (view z)).outstanding m) → Claim (requests_of (view z)) m (entries z l)
good-held z l m g o h =
    let w : Waits z.core.transmit.queue m = record { held = sym (flag_out z.core.transmit.queue.order m) ∙ o } in
    served m _ _ _ (few-before z.core.transmit.queue m g w) (waits l z m g w h)

pub after-append : (z : Controller) (l m : List steps.Step) → after z (l ++ m) ≡ after (after z l) m
unfolding after
after-append z [] m = refl
after-append z (s ∷ l) m = after-append (step z s).controller l m

tsr-code : (z : Controller) → (step z (Read 8)).code ≡ 0
unfolding step answered refusal register_at control_register
tsr-code z = refl

-- ---- demand 3, for every list of steps from any state whose request order names no mailbox twice and holds the one on the wire

pub good-fair : (z : Controller) (l : List steps.Step) → Good z → Fairness z (requests_of (view z)) l
unfolding after
good-fair z l g = record {
  read = tsr-code (after z l);
  empty = empty;
  served = λ before s rest m e. claim before s rest m;
}
  where
    b : Requests
    b = requests_of (view z)

    empty : (m : Mailbox) → tme m (after z l) ≡ not (at (requests_from z b l).outstanding m)
    empty m = rw (run-requests l z g, flag_out (after z l).core.transmit.queue.order m) (flags-shown (after z l) m).tme

    claim : (before : List steps.Step) (s : steps.Step) (rest : List steps.Step) (m : Mailbox) → event (entry s (step (after z before) s)) ≡ accepts m
        → Claim (requests_from z b (before ++ s ∷ [])) m (entries_behind z (before ++ s ∷ []) rest)
    claim before s rest m a =
        rw (run-requests (before ++ s ∷ []) z g, after-append z before (s ∷ [])) (accepted rest (after z before) s m (run_sound before z g) a)

-- the same from hardware reset
pub fairness : (l : List steps.Step) → Fairness reset none_yet l
fairness l = subst (λ (b : Requests). Fairness reset b l) reset-requests (good-fair reset l reset_sound)
