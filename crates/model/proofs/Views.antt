-- The requests of a controller: what an event does to them, that the observer's requests are theirs, and that a request
-- draws nearer to the wire.
use Rattle.std.proofs.Common.{Option, Some, None}
use mathlib.Core.Bool.{Bool, true, false, not, ◌&&◌, ◌||◌, false≢true, and-true, and-false}
use mathlib.Core.Path.{◌≡◌, refl, sym, subst, ap, ◌∙◌}
use Prim.Native.Nat.{ℕ, ◌≤◌, ◌+◌}
use native.Mathlib.Omega.{arith}
use lib.Dec.{leb}
use Rattle.base.specs.Base.{pick, one}
use Rattle.model.specs.Queue.{same, at, put, holds, joined, without, oldest, is_from, is_nobody, no_requests, requested, emptied, remembered, aborted, aborted_all, sending, freed, off_wire}
use Rattle.model.specs.Requests.{Event, nothing, drops, modes, accepts, aborts, starts, ends, Requests, next, closed, marked, abort_seen, end_seen}
use Rattle.model.specs.Reachable.{distinct, carried}
use Rattle.model.specs.Fairness.{in_order, other_end, other_on, is_good}
use Rattle.model.specs.declared.Mailbox.{Mailbox}
use Rattle.model.specs.declared.Mailbox.TheVariants.{M0, M1, M2}
use Rattle.model.specs.declared.RequestOrder.{RequestOrder}
use Rattle.model.specs.declared.Queue.{Queue}
use Rattle.model.proofs.Orders.{ahead, out_of, flag_out, out_without, distinct_without, gone_without, out_joined, distinct-joined, still, nearer, one_nearer, kept-without, gone_stays, kept-joined, ahead_joined, oldest-first, same-eq, same_comm}
use Rattle.base.proofs.Choices.{Is, Not, not-Is, pick_cases, pick-both, one-le}

-- what of a controller decides about its requests
pub record View : Type 0 where
  pub queue : Queue
  pub nart : Bool
  pub txfp : Bool

abbrev pub with_queue : View → Queue → View
with_queue d q = record { queue = q; nart = d.nart; txfp = d.txfp }

abbrev pub off_view : Option Mailbox → View → Bool → View
off_view None d good = d
off_view (Some m) d good = with_queue d (off_wire d.queue m (good || d.nart || at d.queue.aborts m))

-- what an event does
abbrev pub view_next : View → Event → View
view_next d nothing = d
view_next d drops = record { queue = no_requests; nart = false; txfp = false }
view_next d (modes n t) = record { queue = d.queue; nart = n; txfp = t }
view_next d (accepts m) = with_queue d (requested d.queue m)
view_next d (aborts f) = with_queue d (aborted_all d.queue f)
view_next d (starts m) = with_queue d (sending d.queue m)
view_next d (ends good) = off_view d.queue.transmitting d good

-- what the controller's rules grant
pub record MayStart (d : View) (m : Mailbox) : Type 0 where
  pub free : Is (is_nobody d.queue.transmitting)
  pub held : Is (holds d.queue.order m)
  pub oldest : Is d.txfp → Is (is_from (oldest d.queue.order) m)

abbrev pub Granted : View → Event → Type 0
Granted d nothing = Unit {0}
Granted d drops = Unit {0}
Granted d (modes n t) = Unit {0}
Granted d (accepts m) = Is (not (holds d.queue.order m))
Granted d (aborts f) = Unit {0}
Granted d (starts m) = MayStart d m
Granted d (ends good) = Is (not (is_nobody d.queue.transmitting))

-- no mailbox twice, and the one on the wire is in the order
pub record Sound (q : Queue) : Type 0 where
  pub once : Is (distinct q.order)
  pub wired : Is (carried q.transmitting q.order)

-- the requests as the observer has them
abbrev pub requests_of : View → Requests
requests_of d = record { outstanding = out_of d.queue.order; marks = d.queue.aborts; transmitting = d.queue.transmitting; nart = d.nart; txfp = d.txfp }

-- m off the order, still carried if it is not the one on the wire
pub carried-without : (w : Option Mailbox) (o : RequestOrder) (m : Mailbox) → Is (carried w o) → Not (is_from w m) → Is (carried w (without o m))
carried-without None o m h n = refl
carried-without (Some x) o m h n = kept-without o x m h (not-Is (same_comm m x ∙ n))

emptied_sound : (q : Queue) (m : Mailbox) → Sound q → Not (is_from q.transmitting m) → Sound (emptied q m)
emptied_sound q m g n = record { once = distinct_without q.order g.once m; wired = carried-without q.transmitting q.order m g.wired n }

aborted_sound : (b : Bool) (q : Queue) (m : Mailbox) → Sound q → Sound (aborted b q m)
unfolding aborted
aborted_sound b q m g =
    pick_cases Sound (b && holds q.order m) _ _
    (λ _. pick_cases Sound (is_from q.transmitting m) _ _ (λ _. record { once = g.once; wired = g.wired }) (λ n. emptied_sound q m g n))
    (λ _. g)

pub carried-joined : (w : Option Mailbox) (o : RequestOrder) (x : Mailbox) → Is (carried w o) → Is (carried w (joined o x))
carried-joined None o x h = refl
carried-joined (Some m) o x h = kept-joined o m x h

off_sound : (w : Option Mailbox) (d : View) (good : Bool) → Sound d.queue → Sound (off_view w d good).queue
unfolding off_wire
off_sound None d good g = g
off_sound (Some m) d good g =
    pick_cases Sound (good || d.nart || at d.queue.aborts m) _ _
    (λ _. record { once = distinct_without d.queue.order g.once m; wired = refl })
    (λ _. record { once = g.once; wired = refl })

pub sound_next : (d : View) (n : Event) → Sound d.queue → Granted d n → Sound (view_next d n).queue
unfolding aborted_all
sound_next d nothing g k = g
sound_next d drops g k = record { once = refl; wired = refl }
sound_next d (modes n t) g k = g
sound_next d (accepts m) g k = record { once = distinct-joined d.queue.order g.once m k; wired = carried-joined d.queue.transmitting d.queue.order m g.wired }
sound_next d (aborts f) g k = aborted_sound f.m2 _ M2 (aborted_sound f.m1 _ M1 (aborted_sound f.m0 _ M0 g))
sound_next d (starts m) g k = record { once = g.once; wired = k.held }
sound_next d (ends good) g k = off_sound d.queue.transmitting d good g

-- the observer follows
closed-emptied : (d : View) (m : Mailbox) → Sound d.queue → closed (requests_of d) m ≡ requests_of (with_queue d (emptied d.queue m))
closed-emptied d m g = λ i. record { outstanding = sym (out_without d.queue.order g.once m) i; marks = put d.queue.aborts m false; transmitting = d.queue.transmitting; nart = d.nart; txfp = d.txfp }

abort_choice : (b : Bool) (d : View) (m : Mailbox) → Sound d.queue
    → pick b (pick (is_from d.queue.transmitting m) (marked (requests_of d) m) (closed (requests_of d) m)) (requests_of d)
    ≡ requests_of (with_queue d (pick b (pick (is_from d.queue.transmitting m) (remembered d.queue m) (emptied d.queue m)) d.queue))
abort_choice true d m g = sym (pick-both (λ q. requests_of (with_queue d q)) (is_from d.queue.transmitting m) _ _ _ _ refl (sym (closed-emptied d m g)))
abort_choice false d m g = refl

abort_follows : (a : Bool) (d : View) (m : Mailbox) → Sound d.queue → abort_seen a (requests_of d) m ≡ requests_of (with_queue d (aborted a d.queue m))
unfolding aborted
abort_follows a d m g = rw (flag_out d.queue.order m) (abort_choice (a && holds d.queue.order m) d m g)

end_follows : (w : Option Mailbox) (d : View) (good : Bool) → Sound d.queue → end_seen w (requests_of d) good ≡ requests_of (off_view w d good)
unfolding off_wire
end_follows None d good g = refl
end_follows (Some m) d good g =
    sym (pick-both (λ q. requests_of (with_queue d q)) (good || d.nart || at d.queue.aborts m) _ _ _ _
    (sym (closed-emptied (with_queue d (freed d.queue)) m (record { once = g.once; wired = refl }))) refl)

pub requests_follow : (d : View) (n : Event) → Sound d.queue → Granted d n → next (requests_of d) n ≡ requests_of (view_next d n)
unfolding next aborted_all
requests_follow d nothing g k = refl
requests_follow d drops g k = refl
requests_follow d (modes n t) g k = refl
requests_follow d (accepts m) g k = λ i. record { outstanding = sym (out_joined d.queue.order g.once m k) i; marks = d.queue.aborts; transmitting = d.queue.transmitting; nart = d.nart; txfp = d.txfp }
requests_follow d (aborts f) g k =
    let q1 : Queue = aborted f.m0 d.queue M0 in
    let q2 : Queue = aborted f.m1 q1 M1 in
    let g1 : Sound q1 = aborted_sound f.m0 _ M0 g in
    ap (λ (b : Requests). abort_seen f.m2 (abort_seen f.m1 b M1) M2) (abort_follows f.m0 d M0 g)
    ∙ (ap (λ (b : Requests). abort_seen f.m2 b M2) (abort_follows f.m1 (with_queue d q1) M1 g1)
    ∙ abort_follows f.m2 (with_queue d q2) M2 (aborted_sound f.m1 _ M1 g1))
requests_follow d (starts m) g k = refl
requests_follow d (ends good) g k = end_follows d.queue.transmitting d good g

-- none on the wire stands behind m
abbrev pub in_front : Option Mailbox → Mailbox → RequestOrder → Bool
in_front None m o = true
in_front (Some x) m o = leb (ahead x o) (ahead m o)

-- how many can end on the wire before m: those ahead of it, and one on the wire behind it, as after a start by identifier
abbrev pub rank : Queue → Mailbox → ℕ
rank q m = ahead m q.order + one (not (in_front q.transmitting m q.order))

pub record Waits (q : Queue) (m : Mailbox) : Type 0 where
  pub held : Is (holds q.order m)

-- what an event does to m's request: it is over, or still waits, one place nearer where another's ended on the wire
pub data Turn (q q' : Queue) (m : Mailbox) (other good : Bool) : Type 0 where
  over : Is (not (holds q'.order m)) → other ≡ false → Turn q q' m other good
  on : Waits q' m → one other + rank q' m ≤ rank q m → one good ≤ one other → Turn q q' m other good

front-joined : (w : Option Mailbox) (o : RequestOrder) (m x : Mailbox) → Is (carried w o) → Is (holds o m) → in_front w m (joined o x) ≡ in_front w m o
front-joined None o m x c h = refl
front-joined (Some y) o m x c h = rw (ahead_joined o y x c, ahead_joined o m x h)

front-without : (w : Option Mailbox) (o : RequestOrder) (m x : Mailbox) → Is (distinct o) → Is (carried w o) → Is (holds o m) → Not (same x m) → Not (is_from w x) → Is (in_front w m o) → Is (in_front w m (without o x))
front-without None o m x d c h n k f = refl
front-without (Some y) o m x d c h n k f = still o d m x y h c (not-Is n) (not-Is (same_comm x y ∙ k)) f

-- what is in front stays in front
fewer : (a b : Bool) → (Is a → Is b) → one (not b) ≤ one (not a)
fewer true true h = omega arith
fewer true false h = absurd (false≢true (h refl))
fewer false b h = one-le (not b)

-- another's request leaves, not from the wire
leave_turn : (s : Bool) (q : Queue) (m x : Mailbox) → same x m ≡ s → Sound q → Waits q m → Not (is_from q.transmitting x) → Turn q (emptied q x) m false false
leave_turn true q m x e g w n = over (subst (λ (y : Mailbox). Is (not (holds (without q.order x) y))) (same-eq x m e) (gone_without q.order g.once x)) refl
leave_turn false q m x e g w n =
    on (record { held = kept-without q.order m x w.held (not-Is e) })
    (omega (arith, nearer q.order g.once m x w.held (not-Is e), fewer _ _ (front-without q.transmitting q.order m x g.once g.wired w.held e n)))
    (omega arith)

stay_turn : (q : Queue) (m : Mailbox) → Waits q m → Turn q q m false false
stay_turn q m w = on w (omega arith) (omega arith)

abort_turn : (a : Bool) (q : Queue) (m x : Mailbox) → Sound q → Waits q m → Turn q (aborted a q x) m false false
unfolding aborted
abort_turn a q m x g w =
    pick_cases (λ (q' : Queue). Turn q q' m false false) (a && holds q.order x) _ _
    (λ _. pick_cases (λ (q' : Queue). Turn q q' m false false) (is_from q.transmitting x) _ _
    (λ _. on (record { held = w.held }) (omega arith) (omega arith))
    (λ n. leave_turn (same x m) q m x refl g w n))
    (λ _. stay_turn q m w)

aborted_gone : (a : Bool) (q : Queue) (m x : Mailbox) → Is (not (holds q.order m)) → Is (not (holds (aborted a q x).order m))
unfolding aborted
aborted_gone a q m x h =
    pick_cases (λ (q' : Queue). Is (not (holds q'.order m))) (a && holds q.order x) _ _
    (λ _. pick_cases (λ (q' : Queue). Is (not (holds q'.order m))) (is_from q.transmitting x) _ _ (λ _. h) (λ _. gone_stays q.order m x h))
    (λ _. h)

then_abort : (a : Bool) (q q' : Queue) (m x : Mailbox) → Sound q' → Turn q q' m false false → Turn q (aborted a q' x) m false false
then_abort a q q' m x g (over h e) = over (aborted_gone a q' m x h) refl
then_abort a q q' m x g (on w l k) = go (abort_turn a q' m x g w)
  where
    go : Turn q' (aborted a q' x) m false false → Turn q (aborted a q' x) m false false
    go (over h e) = over h refl
    go (on w' l' k') = on w' (omega arith) (omega arith)

-- the one on the wire leaves, from in front of m or from behind it
nearer_by_one : (b : Bool) (q : Queue) (m x : Mailbox) → in_front (Some x) m q.order ≡ b → Is (carried (Some x) q.order) → Sound q → Waits q m → Not (same x m)
    → 1 + ahead m (without q.order x) ≤ ahead m q.order + one (not b)
nearer_by_one true q m x f c g w e = omega (arith, one_nearer q.order g.once m x w.held c (not-Is e) f)
nearer_by_one false q m x f c g w e = omega (arith, nearer q.order g.once m x w.held (not-Is e))

wire_turn : (s good : Bool) (q : Queue) (m x : Mailbox) → same x m ≡ s → Sound q → Waits q m → q.transmitting ≡ Some x → Turn q (emptied (freed q) x) m (not s) good
wire_turn true good q m x e g w p = over (subst (λ (y : Mailbox). Is (not (holds (without q.order x) y))) (same-eq x m e) (gone_without q.order g.once x)) refl
wire_turn false good q m x e g w p =
    let c : Is (carried (Some x) q.order) = subst (λ (v : Option Mailbox). Is (carried v q.order)) p g.wired in
    let l : 1 + ahead m (without q.order x) ≤ ahead m q.order + one (not (in_front q.transmitting m q.order)) =
    subst (λ (v : Option Mailbox). 1 + ahead m (without q.order x) ≤ ahead m q.order + one (not (in_front v m q.order))) (sym p) (nearer_by_one (in_front (Some x) m q.order) q m x refl c g w e) in
    on (record { held = kept-without q.order m x w.held (not-Is e) }) (omega arith) (one-le good)

end_choice : (b good : Bool) (q : Queue) (m x : Mailbox) → (Is good → Is b) → Sound q → Waits q m → q.transmitting ≡ Some x → Turn q (off_wire q x b) m (not (same x m) && b) good
unfolding off_wire
end_choice true good q m x k g w p = rw and-true (wire_turn (same x m) good q m x refl g w p)
end_choice false true q m x k g w p = absurd (false≢true (k refl))
end_choice false false q m x k g w p = rw and-false (on (record { held = w.held }) (omega arith) (omega arith))

end_turn : (v : Option Mailbox) (d : View) (good : Bool) (m : Mailbox) → d.queue.transmitting ≡ v → Is (not (is_nobody v)) → Sound d.queue → Waits d.queue m
    → Turn d.queue (off_view v d good).queue m (other_on m v (requests_of d) good) good
end_turn None d good m p k g w = absurd (false≢true k)
end_turn (Some x) d good m p k g w = end_choice (good || d.nart || at d.queue.aborts x) good d.queue m x (λ e. rw e) g w p

pub turn : (d : View) (n : Event) (m : Mailbox) → Sound d.queue → Granted d n → Waits d.queue m → Is (in_order n d.txfp)
    → Turn d.queue (view_next d n).queue m (other_end m n (requests_of d)) (is_good n)
unfolding aborted_all
turn d nothing m g k w c = stay_turn d.queue m w
turn d drops m g k w c = absurd (false≢true c)
turn d (modes a t) m g k w c = stay_turn d.queue m w
turn d (accepts x) m g k w c =
    let f = front-joined d.queue.transmitting d.queue.order m x g.wired w.held in
    let l : one (not (in_front d.queue.transmitting m (joined d.queue.order x))) ≡ one (not (in_front d.queue.transmitting m d.queue.order)) = ap (λ (b : Bool). one (not b)) f in
    on (record { held = kept-joined d.queue.order m x w.held })
    (omega (arith, ahead_joined d.queue.order m x w.held))
    (omega arith)
turn d (aborts f) m g k w c =
    then_abort f.m2 d.queue _ m M2 (aborted_sound f.m1 _ M1 (aborted_sound f.m0 _ M0 g))
    (then_abort f.m1 d.queue _ m M1 (aborted_sound f.m0 _ M0 g)
    (abort_turn f.m0 d.queue m M0 g w))
turn d (starts x) m g k w c =
    let f : one (not (leb (ahead x d.queue.order) (ahead m d.queue.order))) ≡ 0 = ap (λ (b : Bool). one (not b)) (oldest-first d.queue.order m x (k.oldest c) w.held) in
    on (record { held = w.held }) (omega arith) (omega arith)
turn d (ends good) m g k w c = end_turn d.queue.transmitting d good m refl k g w
