-- A replay is the fold of the step: one round after another, up to the record at which it stops.
use Rattle.std.proofs.Common.{Some, None, Ok, Err}
use mathlib.Core.Bool.{Bool, true, false, ◌&&◌, true≢false, false≢true}
use mathlib.Core.Path.{◌≡◌, refl, sym, ap, ◌∙◌, subst}
use mathlib.Core.List.{List, [], ◌∷◌, ◌++◌, append_assoc}
use Prim.Native.Nat.{ℕ, zero, suc, ◌+◌, ◌-◌, ◌*◌, ◌/◌, ◌≤◌, ◌<◌}
use native.Mathlib.Nat.{add-zero, add-suc, zero-add, sub-zero}
use native.Mathlib.Omega.{arith}
use lib.Dec.{eqb, ltb, leb}
use lib.ListN.{length, take, length-append}
use lib.Seq.{take-nil, take_all}
use borrow.Author.Tests.{ltb-true, ltb-false, leb-true, leb-false, lt-leb, eq-eqb, ne_eqb}
use Rattle.model.specs.Step.{step}
use Rattle.model.specs.Requests.{after}
use Rattle.model.specs.Script.{reading, reply, stayed, at_end, passed, replayed, record_at, reply_of, stops, Progress, begun, after_record, advanced, times, replay, steps_by, steps_from, steps_of, replies_to}
use Rattle.model.specs.Scripts.{answered_steps, last_answer, place_by, place_after, Replays}
use Rattle.model.specs.declared.Controller.{Controller}
use Rattle.model.specs.declared.Replayed.{Replayed}
use Rattle.model.specs.declared.Stepped.{Stepped}
use Rattle.model.specs.declared.Replay as declared
use Rattle.model.specs.declared.Step as steps
use Rattle.base.proofs.Choices.{pick_cases}
use Rattle.model.proofs.Readings.{code_small, record-codes, stop-place, Look, over, short, unknown, wrong, whole, look}
use Rattle.model.specs.Script.{Reading}
use Rattle.model.specs.Refusals.{code}
use Rattle.model.specs.declared.Refusal.{Refusal}
use Rattle.model.specs.declared.Refusal.TheVariants.{Short, UnknownTag, WrongLength}

-- ---- rounds

times-front : {A : Type 0} (n : ℕ) (f : A → A) (x : A) → times n f (f x) ≡ f (times n f x)
unfolding times
times-front zero f x = refl
times-front (suc n) f x = ap f (times-front n f x)

times_fixed : {A : Type 0} (n : ℕ) (f : A → A) (x : A) → f x ≡ x → times n f x ≡ x
unfolding times
times_fixed zero f x h = refl
times_fixed (suc n) f x h = ap f (times_fixed n f x h) ∙ h

pub times_more : {A : Type 0} (n k : ℕ) (f : A → A) (x : A) → f (times n f x) ≡ times n f x → times (n + k) f x ≡ times n f x
unfolding times
times_more n zero f x h = rw add-zero
times_more n (suc k) f x h = rw add-suc (ap f (times_more n k f x h) ∙ h)

-- ---- the steps of a script: more than enough rounds change nothing

steps-none : {s : List ℕ} {p : ℕ} {r : Reading} (f : ℕ → List steps.Step) → length s - p ≤ 0 → Look s p r → steps_by r f ≡ []
unfolding steps_by
steps-none f h (over l) = refl
steps-none f h (short l) = refl
steps-none f h (unknown l) = refl
steps-none f h (wrong l) = refl
steps-none f h (whole e q l m) = absurd (omega arith)

steps-same : {s : List ℕ} {p : ℕ} {r : Reading} (n : ℕ) (f g : ℕ → List steps.Step) → length s - p ≤ suc n → ((q : ℕ) → length s - q ≤ n → f q ≡ g q) → Look s p r → steps_by r f ≡ steps_by r g
unfolding steps_by
steps-same n f g h k (over l) = refl
steps-same n f g h k (short l) = refl
steps-same n f g h k (unknown l) = refl
steps-same n f g h k (wrong l) = refl
steps-same n f g h k (whole e q l m) = ap (λ (x : List steps.Step). e ∷ x) (k q (omega arith))

-- each record takes at least three bytes, so that as many rounds as bytes are more than enough
pub steps-more : (n : ℕ) (s : List ℕ) (p : ℕ) → length s - p ≤ n → steps_from (suc n) s p ≡ steps_from n s p
unfolding steps_from
steps-more zero s p h = steps-none (steps_from 0 s) h (look s p)
steps-more (suc n) s p h = steps-same n (steps_from (suc n) s) (steps_from n s) h (λ q l. steps-more n s q l) (look s p)

-- the steps from a place on: none at the end and where a record can't be read, else the record's step and those from behind it on
pub steps_on_lem : (s : List ℕ) (p : ℕ) → steps_from (length s) s p ≡ steps_by (reading s p) (steps_from (length s) s)
unfolding steps_from
steps_on_lem s p = sym (steps-more (length s) s p (omega arith))

-- with nine bytes of reply space for each, all steps are answered
pub all-answered : (s : List ℕ) (space : ℕ) → 9 * length (steps_of s) ≤ space → answered_steps s space ≡ steps_of s
all-answered s space h = take_all (space / 9) (steps_of s) (omega arith)

-- ---- places

place-within_by : {s : List ℕ} {p : ℕ} {r : Reading} (f : ℕ → ℕ) → p ≤ length s → ((q : ℕ) → q ≤ length s → f q ≤ length s) → Look s p r → place_by r p f ≤ length s
unfolding place_by
place-within_by f h k (over l) = h
place-within_by f h k (short l) = h
place-within_by f h k (unknown l) = h
place-within_by f h k (wrong l) = h
place-within_by f h k (whole e q l m) = k q m

-- records lie within the script
pub place-within : (n : ℕ) (s : List ℕ) (p : ℕ) → p ≤ length s → place_after n s p ≤ length s
unfolding place_after
place-within zero s p h = h
place-within (suc n) s p h = place-within_by (place_after n s) h (λ q l. place-within n s q l) (look s p)

-- ---- one round

-- a record that is answered: one more, and nine bytes more
abbrev further : Progress → Stepped → ℕ → Progress
further x a q = record {
  result = record {
    controller = a.controller;
    place = q;
    records = x.result.records + 1;
    written = x.result.written + 9;
    ended = false;
    code = a.code;
    lines = a.lines;
    word = a.word;
  };
  replies = x.replies ++ reply a.code a.lines a.word;
}

-- a step's own code does not stop the replay
pub own-goes : (k : ℕ) → k ≤ 5 → stops false k ≡ false
own-goes k h = rw (lt-leb 6 k (omega arith))

further_is : (x : Progress) (a : Stepped) (q : ℕ) → a.code ≤ 5 → after_record x (passed a q) ≡ further x a q
unfolding after_record reply_of reply
further_is x a q h = rw (ne_eqb a.code 9 (λ e. omega arith), own-goes a.code h)

module _ (s : List ℕ) (space : ℕ) where
  abbrev room : Progress → ℕ
  room x = space - x.result.written

  abbrev stopped : Progress → Bool
  stopped x = stops x.result.ended x.result.code

  abbrev given : Progress → Replayed
  given x = record_at x.result.controller s x.result.place (room x)

  -- from x on, the steps of l are answered, and then the replay stops at y
  record Outcome (l : List steps.Step) (x y : Progress) : Type 0 where
    controller : y.result.controller ≡ after x.result.controller l
    records : y.result.records ≡ x.result.records + length l
    replies : y.replies ≡ x.replies ++ (replies_to x.result.controller l ++ reply_of (last_answer y.result))
    stops : stopped y ≡ true
    last : last_answer y.result ≡ record_at (after x.result.controller l) s (place_after (length l) s x.result.place) (room x - 9 * length l)
    fits : x.result.written ≤ space → y.result.written ≤ space

  halts : (x : Progress) (r : Replayed) → given x ≡ r → stops r.ended r.code ≡ true → r.controller ≡ x.result.controller → length (reply_of r) ≤ room x → Outcome [] x (after_record x r)
  unfolding after_record after replies_to place_after
  halts x r e h c l = record {
    controller = c;
    records = rw h;
    replies = refl;
    stops = h;
    last = rw sub-zero (sym e);
    fits = λ k. omega arith;
  }

  goes : (x y : Progress) (e : steps.Step) (q : ℕ) (l : List steps.Step) → reading s x.result.place ≡ Ok (Some (e, q)) → 9 ≤ room x
      → Outcome l (further x (step x.result.controller e) q) y → Outcome (e ∷ l) x y
  unfolding after replies_to place_after place_by
  goes x y e q l d h o = record {
    controller = o.controller;
    records = omega (arith, o.records);
    replies = o.replies ∙ simp append_assoc;
    stops = o.stops;
    last = rw (d, room_less x.result.written (length l)) o.last;
    fits = λ k. o.fits (omega arith);
  }
    where
      room_less : (w n : ℕ) → space - w - 9 * suc n ≡ space - (w + 9) - 9 * n
      room_less w n = omega arith

  -- one round from a replay that goes on
  round : (x : Progress) → stopped x ≡ false → advanced s space x ≡ after_record x (given x)
  unfolding advanced
  round x h = rw h

  rest : (n : ℕ) (y : Progress) → stopped y ≡ true → times n (advanced s space) y ≡ y
  unfolding advanced
  rest n y h = times_fixed n (advanced s space) y (rw h)

  -- the steps that are answered from x on
  abbrev ahead : ℕ → Progress → List steps.Step
  ahead n x = take (room x / 9) (steps_from n s x.result.place)

  abbrev Shown : ℕ → Progress → Type 0
  Shown n x = length s - x.result.place < n → stopped x ≡ false → Outcome (ahead n x) x (times n (advanced s space) x)

  -- the replay stops at a record that gives r
  ends : (n : ℕ) (x : Progress) (r : Replayed) → given x ≡ r → stops r.ended r.code ≡ true → r.controller ≡ x.result.controller → length (reply_of r) ≤ room x
      → ahead (suc n) x ≡ [] → Outcome (ahead (suc n) x) x (times n (advanced s space) (after_record x (given x)))
  unfolding after_record
  ends n x r e h c l a = rw (e, a, rest n (after_record x r) h) (halts x r e h c l)

  none_ahead : (n : ℕ) (x : Progress) (r : Reading) → reading s x.result.place ≡ r → steps_by r (steps_from n s) ≡ [] → ahead (suc n) x ≡ []
  unfolding steps_from
  none_ahead n x r e h = rw (e, h) (take-nil (room x / 9))

  -- code 9: nothing is written
  tight : (n : ℕ) (x : Progress) → given x ≡ stayed x.result.controller x.result.place 9 → ahead (suc n) x ≡ []
      → Outcome (ahead (suc n) x) x (times n (advanced s space) (after_record x (given x)))
  unfolding reply_of
  tight n x e a = ends n x (stayed x.result.controller x.result.place 9) e refl refl (omega arith) a

  -- a record that can't be read: its code, or 9
  unread : (n : ℕ) (x : Progress) (k : Refusal) (b : Bool) → ltb (room x) 9 ≡ b → reading s x.result.place ≡ Err k
      → stops false (code k) ≡ true → eqb (code k) 9 ≡ false → Outcome (ahead (suc n) x) x (times n (advanced s space) (after_record x (given x)))
  unfolding record_at replayed reply_of reply steps_by
  unread n x k true h e f g = tight n x (rw (e, h)) (none_ahead n x (Err k) e refl)
  unread n x k false h e f g =
      ends n x (stayed x.result.controller x.result.place (code k)) (rw (e, h)) f refl (rw g (ltb-false (room x) 9 h)) (none_ahead n x (Err k) e refl)

  share : (w : ℕ) → 9 ≤ space - w → (space - w) / 9 ≡ suc ((space - (w + 9)) / 9)
  share w m = omega arith

  ahead_found : (n : ℕ) (x : Progress) (d : steps.Step) (q : ℕ) (a : Stepped) → reading s x.result.place ≡ Ok (Some (d, q)) → 9 ≤ room x → ahead (suc n) x ≡ d ∷ ahead n (further x a q)
  unfolding steps_from steps_by
  ahead_found n x d q a e m = rw (e, share x.result.written m)

  given-found : (x : Progress) (d : steps.Step) (q : ℕ) → reading s x.result.place ≡ Ok (Some (d, q)) → ltb (room x) 9 ≡ false
      → after_record x (given x) ≡ further x (step x.result.controller d) q
  unfolding record_at replayed
  given-found x d q e h = rw (e, h) (further_is x (step x.result.controller d) q (code_small x.result.controller d))

  -- a record is read: code 9, or its step is answered
  found : (n : ℕ) (x : Progress) (d : steps.Step) (q : ℕ) (b : Bool) → ltb (room x) 9 ≡ b → reading s x.result.place ≡ Ok (Some (d, q))
      → length s - q < n → ((x' : Progress) → Shown n x') → Outcome (ahead (suc n) x) x (times n (advanced s space) (after_record x (given x)))
  unfolding record_at replayed
  found n x d q true h e l ih = tight n x (rw (e, h)) (let m : room x / 9 ≡ 0 = omega (arith, ltb-true (room x) 9 h) in rw m)
  found n x d q false h e l ih =
      let a : Stepped = step x.result.controller d in
      let m : 9 ≤ room x = ltb-false (room x) 9 h in
      rw (ahead_found n x d q a e m, given-found x d q e h)
      (goes x (times n (advanced s space) (further x a q)) d q (ahead n (further x a q)) e m (ih (further x a q) l (own-goes a.code (code_small x.result.controller d))))

  looked : (n : ℕ) (x : Progress) {r : Reading} → reading s x.result.place ≡ r → Look s x.result.place r
      → length s - x.result.place < suc n → ((x' : Progress) → Shown n x') → Outcome (ahead (suc n) x) x (times n (advanced s space) (after_record x (given x)))
  unfolding record_at replayed reply_of steps_by
  looked n x e (over h) l ih = ends n x (at_end x.result.controller (length s)) (rw e) refl refl (omega arith) (none_ahead n x (Ok None) e refl)
  looked n x e (short h) l ih = unread n x Short (ltb (room x) 9) refl e refl refl
  looked n x e (unknown h) l ih = unread n x UnknownTag (ltb (room x) 9) refl e refl refl
  looked n x e (wrong h) l ih = unread n x WrongLength (ltb (room x) 9) refl e refl refl
  looked n x e (whole d q i m) l ih = found n x d q (ltb (room x) 9) refl e (omega arith) ih

  -- with more rounds than bytes are left, the replay stops behind the steps that are answered
  outcome : (n : ℕ) (x : Progress) → Shown n x
  unfolding times
  outcome zero x l h = absurd (omega arith)
  outcome (suc n) x l h =
      rw (← (times-front n (advanced s space) x), round x h)
      (looked n x refl (look s x.result.place) l (outcome n))

  -- ---- the bytes written are the replies

  counted : (n : ℕ) (x : Progress) → x.result.written ≡ length x.replies → (times n (advanced s space) x).result.written ≡ length (times n (advanced s space) x).replies
  unfolding times advanced after_record
  counted zero x h = h
  counted (suc n) x h =
      let y : Progress = times n (advanced s space) x in
      let k : y.result.written ≡ length y.replies = counted n x h in
      pick_cases (λ (w : Progress). w.result.written ≡ length w.replies) (stopped y) _ _ (λ _. k) (λ _. rw (length-append, k))

-- ---- a whole replay

leb_eqb : (m n : ℕ) → m ≤ n → leb n m ≡ eqb m n
leb_eqb m n h = go (leb n m) refl
  where
    go : (b : Bool) → leb n m ≡ b → b ≡ eqb m n
    go true e = sym (eq-eqb m n (omega (arith, leb-true n m e)))
    go false e = sym (ne_eqb m n (λ q. omega (arith, leb-false n m e)))

stop-codes : (e : Bool) (k : ℕ) → stops e k ≡ true → e ≡ false → (6 ≤ k) × (k ≤ 9)
stop-codes true k h f = absurd (true≢false f)
stop-codes false k h f = (leb-true 6 k (and_left (leb 6 k) (leb k 9) h), leb-true k 9 (and_right (leb 6 k) (leb k 9) h))
  where
    and_left : (a b : Bool) → (a && b) ≡ true → a ≡ true
    and_left true b g = refl
    and_left false b g = g

    and_right : (a b : Bool) → (a && b) ≡ true → b ≡ true
    and_right true b g = g
    and_right false b g = absurd (false≢true g)

-- where a replay stops, from its last answer
module _ (x : declared.Replay) (z : Controller) (s : List ℕ) (p space : ℕ) (last : last_answer x ≡ record_at z s p space) (h : p ≤ length s) where
  stopped-place : stops x.ended x.code ≡ true → x.place ≡ p
  stopped-place k = ap (λ (r : Replayed). r.place) last ∙ stop-place z s p space h (subst (λ (r : Replayed). stops r.ended r.code ≡ true) last k)

  stopped-ends : stops x.ended x.code ≡ true → x.ended ≡ eqb x.place (length s)
  stopped-ends k = rw (stopped-place k) (ap (λ (r : Replayed). r.ended) last ∙ ((record-codes z s p space).ends ∙ leb_eqb p (length s) h))

module _ (z : Controller) (s : List ℕ) (space : ℕ) where
  whole_outcome : Outcome s space (answered_steps s space) (begun z) (replay z s space)
  unfolding replay steps_of
  whole_outcome =
      let o : Outcome s space (take ((space - 0) / 9) (steps_from (suc (length s)) s 0)) (begun z) (replay z s space) = outcome s space (suc (length s)) (begun z) (omega arith) refl in
      rw (sub-zero, steps-more (length s) s 0 (omega arith)) at o

  -- a replay is the fold of the step over the steps that are answered, and stops behind them
  pub replays : Replays z s space
  unfolding replay advanced
  replays = record {
    folds = record {
      controller = o.controller;
      records = records;
      replies = o.replies;
      written = counted s space (suc (length s)) (begun z) refl;
      fits = o.fits (omega arith);
    };
    stop = record {
      stopped = o.stops;
      rounds = λ k. times_more (suc (length s)) k (advanced s space) (begun z) (rw o.stops);
      place = rw records (stopped-place x (after z l) s p room last h o.stops);
      within = rw (stopped-place x (after z l) s p room last h o.stops) h;
      ends = stopped-ends x (after z l) s p room last h o.stops;
      codes = stop-codes x.ended x.code o.stops;
      last = last;
    };
  }
    where
      l : List steps.Step
      l = answered_steps s space

      x : declared.Replay
      x = (replay z s space).result

      p : ℕ
      p = place_after (length l) s 0

      room : ℕ
      room = space - 9 * length l

      h : p ≤ length s
      h = place-within (length l) s 0 (omega arith)

      o : Outcome s space l (begun z) (replay z s space)
      o = whole_outcome

      records : x.records ≡ length l
      records = o.records ∙ simp zero-add

      last : last_answer x ≡ record_at (after z l) s p room
      last = rw sub-zero at o.last
