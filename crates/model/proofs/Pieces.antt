-- A script replayed in pieces gives what the whole script gives.
use Rattle.std.proofs.Common.{Some, None, Ok, Err}
use mathlib.Core.Bool.{Bool, true, false, not, ◌&&◌, ◌||◌, and-false, true≢false, false≢true}
use mathlib.Core.Path.{◌≡◌, refl, sym, ap, ◌∙◌}
use mathlib.Core.List.{List, [], ◌∷◌, ◌++◌, append_assoc, append-nil, flatten}
use Prim.Native.Nat.{ℕ, zero, suc, ◌+◌, ◌-◌, ◌*◌, ◌/◌, ◌≤◌, min}
use native.Mathlib.Nat.{add-zero}
use native.Mathlib.Omega.{arith}
use lib.Dec.{eqb, ltb}
use lib.ListN.{length, take, drop, length-append, length-drop}
use lib.Seq.{take_all, take_at, take-append-add, drop-append-le}
use borrow.Author.Tests.{ltb-true, le-ltb, eqb-true}
use Rattle.base.specs.Base.{pick}
use Rattle.model.specs.Step.{step}
use Rattle.model.specs.Requests.{after}
use Rattle.model.specs.Script.{byte_at, total, body_length, reading, reply, replayed, record_at, reply_of, stops, Progress, replay, steps_by, steps_from, steps_of, replies_to}
use Rattle.model.specs.Scripts.{answerable, header_short, tag_unknown, length_wrong, body_short, answered_steps, last_answer, place_after, goes_on, followed, left_by, Resumes, after_piece, in_pieces, Fit, InPieces}
use Rattle.model.specs.declared.Controller.{Controller}
use Rattle.model.specs.declared.Replayed.{Replayed}
use Rattle.model.specs.declared.Step as steps
use Rattle.base.proofs.Choices.{and_r, pick_cases}
use Rattle.model.proofs.Fair.{after-append}
use Rattle.model.proofs.Readings.{code_small, record-codes, Look, over, short, unknown, wrong, whole, look}
use Rattle.model.proofs.Replays.{steps_on_lem, place-within, own-goes, replays}
use Rattle.model.proofs.Parts.{shifted, reading_shift, settled, reading-behind, place_shift, steps-take, steps_on, steps_split, place_split, steps-rest}
use Rattle.model.specs.Script.{Reading}
use Rattle.model.specs.Refusals.{code}

-- ---- a whole replay, from the steps that are answered and the record at which it stops

abbrev finished : Controller → List steps.Step → Replayed → Progress
finished z l r = record {
  result = record {
    controller = r.controller;
    place = r.place;
    records = length l;
    written = 9 * length l + length (reply_of r);
    ended = r.ended;
    code = r.code;
    lines = r.lines;
    word = r.word;
  };
  replies = replies_to z l ++ reply_of r;
}

-- the record at which it stops
abbrev stop_at : Controller → List steps.Step → List ℕ → ℕ → Replayed
stop_at z l s space = record_at (after z l) s (place_after (length l) s 0) (space - 9 * length l)

replies-length : (z : Controller) (l : List steps.Step) → length (replies_to z l) ≡ 9 * length l
unfolding replies_to reply
replies-length z [] = refl
replies-length z (e ∷ l) = omega (arith, replies-length (step z e).controller l)

same_progress : (x : Progress) (n w : ℕ) (l : List ℕ) (r : Replayed) → last_answer x.result ≡ r → x.result.records ≡ n → x.result.written ≡ w → x.replies ≡ l
    → x ≡ record { result = record { controller = r.controller; place = r.place; records = n; written = w; ended = r.ended; code = r.code; lines = r.lines; word = r.word }; replies = l }
same_progress x n w l r e f g h = rw (← e, ← f, ← g, ← h)

module _ (z : Controller) (s : List ℕ) (space : ℕ) where
  abbrev answers : List steps.Step
  answers = answered_steps s space

  replay-finished : replay z s space ≡ finished z answers (stop_at z answers s space)
  replay-finished = same_progress x (length answers) (9 * length answers + length (reply_of r)) (replies_to z answers ++ reply_of r) r last (replays z s space).folds.records written replies
    where
      x : Progress
      x = replay z s space

      r : Replayed
      r = stop_at z answers s space

      last : last_answer x.result ≡ r
      last = (replays z s space).stop.last

      replies : x.replies ≡ replies_to z answers ++ reply_of r
      replies = (replays z s space).folds.replies ∙ ap (λ (y : Replayed). replies_to z answers ++ reply_of y) last

      written : x.result.written ≡ 9 * length answers + length (reply_of r)
      written = (replays z s space).folds.written ∙ ap length replies ∙ length-append (replies_to z answers) (reply_of r) ∙ ap (λ (n : ℕ). n + length (reply_of r)) (replies-length z answers)

  answers_rounds : answers ≡ steps_from (min (space / 9) (length s)) s 0
  unfolding steps_of
  answers_rounds = steps-take (space / 9) (length s) s 0

  -- the place where it stops, and what it left of the script
  place-stop : (replay z s space).result.place ≡ place_after (length answers) s 0
  place-stop = rw (← (replays z s space).folds.records) (replays z s space).stop.place

-- ---- one piece, and more behind it

-- what a record gives, at a place that is counted from p bytes further to the front
abbrev placed : ℕ → Replayed → Replayed
placed p r = record { controller = r.controller; place = p + r.place; ended = r.ended; code = r.code; lines = r.lines; word = r.word }

record_shift : (z : Controller) (s : List ℕ) (p q space : ℕ) → p ≤ length s → record_at z s (p + q) space ≡ placed p (record_at z (drop p s) q space)
unfolding record_at replayed
record_shift z s p q space h = rw (reading_shift s p q) (go (reading (drop p s) q) (ltb space 9) refl)
  where
    go : (r : Reading) (b : Bool) → ltb space 9 ≡ b → replayed (shifted p r) z (length s) (p + q) space ≡ placed p (replayed r z (length (drop p s)) q space)
    go (Ok None) b e = let n : length s ≡ p + length (drop p s) = omega (arith, length-drop p s) in rw n
    go (Err k) b e = refl
    go (Ok (Some (d, q'))) true e = rw e
    go (Ok (Some (d, q'))) false e = rw e

replies-append : (z : Controller) (l m : List steps.Step) → replies_to z (l ++ m) ≡ replies_to z l ++ replies_to (after z l) m
unfolding after replies_to
replies-append z [] m = refl
replies-append z (e ∷ l) m = rw (replies-append (step z e).controller l m) (simp append_assoc)

finished-followed : (x : Progress) (z : Controller) (l m : List steps.Step) (p : ℕ) (r : Replayed) → x.result.place ≡ p → x.result.records ≡ length l
    → take (9 * length l) x.replies ≡ replies_to z l → finished z (l ++ m) (placed p r) ≡ followed x (finished (after z l) m r)
unfolding followed reply_of
finished-followed x z l m p r e f g =
    let w : (i j k : ℕ) → 9 * (i + j) + k ≡ 9 * i + (9 * j + k) = λ i j k. omega arith in
    rw (e, f, g, length-append l m, replies-append z l m, append_assoc, w)

-- ---- the record at which a replay stopped, with more behind it

-- what a record that stops a replay gives, with more space and more behind it
stops_alike : (d : Reading) (z : Controller) (n n' p space space' : ℕ) (f : ℕ → List steps.Step)
    → stops (replayed d z n p space).ended (replayed d z n p space).code ≡ true → eqb (replayed d z n p space).code 9 ≡ false
    → ((replayed d z n p space).ended ≡ true → n' ≡ n) → length (reply_of (replayed d z n p space)) ≤ space'
    → (replayed d z n' p space' ≡ replayed d z n p space) × (steps_by d f ≡ [])
unfolding replayed reply_of reply steps_by
stops_alike (Ok None) z n n' p space space' f h k e l = (rw (e refl), refl)
stops_alike (Err i) z n n' p space space' f h k e l = (go (ltb space 9) refl, refl)
  where
    go : (b : Bool) → ltb space 9 ≡ b → replayed (Err i) z n' p space' ≡ replayed (Err i) z n p space
    go true t = absurd (true≢false (rw t at k))
    go false t =
        let m : eqb (code i) 9 ≡ false = rw t at k in
        let s : 9 ≤ space' = rw (t, m) at l in
        rw (t, le-ltb space' 9 s)
stops_alike (Ok (Some (d, q))) z n n' p space space' f h k e l = absurd (go (ltb space 9) refl)
  where
    go : (b : Bool) → ltb space 9 ≡ b → ⊥
    go true t = true≢false (rw t at k)
    go false t = true≢false (sym (rw t at h) ∙ own-goes (step z d).code (code_small z d))

-- a replay that neither lacked space nor goes on stopped at an unknown tag or a wrong length, which more bytes do not change
stops_settled : (d : Reading) (z : Controller) (n p space : ℕ) → eqb (replayed d z n p space).code 9 ≡ false
    → goes_on (replayed d z n p space).ended (replayed d z n p space).code ≡ false → settled d ≡ true
unfolding replayed
stops_settled (Ok None) z n p space k h = absurd (true≢false h)
stops_settled (Err i) z n p space k h = go (ltb space 9) refl
  where
    go : (b : Bool) → ltb space 9 ≡ b → not (eqb (code i) 6) ≡ true
    go true t = absurd (true≢false (rw t at k))
    go false t = ap not (rw t at h)
stops_settled (Ok (Some (d, q))) z n p space k h = refl

-- ---- a piece, and b behind it

module _ (z : Controller) (a b : List ℕ) (first space : ℕ) where
  abbrev x : Progress
  x = replay z a first

  -- the steps answered in the first piece, where it stops, and the reply space left for the record there and for what follows
  abbrev front : List steps.Step
  front = answered_steps a first

  abbrev stop : ℕ
  stop = place_after (length front) a 0

  abbrev rest : ℕ
  rest = first - 9 * length front

  abbrev room : ℕ
  room = space - 9 * length front

  -- what is replayed behind the first piece, and the steps answered there
  abbrev left : List ℕ
  left = drop stop a ++ b

  abbrev then : List steps.Step
  then = answered_steps left room

  within : stop ≤ length a
  within = place-within (length front) a 0 (omega arith)

  steps_front : steps_of (a ++ b) ≡ front ++ steps_on a b stop
  unfolding steps_of
  steps_front = rw (← (answers_rounds z a first)) at (steps_split a b (min (first / 9) (length a)) 0)

  place-front : (k : ℕ) → place_after (length front + k) (a ++ b) 0 ≡ place_after k (a ++ b) stop
  place-front k = rw (← (answers_rounds z a first)) at (place_split a b (min (first / 9) (length a)) k 0)

  -- ---- the replay goes on

  answers_both : 9 * length front ≤ space → answered_steps (a ++ b) space ≡ front ++ then
  answers_both h =
      let n : space / 9 ≡ length front + room / 9 = omega arith in
      rw (steps_front, steps-rest a b stop within, n) (take-append-add front (steps_of left) (room / 9))

  place-both : (k : ℕ) → place_after (length front + k) (a ++ b) 0 ≡ stop + place_after k left 0
  place-both k = place-front k ∙ rw (← (drop-append-le stop a b within)) (rw add-zero at (place_shift k (a ++ b) stop 0))

  last-both : stop_at z (front ++ then) (a ++ b) space ≡ placed stop (stop_at (after z front) then left room)
  last-both =
      let n : (i j : ℕ) → space - 9 * (i + j) ≡ space - 9 * i - 9 * j = λ i j. omega arith in
      rw (after-append z front then, length-append front then, place-both (length then), n)
      (rw (drop-append-le stop a b within) at (record_shift (after (after z front) then) (a ++ b) stop (place_after (length then) left 0) (room - 9 * length then) (omega (arith, length-append a b, within))))

  replies-front : take (9 * length front) x.replies ≡ replies_to z front
  replies-front = rw (replays z a first).folds.replies (take_at (replies_to z front) _ (9 * length front) (replies-length z front))

  replay_left : replay x.result.controller (left_by x a ++ b) (space - 9 * x.result.records) ≡ finished (after z front) then (stop_at (after z front) then left room)
  replay_left = rw ((replays z a first).folds.controller, place-stop z a first, (replays z a first).folds.records) (replay-finished (after z front) left room)

  goes-behind : 9 * x.result.records ≤ space → replay z (a ++ b) space ≡ followed x (replay x.result.controller (left_by x a ++ b) (space - 9 * x.result.records))
  goes-behind h =
      let r : Replayed = stop_at (after z front) then left room in
      let k : 9 * length front ≤ space = rw (replays z a first).folds.records at h in
      replay-finished z (a ++ b) space
      ∙ rw (answers_both k, last-both) (finished-followed x z front then stop r (place-stop z a first) (replays z a first).folds.records replies-front)
      ∙ ap (followed x) (sym replay_left)

  -- ---- the replay stopped for good

  stopped_as : x ≡ finished z front (replayed (reading a stop) (after z front) (length a) stop rest)
  unfolding record_at
  stopped_as = replay-finished z a first

  -- where the record at which it stopped is read the same with b behind it, the replay is the same
  module _ (k : eqb x.result.code 9 ≡ false) (w : x.result.written ≤ space) (e : x.result.ended ≡ true → length (a ++ b) ≡ length a) where
    fits : 9 * length front + length (reply_of (replayed (reading a stop) (after z front) (length a) stop rest)) ≤ space
    fits = rw stopped_as at w

    alike : (replayed (reading a stop) (after z front) (length (a ++ b)) stop room ≡ replayed (reading a stop) (after z front) (length a) stop rest) × (steps_by (reading a stop) (steps_on a b) ≡ [])
    alike =
        stops_alike (reading a stop) (after z front) (length a) (length (a ++ b)) stop rest room (steps_on a b)
        (rw stopped_as at (replays z a first).stop.stopped) (rw stopped_as at k) (rw stopped_as at e) (omega (arith, fits))

    stays : reading (a ++ b) stop ≡ reading a stop → replay z (a ++ b) space ≡ x
    unfolding record_at place_after
    stays h =
        let none : steps_on a b stop ≡ [] = steps_on_lem (a ++ b) stop ∙ rw h alike.1 in
        let all : steps_of (a ++ b) ≡ front = steps_front ∙ rw (none, append-nil) in
        let same : answered_steps (a ++ b) space ≡ front = rw all (take_all (space / 9) front (omega (arith, fits))) in
        let there : place_after (length front) (a ++ b) 0 ≡ stop = rw add-zero at (place-front 0) in
        replay-finished z (a ++ b) space ∙ rw (same, there, h, alike.0) (sym stopped_as)

  stays-settled : eqb x.result.code 9 ≡ false → x.result.written ≤ space → goes_on x.result.ended x.result.code ≡ false → replay z (a ++ b) space ≡ x
  stays-settled k w h =
      stays k w (not-ended x.result.ended x.result.code h)
      (reading-behind a b stop (stops_settled (reading a stop) (after z front) (length a) stop rest (rw stopped_as at k) (rw stopped_as at h)))
    where
      not-ended : (e : Bool) (c : ℕ) → goes_on e c ≡ false → e ≡ true → length (a ++ b) ≡ length a
      not-ended true c g i = absurd (true≢false g)
      not-ended false c g i = absurd (false≢true i)

  -- ---- either of the two

  piece_first : (t : Bool) (y : Progress) → goes_on x.result.ended x.result.code ≡ t → eqb (pick t (followed x y) x).result.code 9 ≡ false → (pick t (followed x y) x).result.written ≤ space
      → ((n : ℕ) → eqb y.result.code 9 ≡ false → y.result.written ≤ n → replay x.result.controller (left_by x a ++ b) n ≡ y) → replay z (a ++ b) space ≡ pick t (followed x y) x
  unfolding followed
  piece_first true y h k w f = goes-behind (omega arith) ∙ ap (followed x) (f (space - 9 * x.result.records) k (omega arith))
  piece_first false y h k w f = stays-settled k w h

-- ---- what a piece leaves

pub body_small : (t : ℕ) → body_length t ≤ 13
unfolding body_length
body_small t =
    pick_cases (λ (l : List ℕ). total l ≤ 13) (eqb t 2) _ _ (λ _. omega arith)
    (λ _. pick_cases (λ (l : List ℕ). total l ≤ 13) (eqb t 3) _ _ (λ _. omega arith)
    (λ _. pick_cases (λ (l : List ℕ). total l ≤ 13) (eqb t 5) _ _ (λ _. omega arith)
    (λ _. pick_cases (λ (l : List ℕ). total l ≤ 13) (eqb t 8) _ _ (λ _. omega arith)
    (λ _. pick_cases (λ (l : List ℕ). total l ≤ 13) (eqb t 9) _ _ (λ _. omega arith)
    (λ _. pick_cases (λ (l : List ℕ). total l ≤ 13) (eqb t 10) _ _ (λ _. omega arith) (λ _. omega arith))))))

-- a record that is cut short
cut_short : (z : Controller) (s : List ℕ) (p space : ℕ) → eqb (record_at z s p space).code 6 ≡ true → length s - p ≤ 15
cut_short z s p space k = go (header_short s p) refl (sym (record-codes z s p space).code6 ∙ k)
  where
    go : (h : Bool) → header_short s p ≡ h → (answerable s p space && (header_short s p || (not (tag_unknown s p) && not (length_wrong s p) && body_short s p))) ≡ true → length s - p ≤ 15
    go true e f = omega (arith, ltb-true (length s - p) 3 e)
    go false e f =
        let b : body_short s p ≡ true = and_r (not (tag_unknown s p) && not (length_wrong s p)) (body_short s p) (and_r (answerable s p space) _ (rw e at f)) in
        omega (arith, ltb-true (length s - p) (3 + body_length (byte_at s p)) b, body_small (byte_at s p))

few_left : (z : Controller) (s : List ℕ) (space : ℕ) → goes_on (replay z s space).result.ended (replay z s space).result.code ≡ true → length (left_by (replay z s space) s) ≤ 15
few_left z s space h = rw (length-drop (replay z s space).result.place s) (go (replay z s space).result.ended refl h)
  where
    go : (e : Bool) → (replay z s space).result.ended ≡ e → goes_on e (replay z s space).result.code ≡ true → length s - (replay z s space).result.place ≤ 15
    go true e k = omega (arith, eqb-true (replay z s space).result.place (length s) (sym (replays z s space).stop.ends ∙ e))
    go false e k = rw (place-stop z s space) (cut_short _ s (place_after (length (answers z s space)) s 0) _ (rw (replay-finished z s space) at k))

pub resumes : (z : Controller) (a : List ℕ) (first : ℕ) → Resumes z a (replay z a first)
resumes z a first = record {
  more = λ b space. goes-behind z a b first space;
  few = few_left z a first;
}

-- ---- any number of pieces

pieces_whole : (space : ℕ) (l : List (List ℕ)) (z : Controller) (s : List ℕ) (all : ℕ) → eqb (in_pieces space l z s).result.code 9 ≡ false
    → (in_pieces space l z s).result.written ≤ all → replay z (s ++ flatten l) all ≡ in_pieces space l z s
unfolding in_pieces after_piece flatten
pieces_whole space [] z s all k w = stays z s [] space all k w (λ _. rw append-nil) (rw append-nil)
pieces_whole space (b ∷ l) z s all k w =
    let x : Progress = replay z (s ++ b) space in
    let y : Progress = in_pieces space l x.result.controller (left_by x (s ++ b)) in
    rw (← (append_assoc s b (flatten l)))
    (piece_first z (s ++ b) (flatten l) space all (goes_on x.result.ended x.result.code) y refl k w (pieces_whole space l x.result.controller (left_by x (s ++ b))))

-- ---- enough reply space

steps-bytes : (n : ℕ) (s : List ℕ) (p : ℕ) → p ≤ length s → p + 3 * length (steps_from n s p) ≤ length s
unfolding steps_from steps_by
steps-bytes zero s p h = omega arith
steps-bytes (suc n) s p h = go (look s p) (steps-bytes n s)
  where
    go : {r : Reading} → Look s p r → ((q : ℕ) → q ≤ length s → q + 3 * length (steps_from n s q) ≤ length s) → p + 3 * length (steps_by r (steps_from n s)) ≤ length s
    go (over l) f = omega arith
    go (short l) f = omega arith
    go (unknown l) f = omega arith
    go (wrong l) f = omega arith
    go (whole e q l m) f = omega (arith, f q m)

-- nine bytes for every three of the script, and nine more
enough-space : (z : Controller) (s : List ℕ) (space : ℕ) → 9 * (length s / 3) + 9 ≤ space → eqb (replay z s space).result.code 9 ≡ false
enough-space z s space h =
    let l : List steps.Step = answered_steps s space in
    let n : 3 * length l ≤ length s = rw (answers_rounds z s space) (omega (arith, steps-bytes (min (space / 9) (length s)) s 0 (omega arith))) in
    rw (replay-finished z s space, (record-codes (after z l) s (place_after (length l) s 0) (space - 9 * length l)).code9, le-ltb (space - 9 * length l) 9 (omega arith)) (simp and-false)

all_fit : (n space : ℕ) (l : List (List ℕ)) (z : Controller) (s : List ℕ) → 9 * (n / 3) + 9 ≤ space → Fit n space l z s → eqb (in_pieces space l z s).result.code 9 ≡ false
unfolding in_pieces after_piece Fit followed
all_fit n space [] z s h f = enough-space z s space (omega arith)
all_fit n space (b ∷ l) z s h f =
    let x : Progress = replay z (s ++ b) space in
    pick_cases (λ (y : Progress). eqb y.result.code 9 ≡ false) (goes_on x.result.ended x.result.code) _ _
    (λ g. all_fit n space l x.result.controller (left_by x (s ++ b)) h (f.1 g))
    (λ _. enough-space z (s ++ b) space (omega (arith, f.0)))

-- a script in pieces gives what the whole script gives
pub in_pieces_lem : (space : ℕ) (l : List (List ℕ)) (z : Controller) → InPieces space l z
in_pieces_lem space l z = record {
  whole = λ all k w. pieces_whole space l z [] all k w;
  enough = λ n h f. all_fit n space l z [] h f;
}
