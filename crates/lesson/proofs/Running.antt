-- Turn after turn: with a good opening the turns are those of a script; any other is refused as soon as it can be told.
use Rattle.std.proofs.Common.{Err}
use mathlib.Core.Bool.{Bool, true, false, false≢true}
use mathlib.Core.Path.{◌≡◌, refl, sym, ap, subst, ◌∙◌}
use mathlib.Core.List.{List, [], ◌∷◌, ◌++◌, append-nil, append_assoc, flatten}
use Prim.Native.Nat.{ℕ, suc, ◌+◌, ◌*◌, ◌/◌, ◌<◌, ◌≤◌}
use native.Mathlib.Nat.{sub-zero}
use native.Mathlib.Omega.{arith}
use lib.Dec.{eqb, ltb}
use lib.ListN.{length, take, drop}
use lib.Seq.{take-append-le}
use borrow.Author.Tests.{lt-ltb, le-ltb, ltb-true, ltb-false}
use Rattle.base.specs.Base.{pick}
use Rattle.model.specs.Lesson.{opens, ends_with, lesson_at, lesson_replay}
use Rattle.model.specs.Script.{reply, reply_of, replayed, record_at, reading, stops, after_record, begun, advanced, times, Progress, replay}
use Rattle.model.specs.Scripts.{goes_on, Fit}
use Rattle.model.specs.Step.{lines_of}
use Rattle.model.specs.declared.Controller.{Controller}
use Rattle.model.proofs.Lessons.{opening_is}
use Rattle.model.proofs.Replays.{times_more}
use Rattle.pieces.specs.Turns as scripts
use Rattle.pieces.specs.declared.Position.{Position}
use Rattle.pieces.specs.declared.Turn as pieces
use Rattle.pieces.proofs.Running as running
use Rattle.lesson.specs.Turns.{refusal, refused_turn, lesson_piece, sent_by, after_turn, run, Turns}
use Rattle.model.specs.declared.Refusal.TheVariants.{Short}

-- ---- under three bytes

stopped-stays : (s : List ℕ) (space : ℕ) (y : Progress) → stops y.result.ended y.result.code ≡ true → advanced s space y ≡ y
unfolding advanced
stopped-stays s space y k = rw k

-- a replay that stops at its first record
ends-first : (z : Controller) (s : List ℕ) (space : ℕ) (y : Progress) → advanced s space (begun z) ≡ y → stops y.result.ended y.result.code ≡ true → replay z s space ≡ y
unfolding replay times
ends-first z s space y h k =
    let n : suc (length s) ≡ 1 + length s = omega arith in
    ap (λ (m : ℕ). times m (advanced s space) (begun z)) n ∙ times_more 1 (length s) (advanced s space) (begun z) fixed ∙ h
  where
    fixed : advanced s space (advanced s space (begun z)) ≡ advanced s space (begun z)
    fixed = ap (advanced s space) h ∙ stopped-stays s space y k ∙ sym h

-- the replay of no byte at all: the end
abbrev ended : Controller → Progress
ended z = record {
  result = record { controller = z; place = 0; records = 0; written = 0; ended = true; code = 0; lines = lines_of z.core; word = 0 };
  replies = [];
}

-- of one or two: cut short, or without space for that reply
abbrev cut : Controller → ℕ → Progress
cut z space = record {
  result = record { controller = z; place = 0; records = 0; written = pick (ltb space 9) 0 9; ended = false; code = pick (ltb space 9) 9 6; lines = lines_of z.core; word = 0 };
  replies = pick (ltb space 9) [] (reply 6 (lines_of z.core) 0);
}

none : (z : Controller) (space : ℕ) → replay z [] space ≡ ended z
unfolding advanced after_record record_at replayed reading reply_of
none z space = ends-first z [] space (ended z) refl refl

cut_short : (z : Controller) (s : List ℕ) (space : ℕ) → reading s 0 ≡ Err Short → replay z s space ≡ cut z space
unfolding advanced after_record record_at replayed reply_of reply
cut_short z s space h = go (ltb space 9) refl
  where
    go : (b : Bool) → ltb space 9 ≡ b → replay z s space ≡ cut z space
    go true k = ends-first z s space (cut z space) (rw (h, sub-zero, k)) (rw k)
    go false k = ends-first z s space (cut z space) (rw (h, sub-zero, k)) (rw k)

-- what holds of both holds of every piece of under three bytes
short : (z : Controller) (space : ℕ) (Q : List ℕ → Progress → Type 0) → Q [] (ended z) → ((s : List ℕ) → Q s (cut z space)) → (s : List ℕ) → length s < 3 → Q s (replay z s space)
unfolding reading
short z space Q e c [] h = subst (Q []) (sym (none z space)) e
short z space Q e c (a ∷ []) h = subst (Q (a ∷ [])) (sym (cut_short z (a ∷ []) space refl)) (c (a ∷ []))
short z space Q e c (a ∷ b ∷ []) h = subst (Q (a ∷ b ∷ [])) (sym (cut_short z (a ∷ b ∷ []) space refl)) (c (a ∷ b ∷ []))
short z space Q e c (a ∷ b ∷ d ∷ s) h = absurd (omega arith)

-- nothing of it is passed
stays : (z : Controller) (space : ℕ) (s : List ℕ) → length s < 3 → ((scripts.replay_piece (scripts.begun z) s false space).position ≡ scripts.begun z) × ((scripts.replay_piece (scripts.begun z) s false space).place ≡ 0)
unfolding scripts.replay_piece
stays z space = short z space (λ s x. (scripts.behind (scripts.begun z) x.result ≡ scripts.begun z) × (x.result.place ≡ 0)) (refl, refl) (λ s. (refl, refl))

-- ---- the opening of what is read so far

opens-on : (s t : List ℕ) → 3 ≤ length s → opens (s ++ t) ≡ opens s
unfolding opens
opens-on s t h = rw (take-append-le 3 s t h)

-- good with more behind it, but not yet: under three bytes
not_yet : (s t : List ℕ) → opens (s ++ t) ≡ true → opens s ≡ false → length s < 3
not_yet s t h k = go (ltb (length s) 3) refl
  where
    go : (b : Bool) → ltb (length s) 3 ≡ b → length s < 3
    go true e = ltb-true (length s) 3 e
    go false e = absurd (false≢true (sym k ∙ sym (opens-on s t (ltb-false (length s) 3 e)) ∙ h))

-- ---- a good opening

module _ (space : ℕ) where
  opened-run : (l : List (List ℕ)) (k : Position) (left : List ℕ) → run space l k true left ≡ scripts.run space l k left
  unfolding run scripts.run lesson_piece sent_by scripts.sent_by after_turn scripts.after_turn
  opened-run [] k left = refl
  opened-run (b ∷ l) k left =
      let t = scripts.replay_piece k (left ++ b) false space in
      rw (opened-run l t.position (drop t.place (left ++ b)))

  good-run : (l : List (List ℕ)) (z : Controller) (left : List ℕ) → opens (left ++ flatten l) ≡ true → run space l (scripts.begun z) false left ≡ scripts.run space l (scripts.begun z) left
  unfolding flatten run scripts.run lesson_piece sent_by scripts.sent_by after_turn scripts.after_turn
  good-run [] z left h = let e : opens left ≡ true = rw (append-nil left) at h in rw e
  good-run (b ∷ l) z left h = go (opens (left ++ b)) refl (good-run l z (left ++ b))
    where
      s : List ℕ
      s = left ++ b

      t : pieces.Turn
      t = scripts.replay_piece (scripts.begun z) s false space

      on : opens (s ++ flatten l) ≡ true
      on = rw (← (append_assoc left b (flatten l))) at h

      go : (o : Bool) → opens s ≡ o → (opens (s ++ flatten l) ≡ true → run space l (scripts.begun z) false s ≡ scripts.run space l (scripts.begun z) s)
          → run space (b ∷ l) (scripts.begun z) false left ≡ scripts.run space (b ∷ l) (scripts.begun z) left
      go true e f = rw (e, opened-run l t.position (drop t.place s))
      go false e f =
          let n : length s < 3 = not_yet s (flatten l) on e in
          let k = stays z space s n in
          rw (e, lt-ltb (length s) 3 n, k.0, k.1, f on)

-- ---- any other opening

module _ (space : ℕ) (z : Controller) where
  abbrev answer : scripts.Run
  answer = scripts.run_of (scripts.begun z) (ends_with (refusal (scripts.begun z) space))

  -- its turn, and what is sent
  refused-answer : scripts.stopped (refused_turn (scripts.begun z) (pick (ltb space 9) 9 11)) (take (pick (eqb (pick (ltb space 9) 9 11) 9) 0 9) (reply_of (refusal (scripts.begun z) space))) ≡ answer
  unfolding reply_of reply
  refused-answer = go (ltb space 9) refl
    where
      go : (b : Bool) → ltb space 9 ≡ b
          → scripts.stopped (refused_turn (scripts.begun z) (pick (ltb space 9) 9 11)) (take (pick (eqb (pick (ltb space 9) 9 11) 9) 0 9) (reply_of (refusal (scripts.begun z) space))) ≡ answer
      go true h = rw h
      go false h = rw h

  answer-length : ltb space 9 ≡ false → length answer.sent ≡ 9
  unfolding reply_of reply
  answer-length h = rw h

  -- what comes of a piece s with the replay x, if what follows from s on comes to the answer
  abbrev Waits : (Position → Bool → List ℕ → scripts.Run) → List ℕ → Progress → Type 0
  Waits f s x =
      f (scripts.begun z) false s ≡ answer
      → pick (goes_on x.result.ended x.result.code) (scripts.sent_before (take (pick (goes_on x.result.ended x.result.code) (9 * x.result.records) x.result.written) x.replies) (f (scripts.behind (scripts.begun z) x.result) false (drop x.result.place s))) (scripts.stopped (scripts.turned (scripts.begun z) false x.result) (take (pick (goes_on x.result.ended x.result.code) (9 * x.result.records) x.result.written) x.replies))
      ≡ answer

  waits : (f : Position → Bool → List ℕ → scripts.Run) (s : List ℕ) → length s < 3 → Waits f s (replay z s space)
  unfolding reply_of reply
  waits f = short z space (Waits f) (λ h. rw h) (λ s h. go (ltb space 9) refl s h)
    where
      go : (b : Bool) → ltb space 9 ≡ b → (s : List ℕ) → Waits f s (cut z space)
      go true k s h = rw k
      go false k s h = rw (h, k)

  bad-run : (l : List (List ℕ)) (left : List ℕ) → opens (left ++ flatten l) ≡ false → run space l (scripts.begun z) false left ≡ answer
  unfolding flatten run lesson_piece sent_by after_turn scripts.replay_piece
  bad-run [] left h = let e : opens left ≡ false = rw (append-nil left) at h in rw e refused-answer
  bad-run (b ∷ l) left h = go (ltb (length (left ++ b)) 3) refl (bad-run l (left ++ b))
    where
      s : List ℕ
      s = left ++ b

      on : opens (s ++ flatten l) ≡ false
      on = rw (← (append_assoc left b (flatten l))) at h

      go : (c : Bool) → ltb (length s) 3 ≡ c → (opens (s ++ flatten l) ≡ false → run space l (scripts.begun z) false s ≡ answer) → run space (b ∷ l) (scripts.begun z) false left ≡ answer
      go true e f =
          let n : length s < 3 = ltb-true (length s) 3 e in
          rw ((opening_is s).short (omega arith), e) (waits (run space l) s n (f on))
      go false e f = rw (sym (opens-on s (flatten l) (ltb-false (length s) 3 e)) ∙ on, e) refused-answer

pub turns : (space : ℕ) (l : List (List ℕ)) (z : Controller) → Turns space l z
unfolding lesson_replay lesson_at
turns space l z = record {
  good = good-run space l z [];
  bad = bad-run space z l [];
  whole = λ n all h f w. whole n all h f (opens (flatten l)) refl w;
  script = opened-run space l (scripts.begun z) [];
}
  where
    whole : (n all : ℕ) → 9 * (n / 3) + 9 ≤ space → Fit n space l z [] → (o : Bool) → opens (flatten l) ≡ o → length (run space l (scripts.begun z) false []).sent ≤ all
        → run space l (scripts.begun z) false [] ≡ scripts.run_of (scripts.begun z) (lesson_replay z (flatten l) all)
    whole n all h f true e w =
        let same = good-run space l z [] e in
        rw e (same ∙ (running.turns space l z).whole n all h f (rw same at w))
    whole n all h f false e w =
        let bad = bad-run space z l [] e in
        let room : ltb space 9 ≡ false = le-ltb space 9 (omega arith) in
        let enough : ltb all 9 ≡ false = le-ltb all 9 (omega (arith, ap (λ (r : scripts.Run). length r.sent) bad, answer-length space z room)) in
        rw e (bad ∙ rw (room, enough))
