-- Lessons: a list opens with the record of a reset or is refused, and what a lesson gives in both cases.
use mathlib.Core.Bool.{Bool, true, false, not, ◌&&◌, ◌||◌, false≢true}
use mathlib.Core.Path.{◌≡◌, refl, sym, ap, ◌∙◌}
use mathlib.Core.List.{List, [], ◌∷◌, ◌++◌}
use Prim.Native.Nat.{ℕ, ◌≤◌}
use native.Mathlib.Omega.{arith}
use lib.Dec.{eqb}
use lib.ListN.{length, take, drop, take-append-drop}
use borrow.Author.Tests.{eqb-true, ne_eqb}
use Rattle.base.specs.Base.{pick}
use Rattle.model.specs.Registers.{reset}
use Rattle.model.specs.Step.{lines_of}
use Rattle.model.specs.Reachable.{InRange}
use Rattle.model.specs.Script.{stayed, record_at, reply, reply_of, overwritten, stops, Progress, replay}
use Rattle.model.specs.Scripts.{is_end, no_space, Overwrites, RecordCodes, FoldsSteps}
use Rattle.model.specs.Records.{Bytes, opening, bytes_of, field_bytes}
use Rattle.model.specs.Lesson.{same_bytes, opens, lesson_at, ends_with, lesson_stops, lesson_replay, Opening, LessonCodes, LessonReplays}
use Rattle.model.specs.declared.Controller.{Controller}
use Rattle.model.specs.declared.Replayed.{Replayed}
use Rattle.base.proofs.Choices.{and_l, and_r, pick_cases}
use Rattle.model.proofs.Readings.{same-state, overwrites, reply-fits, record-codes}
use Rattle.model.proofs.Recorded.{bytes_drop}
use Rattle.model.proofs.Replays.{replays}
use Rattle.model.proofs.FromAnywhere.{opened-steps, opens_with_reset}

-- ---- the opening

same_bytes_lem : (a b : List ℕ) → same_bytes a b ≡ true → a ≡ b
same_bytes_lem [] [] h = refl
same_bytes_lem [] (y ∷ b) h = absurd (false≢true h)
same_bytes_lem (x ∷ a) [] h = absurd (false≢true h)
same_bytes_lem (x ∷ a) (y ∷ b) h = rw (eqb-true x y (and_l (eqb x y) (same_bytes a b) h), same_bytes_lem a b (and_r (eqb x y) (same_bytes a b) h))

begins : (s : List ℕ) → opens s ≡ true → s ≡ opening ++ drop 3 s
unfolding opens
begins s h = sym (take-append-drop 3 s) ∙ ap (λ (l : List ℕ). l ++ drop 3 s) (same_bytes_lem (take 3 s) opening h)

pub opening_is : (s : List ℕ) → Opening s
unfolding opens field_bytes bytes_of
opening_is s = record {
  begins = begins s;
  every = λ rest. refl;
  short = λ l. short l (opens s) refl;
  is_reset = refl;
  steps = λ h. rw (begins s h) (opened-steps (drop 3 s));
}
  where
    short : length s ≤ 2 → (b : Bool) → opens s ≡ b → b ≡ false
    short l true h = absurd (omega (arith, ap length (begins s h)))
    short l false h = refl

-- ---- one record

-- the answer to another opening, with no space or with some
abbrev turned_away : Bool → Controller → ℕ → Replayed
turned_away a z p = stayed z p (pick a 9 11)

-- the tests say what the answer is: o the opening, a no space, e the end
code11 : (o a : Bool) (r : Replayed) → r.code ≤ 9 → (z : Controller) (p : ℕ) → eqb (pick o r (turned_away a z p)).code 11 ≡ (not o && not a)
code11 true a r l z p = ne_eqb r.code 11 (λ e. omega arith)
code11 false true r l z p = refl
code11 false false r l z p = refl

code9 : (o a e : Bool) (r : Replayed) → eqb r.code 9 ≡ (not e && a) → (z : Controller) (p : ℕ) → eqb (pick o r (turned_away a z p)).code 9 ≡ (a && (not o || not e))
code9 true true true r h z p = h
code9 true true false r h z p = h
code9 true false true r h z p = h
code9 true false false r h z p = h
code9 false true e r h z p = refl
code9 false false e r h z p = refl

ends : (o e : Bool) (r q : Replayed) → r.ended ≡ e → q.ended ≡ false → (pick o r q).ended ≡ (o && e)
ends true e r q h k = h
ends false e r q h k = k

pub refused-writes : (a : Bool) (z : Controller) (p : ℕ) → reply_of (turned_away a z p) ≡ pick a [] (reply 11 (lines_of z.core) 0)
unfolding reply_of
refused-writes true z p = refl
refused-writes false z p = refl

refused-fits : (z : Controller) (p space : ℕ) → length (reply_of (turned_away (no_space space) z p)) ≤ space
refused-fits z p space =
    reply-fits false (no_space space) (reply_of (turned_away (no_space space) z p)) 11 (lines_of z.core) 0 space refl (refused-writes (no_space space) z p)

pub lesson_codes : (z : Controller) (s : List ℕ) (p space : ℕ) → LessonCodes z s p space (lesson_at z s p space)
unfolding lesson_at
lesson_codes z s p space = record {
  code11 = code11 (opens s) (no_space space) (record_at z s p space) c.at_most z p;
  code9 = code9 (opens s) (no_space space) (is_end s p) (record_at z s p space) c.code9 z p;
  ends = ends (opens s) (is_end s p) (record_at z s p space) (turned_away (no_space space) z p) c.ends refl;
  stays = λ h. rw h (same-state z p (pick (no_space space) 9 11));
  writes = λ h. rw h (refused-writes (no_space space) z p);
  script = λ h. rw h;
  untouched = λ l h. pick_cases (λ (r : Replayed). Overwrites (reply_of r) l (overwritten (reply_of r) l)) (opens s) _ _ (λ _. c.untouched l h)
      (λ _. overwrites (reply_of (turned_away (no_space space) z p)) l (rw h (refused-fits z p space)));
}
  where
    c : RecordCodes z s p space (record_at z s p space)
    c = record-codes z s p space

-- ---- a whole lesson

script-stops : (e : Bool) (k : ℕ) → stops e k ≡ true → lesson_stops e k ≡ true
script-stops e k h = rw h

refused-stops : (a : Bool) → lesson_stops false (pick a 9 11) ≡ true
refused-stops true = refl
refused-stops false = refl

pub lesson_replays : (z : Controller) (s : List ℕ) (space : ℕ) → LessonReplays z s space
unfolding lesson_replay lesson_at
lesson_replays z s space = record {
  script = λ h. rw h;
  anew = λ h l. rw h (same h l);
  reachable = λ h l b. rw h (reach h l b);
  refused = λ h. rw h;
  nothing = λ h. rw h;
  replies = λ h. rw h;
  stopped = pick_cases (λ (x : Progress). lesson_stops x.result.ended x.result.code ≡ true) (opens s) (replay z s space) (ends_with (lesson_at z s 0 space)) (λ _. script-stops (replay z s space).result.ended (replay z s space).result.code (replays z s space).stop.stopped) (λ h. rw h (refused-stops (no_space space)));
  written = pick_cases (λ (x : Progress). x.result.written ≡ length x.replies) (opens s) (replay z s space) (ends_with (lesson_at z s 0 space)) (λ _. f.written) (λ _. refl);
  fits = pick_cases (λ (x : Progress). length x.replies ≤ space) (opens s) (replay z s space) (ends_with (lesson_at z s 0 space)) (λ _. omega (arith, f.written, f.fits)) (λ h. rw h (refused-fits z 0 space));
}
  where
    f : FoldsSteps z s space (replay z s space)
    f = (replays z s space).folds

    same : opens s ≡ true → 9 ≤ space → replay z s space ≡ replay reset s space
    same h l = rw (begins s h) ((opens_with_reset z (drop 3 s) space).same l)

    reach : opens s ≡ true → 9 ≤ space → Bytes s → InRange (replay z s space).result.controller
    reach h l b = rw (begins s h) ((opens_with_reset z (drop 3 s) space).reachable l (bytes_drop 3 s b))
