-- Lessons: scripts that must open with the record of a hardware reset. Document 02: Q-1.
use Rattle.std.specs.Prelude.{Bool, true, false, not, ◌&&◌, ◌||◌, ◌≡◌, List, [], ◌∷◌, ◌++◌, ℕ, ◌≤◌, eqb, ltb, length, take, drop}
use Rattle.base.specs.Base.{pick}
use Rattle.model.specs.Registers.{reset}
use Rattle.model.specs.Reachable.{InRange}
use Rattle.model.specs.Step.{lines_of}
use Rattle.model.specs.Script.{stayed, record_at, reply, reply_of, overwritten, stops, Progress, replay, steps_of}
use Rattle.model.specs.Scripts.{is_end, no_space, Unchanged, Overwrites, last_answer}
use Rattle.model.specs.Records.{Bytes, record_of, opening}
use Rattle.model.specs.declared.Controller.{Controller}
use Rattle.model.specs.declared.Replayed.{Replayed}
use Rattle.model.specs.declared.Step.TheVariants.{Reset}

-- ---- the opening

-- compared byte for byte
abbrev pub same_bytes : List ℕ → List ℕ → Bool
same_bytes [] [] = true
same_bytes [] (b ∷ t) = false
same_bytes (a ∷ s) [] = false
same_bytes (a ∷ s) (b ∷ t) = eqb a b && same_bytes s t

-- a lesson's first three bytes are the opening
unfoldable pub opens : List ℕ → Bool
opens s = same_bytes (take 3 s) opening

-- ---- one record, and a whole lesson

-- another opening is refused by 9 where there is no space for the reply, else by 11; the place and the controller stay
abbrev pub refused_opening : Controller → ℕ → ℕ → Replayed
refused_opening z p space = stayed z p (pick (ltb space 9) 9 11)

-- at every place, before anything else; behind a good opening it is a script
unfoldable pub lesson_at : Controller → List ℕ → ℕ → ℕ → Replayed
lesson_at z s p space = pick (opens s) (record_at z s p space) (refused_opening z p space)

-- a replay that ends with its first record
abbrev pub ends_with : Replayed → Progress
ends_with r = record {
  result = record {
    controller = r.controller;
    place = r.place;
    records = 0;
    written = length (reply_of r);
    ended = r.ended;
    code = r.code;
    lines = r.lines;
    word = r.word;
  };
  replies = reply_of r;
}

-- where record after record of a lesson ends: as in a script, and at a refused opening
abbrev pub lesson_stops : Bool → ℕ → Bool
lesson_stops ended code = stops ended code || eqb code 11

-- the replay of a lesson ends where its opening is refused
unfoldable pub lesson_replay : Controller → List ℕ → ℕ → Progress
lesson_replay z s space = pick (opens s) (replay z s space) (ends_with (lesson_at z s 0 space))

-- ---- what is promised

-- exactly the lists that begin with the opening, which is the record of a hardware reset
pub record Opening (s : List ℕ) : Type 0 where
  pub begins : opens s ≡ true → s ≡ opening ++ drop 3 s
  pub every : (rest : List ℕ) → opens (opening ++ rest) ≡ true
  pub short : length s ≤ 2 → opens s ≡ false
  pub is_reset : opening ≡ record_of Reset
  pub steps : opens s ≡ true → steps_of s ≡ Reset ∷ steps_of (drop 3 s)

-- 11 and 9 exactly when, before the end and every other code; the place and the controller stay; what is written. Behind a good
-- opening everything is as in a script
pub record LessonCodes (z : Controller) (s : List ℕ) (p space : ℕ) (r : Replayed) : Type 0 where
  pub code11 : eqb r.code 11 ≡ (not (opens s) && not (no_space space))
  pub code9 : eqb r.code 9 ≡ (no_space space && (not (opens s) || not (is_end s p)))
  pub ends : r.ended ≡ (opens s && is_end s p)
  pub stays : opens s ≡ false → Unchanged z p r
  pub writes : opens s ≡ false → reply_of r ≡ pick (no_space space) [] (reply 11 (lines_of z.core) 0)
  pub script : opens s ≡ true → r ≡ record_at z s p space
  pub untouched : (l : List ℕ) → length l ≡ space → Overwrites (reply_of r) l (overwritten (reply_of r) l)

-- a lesson whose opening is refused has one answer, that of its first record; any other is replayed as a script, and as that opens
-- with a reset, from any controller as from hardware reset
pub record LessonReplays (z : Controller) (s : List ℕ) (space : ℕ) : Type 0 where
  pub script : opens s ≡ true → lesson_replay z s space ≡ replay z s space
  pub anew : opens s ≡ true → 9 ≤ space → lesson_replay z s space ≡ replay reset s space
  pub reachable : opens s ≡ true → 9 ≤ space → Bytes s → InRange (lesson_replay z s space).result.controller
  pub refused : opens s ≡ false → last_answer (lesson_replay z s space).result ≡ lesson_at z s 0 space
  pub nothing : opens s ≡ false → (lesson_replay z s space).result.records ≡ 0
  pub replies : opens s ≡ false → (lesson_replay z s space).replies ≡ reply_of (lesson_at z s 0 space)
  pub stopped : lesson_stops (lesson_replay z s space).result.ended (lesson_replay z s space).result.code ≡ true
  pub written : (lesson_replay z s space).result.written ≡ length (lesson_replay z s space).replies
  pub fits : length (lesson_replay z s space).replies ≤ space
