-- A lesson that is read in pieces, a turn for each piece. Document 02: Q-1 (the opening is looked at before anything else); that it may come
-- in pieces is of our own.
use Rattle.std.specs.Prelude.{Bool, true, false, not, ◌&&◌, ◌||◌, ◌≡◌, ℕ, ◌+◌, ◌*◌, ◌/◌, ◌≤◌, eqb, ltb, length, take, drop}
use mathlib.Core.List.{List, [], ◌∷◌, ◌++◌, flatten}
use Rattle.base.specs.Base.{pick}
use Rattle.model.specs.Lesson.{opens, refused_opening, ends_with, lesson_replay}
use Rattle.model.specs.Script.{reply_of, overwritten, replay}
use Rattle.model.specs.Scripts.{Fit}
use Rattle.model.specs.declared.Controller.{Controller}
use Rattle.model.specs.declared.Replayed.{Replayed}
use Rattle.pieces.specs.Turns as scripts
use Rattle.pieces.specs.declared.Position.{Position}
use Rattle.pieces.specs.declared.Turn as pieces
use Rattle.lesson.specs.declared.LessonTurn.{LessonTurn}

-- ---- one turn

-- a piece s is replayed if the opening was good, is good, or can't be told yet: under three bytes, with more to come
abbrev pub admits : Bool → List ℕ → Bool → Bool
admits opened s last = (opened || opens s) || (not last && ltb (length s) 3)

-- the refusal of an opening, with so much reply space
abbrev pub refusal : Position → ℕ → Replayed
refusal k space = refused_opening k.controller 0 space

-- it ends the replay: the position stays, and its reply is sent
abbrev pub refused_turn : Position → ℕ → pieces.Turn
refused_turn k code = record { position = k; place = 0; sent = pick (eqb code 9) 0 9; going = false; ended = false; code = code }

unfoldable pub lesson_piece : Position → Bool → List ℕ → Bool → ℕ → LessonTurn
lesson_piece k opened s last space = record {
  turn = pick (admits opened s last) (scripts.replay_piece k s last space) (refused_turn k (refusal k space).code);
  opened = opened || opens s;
}

-- the replies that a turn writes, and those of them that are sent
abbrev pub replies_by : Position → Bool → List ℕ → Bool → ℕ → List ℕ
replies_by k opened s last space = pick (admits opened s last) (replay k.controller s space).replies (reply_of (refusal k space))

unfoldable pub sent_by : Position → Bool → List ℕ → Bool → ℕ → List ℕ
sent_by k opened s last space = take (lesson_piece k opened s last space).turn.sent (replies_by k opened s last space)

-- a turn over a lent reply space: what it gives, the first bytes of the space afterwards, which are sent, and all of the space
pub record Taken (k : Position) (opened : Bool) (s : List ℕ) (last : Bool) (before : List ℕ) (r : LessonTurn) (after : List ℕ) : Type 0 where
  pub result : r ≡ lesson_piece k opened s last (length before)
  pub sent : take r.turn.sent after ≡ sent_by k opened s last (length before)
  pub space : after ≡ overwritten (replies_by k opened s last (length before)) before

-- an opening that is refused: the place and the position stay, the replay ends, and its reply is sent
pub record RefusedPiece (k : Position) (o : Bool) (s : List ℕ) (last : Bool) (space : ℕ) : Type 0 where
  pub position : admits o s last ≡ false → (lesson_piece k o s last space).turn.position ≡ k
  pub place : admits o s last ≡ false → (lesson_piece k o s last space).turn.place ≡ 0
  pub code : admits o s last ≡ false → (lesson_piece k o s last space).turn.code ≡ pick (ltb space 9) 9 11
  pub going : admits o s last ≡ false → (lesson_piece k o s last space).turn.going ≡ false
  pub ended : admits o s last ≡ false → (lesson_piece k o s last space).turn.ended ≡ false
  pub opened : admits o s last ≡ false → (lesson_piece k o s last space).opened ≡ false
  pub sent : admits o s last ≡ false → sent_by k o s last space ≡ reply_of (refusal k space)

-- ---- turn after turn

-- behind a turn t over piece s: it goes on from its position with what it left, or stops
unfoldable pub after_turn : LessonTurn → List ℕ → List ℕ → (Position → Bool → List ℕ → scripts.Run) → scripts.Run
after_turn t s sent f =
    pick t.turn.going (scripts.sent_before sent (f t.turn.position t.opened (drop t.turn.place s))) (scripts.stopped t.turn sent)

-- the turns of an input that is read in these pieces, each behind what the turn before it left
unfoldable pub run : ℕ → List (List ℕ) → Position → Bool → List ℕ → scripts.Run
run space [] k opened left = scripts.stopped (lesson_piece k opened left true space).turn (sent_by k opened left true space)
run space (b ∷ l) k opened left =
    after_turn (lesson_piece k opened (left ++ b) false space) (left ++ b) (sent_by k opened (left ++ b) false space) (run space l)

-- a lesson in pieces: with a good opening the turns of a script, else one answer; and if each piece fits in a space of n bytes, for
-- which the reply space is enough, what the whole lesson gives in a reply space that holds all that they sent. Where the opening is
-- not asked for, they are the turns of a script
pub record Turns (space : ℕ) (l : List (List ℕ)) (z : Controller) : Type 0 where
  pub good : opens (flatten l) ≡ true → run space l (scripts.begun z) false [] ≡ scripts.run space l (scripts.begun z) []
  pub bad : opens (flatten l) ≡ false → run space l (scripts.begun z) false [] ≡ scripts.run_of (scripts.begun z) (ends_with (refusal (scripts.begun z) space))
  pub whole : (n all : ℕ) → 9 * (n / 3) + 9 ≤ space → Fit n space l z [] → length (run space l (scripts.begun z) false []).sent ≤ all
      → run space l (scripts.begun z) false [] ≡ scripts.run_of (scripts.begun z) (lesson_replay z (flatten l) all)
  pub script : run space l (scripts.begun z) true [] ≡ scripts.run space l (scripts.begun z) []
