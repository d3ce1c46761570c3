-- A script that is read in pieces, a turn for each piece. Document 01: "Bench script" (a replay gives what its records give one
-- after another); that it may come in pieces is of our own.
use Rattle.std.specs.Prelude.{◌≡◌, ℕ, ◌+◌, ◌*◌, ◌/◌, ◌%◌, ◌^◌, ◌≤◌, Bool, true, false, not, ◌&&◌, List, [], ◌∷◌, ◌++◌, length, take, drop}
use mathlib.Core.List.{flatten}
use Rattle.base.specs.Base.{pick}
use Rattle.model.specs.Script.{overwritten, Progress, replay}
use Rattle.model.specs.Scripts.{goes_on, in_pieces, Fit}
use Rattle.model.specs.declared.Controller.{Controller}
use Rattle.model.specs.declared.Replay.{Replay}
use Rattle.pieces.specs.declared.Position.{Position}
use Rattle.pieces.specs.declared.Turn.{Turn}

-- ---- one turn

-- before the first piece
abbrev pub begun : Controller → Position
begun z = record { controller = z; records = 0; bytes = 0 }

-- behind the replay x of a piece that begins at position k
abbrev pub behind : Position → Replay → Position
behind k x = record { controller = x.controller; records = (k.records + x.records) % 2 ^ 64; bytes = (k.bytes + x.place) % 2 ^ 64 }

-- a replay that stopped at the end of a piece, or at a record that is cut short there, goes on with the next piece if there is one
abbrev pub goes : Bool → Bool → ℕ → Bool
goes last ended code = not last && goes_on ended code

-- what the replay x of a piece from position k gives: where it goes on, only the replies to the records that it answered are sent,
-- and what lies from its place on is left
abbrev pub turned : Position → Bool → Replay → Turn
turned k last x = record {
  position = behind k x;
  place = x.place;
  sent = pick (goes last x.ended x.code) (9 * x.records) x.written;
  going = goes last x.ended x.code;
  ended = x.ended;
  code = x.code;
}

-- the replay of piece s from position k into a reply space of so many bytes
unfoldable pub replay_piece : Position → List ℕ → Bool → ℕ → Turn
replay_piece k s last space = turned k last (replay k.controller s space).result

-- the bytes that are sent
unfoldable pub sent_by : Position → List ℕ → Bool → ℕ → List ℕ
sent_by k s last space = take (replay_piece k s last space).sent (replay k.controller s space).replies

-- a turn over a lent reply space: what it gives, the first bytes of the space afterwards, which are sent, and all of the space
pub record Taken (k : Position) (s : List ℕ) (last : Bool) (before : List ℕ) (r : Turn) (after : List ℕ) : Type 0 where
  pub result : r ≡ replay_piece k s last (length before)
  pub sent : take r.sent after ≡ sent_by k s last (length before)
  pub space : after ≡ overwritten (replay k.controller s (length before)).replies before

-- ---- turn after turn

-- where the turns stopped, and all that was sent
pub record Run : Type 0 where
  pub position : Position
  pub ended : Bool
  pub code : ℕ
  pub sent : List ℕ

abbrev pub stopped : Turn → List ℕ → Run
stopped t sent = record { position = t.position; ended = t.ended; code = t.code; sent = sent }

abbrev pub sent_before : List ℕ → Run → Run
sent_before sent y = record { position = y.position; ended = y.ended; code = y.code; sent = sent ++ y.sent }

-- behind a turn t over piece s: it goes on from its position with what it left, or stops
unfoldable pub after_turn : Turn → List ℕ → List ℕ → (Position → List ℕ → Run) → Run
after_turn t s sent f = pick t.going (sent_before sent (f t.position (drop t.place s))) (stopped t sent)

-- the turns of an input that is read in these pieces, each behind what the turn before it left; where the input has ended, the
-- last turn has what is left alone
unfoldable pub run : ℕ → List (List ℕ) → Position → List ℕ → Run
run space [] k left = stopped (replay_piece k left true space) (sent_by k left true space)
run space (b ∷ l) k left = after_turn (replay_piece k (left ++ b) false space) (left ++ b) (sent_by k (left ++ b) false space) (run space l)

-- what a replay x that began at position k comes to
abbrev pub run_of : Position → Progress → Run
run_of k x = record { position = behind k x.result; ended = x.result.ended; code = x.result.code; sent = x.replies }

-- the turns give what `in_pieces` gives; and if each piece fits in a script space of n bytes, for which the reply space is enough,
-- they give what the whole script gives in a reply space that holds all that they sent
pub record Turns (space : ℕ) (l : List (List ℕ)) (z : Controller) : Type 0 where
  pub pieces : run space l (begun z) [] ≡ run_of (begun z) (in_pieces space l z [])
  pub whole : (n all : ℕ) → 9 * (n / 3) + 9 ≤ space → Fit n space l z [] → length (run space l (begun z) []).sent ≤ all
      → run space l (begun z) [] ≡ run_of (begun z) (replay z (flatten l) all)
