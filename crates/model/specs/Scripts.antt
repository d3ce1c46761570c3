-- What is promised of scripts: the codes 6 to 9 of a record as a table, a replay as the fold of the step, where it stops,
-- a script in pieces, and the whole script of the example. Document 01: "Refusal numbers", "Bench script", "Numbers on the wall".
use Rattle.std.specs.Prelude.{Bool, true, false, not, ◌&&◌, ◌||◌, ◌≡◌, ℕ, zero, suc, ◌+◌, ◌-◌, ◌*◌, ◌/◌, ◌≤◌, eqb, ltb, leb, length, take, drop, Some, None, Ok, Err}
use mathlib.Core.List.{List, [], ◌∷◌, ◌++◌, flatten}
use Rattle.base.specs.Base.{pick}
use Rattle.model.specs.Step.{step, lines_of}
use Rattle.model.specs.Requests.{after}
use Rattle.model.specs.Script.{byte_at, number16, is_tag, body_length, decoded, part, reading, reply, record_at, reply_of, overwritten, stops, Progress, begun, advanced, times, replay, steps_of, replies_to, reading_code}
use Rattle.model.specs.Records.{step_numbers, reading_numbers}
use Rattle.model.specs.declared.Controller.{Controller}
use Rattle.model.specs.declared.Replayed.{Replayed}
use Rattle.model.specs.declared.Stepped.{Stepped}
use Rattle.model.specs.declared.Replay as replays
use Rattle.model.specs.declared.Step as steps
use Rattle.model.specs.Script.{Reading}

-- ---- one record: what can be wrong with it

-- an empty rest is the end, and so is a place past the script
abbrev pub is_end : List ℕ → ℕ → Bool
is_end s p = leb (length s) p

abbrev pub no_space : ℕ → Bool
no_space space = ltb space 9

abbrev pub header_short : List ℕ → ℕ → Bool
header_short s p = ltb (length s - p) 3

abbrev pub tag_unknown : List ℕ → ℕ → Bool
tag_unknown s p = not (is_tag (byte_at s p))

abbrev pub length_wrong : List ℕ → ℕ → Bool
length_wrong s p = not (eqb (number16 s (p + 1)) (body_length (byte_at s p)))

abbrev pub body_short : List ℕ → ℕ → Bool
body_short s p = ltb (length s - p) (3 + body_length (byte_at s p))

-- there is a record, and space for its reply
abbrev pub answerable : List ℕ → ℕ → ℕ → Bool
answerable s p space = not (is_end s p) && not (no_space space)

-- the place behind a record
abbrev pub behind : List ℕ → ℕ → ℕ
behind s p = p + 3 + body_length (byte_at s p)

-- the step of a record that is whole
abbrev pub step_at : List ℕ → ℕ → steps.Step
step_at s p = decoded (byte_at s p) (part s (p + 3) (behind s p))

-- a record that can be read
abbrev pub is_whole : List ℕ → ℕ → Bool
is_whole s p = not (header_short s p) && not (tag_unknown s p) && not (length_wrong s p) && not (body_short s p)

-- what stands at a place, as numbers; the first thing that is wrong with it gives its code
pub record ReadingCodes (s : List ℕ) (p : ℕ) : Type 0 where
  pub numbers : reading_numbers (reading s p) ≡ pick (is_end s p) (0 ∷ []) (pick (is_whole s p) (2 ∷ behind s p ∷ step_numbers (step_at s p)) (1 ∷ reading_code (reading s p) ∷ []))
  pub code : reading_code (reading s p) ≡ pick (is_end s p) 0 (pick (header_short s p) 6 (pick (tag_unknown s p) 7 (pick (length_wrong s p) 8 (pick (body_short s p) 6 0))))

-- ---- one record: what it gives

-- the controller as it was, this place, the lines of that state, the word 0
pub record Unchanged (z : Controller) (p : ℕ) (r : Replayed) : Type 0 where
  pub controller : r.controller ≡ z
  pub place : r.place ≡ p
  pub lines : r.lines ≡ lines_of z.core
  pub word : r.word ≡ 0

-- what a step gave, at this place
pub record Answers (a : Stepped) (p : ℕ) (r : Replayed) : Type 0 where
  pub controller : r.controller ≡ a.controller
  pub place : r.place ≡ p
  pub code : r.code ≡ a.code
  pub lines : r.lines ≡ a.lines
  pub word : r.word ≡ a.word

-- a reply r in a reply space l gives o: the bytes past it are untouched
pub record Overwrites (r l o : List ℕ) : Type 0 where
  pub front : take (length r) o ≡ r
  pub rest : drop (length r) o ≡ drop (length r) l
  pub same : length o ≡ length l

-- the end mark and the codes 6 to 9, each exactly when; at the end code 0, and the place is the script's length; for 6 to 9 the
-- place stays; for both nothing changes; else the answer is that of the record's step, the code at most 5. Nothing is written at
-- the end and for code 9
pub record RecordCodes (z : Controller) (s : List ℕ) (p space : ℕ) (r : Replayed) : Type 0 where
  pub ends : r.ended ≡ is_end s p
  pub code9 : eqb r.code 9 ≡ (not (is_end s p) && no_space space)
  pub code6 : eqb r.code 6 ≡ (answerable s p space && (header_short s p || (not (tag_unknown s p) && not (length_wrong s p) && body_short s p)))
  pub code7 : eqb r.code 7 ≡ (answerable s p space && not (header_short s p) && tag_unknown s p)
  pub code8 : eqb r.code 8 ≡ (answerable s p space && not (header_short s p) && not (tag_unknown s p) && length_wrong s p)
  pub unread : no_space space ≡ false → stops r.ended r.code ≡ true → r.code ≡ reading_code (reading s p)
  pub at_end : r.ended ≡ true → (r.code ≡ 0) × Unchanged z (length s) r
  pub stays : r.ended ≡ false → 6 ≤ r.code → Unchanged z p r
  pub answered : r.ended ≡ false → r.code ≤ 5 → Answers (step z (step_at s p)) (behind s p) r
  pub at_most : r.code ≤ 9
  pub writes : reply_of r ≡ pick (is_end s p || no_space space) [] (reply r.code r.lines r.word)
  pub untouched : (l : List ℕ) → length l ≡ space → Overwrites (reply_of r) l (overwritten (reply_of r) l)

-- ---- a whole script

-- the steps that are answered with this much reply space, nine bytes for each
abbrev pub answered_steps : List ℕ → ℕ → List steps.Step
answered_steps s space = take (space / 9) (steps_of s)

abbrev pub last_answer : replays.Replay → Replayed
last_answer x = record { controller = x.controller; place = x.place; ended = x.ended; code = x.code; lines = x.lines; word = x.word }

-- the place behind the first n records from place p on, or of the first that can't be read
unfoldable pub place_by : Reading → ℕ → (ℕ → ℕ) → ℕ
place_by (Ok None) p f = p
place_by (Err r) p f = p
place_by (Ok (Some (e, q))) p f = f q

unfoldable pub place_after : ℕ → List ℕ → ℕ → ℕ
place_after zero s p = p
place_after (suc n) s p = place_by (reading s p) p (place_after n s)

-- a replay is the fold of the step over the steps that are answered; the replies are theirs, and then what is written
-- for the record at which it stops: its reply for the codes 6 to 8, nothing at the end and for code 9
pub record FoldsSteps (z : Controller) (s : List ℕ) (space : ℕ) (x : Progress) : Type 0 where
  pub controller : x.result.controller ≡ after z (answered_steps s space)
  pub records : x.result.records ≡ length (answered_steps s space)
  pub replies : x.replies ≡ replies_to z (answered_steps s space) ++ reply_of (last_answer x.result)
  pub written : x.result.written ≡ length x.replies
  pub fits : x.result.written ≤ space

-- a replay stops, and more rounds change nothing; it stops at the record behind those that were answered, with what that
-- record gives in the space that they left; the end mark is set exactly when the whole script was read
pub record StopsBehind (z : Controller) (s : List ℕ) (space : ℕ) (x : Progress) : Type 0 where
  pub stopped : stops x.result.ended x.result.code ≡ true
  pub rounds : (k : ℕ) → times (suc (length s) + k) (advanced s space) (begun z) ≡ x
  pub place : x.result.place ≡ place_after x.result.records s 0
  pub within : x.result.place ≤ length s
  pub ends : x.result.ended ≡ eqb x.result.place (length s)
  pub codes : x.result.ended ≡ false → (6 ≤ x.result.code) × (x.result.code ≤ 9)
  pub last : last_answer x.result ≡ record_at (after z (answered_steps s space)) s (place_after (length (answered_steps s space)) s 0) (space - 9 * length (answered_steps s space))

pub record Replays (z : Controller) (s : List ℕ) (space : ℕ) : Type 0 where
  pub folds : FoldsSteps z s space (replay z s space)
  pub stop : StopsBehind z s space (replay z s space)

-- ---- a script in pieces

-- a replay that stopped at the end of a piece, or at a record that is cut short there, goes on with the next piece
abbrev pub goes_on : Bool → ℕ → Bool
goes_on ended code = ended || eqb code 6

-- the replay x of a piece, and then y of what x left: the reply to the record at which x stopped is held back
unfoldable pub followed : Progress → Progress → Progress
followed x y = record {
  result = record {
    controller = y.result.controller;
    place = x.result.place + y.result.place;
    records = x.result.records + y.result.records;
    written = 9 * x.result.records + y.result.written;
    ended = y.result.ended;
    code = y.result.code;
    lines = y.result.lines;
    word = y.result.word;
  };
  replies = take (9 * x.result.records) x.replies ++ y.replies;
}

-- what the replay x of a script leaves of it
abbrev pub left_by : Progress → List ℕ → List ℕ
left_by x s = drop x.result.place s

-- the replay x of a script a, wherever it stopped: the replay of what it left, with b behind that, gives the rest of what a
-- and b give as one script; where it goes on with the next piece it left less than the longest record has
pub record Resumes (z : Controller) (a : List ℕ) (x : Progress) : Type 0 where
  pub more : (b : List ℕ) (space : ℕ) → 9 * x.result.records ≤ space
      → replay z (a ++ b) space ≡ followed x (replay x.result.controller (left_by x a ++ b) (space - 9 * x.result.records))
  pub few : goes_on x.result.ended x.result.code ≡ true → length (left_by x a) ≤ 15

unfoldable pub after_piece : Progress → List ℕ → (Controller → List ℕ → Progress) → Progress
after_piece x s f = pick (goes_on x.result.ended x.result.code) (followed x (f x.result.controller (left_by x s))) x

-- a script that is read in pieces: each is replayed behind what is left of those before it, each time with the same reply
-- space; where the input ends, what is left is replayed with nothing behind it
unfoldable pub in_pieces : ℕ → List (List ℕ) → Controller → List ℕ → Progress
in_pieces space [] z left = replay z left space
in_pieces space (b ∷ l) z left = after_piece (replay z (left ++ b) space) (left ++ b) (in_pieces space l)

-- each piece that is replayed fits behind what is left of those before it, in a script space of n bytes
unfoldable pub Fit : ℕ → ℕ → List (List ℕ) → Controller → List ℕ → Type 0
Fit n space [] z left = length left ≤ n
Fit n space (b ∷ l) z left =
    let x : Progress = replay z (left ++ b) space in
    (length (left ++ b) ≤ n) × (goes_on x.result.ended x.result.code ≡ true → Fit n space l x.result.controller (left_by x (left ++ b)))

-- if no piece lacked reply space, the pieces give what the whole script gives in a space that holds all the replies; nine
-- bytes for every three of the script space, and nine more, are enough for each piece
pub record InPieces (space : ℕ) (l : List (List ℕ)) (z : Controller) : Type 0 where
  pub whole : (all : ℕ) → eqb (in_pieces space l z []).result.code 9 ≡ false → (in_pieces space l z []).result.written ≤ all → replay z (flatten l) all ≡ in_pieces space l z []
  pub enough : (n : ℕ) → 9 * (n / 3) + 9 ≤ space → Fit n space l z [] → eqb (in_pieces space l z []).result.code 9 ≡ false

-- ---- the whole script of document 01: reset, and reads of MCR, MSR and an offset that is not in the map

abbrev pub whole_script : List ℕ
whole_script = 0x01 ∷ 0x00 ∷ 0x00 ∷ 0x02 ∷ 0x02 ∷ 0x00 ∷ 0x00 ∷ 0x00 ∷ 0x02 ∷ 0x02 ∷ 0x00 ∷ 0x04 ∷ 0x00 ∷ 0x02 ∷ 0x02 ∷ 0x00 ∷ 0xB0 ∷ 0x02 ∷ []

abbrev pub whole_replies : List ℕ
whole_replies =
    0x81 ∷ 0x06 ∷ 0x00 ∷ 0x00 ∷ 0x00 ∷ 0x00 ∷ 0x00 ∷ 0x00 ∷ 0x00
    ∷ 0x81 ∷ 0x06 ∷ 0x00 ∷ 0x00 ∷ 0x00 ∷ 0x02 ∷ 0x00 ∷ 0x01 ∷ 0x00
    ∷ 0x81 ∷ 0x06 ∷ 0x00 ∷ 0x00 ∷ 0x00 ∷ 0x02 ∷ 0x0C ∷ 0x00 ∷ 0x00
    ∷ 0x81 ∷ 0x06 ∷ 0x00 ∷ 0x01 ∷ 0x00 ∷ 0x00 ∷ 0x00 ∷ 0x00 ∷ 0x00
    ∷ []

-- from any controller, since it begins with a reset; 36 bytes are just enough
pub record WholeScript (z : Controller) : Type 0 where
  pub replies : (replay z whole_script 36).replies ≡ whole_replies
  pub records : (replay z whole_script 36).result.records ≡ 4
  pub ended : (replay z whole_script 36).result.ended ≡ true
  pub place : (replay z whole_script 36).result.place ≡ 18
