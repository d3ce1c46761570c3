-- Scripts: one record read from a place, its reply, and the replay of a whole script, on lists of bytes.
-- Document 01: "Bench script"; codes 6 to 9 of "Refusal numbers".
use Rattle.std.specs.Prelude.{Bool, true, false, not, ◌&&◌, ◌||◌, List, [], ◌∷◌, ◌++◌, ℕ, zero, suc, ◌+◌, ◌-◌, ◌*◌, ◌/◌, ◌%◌, ◌^◌, eqb, ltb, leb, length, get_or, take, drop, Option, Some, None, Result, Ok, Err}
use Rattle.base.specs.Base.{pick, one}
use Rattle.model.specs.Refusals as refusals
use Rattle.model.specs.Step.{step, lines_of}
use Rattle.model.specs.declared.Controller.{Controller}
use Rattle.model.specs.declared.Stepped.{Stepped}
use Rattle.model.specs.declared.Replayed.{Replayed}
use Rattle.model.specs.declared.Replay as replays
use Rattle.model.specs.declared.Step as steps
use Rattle.model.specs.declared.Step.TheVariants.{Reset, Read, Write, Idle, BitTimes, Activity, Start, Outcome, Receive, ReceiveError}
use Rattle.model.specs.declared.Refusal.{Refusal}
use Rattle.model.specs.declared.Refusal.TheVariants.{Short, UnknownTag, WrongLength}

-- ---- numbers, low byte first

abbrev pub byte_at : List ℕ → ℕ → ℕ
byte_at b i = get_or b i 0

abbrev pub number16 : List ℕ → ℕ → ℕ
number16 b i = byte_at b i + byte_at b (i + 1) * 256

abbrev pub number32 : List ℕ → ℕ → ℕ
number32 b i = number16 b i + number16 b (i + 2) * 65536

-- ---- the table of records, for the reader and the writer: tags and widths, and a step and its numbers in both directions

abbrev pub is_tag : ℕ → Bool
is_tag t = leb 1 t && leb t 10

-- how many bytes each number of a tag's body has. 2: offset; 3: offset, word; 5: bit times; 8: result; 9: identifier word, length code,
-- data as two words; 10: error code, step
abbrev pub body_widths : ℕ → List ℕ
body_widths t =
    pick (eqb t 2) (2 ∷ [])
    (pick (eqb t 3) (2 ∷ 4 ∷ [])
    (pick (eqb t 5) (2 ∷ [])
    (pick (eqb t 8) (1 ∷ [])
    (pick (eqb t 9) (4 ∷ 1 ∷ 4 ∷ 4 ∷ [])
    (pick (eqb t 10) (1 ∷ 1 ∷ []) [])))))

abbrev pub value_at : List ℕ → ℕ → ℕ
value_at l i = get_or l i 0

-- the step of a tag and the numbers of its body
abbrev pub step_of : ℕ → List ℕ → steps.Step
step_of t l =
    pick (eqb t 1) Reset
    (pick (eqb t 2) (Read (value_at l 0))
    (pick (eqb t 3) (Write (value_at l 0) (value_at l 1))
    (pick (eqb t 4) Idle
    (pick (eqb t 5) (BitTimes (value_at l 0))
    (pick (eqb t 6) Activity
    (pick (eqb t 7) Start
    (pick (eqb t 8) (Outcome (value_at l 0))
    (pick (eqb t 9) (Receive (record { identifier = value_at l 0; length = value_at l 1; low = value_at l 2; high = value_at l 3 }))
    (ReceiveError (value_at l 0) (value_at l 1))))))))))

-- the tag of a step
abbrev pub step_tag : steps.Step → ℕ
step_tag Reset = 0x01
step_tag (Read o) = 0x02
step_tag (Write o w) = 0x03
step_tag Idle = 0x04
step_tag (BitTimes n) = 0x05
step_tag Activity = 0x06
step_tag Start = 0x07
step_tag (Outcome r) = 0x08
step_tag (Receive x) = 0x09
step_tag (ReceiveError k n) = 0x0A

-- the numbers of its body
abbrev pub step_values : steps.Step → List ℕ
step_values Reset = []
step_values (Read o) = o ∷ []
step_values (Write o w) = o ∷ w ∷ []
step_values Idle = []
step_values (BitTimes n) = n ∷ []
step_values Activity = []
step_values Start = []
step_values (Outcome r) = r ∷ []
step_values (Receive x) = x.identifier ∷ x.length ∷ x.low ∷ x.high ∷ []
step_values (ReceiveError k n) = k ∷ n ∷ []

-- ---- records: tag, two length bytes, body

abbrev pub total : List ℕ → ℕ
total [] = 0
total (w ∷ l) = w + total l

-- the length of the body that a tag has
unfoldable pub body_length : ℕ → ℕ
body_length t = total (body_widths t)

-- the number of so many bytes at place i: one, two or four
abbrev pub number_at : ℕ → List ℕ → ℕ → ℕ
number_at w b i = pick (eqb w 1) (byte_at b i) (pick (eqb w 2) (number16 b i) (number32 b i))

-- numbers of these widths, one behind the other from place i on
abbrev pub numbers_at : List ℕ → List ℕ → ℕ → List ℕ
numbers_at [] b i = []
numbers_at (w ∷ l) b i = number_at w b i ∷ numbers_at l b (i + w)

-- the step of a tag and its body
unfoldable pub decoded : ℕ → List ℕ → steps.Step
decoded t b = step_of t (numbers_at (body_widths t) b 0)

-- the part of the script from a up to e, where a record's body lies
abbrev pub part : List ℕ → ℕ → ℕ → List ℕ
part s a e = take (e - a) (drop a s)

-- nothing at the end, or a step and the place behind its record
abbrev pub Reading : Type 0
Reading = Result (Option (steps.Step × ℕ)) Refusal

-- the record that begins at place p: an empty rest is the end; a short header 6, an unknown tag 7, a wrong length 8, a short body 6
unfoldable pub reading : List ℕ → ℕ → Reading
reading s p =
    pick (leb (length s) p) (Ok None)
    (pick (ltb (length s - p) 3) (Err Short)
    (pick (not (is_tag (byte_at s p))) (Err UnknownTag)
    (pick (not (eqb (number16 s (p + 1)) (body_length (byte_at s p)))) (Err WrongLength)
    (pick (ltb (length s - p) (3 + body_length (byte_at s p))) (Err Short)
    (Ok (Some (decoded (byte_at s p) (part s (p + 3) (p + 3 + body_length (byte_at s p))), p + 3 + body_length (byte_at s p))))))))

-- the code that a reading gives by itself: 0 at the end and for a record that can be read
abbrev pub reading_code : Reading → ℕ
reading_code (Ok None) = 0
reading_code (Err r) = refusals.code r
reading_code (Ok (Some (e, q))) = 0

-- ---- one record

-- 81 06 00, code, lines, word
unfoldable pub reply : ℕ → ℕ → ℕ → List ℕ
reply code lines word =
    0x81 ∷ 0x06 ∷ 0x00 ∷ code ∷ lines ∷ word % 256 ∷ word / 2 ^ 8 % 256 ∷ word / 2 ^ 16 % 256 ∷ word / 2 ^ 24 % 256 ∷ []

-- codes 6 to 9, and 11 of document 02: the place stays, the word is 0, the lines are those of the unchanged state
abbrev pub stayed : Controller → ℕ → ℕ → Replayed
stayed z p k = record { controller = z; place = p; ended = false; code = k; lines = lines_of z.core; word = 0 }

-- the end: code 0, word 0, lines of the state, the place is the script's length n
abbrev pub at_end : Controller → ℕ → Replayed
at_end z n = record { controller = z; place = n; ended = true; code = 0; lines = lines_of z.core; word = 0 }

abbrev pub passed : Stepped → ℕ → Replayed
passed a q = record { controller = a.controller; place = q; ended = false; code = a.code; lines = a.lines; word = a.word }

-- what a record gives, with this much reply space: the end comes before code 9, code 9 before all others
unfoldable pub replayed : Reading → Controller → ℕ → ℕ → ℕ → Replayed
replayed (Ok None) z n p space = at_end z n
replayed (Err r) z n p space = stayed z p (pick (ltb space 9) 9 (refusals.code r))
replayed (Ok (Some (e, q))) z n p space = pick (ltb space 9) (stayed z p 9) (passed (step z e) q)

unfoldable pub record_at : Controller → List ℕ → ℕ → ℕ → Replayed
record_at z s p space = replayed (reading s p) z (length s) p space

-- what is written: nothing at the end and for code 9, else the reply
unfoldable pub reply_of : Replayed → List ℕ
reply_of r = pick (r.ended || eqb r.code 9) [] (reply r.code r.lines r.word)

-- the reply space afterwards: bytes past the reply are untouched
abbrev pub overwritten : List ℕ → List ℕ → List ℕ
overwritten r space = r ++ drop (length r) space

-- ---- a whole script

-- a replay ends at the end and where a record can't be read or answered
abbrev pub stops : Bool → ℕ → Bool
stops ended code = ended || (leb 6 code && leb code 9)

-- how far a replay has come, and all the replies so far
pub record Progress : Type 0 where
  pub result : replays.Replay
  pub replies : List ℕ

abbrev pub begun : Controller → Progress
begun z = record {
  result = record { controller = z; place = 0; records = 0; written = 0; ended = false; code = 0; lines = lines_of z.core; word = 0 };
  replies = [];
}

-- one record more; `records` counts those that gave a step
unfoldable pub after_record : Progress → Replayed → Progress
after_record x r = record {
  result = record {
    controller = r.controller;
    place = r.place;
    records = x.result.records + one (not (stops r.ended r.code));
    written = x.result.written + length (reply_of r);
    ended = r.ended;
    code = r.code;
    lines = r.lines;
    word = r.word;
  };
  replies = x.replies ++ reply_of r;
}

unfoldable pub advanced : List ℕ → ℕ → Progress → Progress
advanced s space x =
    pick (stops x.result.ended x.result.code) x
    (after_record x (record_at x.result.controller s x.result.place (space - x.result.written)))

unfoldable pub times : {A : Type 0} → ℕ → (A → A) → A → A
times zero f x = x
times (suc n) f x = f (times n f x)

-- the replay of a script into a reply space of so many bytes: each record takes at least three bytes, so that these rounds are enough
unfoldable pub replay : Controller → List ℕ → ℕ → Progress
replay z s space = times (suc (length s)) (advanced s space) (begun z)

-- ---- the steps of a script

unfoldable pub steps_by : Reading → (ℕ → List steps.Step) → List steps.Step
steps_by (Ok None) l = []
steps_by (Err r) l = []
steps_by (Ok (Some (e, q))) l = e ∷ l q

-- the steps of at most n records from place p on
unfoldable pub steps_from : ℕ → List ℕ → ℕ → List steps.Step
steps_from zero s p = []
steps_from (suc n) s p = steps_by (reading s p) (steps_from n s)

-- all steps that a script gives
unfoldable pub steps_of : List ℕ → List steps.Step
steps_of s = steps_from (length s) s 0

-- the replies to a list of steps
unfoldable pub replies_to : Controller → List steps.Step → List ℕ
replies_to z [] = []
replies_to z (e ∷ l) = reply (step z e).code (step z e).lines (step z e).word ++ replies_to (step z e).controller l
