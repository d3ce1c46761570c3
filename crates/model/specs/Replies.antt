-- Replies read back: one reply at a place, all replies of a list of bytes, and what is promised of that. Document 02: Q-1; the bytes
-- of a reply are those of document 01, "Bench script".
use Rattle.std.specs.Prelude.{Bool, true, false, not, ◌||◌, ◌≡◌, List, [], ◌∷◌, ◌++◌, ℕ, zero, suc, ◌+◌, ◌-◌, ◌^◌, ◌<◌, ◌≤◌, eqb, ltb, length, Result, Ok, Err}
use Rattle.base.specs.Base.{pick}
use Rattle.model.specs.Refusals.{code}
use Rattle.model.specs.Step.{step}
use Rattle.model.specs.Reachable.{InRange, StepsRange}
use Rattle.model.specs.Script.{byte_at, number16, number32, part, reply, replay, replies_to}
use Rattle.model.specs.Scripts.{header_short, answered_steps}
use Rattle.model.specs.Records.{Bytes}
use Rattle.model.specs.declared.Answer.{Answer}
use Rattle.model.specs.declared.Controller.{Controller}
use Rattle.model.specs.declared.Replay as replays
use Rattle.model.specs.declared.Step as steps
use Rattle.model.specs.declared.Stepped.{Stepped}
use Rattle.model.specs.declared.Refusal.{Refusal}
use Rattle.model.specs.declared.Refusal.TheVariants.{Short, UnknownTag, WrongLength}

-- ---- one reply

-- what a reply says, and the place behind it
abbrev pub ReplyReading : Type 0
ReplyReading = Result (Answer × ℕ) Refusal

-- the reply that begins at place p, tested as a record is: a short header 6, another tag 7, another length 8, a short body 6. An
-- empty one is short
unfoldable pub reply_reading : List ℕ → ℕ → ReplyReading
reply_reading s p =
    pick (ltb (length s - p) 3) (Err Short)
    (pick (not (eqb (byte_at s p) 0x81)) (Err UnknownTag)
    (pick (not (eqb (number16 s (p + 1)) 6)) (Err WrongLength)
    (pick (ltb (length s - p) 9) (Err Short)
    (Ok (record { code = byte_at s (p + 3); lines = byte_at s (p + 4); word = number32 s (p + 5) }, p + 9)))))

-- a reading of a reply as numbers: 1 one that can't be read, and its code; 2 one that can, the place behind it, and what it says
abbrev pub reply_numbers : ReplyReading → List ℕ
reply_numbers (Err r) = 1 ∷ code r ∷ []
reply_numbers (Ok (a, q)) = 2 ∷ q ∷ a.code ∷ a.lines ∷ a.word ∷ []

-- ---- all replies

unfoldable pub answers_by : ReplyReading → (ℕ → List Answer) → List Answer
answers_by (Err r) f = []
answers_by (Ok (a, q)) f = a ∷ f q

-- what at most n replies from place p on say
unfoldable pub answers_from : ℕ → List ℕ → ℕ → List Answer
answers_from zero s p = []
answers_from (suc n) s p = answers_by (reply_reading s p) (answers_from n s)

-- what all replies say, up to the first that can't be read
unfoldable pub answers_in : List ℕ → List Answer
answers_in s = answers_from (length s) s 0

-- ---- what is promised

abbrev pub is_reply_tag : List ℕ → ℕ → Bool
is_reply_tag s p = eqb (byte_at s p) 0x81

abbrev pub is_reply_length : List ℕ → ℕ → Bool
is_reply_length s p = eqb (number16 s (p + 1)) 6

abbrev pub reply_short : List ℕ → ℕ → Bool
reply_short s p = ltb (length s - p) 9

-- each code exactly when; no value of the code, the lines or the word is refused
pub record ReplyCodes (s : List ℕ) (p : ℕ) : Type 0 where
  pub said : reply_short s p ≡ false → is_reply_tag s p ≡ true → is_reply_length s p ≡ true → reply_numbers (reply_reading s p) ≡ 2 ∷ (p + 9) ∷ byte_at s (p + 3) ∷ byte_at s (p + 4) ∷ number32 s (p + 5) ∷ []
  pub header : header_short s p ≡ true → reply_numbers (reply_reading s p) ≡ 1 ∷ 6 ∷ []
  pub tag : header_short s p ≡ false → is_reply_tag s p ≡ false → reply_numbers (reply_reading s p) ≡ 1 ∷ 7 ∷ []
  pub size : header_short s p ≡ false → is_reply_tag s p ≡ true → is_reply_length s p ≡ false → reply_numbers (reply_reading s p) ≡ 1 ∷ 8 ∷ []
  pub body : header_short s p ≡ false → is_reply_tag s p ≡ true → is_reply_length s p ≡ true → reply_short s p ≡ true → reply_numbers (reply_reading s p) ≡ 1 ∷ 6 ∷ []
  pub empty : length s ≤ p → reply_numbers (reply_reading s p) ≡ 1 ∷ 6 ∷ []

-- the numbers tell every two readings apart
pub record RepliesApart : Type 0 where
  pub readings : (x y : ReplyReading) → reply_numbers x ≡ reply_numbers y → x ≡ y

abbrev pub reply_of_answer : Answer → List ℕ
reply_of_answer a = reply a.code a.lines a.word

-- a reply says its answer wherever it stands, and the next place is behind it
pub record ReplyReads (a : Answer) : Type 0 where
  pub read : a.word < 2 ^ 32 → (front behind : List ℕ) → reply_reading (front ++ (reply_of_answer a ++ behind)) (length front) ≡ Ok (a, length front + 9)

-- what is read in a list of bytes stands there as its reply
pub record ReplyStands (s : List ℕ) (p : ℕ) : Type 0 where
  pub place : (a : Answer) (q : ℕ) → reply_reading s p ≡ Ok (a, q) → (q ≡ p + 9) × (q ≤ length s)
  pub bytes : Bytes s → (a : Answer) (q : ℕ) → reply_reading s p ≡ Ok (a, q) → part s p q ≡ reply_of_answer a

abbrev pub answer_of : Stepped → Answer
answer_of a = record { code = a.code; lines = a.lines; word = a.word }

-- the answers of the fold of the step over a list
unfoldable pub answers_to : Controller → List steps.Step → List Answer
answers_to z [] = []
answers_to z (e ∷ l) = answer_of (step z e) ∷ answers_to (step z e).controller l

-- the reply to the record at which a replay stopped, if there is one: none at the end and for code 9
abbrev pub stop_answer : replays.Replay → List Answer
stop_answer x = pick (x.ended || eqb x.code 9) [] (record { code = x.code; lines = x.lines; word = x.word } ∷ [])

-- from a state in range: the replies to a list of steps read back as the answers of the fold, and so do those of a replay
pub record RepliesRead (z : Controller) : Type 0 where
  pub steps : InRange z → (l : List steps.Step) → StepsRange l → answers_in (replies_to z l) ≡ answers_to z l
  pub script : InRange z → (s : List ℕ) (space : ℕ) → Bytes s
      → answers_in (replay z s space).replies ≡ answers_to z (answered_steps s space) ++ stop_answer (replay z s space).result
