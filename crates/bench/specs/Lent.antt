-- Document 01: "What is modelled" (one controller is lent and changed in place), "Bench script".
-- What is said where the controller is lent: the answers without the controller, the reply space from a place on, and how far a replay has come.
use Rattle.std.specs.Prelude.{Bool, true, false, not, ◌||◌, ◌≡◌, List, ◌++◌, ℕ, ◌+◌, ◌-◌, eqb, length, take, drop}
use Rattle.base.specs.Base.{pick, one}
use Rattle.model.specs.Replies.{answer_of}
use Rattle.model.specs.Script.{record_at, reply_of, overwritten, stops}
use Rattle.model.specs.Step.{step}
use Rattle.model.specs.declared.Answer.{Answer}
use Rattle.model.specs.declared.Controller.{Controller}
use Rattle.model.specs.declared.Core.{Core}
use Rattle.model.specs.declared.Replay.{Replay}
use Rattle.model.specs.declared.Replayed.{Replayed}
use Rattle.model.specs.declared.Step.{Step}
use Rattle.writes.specs.Places.{changed}
use Rattle.writes.specs.declared.BankWrite.{BankWrite}
use Rattle.script.specs.OneWay.{core_replayed}
use Rattle.script.specs.declared.CoreReplayed.{CoreReplayed}
use Rattle.script.specs.declared.Recorded.{Recorded}
use Rattle.bench.specs.declared.Progress.{Progress}

-- a step taken on a lent controller z: the answer, and the controller afterwards
abbrev pub Taken : Controller → Step → Answer → Controller → Type 0
Taken z e r z' = (r ≡ answer_of (step z e)) × (z' ≡ (step z e).controller)

-- the next controller, with this core and the words of the banks as they are written
abbrev pub next_controller : Controller → Core → BankWrite → Controller
next_controller z d x = record { core = d; banks = changed z.banks x }

abbrev pub recorded_of : Replayed → Recorded
recorded_of r = record { place = r.place; ended = r.ended; answer = record { code = r.code; lines = r.lines; word = r.word } }

-- the reply space with a reply written from place w on
abbrev pub placed : ℕ → List ℕ → List ℕ → List ℕ
placed w r space = take w space ++ overwritten r (drop w space)

-- what the record at place p gives, with the reply space from place w on
abbrev pub record_in : Controller → List ℕ → ℕ → List ℕ → ℕ → Replayed
record_in z s p space w = record_at z s p (length space - w)

-- the same but for the banks' words
abbrev pub core_record_in : Controller → List ℕ → ℕ → List ℕ → ℕ → CoreReplayed
core_record_in z s p space w = core_replayed z s p (length space - w)

-- a record x taken on a lent controller, its reply from place w on: the answer, and the controller and the reply space afterwards
abbrev pub RecordTaken : Replayed → ℕ → List ℕ → Recorded → Controller → List ℕ → Type 0
RecordTaken x w space r z' space' = (r ≡ recorded_of x) × ((z' ≡ x.controller) × (space' ≡ placed w (reply_of x) space))

-- how many bytes a record's reply has
abbrev pub reply_bytes : Bool → ℕ → ℕ
reply_bytes ended code = pick (ended || eqb code 9) 0 9

-- nothing is replayed yet
abbrev pub begun : Progress
begun = record { last = record { place = 0; ended = false; answer = record { code = 0; lines = 0; word = 0 } }; records = 0; written = 0 }

-- one record more
abbrev pub progressed : Progress → Recorded → Progress
progressed p r = record {
  last = r;
  records = p.records + one (not (stops r.ended r.answer.code));
  written = p.written + reply_bytes r.ended r.answer.code;
}

-- it stops with the last record
abbrev pub is_over : Progress → Bool
is_over p = stops p.last.ended p.last.answer.code

abbrev pub finished : Controller → Progress → Replay
finished c p = record {
  controller = c;
  place = p.last.place;
  records = p.records;
  written = p.written;
  ended = p.last.ended;
  code = p.last.answer.code;
  lines = p.last.answer.lines;
  word = p.last.answer.word;
}
