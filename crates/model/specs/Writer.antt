-- Scripts written: a step to its record in a lent space, and what is promised of that. Document 02: Q-1; the table of records and
-- the bytes of a record are those of document 01, "Bench script".
use Rattle.std.specs.Prelude.{Bool, true, false, ◌&&◌, ◌||◌, ◌≡◌, List, [], ◌∷◌, ◌++◌, ℕ, ◌+◌, ◌-◌, ◌^◌, ◌≤◌, eqb, ltb, length, take, drop, Some, None, Result, Ok, Err}
use Rattle.std.specs.Result.{result_unwrap_or}
use Rattle.base.specs.Base.{pick}
use Rattle.model.specs.Script.{step_tag, body_length, part, reading, steps_of, overwritten}
use Rattle.model.specs.Records.{Bytes, Field, step_fields, step_numbers, record_of, script_of, AllFit}
use Rattle.model.specs.Reachable.{StepRange}
use Rattle.model.specs.Refusals.{code_of}
use Rattle.model.specs.Scripts.{Overwrites, place_after}
use Rattle.model.specs.declared.Frame.{Frame}
use Rattle.model.specs.declared.WideFrame.{WideFrame}
use Rattle.model.specs.declared.Refusal.{Refusal}
use Rattle.model.specs.declared.Refusal.TheVariants.{NoSpace, OutOfRange}
use Rattle.model.specs.declared.WideStep as wide
use Rattle.model.specs.declared.WideStep.TheVariants as wides
use Rattle.model.specs.declared.Step as steps
use Rattle.model.specs.declared.Step.TheVariants.{Reset, Read, Write, Idle, BitTimes, Activity, Start, Outcome, Receive, ReceiveError}

-- ---- one record

-- the step that a caller's numbers say, whether a record can hold them or not
abbrev pub frame_said : WideFrame → Frame
frame_said x = record { identifier = x.identifier; low = x.low; high = x.high; length = x.length }

abbrev pub step_said : wide.WideStep → steps.Step
step_said wides.Reset = Reset
step_said (wides.Read o) = Read o
step_said (wides.Write o w) = Write o w
step_said wides.Idle = Idle
step_said (wides.BitTimes n) = BitTimes n
step_said wides.Activity = Activity
step_said wides.Start = Start
step_said (wides.Outcome r) = Outcome r
step_said (wides.Receive x) = Receive (frame_said x)
step_said (wides.ReceiveError k n) = ReceiveError k n

-- a caller's step as numbers: its tag, and its numbers in the order of the record
abbrev pub wide_numbers : wide.WideStep → List ℕ
wide_numbers wides.Reset = 0x01 ∷ []
wide_numbers (wides.Read o) = 0x02 ∷ o ∷ []
wide_numbers (wides.Write o w) = 0x03 ∷ o ∷ w ∷ []
wide_numbers wides.Idle = 0x04 ∷ []
wide_numbers (wides.BitTimes n) = 0x05 ∷ n ∷ []
wide_numbers wides.Activity = 0x06 ∷ []
wide_numbers wides.Start = 0x07 ∷ []
wide_numbers (wides.Outcome r) = 0x08 ∷ r ∷ []
wide_numbers (wides.Receive x) = 0x09 ∷ x.identifier ∷ x.length ∷ x.low ∷ x.high ∷ []
wide_numbers (wides.ReceiveError k n) = 0x0A ∷ k ∷ n ∷ []

-- whether each number fits its width
abbrev pub fit : List Field → Bool
fit [] = true
fit (f ∷ l) = ltb f.value (256 ^ f.width) && fit l

-- how many bytes are written; or why none are: too little space for the record, then a number that the tag can't hold
unfoldable pub written : steps.Step → ℕ → Result ℕ Refusal
written e space = pick (ltb space (length (record_of e))) (Err NoSpace) (pick (fit (step_fields e)) (Ok (length (record_of e))) (Err OutOfRange))

abbrev pub write_code : steps.Step → ℕ → ℕ
write_code e space = code_of (written e space)

-- what is written: nothing where it is refused
unfoldable pub record_written : steps.Step → ℕ → List ℕ
record_written e space = pick (eqb (write_code e space) 0) (record_of e) []

-- ---- what is promised of one record

-- the step has the caller's numbers, whatever they are
pub record StepSaid (e : wide.WideStep) : Type 0 where
  pub numbers : step_numbers (step_said e) ≡ wide_numbers e

-- a number that its tag can't hold, though it fits 32 bits
abbrev pub too_large : steps.Step → Bool
too_large Reset = false
too_large (Read o) = ltb 65535 o
too_large (Write o w) = ltb 65535 o
too_large Idle = false
too_large (BitTimes n) = ltb 65535 n
too_large Activity = false
too_large Start = false
too_large (Outcome r) = ltb 255 r
too_large (Receive x) = ltb 255 x.length
too_large (ReceiveError k n) = ltb 255 k || ltb 255 n

-- 9 and 5, each exactly when, in this order; else the whole record; bytes behind it stay
pub record WriteCodes (e : steps.Step) (space : ℕ) : Type 0 where
  pub code : StepRange e → code_of (written e space) ≡ pick (ltb space (3 + body_length (step_tag e))) 9 (pick (too_large e) 5 0)
  pub bytes : result_unwrap_or (written e space) 0 ≡ pick (eqb (code_of (written e space)) 0) (3 + body_length (step_tag e)) 0
  pub whole : code_of (written e space) ≡ 0 → record_written e space ≡ record_of e
  pub nothing : eqb (code_of (written e space)) 0 ≡ false → (l : List ℕ) → overwritten (record_written e space) l ≡ l
  pub untouched : (l : List ℕ) → length l ≡ space → Overwrites (record_written e space) l (overwritten (record_written e space) l)

-- what was written reads as the step, wherever it stands, and the next place is behind it
pub record WrittenReads (e : steps.Step) (space : ℕ) : Type 0 where
  pub read : code_of (written e space) ≡ 0 → (front behind : List ℕ) → reading (front ++ (record_written e space ++ behind)) (length front) ≡ Ok (Some (e, length front + result_unwrap_or (written e space) 0))

-- what was read at place p of a script of bytes is written as the bytes that stand there, wherever there is space for them
pub record ReadWrites (s : List ℕ) (p : ℕ) : Type 0 where
  pub code : Bytes s → (e : steps.Step) (q space : ℕ) → reading s p ≡ Ok (Some (e, q)) → q - p ≤ space → code_of (written e space) ≡ 0
  pub same : Bytes s → (e : steps.Step) (q space : ℕ) → reading s p ≡ Ok (Some (e, q)) → q - p ≤ space → record_written e space ≡ part s p q

-- ---- lists of steps

-- a list of steps written to a space, each to what the one before it left
unfoldable pub all_written : List steps.Step → List ℕ → List ℕ
all_written [] space = space
all_written (e ∷ l) space = record_written e (length space) ++ all_written l (drop (result_unwrap_or (written e (length space)) 0) space)

-- steps whose numbers fit, in a space that has room for all: what is written is their script, and it reads as these steps
pub record AllWritten (l : List steps.Step) (space : List ℕ) : Type 0 where
  pub script : AllFit l → length (script_of l) ≤ length space → all_written l space ≡ overwritten (script_of l) space
  pub read : AllFit l → length (script_of l) ≤ length space → steps_of (take (length (script_of l)) (all_written l space)) ≡ l

-- the steps of a script of bytes, written again, are the bytes up to the record that can't be read; all of them if every one can
pub record Rewritten (s : List ℕ) : Type 0 where
  pub front : Bytes s → script_of (steps_of s) ≡ take (place_after (length (steps_of s)) s 0) s
  pub whole : Bytes s → reading s (place_after (length (steps_of s)) s 0) ≡ (Ok None) → script_of (steps_of s) ≡ s
  pub again : Bytes s → reading s (place_after (length (steps_of s)) s 0) ≡ (Ok None) → (space : List ℕ) → length s ≤ length space → all_written (steps_of s) space ≡ overwritten s space
