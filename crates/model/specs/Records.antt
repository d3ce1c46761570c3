-- Records and replies as bytes: the record that says a step, and what a record and a reply are read back as. The table of tags and
-- numbers is that of specs/Script.antt. Document 01: "Bench script".
use Rattle.std.specs.Prelude.{true, ◌≡◌, List, [], ◌∷◌, ◌++◌, ℕ, zero, suc, ◌+◌, ◌*◌, ◌/◌, ◌%◌, ◌^◌, ◌<◌, ◌≤◌, length, take, drop, Some, None, Ok, Err}
use Rattle.model.specs.Script.{byte_at, part, is_tag, body_widths, body_length, step_of, step_tag, step_values, decoded, reading, steps_of, reply}
use Rattle.model.specs.declared.Step as steps
use Rattle.model.specs.declared.Step.TheVariants.{Reset, Read, Write, Idle, BitTimes, Activity, Start, Outcome, Receive, ReceiveError}
use Rattle.model.specs.Script.{Reading}
use Rattle.model.specs.Refusals.{code}

-- ---- numbers, low byte first

-- the k bytes of a number
unfoldable pub bytes_of : ℕ → ℕ → List ℕ
bytes_of zero n = []
bytes_of (suc k) n = n % 256 ∷ bytes_of k (n / 256)

unfoldable pub number_of : List ℕ → ℕ
number_of [] = 0
number_of (b ∷ l) = b + number_of l * 256

-- a list of bytes
abbrev pub Bytes : List ℕ → Type 0
Bytes s = (i : ℕ) → byte_at s i < 256

-- ---- steps as numbers

-- a number of a record's body, and how many bytes it has there
pub record Field : Type 0 where
  pub width : ℕ
  pub value : ℕ

-- numbers with their widths
abbrev pub fields : List ℕ → List ℕ → List Field
fields [] l = []
fields (w ∷ k) [] = []
fields (w ∷ k) (n ∷ l) = record { width = w; value = n } ∷ fields k l

-- the numbers of a step's body, with their widths
abbrev pub step_fields : steps.Step → List Field
step_fields e = fields (body_widths (step_tag e)) (step_values e)

-- each number fits its width
abbrev pub FitWidths : List Field → Type 0
FitWidths [] = Unit {0}
FitWidths (f ∷ l) = (f.value < 256 ^ f.width) × FitWidths l

unfoldable pub field_bytes : List Field → List ℕ
field_bytes [] = []
field_bytes (f ∷ l) = bytes_of f.width f.value ++ field_bytes l

-- the body of a step's record
abbrev pub step_body : steps.Step → List ℕ
step_body e = field_bytes (step_fields e)

-- tag byte, two length bytes low first, body
abbrev pub record_of : steps.Step → List ℕ
record_of e = step_tag e ∷ (bytes_of 2 (length (step_body e)) ++ step_body e)

-- the record of a hardware reset, byte for byte
abbrev pub opening : List ℕ
opening = 0x01 ∷ 0x00 ∷ 0x00 ∷ []

-- a step as numbers
abbrev pub step_numbers : steps.Step → List ℕ
step_numbers e = step_tag e ∷ step_values e

-- a reading as numbers: 0 the end; 1 a record that can't be read, and its code; 2 a step, the place behind its record, and the step
abbrev pub reading_numbers : Reading → List ℕ
reading_numbers (Ok None) = 0 ∷ []
reading_numbers (Err r) = 1 ∷ code r ∷ []
reading_numbers (Ok (Some (e, q))) = 2 ∷ q ∷ step_numbers e

-- the numbers tell every two apart
pub record NumbersApart : Type 0 where
  pub steps : (e f : steps.Step) → step_numbers e ≡ step_numbers f → e ≡ f
  pub readings : (x y : Reading) → reading_numbers x ≡ reading_numbers y → x ≡ y

-- ---- records

-- the tags are those of the steps, and each has the length of its step's body; a tag and its numbers say their step
pub record Tags : Type 0 where
  pub known : (e : steps.Step) → is_tag (step_tag e) ≡ true
  pub lengths : (e : steps.Step) → length (step_body e) ≡ body_length (step_tag e)
  pub each : (t : ℕ) (b : List ℕ) → is_tag t ≡ true → step_tag (decoded t b) ≡ t
  pub says : (e : steps.Step) → step_of (step_tag e) (step_values e) ≡ e

-- a record is of bytes; wherever it stands in a script, it says its step, and the next place is behind it
pub record RecordSays (e : steps.Step) : Type 0 where
  pub bytes : Bytes (record_of e)
  pub read : FitWidths (step_fields e) → (front behind : List ℕ) → reading (front ++ (record_of e ++ behind)) (length front) ≡ Ok (Some (e, length front + length (record_of e)))

-- the bytes from p up to q are the record of e, whose numbers fit
pub record IsRecord (s : List ℕ) (p : ℕ) (e : steps.Step) (q : ℕ) : Type 0 where
  pub place : q ≡ p + length (record_of e)
  pub within : q ≤ length s
  pub bytes : part s p q ≡ record_of e
  pub fits : FitWidths (step_fields e)

-- what is found at a place of a script of bytes stands there as its record
pub record RecordStands (s : List ℕ) (p : ℕ) : Type 0 where
  pub found : Bytes s → (e : steps.Step) (q : ℕ) → reading s p ≡ Ok (Some (e, q)) → IsRecord s p e q

-- the script of a list of steps, one record behind the other, gives these steps
unfoldable pub script_of : List steps.Step → List ℕ
script_of [] = []
script_of (e ∷ l) = record_of e ++ script_of l

abbrev pub AllFit : List steps.Step → Type 0
AllFit [] = Unit {0}
AllFit (e ∷ l) = FitWidths (step_fields e) × AllFit l

pub record ScriptSays (l : List steps.Step) : Type 0 where
  pub read : AllFit l → steps_of (script_of l) ≡ l

-- a record of each tag, byte for byte
abbrev pub sample_steps : List steps.Step
sample_steps =
    Reset
    ∷ Read 0x021C
    ∷ Write 0x02A4 0x12345678
    ∷ Idle
    ∷ BitTimes 0x1234
    ∷ Activity
    ∷ Start
    ∷ Outcome 0x07
    ∷ Receive (record { identifier = 0x24A00004; length = 0x06; low = 0x44332211; high = 0x00006655 })
    ∷ ReceiveError 0x06 0x08
    ∷ []

abbrev pub sample_script : List ℕ
sample_script =
    0x01 ∷ 0x00 ∷ 0x00
    ∷ 0x02 ∷ 0x02 ∷ 0x00 ∷ 0x1C ∷ 0x02
    ∷ 0x03 ∷ 0x06 ∷ 0x00 ∷ 0xA4 ∷ 0x02 ∷ 0x78 ∷ 0x56 ∷ 0x34 ∷ 0x12
    ∷ 0x04 ∷ 0x00 ∷ 0x00
    ∷ 0x05 ∷ 0x02 ∷ 0x00 ∷ 0x34 ∷ 0x12
    ∷ 0x06 ∷ 0x00 ∷ 0x00
    ∷ 0x07 ∷ 0x00 ∷ 0x00
    ∷ 0x08 ∷ 0x01 ∷ 0x00 ∷ 0x07
    ∷ 0x09 ∷ 0x0D ∷ 0x00 ∷ 0x04 ∷ 0x00 ∷ 0xA0 ∷ 0x24 ∷ 0x06 ∷ 0x11 ∷ 0x22 ∷ 0x33 ∷ 0x44 ∷ 0x55 ∷ 0x66 ∷ 0x00 ∷ 0x00
    ∷ 0x0A ∷ 0x02 ∷ 0x00 ∷ 0x06 ∷ 0x08
    ∷ []

pub record Samples : Type 0 where
  pub bytes : script_of sample_steps ≡ sample_script
  pub steps : steps_of sample_script ≡ sample_steps

-- ---- replies

-- 81 06 00, code, lines, and the word in four bytes low first; nine bytes that begin so are the reply of what they say
pub record ReplySays (code lines w : ℕ) : Type 0 where
  pub nine : length (reply code lines w) ≡ 9
  pub begins : take 5 (reply code lines w) ≡ 0x81 ∷ 0x06 ∷ 0x00 ∷ code ∷ lines ∷ []
  pub word : w < 2 ^ 32 → number_of (drop 5 (reply code lines w)) ≡ w
  pub bytes : Bytes (drop 5 (reply code lines w))
  pub back : (r : List ℕ) → length r ≡ 9 → Bytes r → take 5 r ≡ 0x81 ∷ 0x06 ∷ 0x00 ∷ code ∷ lines ∷ [] → number_of (drop 5 r) ≡ w → r ≡ reply code lines w
