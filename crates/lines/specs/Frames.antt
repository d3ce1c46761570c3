-- A frame as can-utils writes it: docs/LESSONS.md, "Steps", FRAME. The identifier word is that of a receive mailbox: 01, "Frames".
use Rattle.std.specs.Prelude.{true, ◌&&◌, ◌||◌, not, List, ℕ, zero, suc, ◌-◌, ◌+◌, ◌*◌, ◌/◌, ◌%◌, ◌^◌, eqb, ltb, leb, Option, Some, None, unwrap_or, Result}
use Rattle.base.specs.Base.{pick}
use Rattle.model.specs.declared.WideFrame.{WideFrame}
use Rattle.model.specs.declared.WideStep.TheVariants.{Receive}
use Rattle.names.specs.Scan.{byte_at, run_end, word_at, value}
use Rattle.names.specs.declared.scan.Word.{Word}
use Rattle.names.specs.declared.scan.Class.TheVariants.{HexDigit}
use Rattle.lines.specs.Meanings.{bad, alone}
use Rattle.lines.specs.declared.Rule.TheVariants.{WantsIdentifier, WantsHash, NoFd, WantsData, WantsCode}
use Rattle.lines.specs.declared.Fault.{Fault}
use Rattle.lines.specs.declared.Meaning.{Meaning}
use Rattle.lines.specs.declared.Meaning.TheVariants.{Step}

abbrev pub framed : ℕ → ℕ → ℕ → ℕ → WideFrame
framed identifier low high length = record { identifier = identifier; low = low; high = high; length = length }

abbrev pub received : List ℕ → ℕ → WideFrame → Result Meaning Fault
received s j f = alone s j (Step (Receive f))

-- the value of the hex digit at a place
abbrev pub digit_at : List ℕ → ℕ → Option ℕ
digit_at s p = value s p (p + 1) true

-- ---- the data

-- n pairs of digits up to place q as one number, the first pair lowest; the remainders and the 0 never act: there are eight pairs at
-- the most, and the digits are hex digits
unfoldable pub pairs : List ℕ → ℕ → ℕ → ℕ
pairs s q zero = 0
pairs s q (suc n) = pairs s q n % 2 ^ 56 * 256 + unwrap_or (value s (q - 2 * suc n) (q - 2 * suc n + 2) true) 0 % 256

-- ---- the end of the word, at place j

-- behind '_' a digit from 9 to F, and the word ends
abbrev pub coded : List ℕ → ℕ → ℕ → WideFrame → Option ℕ → Result Meaning Fault
coded s j p f None = bad p WantsCode
coded s j p f (Some n) =
    pick (leb 9 n && leb n 15)
    (pick (ltb (p + 1) j) (bad (p + 1) WantsCode) (received s j (framed f.identifier f.low f.high n)))
    (bad p WantsCode)

-- behind eight bytes, or R8, a code may follow
unfoldable pub finished : List ℕ → ℕ → ℕ → WideFrame → Result Meaning Fault
finished s j p f =
    pick (leb j p) (received s j f)
    (pick (not (eqb f.length 8) || not (eqb (byte_at s p) 95)) (bad p WantsData) (coded s j (p + 1) f (digit_at s (p + 1))))

-- ---- behind the identifier

-- a digit from 0 to 8
abbrev pub remote_of : List ℕ → ℕ → ℕ → ℕ → Option ℕ → Result Meaning Fault
remote_of s j p identifier None = bad p WantsData
remote_of s j p identifier (Some n) =
    pick (leb n 8) (finished s j (p + 1) (framed identifier 0 0 n)) (bad p WantsData)

-- behind 'R' nothing, or a length
unfoldable pub remote : List ℕ → ℕ → ℕ → ℕ → Result Meaning Fault
remote s j p identifier =
    pick (leb j p) (received s j (framed identifier 0 0 0)) (remote_of s j p identifier (digit_at s p))

abbrev pub data_of : List ℕ → ℕ → ℕ → ℕ → ℕ → Result Meaning Fault
data_of s j q identifier n =
    finished s j q (framed identifier (pairs s q n % 2 ^ 32) (pairs s q n / 2 ^ 32) n)

-- pairs of hex digits up to place q, eight at most
abbrev pub data_up_to : List ℕ → ℕ → ℕ → ℕ → ℕ → Result Meaning Fault
data_up_to s j p identifier q =
    pick (not (eqb ((q - p) % 2) 0) || ltb 16 (q - p)) (bad p WantsData) (data_of s j q identifier ((q - p) / 2))

unfoldable pub with_data : List ℕ → ℕ → ℕ → ℕ → Result Meaning Fault
with_data s j p identifier = data_up_to s j p identifier (run_end s p HexDigit)

-- a second hash is a frame of CAN FD
abbrev pub behind_hash : List ℕ → ℕ → ℕ → ℕ → Result Meaning Fault
behind_hash s j p identifier =
    pick (eqb (byte_at s p) 35) (bad p NoFd)
    (pick (eqb (byte_at s p) 82) (remote s j (p + 1) (identifier + 2)) (with_data s j p identifier))

unfoldable pub behind_identifier : List ℕ → ℕ → ℕ → ℕ → Result Meaning Fault
behind_identifier s j p identifier =
    pick (eqb (byte_at s p) 35) (behind_hash s j (p + 1) identifier) (bad p WantsHash)

-- three digits are a standard identifier, eight an extended one, with the bit IDE
abbrev pub frame_of : List ℕ → Word → ℕ → ℕ → Option ℕ → Result Meaning Fault
frame_of s w q count None = bad w.from WantsIdentifier
frame_of s w q count (Some n) =
    pick (eqb count 3 && leb n 0x7FF) (behind_identifier s w.to q (n * 2097152))
    (pick (eqb count 8 && leb n 0x1FFFFFFF) (behind_identifier s w.to q (n * 8 + 4)) (bad w.from WantsIdentifier))

abbrev pub frame_at : List ℕ → Word → ℕ → Result Meaning Fault
frame_at s w q = frame_of s w q (q - w.from) (value s w.from q true)

unfoldable pub frame_line : List ℕ → ℕ → Result Meaning Fault
frame_line s p = frame_at s (word_at s p) (run_end s (word_at s p).from HexDigit)
