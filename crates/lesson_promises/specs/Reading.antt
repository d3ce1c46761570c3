-- What is promised of the reader of lesson text: a line of each kind and of each rule of docs/LESSONS.md, with what it means. The places of
-- broken rules count from 0.
use Rattle.std.specs.Prelude.{true, ◌≡◌, ℕ, Option, Some, None, Result, Ok, ◌^◌, ◌<◌}
use Rattle.model.specs.declared.Answer.{Answer}
use Rattle.model.specs.declared.WideStep.TheVariants.{Reset, Read, Write, Idle, BitTimes, Activity, Start, Outcome, Receive, ReceiveError}
use Rattle.names.specs.Table.{bytes}
use Rattle.lines.specs.Meanings.{meaning_numbers, bad}
use Rattle.lines.specs.Expectations.{response, expected}
use Rattle.lines.specs.Lines.{meaning_of}
use Rattle.expected.specs.Bytes.{bytes_of, expected_of}
use Rattle.expected.specs.Holds.{holds}
use Rattle.expected.specs.declared.Response.{Response}
use Rattle.expected.specs.declared.Expected.{Expected}
use Rattle.lines.specs.declared.Rule.TheVariants.{WantsStep, WantsEnd, WantsNumber, WantsRegister, WantsValue, WantsField, Twice, OtherValue, WantsResult, WantsIdentifier, WantsHash, NoFd, WantsData, WantsCode, WantsPairs, WantsExpectation, WantsLines, WantsRefusal, WantsLinesOrEnd}
use Rattle.lines.specs.declared.Fault.{Fault}
use Rattle.lines.specs.declared.Meaning.{Meaning}
use Rattle.lines.specs.declared.Meaning.TheVariants.{Step, Bytes, Repeat, Done}

abbrev pub says : Meaning → Result (Option Meaning) Fault
says m = Ok (Some m)

pub record Lines : Type 0 where
  -- nothing, and comments
  pub empty : meaning_of (bytes "") ≡ Ok None
  pub comment : meaning_of (bytes "  # reset") ≡ Ok None
  -- steps
  pub reset : meaning_of (bytes "reset") ≡ says (Step Reset)
  pub read : meaning_of (bytes "read MSR") ≡ says (Step (Read 4))
  pub read_offset : meaning_of (bytes " read\t0x2B0 # none") ≡ says (Step (Read 0x2B0))
  pub idle : meaning_of (bytes "idle") ≡ says (Step Idle)
  pub bits : meaning_of (bytes "bits 65535") ≡ says (Step (BitTimes 65535))
  pub activity : meaning_of (bytes "activity") ≡ says (Step Activity)
  pub start : meaning_of (bytes "start") ≡ says (Step Start)
  pub good : meaning_of (bytes "end good") ≡ says (Step (Outcome 0))
  pub lost : meaning_of (bytes "end lost") ≡ says (Step (Outcome 7))
  pub alone : meaning_of (bytes "end alone") ≡ says (Step (Outcome 8))
  pub result : meaning_of (bytes "end 255") ≡ says (Step (Outcome 255))
  pub error : meaning_of (bytes "error 1 8") ≡ says (Step (ReceiveError 1 8))
  -- values
  pub number : meaning_of (bytes "write MCR 0x00010000") ≡ says (Step (Write 0 0x10000))
  pub fields : meaning_of (bytes "write MCR INRQ DBF") ≡ says (Step (Write 0 0x10001))
  pub both : meaning_of (bytes "write MCR 0x00010001 INRQ DBF TTCM 0") ≡ says (Step (Write 0 0x10001))
  pub numbers : meaning_of (bytes "write BTR BRP 5 TS1 12 SILM") ≡ says (Step (Write 28 0x800C0005))
  pub request : meaning_of (bytes "write TI0R STID 0x123 TXRQ") ≡ says (Step (Write 0x180 0x24600001))
  pub extended : meaning_of (bytes "write TI2R EXID 0x1FFFFFFF IDE") ≡ says (Step (Write 0x1A0 0xFFFFFFFC))
  pub banks : meaning_of (bytes "write FA1R FACT0 FACT13") ≡ says (Step (Write 0x21C 0x2001))
  -- frames
  pub standard : meaning_of (bytes "frame 123#1122") ≡ says (Step (Receive (record { identifier = 0x24600000; low = 0x2211; high = 0; length = 2 })))
  pub extended_frame : meaning_of (bytes "frame 1fFFFFFF#1122334455667788") ≡ says (Step (Receive (record { identifier = 0xFFFFFFFC; low = 0x44332211; high = 0x88776655; length = 8 })))
  pub no_data : meaning_of (bytes "frame 7FF#") ≡ says (Step (Receive (record { identifier = 0xFFE00000; low = 0; high = 0; length = 0 })))
  pub remote : meaning_of (bytes "frame 123#R") ≡ says (Step (Receive (record { identifier = 0x24600002; low = 0; high = 0; length = 0 })))
  pub remote_length : meaning_of (bytes "frame 123#R5") ≡ says (Step (Receive (record { identifier = 0x24600002; low = 0; high = 0; length = 5 })))
  pub remote_code : meaning_of (bytes "frame 00000001#R8_B") ≡ says (Step (Receive (record { identifier = 14; low = 0; high = 0; length = 11 })))
  pub data_code : meaning_of (bytes "frame 123#1122334455667788_9") ≡ says (Step (Receive (record { identifier = 0x24600000; low = 0x44332211; high = 0x88776655; length = 9 })))
  -- what is no step
  pub word : meaning_of (bytes "expect 0x00000C01") ≡ says (expected (response 0 0xC01) None)
  pub refusal : meaning_of (bytes "expect refused 2") ≡ says (expected (response 2 0) None)
  pub lines : meaning_of (bytes "expect lines TX FIFO0") ≡ says (expected None (Some 3))
  pub word_and_lines : meaning_of (bytes "expect 7 lines FIFO1 SCE") ≡ says (expected (response 0 7) (Some 12))
  pub no_lines : meaning_of (bytes "expect refused 255 lines none") ≡ says (expected (response 255 0) (Some 0))
  pub repeat : meaning_of (bytes "repeat 128") ≡ says (Repeat 128)
  pub done : meaning_of (bytes "done") ≡ says Done
  pub hex_bytes : meaning_of (bytes "bytes 0b 00FF") ≡ says (Bytes 6)
  -- rules that are broken: the place, the rule and its number
  pub no_step : meaning_of (bytes "resets") ≡ bad 0 WantsStep
  pub capital : meaning_of (bytes "Reset") ≡ bad 0 WantsStep
  pub more : meaning_of (bytes "idle 5") ≡ bad 5 WantsEnd
  pub range : meaning_of (bytes "bits 65536") ≡ bad 5 (WantsNumber 65535)
  pub no_number : meaning_of (bytes "repeat 0x") ≡ bad 7 (WantsNumber 4294967295)
  pub byte_range : meaning_of (bytes "error 1 256") ≡ bad 8 (WantsNumber 255)
  pub field_range : meaning_of (bytes "write BTR BRP 1024") ≡ bad 14 (WantsNumber 1023)
  pub field_number : meaning_of (bytes "write BTR BRP TS1 12") ≡ bad 14 (WantsNumber 1023)
  pub word_range : meaning_of (bytes "write MCR 4294967296") ≡ bad 10 (WantsNumber 4294967295)
  pub register : meaning_of (bytes "read MCRX") ≡ bad 5 WantsRegister
  pub offset : meaning_of (bytes "write 65536 1") ≡ bad 6 WantsRegister
  pub value : meaning_of (bytes "write MCR") ≡ bad 9 (WantsValue 0)
  pub field : meaning_of (bytes "write MCR INRQ BRP 5") ≡ bad 15 (WantsField 0)
  pub no_field : meaning_of (bytes "write F0R1 FBM0") ≡ bad 11 (WantsField 576)
  pub twice : meaning_of (bytes "write MCR INRQ INRQ") ≡ bad 15 Twice
  pub overlap : meaning_of (bytes "write TI0R STID 1 EXID 1") ≡ bad 18 Twice
  pub lines_twice : meaning_of (bytes "expect lines TX TX") ≡ bad 16 Twice
  pub other_value : meaning_of (bytes "write BTR 0x5 BRP 6") ≡ bad 14 (OtherValue 5)
  pub no_result : meaning_of (bytes "end well") ≡ bad 4 WantsResult
  pub result_range : meaning_of (bytes "end 256") ≡ bad 4 WantsResult
  pub digits : meaning_of (bytes "frame 1234#") ≡ bad 6 WantsIdentifier
  pub identifier : meaning_of (bytes "frame 800#") ≡ bad 6 WantsIdentifier
  pub identifier_range : meaning_of (bytes "frame 20000000#") ≡ bad 6 WantsIdentifier
  pub hash : meaning_of (bytes "frame 123") ≡ bad 9 WantsHash
  pub fd : meaning_of (bytes "frame 123##1") ≡ bad 10 NoFd
  pub odd_digits : meaning_of (bytes "frame 123#112") ≡ bad 10 WantsData
  pub nine_bytes : meaning_of (bytes "frame 123#112233445566778899") ≡ bad 10 WantsData
  pub wrong_byte : meaning_of (bytes "frame 123#11G") ≡ bad 12 WantsData
  pub remote_range : meaning_of (bytes "frame 123#R9") ≡ bad 11 WantsData
  pub code_of_seven : meaning_of (bytes "frame 123#R7_9") ≡ bad 12 WantsData
  pub code : meaning_of (bytes "frame 123#R8_8") ≡ bad 13 WantsCode
  pub code_ends : meaning_of (bytes "frame 123#R8_99") ≡ bad 14 WantsCode
  pub pairs : meaning_of (bytes "bytes 0b 0") ≡ bad 9 WantsPairs
  pub no_pairs : meaning_of (bytes "bytes # 00") ≡ bad 6 WantsPairs
  pub expectation : meaning_of (bytes "expect TX") ≡ bad 7 WantsExpectation
  pub no_line : meaning_of (bytes "expect lines TX none") ≡ bad 16 WantsLines
  pub line_name : meaning_of (bytes "expect lines tx") ≡ bad 13 WantsLines
  pub refusal_range : meaning_of (bytes "expect refused 0") ≡ bad 15 WantsRefusal
  pub behind_word : meaning_of (bytes "expect 1 2") ≡ bad 9 WantsLinesOrEnd

-- two meanings with the same numbers are the same
pub record Apart : Type 0 where
  pub meanings : (x y : Result (Option Meaning) Fault) → meaning_numbers x ≡ meaning_numbers y → x ≡ y

-- an expectation holds exactly where what it gives is so: code and word, the interrupt lines
pub record Holds (x : Expected) (a : Answer) : Type 0 where
  pub code : (r : Response) → holds x a ≡ true → x.response ≡ Some r → r.code ≡ a.code
  pub word : (r : Response) → holds x a ≡ true → x.response ≡ Some r → r.word ≡ a.word
  pub lines : (up : ℕ) → holds x a ≡ true → x.lines ≡ Some up → up ≡ a.lines
  pub answer : (r : Response) → x.response ≡ Some r → x.lines ≡ None → r.code ≡ a.code → r.word ≡ a.word → holds x a ≡ true
  pub lines_alone : (up : ℕ) → x.response ≡ None → x.lines ≡ Some up → up ≡ a.lines → holds x a ≡ true
  pub both : (r : Response) (up : ℕ) → x.response ≡ Some r → x.lines ≡ Some up → r.code ≡ a.code → r.word ≡ a.word → up ≡ a.lines → holds x a ≡ true
  pub nothing : x.response ≡ None → x.lines ≡ None → holds x a ≡ true

-- what is expected is read back from its bytes; a word has 32 bits
abbrev pub WordFits : Option Response → Type 0
WordFits None = Unit {0}
WordFits (Some r) = r.word < 2 ^ 32

pub record BytesBack (x : Expected) : Type 0 where
  pub back : WordFits x.response → expected_of (bytes_of x) ≡ x
