-- Lines as they are printed: a sample for each kind of step and each rule. docs/LESSONS.md, "Steps" and "From bytes to text".
use Rattle.std.specs.Prelude.{true, false, ◌≡◌, [], ◌∷◌, ℕ}
use Prim.Native.String.{String}
use Rattle.model.specs.declared.Step.{Step}
use Rattle.model.specs.declared.Step.TheVariants.{Reset, Read, Write, Idle, BitTimes, Activity, Start, Outcome, Receive, ReceiveError}
use Rattle.names.specs.Table as tables
use Rattle.phrases.specs.Names.{name_text, register_text, fields_text}
use Rattle.phrases.specs.Frames.{bytes_text}
use Rattle.phrases.specs.Steps.{step_text}
use Rattle.phrases.specs.Lines.{lines_text}

-- a step is the line, with the number of a written word or not
abbrev pub Says : Step → String → Type 0
Says e s = step_text e false ≡ tables.bytes s

abbrev pub SaysFull : Step → String → Type 0
SaysFull e s = step_text e true ≡ tables.bytes s

abbrev pub frame : ℕ → ℕ → ℕ → ℕ → Step
frame identifier length low high = Receive (record { identifier = identifier; length = length; low = low; high = high })

pub record Steps : Type 0 where
  pub reset : Says Reset "reset"
  pub idle : Says Idle "idle"
  pub activity : Says Activity "activity"
  pub start : Says Start "start"
  pub none : Says (BitTimes 0) "bits 0"
  pub some : Says (BitTimes 1050) "bits 1050"
  pub most : Says (BitTimes 65535) "bits 65535"
  pub good : Says (Outcome 0) "end good"
  pub stuff : Says (Outcome 1) "end stuff"
  pub form : Says (Outcome 2) "end form"
  pub ack : Says (Outcome 3) "end ack"
  pub bit1 : Says (Outcome 4) "end bit1"
  pub bit0 : Says (Outcome 5) "end bit0"
  pub crc : Says (Outcome 6) "end crc"
  pub lost : Says (Outcome 7) "end lost"
  pub alone : Says (Outcome 8) "end alone"
  pub unknown : Says (Outcome 9) "end 9"
  pub large : Says (Outcome 200) "end 200"
  pub error : Says (ReceiveError 1 8) "error 1 8"
  pub odd : Says (ReceiveError 255 0) "error 255 0"

pub record Registers : Type 0 where
  pub first : Says (Read 0x000) "read MCR"
  pub mailbox : Says (Read 0x1A4) "read TDT2R"
  pub fifo : Says (Read 0x010) "read RF1R"
  pub bank : Says (Read 0x2AC) "read F13R2"
  pub behind : Says (Read 0x2B0) "read 0x02B0"
  pub between : Says (Read 0x182) "read 0x0182"
  pub last : Says (Read 0xFFFF) "read 0xFFFF"
  pub alone : register_text 0x190 ≡ tables.bytes "TI1R"
  pub no_row : name_text 164 0 ≡ []

pub record Writes : Type 0 where
  -- the fields where they say all, the number where they don't, or where nothing is set
  pub flags : Says (Write 0x000 0x00010001) "write MCR INRQ DBF"
  pub reserved : Says (Write 0x000 0x00010101) "write MCR 0x00010101"
  pub nothing : Says (Write 0x000 0) "write MCR 0x00000000"
  pub no_fields : Says (Write 0x240 0x24600000) "write F0R1 0x24600000"
  pub absent : Says (Write 0x300 0x0000ABCD) "write 0x0300 0x0000ABCD"
  -- both
  pub full_flags : SaysFull (Write 0x000 0x00010001) "write MCR 0x00010001 INRQ DBF"
  pub full_reserved : SaysFull (Write 0x000 0x00010101) "write MCR 0x00010101 INRQ DBF"
  pub full_nothing : SaysFull (Write 0x000 0) "write MCR 0x00000000"
  pub full_absent : SaysFull (Write 0x300 0x0000ABCD) "write 0x0300 0x0000ABCD"

-- numbers of fields, identifiers, bits of banks
pub record Fields : Type 0 where
  pub decimals : Says (Write 0x01C 0xC35C0005) "write BTR BRP 5 TS1 12 TS2 5 SJW 3 LBKM SILM"
  pub hexes : Says (Write 0x1AC 0x0A000010) "write TDH2R DATA4 0x10 DATA7 0x0A"
  pub times : Says (Write 0x184 0xFFFF0108) "write TDT0R DLC 8 TGT TIME 65535"
  pub standard : Says (Write 0x190 0x24600001) "write TI1R STID 0x123 TXRQ"
  pub remote : Says (Write 0x180 0x00200002) "write TI0R STID 0x001 RTR"
  pub extended : Says (Write 0x180 0x0000000F) "write TI0R EXID 0x00000001 IDE RTR TXRQ"
  pub widest : Says (Write 0x1B0 0xFFFFFFFC) "write RI0R EXID 0x1FFFFFFF IDE"
  pub mixed : Says (Write 0x190 0x24600009) "write TI1R 0x24600009"
  pub full_mixed : SaysFull (Write 0x190 0x24600009) "write TI1R 0x24600009 STID 0x123 TXRQ"
  pub modes : Says (Write 0x204 0x00002003) "write FM1R FBM0 FBM1 FBM13"
  pub past_banks : Says (Write 0x204 0x00006003) "write FM1R 0x00006003"
  pub alone : fields_text 0x180 0x24600001 ≡ tables.bytes " STID 0x123 TXRQ"

pub record Frames : Type 0 where
  pub standard : Says (frame 0x24600000 2 0x2211 0) "frame 123#1122"
  pub low : Says (frame 0x00200000 1 0x0A 0) "frame 001#0A"
  pub extended : Says (frame 0xFFFFFFFC 5 0x44332211 0x55) "frame 1FFFFFFF#1122334455"
  pub low_extended : Says (frame 0x0000000C 1 0x11 0) "frame 00000001#11"
  pub empty : Says (frame 0x24600000 0 0 0) "frame 123#"
  pub zeros : Says (frame 0x24600000 3 0 0) "frame 123#000000"
  pub eight : Says (frame 0x24600000 8 0x44332211 0x88776655) "frame 123#1122334455667788"
  pub nine : Says (frame 0x24600000 9 0x44332211 0x88776655) "frame 123#1122334455667788_9"
  pub fifteen : Says (frame 0x24600000 15 0x44332211 0x88776655) "frame 123#1122334455667788_F"
  pub remote : Says (frame 0x24600002 0 0 0) "frame 123#R"
  pub remote_five : Says (frame 0x24600002 5 0 0) "frame 123#R5"
  pub remote_eight : Says (frame 0x24600002 8 0 0) "frame 123#R8"
  pub remote_eleven : Says (frame 0x24600002 11 0 0) "frame 123#R8_B"
  pub remote_extended : Says (frame 0xFFFFFFFE 1 0 0) "frame 1FFFFFFF#R1"
  -- each reason for bytes: bit 0, extended bits of a standard identifier (lowest and highest), the length code, data past the length
  pub bit0 : Says (frame 0x24600001 1 0x11 0) "bytes 09 0D 00 01 00 60 24 01 11 00 00 00 00 00 00 00 # frame, identifier word 0x24600001, length code 1, data 11 00 00 00 00 00 00 00"
  pub lowest_bit : Says (frame 0x24600008 0 0 0) "bytes 09 0D 00 08 00 60 24 00 00 00 00 00 00 00 00 00 # frame, identifier word 0x24600008, length code 0, data 00 00 00 00 00 00 00 00"
  pub highest_bit : Says (frame 0x24700000 0 0 0) "bytes 09 0D 00 00 00 70 24 00 00 00 00 00 00 00 00 00 # frame, identifier word 0x24700000, length code 0, data 00 00 00 00 00 00 00 00"
  pub code : Says (frame 0x24600000 16 0x44332211 0x88776655) "bytes 09 0D 00 00 00 60 24 10 11 22 33 44 55 66 77 88 # frame, identifier word 0x24600000, length code 16, data 11 22 33 44 55 66 77 88"
  pub past : Says (frame 0x24600000 1 0x0111 0) "bytes 09 0D 00 00 00 60 24 01 11 01 00 00 00 00 00 00 # frame, identifier word 0x24600000, length code 1, data 11 01 00 00 00 00 00 00"
  pub past_four : Says (frame 0x24600004 5 0 0x0100) "bytes 09 0D 00 04 00 60 24 05 00 00 00 00 00 01 00 00 # frame, identifier word 0x24600004, length code 5, data 00 00 00 00 00 01 00 00"
  pub remote_data : Says (frame 0x24600002 8 0x11 0) "bytes 09 0D 00 02 00 60 24 08 11 00 00 00 00 00 00 00 # frame, identifier word 0x24600002, length code 8, data 11 00 00 00 00 00 00 00"

pub record Bytes : Type 0 where
  pub some : bytes_text (0x0B ∷ 0x00 ∷ 0x1C ∷ []) ≡ tables.bytes "bytes 0B 00 1C"
  pub none : bytes_text [] ≡ tables.bytes "bytes"

-- interrupt lines; a byte has no more than four
pub record Lines : Type 0 where
  pub none : lines_text 0 ≡ []
  pub first : lines_text 1 ≡ tables.bytes " TX"
  pub some : lines_text 10 ≡ tables.bytes " FIFO0 SCE"
  pub all : lines_text 15 ≡ tables.bytes " TX FIFO0 FIFO1 SCE"
  pub past : lines_text 0xF4 ≡ tables.bytes " FIFO1"

pub record Samples : Type 0 where
  pub steps : Steps
  pub registers : Registers
  pub writes : Writes
  pub fields : Fields
  pub frames : Frames
  pub bytes : Bytes
  pub lines : Lines
