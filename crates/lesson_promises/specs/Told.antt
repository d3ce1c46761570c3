-- What is promised of the names: they are the manual's. Its registers stand at the offsets of the model's map; the fields of a
-- register are the bits that the manual does not reserve; each field stands at its bit with its width; digits are read as numbers.
use Rattle.std.specs.Prelude.{Bool, true, false, not, ◌&&◌, ◌≡◌, List, [], ◌∷◌, ◌++◌, ℕ, zero, suc, ◌+◌, ◌-◌, ◌*◌, ◌/◌, ◌%◌, ◌^◌, ◌<◌, eqb, ltb, length, Option, Some, None, is_some, is_none}
use Prim.Native.String.{String}
use Rattle.base.specs.Base.{pick}
use Rattle.model.specs.Registers as model
use Rattle.model.specs.Registers.{is_absent}
use Rattle.model.specs.declared.Mailbox.{Mailbox}
use Rattle.model.specs.declared.Mailbox.TheVariants.{M0, M1, M2}
use Rattle.model.specs.declared.Fifo.{Fifo}
use Rattle.model.specs.declared.Fifo.TheVariants.{F0, F1}
use Rattle.model.specs.declared.Register.{Register}
use Rattle.model.specs.declared.Register.TheVariants.{Mcr, Msr, Tsr, Rfr, Ier, Esr, Btr, Ti, Tdt, Tdl, Tdh, Ri, Rdt, Rdl, Rdh, Fmr, Fm1r, Fs1r, Ffa1r, Fa1r, R1, R2, Absent}
use Rattle.names.specs.Scan.{word_at, value}
use Rattle.names.specs.Rows.{numbers}
use Rattle.names.specs.Table.{bytes, named, register_at, rows_of, place}
use Rattle.names.specs.declared.rows.Found.{Found}
use Rattle.names.specs.declared.Span.{Span}
use Rattle.names.specs.declared.Group.{Group}
use Rattle.names.specs.declared.Group.TheVariants.{Registers, Fields, Steps, Results, Lines, Expectations}

-- a text that is one word, looked up in a group
unfoldable pub looked_up : List ℕ → Group → Option Found
looked_up s g = named s (word_at s 0) g

unfoldable pub all_of : {A : Type 0} → (A → Bool) → List A → Bool
all_of p [] = true
all_of p (x ∷ l) = p x && all_of p l

-- ---- registers

-- a number below 20 in decimal
abbrev pub digits : ℕ → List ℕ
digits n = pick (ltb n 10) ((48 + n) ∷ []) (49 ∷ (38 + n) ∷ [])

abbrev pub mailbox_digit : Mailbox → List ℕ
mailbox_digit M0 = bytes "0"
mailbox_digit M1 = bytes "1"
mailbox_digit M2 = bytes "2"

abbrev pub fifo_digit : Fifo → List ℕ
fifo_digit F0 = bytes "0"
fifo_digit F1 = bytes "1"

-- the manual's name, without CAN_
unfoldable pub register_name : Register → List ℕ
register_name Mcr = bytes "MCR"
register_name Msr = bytes "MSR"
register_name Tsr = bytes "TSR"
register_name (Rfr f) = bytes "RF" ++ fifo_digit f ++ bytes "R"
register_name Ier = bytes "IER"
register_name Esr = bytes "ESR"
register_name Btr = bytes "BTR"
register_name (Ti m) = bytes "TI" ++ mailbox_digit m ++ bytes "R"
register_name (Tdt m) = bytes "TDT" ++ mailbox_digit m ++ bytes "R"
register_name (Tdl m) = bytes "TDL" ++ mailbox_digit m ++ bytes "R"
register_name (Tdh m) = bytes "TDH" ++ mailbox_digit m ++ bytes "R"
register_name (Ri f) = bytes "RI" ++ fifo_digit f ++ bytes "R"
register_name (Rdt f) = bytes "RDT" ++ fifo_digit f ++ bytes "R"
register_name (Rdl f) = bytes "RDL" ++ fifo_digit f ++ bytes "R"
register_name (Rdh f) = bytes "RDH" ++ fifo_digit f ++ bytes "R"
register_name Fmr = bytes "FMR"
register_name Fm1r = bytes "FM1R"
register_name Fs1r = bytes "FS1R"
register_name Ffa1r = bytes "FFA1R"
register_name Fa1r = bytes "FA1R"
register_name (R1 b) = bytes "F" ++ digits b.0 ++ bytes "R1"
register_name (R2 b) = bytes "F" ++ digits b.0 ++ bytes "R2"
register_name Absent = []

-- at every offset: a row is found exactly where the model has a register, and the register's name finds the same row, with this
-- offset
pub record RegisterNames (o : ℕ) : Type 0 where
  pub absent : is_absent (model.register_at o) ≡ true → register_at o ≡ None
  pub present : is_absent (model.register_at o) ≡ false → is_some (register_at o) ≡ true
  pub same : is_absent (model.register_at o) ≡ false → looked_up (register_name (model.register_at o)) Registers ≡ register_at o
  pub offset : (f : Found) → is_absent (model.register_at o) ≡ false → looked_up (register_name (model.register_at o)) Registers ≡ Some f → place f ≡ o

-- ---- the bits of a register

-- a register by its name
abbrev pub register_called : String → Option Found
register_called r = looked_up (bytes r) Registers

-- no word: two fields have a bit in common
abbrev pub overlap : ℕ
overlap = 2 ^ 32

-- w bits from bit p on, beside those of u
unfoldable pub besides : ℕ → ℕ → ℕ → ℕ
besides u p w = pick (ltb u overlap && eqb (u / 2 ^ p % 2 ^ w) 0) (u + (2 ^ w - 1) * 2 ^ p) overlap

-- n rows from one on: the bits of these fields, but for the ones that are shown only where the digit is h
unfoldable pub bits_on : ℕ → ℕ → ℕ → ℕ → ℕ
bits_on h row zero u = u
bits_on h row (suc n) u =
    bits_on h (row + 1) n (pick (not (eqb (numbers row).shown h)) (besides u (numbers row).place ((numbers row).size * (numbers row).count)) u)

abbrev pub span_bits : Span → ℕ → ℕ
span_bits x h = bits_on h x.first x.count 0

unfoldable pub field_bits : String → ℕ → ℕ
field_bits r h = span_bits (rows_of (Fields (register_called r))) h

-- a register and its bits that are not reserved
pub record Bits : Type 0 where
  pub register : String
  pub bits : ℕ

abbrev pub bits_of : String → ℕ → Bits
bits_of r m = record { register = r; bits = m }

-- identifier registers: while IDE is 1, so that EXID has the bits of STID
abbrev pub manual_bits : List Bits
manual_bits =
    bits_of "MCR" 0x000180FF ∷ bits_of "MSR" 0x00000F1F ∷ bits_of "TSR" 0xFF8F8F8F ∷ bits_of "RF0R" 0x0000003B ∷ bits_of "RF1R" 0x0000003B ∷
    bits_of "IER" 0x00038F7F ∷ bits_of "ESR" 0xFFFF0077 ∷ bits_of "BTR" 0xC37F03FF ∷
    bits_of "TI0R" 0xFFFFFFFF ∷ bits_of "TDT0R" 0xFFFF010F ∷ bits_of "TDL0R" 0xFFFFFFFF ∷ bits_of "TDH0R" 0xFFFFFFFF ∷
    bits_of "RI0R" 0xFFFFFFFE ∷ bits_of "RDT0R" 0xFFFFFF0F ∷ bits_of "RDL0R" 0xFFFFFFFF ∷ bits_of "RDH0R" 0xFFFFFFFF ∷
    bits_of "FMR" 0x00000001 ∷ bits_of "FM1R" 0x00003FFF ∷ bits_of "FS1R" 0x00003FFF ∷ bits_of "FFA1R" 0x00003FFF ∷ bits_of "FA1R" 0x00003FFF ∷
    bits_of "F0R1" 0 ∷ bits_of "F0R2" 0 ∷ []

-- while IDE is 0
abbrev pub standard_bits : List Bits
standard_bits = bits_of "TI0R" 0xFFE00007 ∷ bits_of "RI0R" 0xFFE00006 ∷ []

-- the fields of a register have exactly its bits that are not reserved, each bit once
pub record FieldBits : Type 0 where
  pub extended : all_of (λ (x : Bits). eqb (field_bits x.register 1) x.bits) manual_bits ≡ true
  pub standard : all_of (λ (x : Bits). eqb (field_bits x.register 2) x.bits) standard_bits ≡ true

-- ---- fields by name

pub record Field : Type 0 where
  pub name : String
  pub bit : ℕ
  pub width : ℕ

abbrev pub field : String → ℕ → ℕ → Field
field n b w = record { name = n; bit = b; width = w }

pub record Layout : Type 0 where
  pub register : String
  pub fields : List Field

abbrev pub layout : String → List Field → Layout
layout r l = record { register = r; fields = l }

-- the manual's registers, from the highest bit down
abbrev pub manual : List Layout
manual =
    layout "MCR" (
    field "DBF" 16 1 ∷ field "RESET" 15 1 ∷ field "TTCM" 7 1 ∷ field "ABOM" 6 1 ∷ field "AWUM" 5 1 ∷ field "NART" 4 1 ∷ field "RFLM" 3 1 ∷
    field "TXFP" 2 1 ∷ field "SLEEP" 1 1 ∷ field "INRQ" 0 1 ∷ []) ∷
    layout "MSR" (
    field "RX" 11 1 ∷ field "SAMP" 10 1 ∷ field "RXM" 9 1 ∷ field "TXM" 8 1 ∷ field "SLAKI" 4 1 ∷ field "WKUI" 3 1 ∷ field "ERRI" 2 1 ∷
    field "SLAK" 1 1 ∷ field "INAK" 0 1 ∷ []) ∷
    layout "TSR" (
    field "LOW2" 31 1 ∷ field "LOW1" 30 1 ∷ field "LOW0" 29 1 ∷ field "TME2" 28 1 ∷ field "TME1" 27 1 ∷ field "TME0" 26 1 ∷ field "CODE" 24 2 ∷
    field "ABRQ2" 23 1 ∷ field "TERR2" 19 1 ∷ field "ALST2" 18 1 ∷ field "TXOK2" 17 1 ∷ field "RQCP2" 16 1 ∷
    field "ABRQ1" 15 1 ∷ field "TERR1" 11 1 ∷ field "ALST1" 10 1 ∷ field "TXOK1" 9 1 ∷ field "RQCP1" 8 1 ∷
    field "ABRQ0" 7 1 ∷ field "TERR0" 3 1 ∷ field "ALST0" 2 1 ∷ field "TXOK0" 1 1 ∷ field "RQCP0" 0 1 ∷ []) ∷
    layout "RF0R" (field "RFOM0" 5 1 ∷ field "FOVR0" 4 1 ∷ field "FULL0" 3 1 ∷ field "FMP0" 0 2 ∷ []) ∷
    layout "RF1R" (field "RFOM1" 5 1 ∷ field "FOVR1" 4 1 ∷ field "FULL1" 3 1 ∷ field "FMP1" 0 2 ∷ []) ∷
    layout "IER" (
    field "SLKIE" 17 1 ∷ field "WKUIE" 16 1 ∷ field "ERRIE" 15 1 ∷ field "LECIE" 11 1 ∷ field "BOFIE" 10 1 ∷ field "EPVIE" 9 1 ∷ field "EWGIE" 8 1 ∷
    field "FOVIE1" 6 1 ∷ field "FFIE1" 5 1 ∷ field "FMPIE1" 4 1 ∷ field "FOVIE0" 3 1 ∷ field "FFIE0" 2 1 ∷ field "FMPIE0" 1 1 ∷ field "TMEIE" 0 1 ∷ []) ∷
    layout "ESR" (field "REC" 24 8 ∷ field "TEC" 16 8 ∷ field "LEC" 4 3 ∷ field "BOFF" 2 1 ∷ field "EPVF" 1 1 ∷ field "EWGF" 0 1 ∷ []) ∷
    layout "BTR" (field "SILM" 31 1 ∷ field "LBKM" 30 1 ∷ field "SJW" 24 2 ∷ field "TS2" 20 3 ∷ field "TS1" 16 4 ∷ field "BRP" 0 10 ∷ []) ∷
    layout "TI0R" (field "STID" 21 11 ∷ field "EXID" 3 29 ∷ field "IDE" 2 1 ∷ field "RTR" 1 1 ∷ field "TXRQ" 0 1 ∷ []) ∷
    layout "TDT1R" (field "TIME" 16 16 ∷ field "TGT" 8 1 ∷ field "DLC" 0 4 ∷ []) ∷
    layout "TDL2R" (field "DATA3" 24 8 ∷ field "DATA2" 16 8 ∷ field "DATA1" 8 8 ∷ field "DATA0" 0 8 ∷ []) ∷
    layout "TDH0R" (field "DATA7" 24 8 ∷ field "DATA6" 16 8 ∷ field "DATA5" 8 8 ∷ field "DATA4" 0 8 ∷ []) ∷
    layout "RI0R" (field "STID" 21 11 ∷ field "EXID" 3 29 ∷ field "IDE" 2 1 ∷ field "RTR" 1 1 ∷ []) ∷
    layout "RDT1R" (field "TIME" 16 16 ∷ field "FMI" 8 8 ∷ field "DLC" 0 4 ∷ []) ∷
    layout "RDL0R" (field "DATA3" 24 8 ∷ field "DATA2" 16 8 ∷ field "DATA1" 8 8 ∷ field "DATA0" 0 8 ∷ []) ∷
    layout "RDH1R" (field "DATA7" 24 8 ∷ field "DATA6" 16 8 ∷ field "DATA5" 8 8 ∷ field "DATA4" 0 8 ∷ []) ∷
    layout "FMR" (field "FINIT" 0 1 ∷ []) ∷
    layout "FM1R" (field "FBM13" 13 1 ∷ field "FBM0" 0 1 ∷ []) ∷
    layout "FS1R" (field "FSC13" 13 1 ∷ field "FSC0" 0 1 ∷ []) ∷
    layout "FFA1R" (field "FFA13" 13 1 ∷ field "FFA0" 0 1 ∷ []) ∷
    layout "FA1R" (field "FACT13" 13 1 ∷ field "FACT7" 7 1 ∷ field "FACT0" 0 1 ∷ []) ∷ []

abbrev pub is_placed : Option Found → ℕ → ℕ → Bool
is_placed None b w = false
is_placed (Some f) b w = eqb (place f) b && eqb (numbers f.row).size w

abbrev pub is_field : Option Found → Field → Bool
is_field r x = is_placed (looked_up (bytes x.name) (Fields r)) x.bit x.width

unfoldable pub is_layout : Layout → Bool
is_layout x = all_of (is_field (register_called x.register)) x.fields

-- every field stands at its bit and has its width
pub record FieldNames : Type 0 where
  pub placed : all_of is_layout manual ≡ true

-- ---- words

-- the words of a group stand for the numbers from n on, in this order
unfoldable pub counted : Group → ℕ → List String → Bool
counted g n [] = true
counted g n (x ∷ l) = is_placed (looked_up (bytes x) g) n 1 && counted g (n + 1) l

abbrev pub step_words : List String
step_words =
    "reset" ∷ "read" ∷ "write" ∷ "idle" ∷ "bits" ∷ "activity" ∷ "start" ∷ "end" ∷ "frame" ∷ "error" ∷
    "expect" ∷ "repeat" ∷ "done" ∷ "bytes" ∷ []

pub record Words : Type 0 where
  pub steps : counted Steps 1 step_words ≡ true
  pub results : counted Results 0 ("good" ∷ "stuff" ∷ "form" ∷ "ack" ∷ "bit1" ∷ "bit0" ∷ "crc" ∷ "lost" ∷ []) ≡ true
  pub lines : counted Lines 0 ("TX" ∷ "FIFO0" ∷ "FIFO1" ∷ "SCE" ∷ "none" ∷ []) ≡ true
  pub expectations : counted Expectations 1 ("refused" ∷ "lines" ∷ []) ≡ true

abbrev pub is_no_name : Group → String → Bool
is_no_name g x = is_none (looked_up (bytes x) g)

-- no names: a number too large, with a zero in front or none at all; a letter more or fewer; small letters; another group's name
abbrev pub no_registers : List String
no_registers = "TI3R" ∷ "TI%R" ∷ "TIR" ∷ "TI00R" ∷ "RI2R" ∷ "F14R1" ∷ "F01R1" ∷ "F0R3" ∷ "MCRX" ∷ "MC" ∷ "mcr" ∷ "INRQ" ∷ "bxCAN" ∷ []

abbrev pub no_controls : List String
no_controls = "INRQ2" ∷ "inrq" ∷ "INAK" ∷ "MCR" ∷ []

abbrev pub no_modes : List String
no_modes = "FBM14" ∷ "FBM" ∷ "FBM%" ∷ "FBM00" ∷ "FSC0" ∷ []

abbrev pub no_steps : List String
no_steps = "activityx" ∷ "activit" ∷ "Reset" ∷ "good" ∷ []

pub record NoNames : Type 0 where
  pub registers : all_of (is_no_name Registers) no_registers ≡ true
  pub control : all_of (is_no_name (Fields (register_called "MCR"))) no_controls ≡ true
  pub modes : all_of (is_no_name (Fields (register_called "FM1R"))) no_modes ≡ true
  pub steps : all_of (is_no_name Steps) no_steps ≡ true

-- ---- numbers

-- the character of a digit: 0 to 9, then A to F
abbrev pub digit : ℕ → ℕ
digit v = pick (ltb v 10) (48 + v) (55 + v)

abbrev pub hex_digits : ℕ → List ℕ
hex_digits n =
    digit (n / 16 ^ 7 % 16) ∷ digit (n / 16 ^ 6 % 16) ∷ digit (n / 16 ^ 5 % 16) ∷ digit (n / 16 ^ 4 % 16) ∷
    digit (n / 16 ^ 3 % 16) ∷ digit (n / 16 ^ 2 % 16) ∷ digit (n / 16 % 16) ∷ digit (n % 16) ∷ []

abbrev pub decimal_digits : ℕ → List ℕ
decimal_digits n =
    digit (n / 10 ^ 9 % 10) ∷ digit (n / 10 ^ 8 % 10) ∷ digit (n / 10 ^ 7 % 10) ∷ digit (n / 10 ^ 6 % 10) ∷ digit (n / 10 ^ 5 % 10) ∷
    digit (n / 10 ^ 4 % 10) ∷ digit (n / 10 ^ 3 % 10) ∷ digit (n / 10 ^ 2 % 10) ∷ digit (n / 10 % 10) ∷ digit (n % 10) ∷ []

abbrev pub value_of : String → Bool → Option ℕ
value_of x hex = value (bytes x) 0 (length (bytes x)) hex

-- the digits of a number of 32 bits are read as the number; nothing where the text is none
pub record Numbers : Type 0 where
  pub hex_read : (n : ℕ) → n < 2 ^ 32 → value (hex_digits n) 0 8 true ≡ Some n
  pub decimal_read : (n : ℕ) → n < 2 ^ 32 → value (decimal_digits n) 0 10 false ≡ Some n
  pub largest : value_of "4294967295" false ≡ Some 4294967295
  pub too_large : value_of "4294967296" false ≡ None
  pub much_too_large : value_of "42949672950" false ≡ None
  pub largest_hex : value_of "FFFFffff" true ≡ Some 0xFFFFFFFF
  pub too_large_hex : value_of "100000000" true ≡ None
  pub letters : value_of "1a" true ≡ Some 26
  pub no_letters : value_of "1a" false ≡ None
  pub no_digit : value_of "1G2" true ≡ None
