-- Worked examples. Document 01: "Numbers on the wall", the starred ones; then the reset values of "Register map", and
-- two sentences of it that are easily got wrong.
use Rattle.std.specs.Prelude.{false, List, [], ◌∷◌, ◌++◌, map, ◌≡◌, ℕ, ◌+◌, ◌*◌, replicate}
use Rattle.base.specs.Base.{bits, one}
use Rattle.model.specs.Banks.{bank, first_number}
use Rattle.model.specs.Registers.{reset, bank_count}
use Rattle.model.specs.Step.{step}
use Rattle.model.specs.Requests.{after}
use Rattle.model.specs.Shown.{shown, esr, boff, rec, timer, next_of}
use Rattle.model.specs.declared.Fifo.TheVariants.{F0}
use Rattle.model.specs.declared.Filters.{Filters}
use Rattle.model.specs.declared.Frame.{Frame}
use Rattle.model.specs.declared.Controller.{Controller}
use Rattle.model.specs.declared.Step as steps
use Rattle.model.specs.declared.Step.TheVariants.{Write, Idle, BitTimes, Start, Outcome, Receive}

-- ---- states to begin with

-- into Normal, the low bits of MCR being m
abbrev pub normal : ℕ → List steps.Step
normal m = Write 0x000 m ∷ Idle ∷ []

-- bank 0 takes every frame; m is as above
abbrev pub listening : ℕ → List steps.Step
listening m = Write 0x21C 1 ∷ Write 0x200 0 ∷ normal m

-- a frame of mailbox 0 is on the wire
abbrev pub transmitting : List steps.Step
transmitting = normal 0 ++ Write 0x180 1 ∷ Start ∷ []

abbrev pub with_counters : ℕ → ℕ → Controller → Controller
with_counters t r z = record {
  core = record {
    control = z.core.control;
    errors = record { tec = t; rec = r; lec = 0 };
    transmit = z.core.transmit;
    fifo0 = z.core.fifo0;
    fifo1 = z.core.fifo1;
    filters = z.core.filters;
  };
  banks = z.banks;
}

-- ---- what is looked at

-- the field TEC of ESR, and BOFF as a number
abbrev pub tec_field : Controller → ℕ
tec_field z = bits 16 8 (esr z)

abbrev pub boff_field : Controller → ℕ
boff_field z = one (boff z)

-- ---- frames

abbrev pub frame : ℕ → ℕ → Frame
frame identifier low = record { identifier = identifier; low = low; high = 0; length = 1 }

-- the first data words of what FIFO 0 holds, read and released one after the other
abbrev pub three : Controller → List ℕ
three z =
    shown z 0x1B8
    ∷ shown (after z (Write 0x00C 0x20 ∷ [])) 0x1B8
    ∷ shown (after z (Write 0x00C 0x20 ∷ Write 0x00C 0x20 ∷ [])) 0x1B8
    ∷ []

-- four frames
abbrev pub four_frames : List steps.Step
four_frames = Receive (frame 0 0xA) ∷ Receive (frame 0 0xB) ∷ Receive (frame 0 0xC) ∷ Receive (frame 0 0xD) ∷ []

-- the word of a start with these TI words in mailboxes 0 and 1
abbrev pub starts_first : ℕ → ℕ → ℕ
starts_first a b = (step (after reset (normal 0 ++ Write 0x180 (a + 1) ∷ Write 0x190 (b + 1) ∷ [])) Start).word

-- TI words of a standard and of an extended identifier
abbrev pub standard : ℕ → ℕ
standard i = i * 0x200000

abbrev pub extended : ℕ → ℕ
extended i = i * 8 + 4

-- ---- 16-bit lists in all banks, FIFO 0; whether a bank is active does not matter to the numbers

abbrev pub lists16 : Filters
lists16 = record { mode = 0x3FFF; scale = 0; assignment = 0; activation = 0; finit = false }

-- only the last filter of bank 13 takes the standard identifier 1
abbrev pub listening16 : List steps.Step
listening16 = Write 0x204 0x3FFF ∷ Write 0x2AC 0x00200000 ∷ Write 0x21C 0x3FFF ∷ Write 0x200 0 ∷ normal 0

abbrev pub last_filter : ℕ
last_filter = bits 8 8 (shown (after reset (listening16 ++ Receive (frame 0x00200000 0) ∷ [])) 0x1B4)

-- ---- the table

pub record Example : Type 0 where
  pub worked : List ℕ
  pub paper : List ℕ

abbrev pub example : List ℕ → List ℕ → Example
example w p = record { worked = w; paper = p }

-- bus-off in Normal with ABOM=1, count 0
abbrev pub bus_off : Controller
bus_off = with_counters 256 0 (after reset (normal 0x40))

abbrev pub table : List Example
table =
    -- TEC 247 and an error: 255, still on. 248: bus-off, the field shown 0
    example (tec_field (next_of (with_counters 247 0 (after reset transmitting)) (Outcome 1)) ∷ boff_field (next_of (with_counters 247 0 (after reset transmitting)) (Outcome 1)) ∷ []) (255 ∷ 0 ∷ [])
    ∷ example (tec_field (next_of (with_counters 248 0 (after reset transmitting)) (Outcome 1)) ∷ boff_field (next_of (with_counters 248 0 (after reset transmitting)) (Outcome 1)) ∷ []) (0 ∷ 1 ∷ [])
    -- REC 129 becomes 120; 128, 127
    ∷ example (rec (next_of (with_counters 0 129 (after reset (listening 0))) (Receive (frame 0 0))) ∷ []) (120 ∷ [])
    ∷ example (rec (next_of (with_counters 0 128 (after reset (listening 0))) (Receive (frame 0 0))) ∷ []) (127 ∷ [])
    -- timer 65535 plus 1 is 0; plus 65535 is 65534
    ∷ example (timer (after reset (normal 0x80 ++ BitTimes 65535 ∷ BitTimes 1 ∷ [])) ∷ []) (0 ∷ [])
    ∷ example (timer (after reset (normal 0x80 ++ BitTimes 65535 ∷ BitTimes 65535 ∷ [])) ∷ []) (65534 ∷ [])
    -- standard 0x100 goes before extended 0x04000000; extended 0x00040000 before standard 0x002
    ∷ example (starts_first (standard 0x100) (extended 0x04000000) ∷ starts_first (extended 0x04000000) (standard 0x100) ∷ []) (0 ∷ 1 ∷ [])
    ∷ example (starts_first (extended 0x00040000) (standard 0x002) ∷ starts_first (standard 0x002) (extended 0x00040000) ∷ []) (0 ∷ 1 ∷ [])
    -- A, B, C, then D: A, B, D unlocked; A, B, C locked
    ∷ example (three (after reset (listening 0x00 ++ four_frames))) (0xA ∷ 0xB ∷ 0xD ∷ [])
    ∷ example (three (after reset (listening 0x08 ++ four_frames))) (0xA ∷ 0xB ∷ 0xC ∷ [])
    -- all banks 16-bit list in FIFO 0: bank 13 starts at 52, the last is 55
    ∷ example ((first_number bank_count lists16 F0 (bank 13)).0 ∷ last_filter ∷ []) (52 ∷ 55 ∷ [])
    -- bus-off in Normal with ABOM=1, count 0: after 127 idles bus-off; after 128 on
    ∷ example (boff_field (after bus_off (replicate 127 Idle)) ∷ boff_field (after bus_off (replicate 128 Idle)) ∷ []) (1 ∷ 0 ∷ [])
    ∷ []

-- the hardware reset values of MCR, MSR, TSR, RF0R, RF1R, IER, ESR, BTR, FMR
abbrev pub reset_values : Example
reset_values = example
    (map (shown reset) (0x000 ∷ 0x004 ∷ 0x008 ∷ 0x00C ∷ 0x010 ∷ 0x014 ∷ 0x018 ∷ 0x01C ∷ 0x200 ∷ []))
    (0x00010002 ∷ 0x00000C02 ∷ 0x1C000000 ∷ 0 ∷ 0 ∷ 0 ∷ 0 ∷ 0x01230000 ∷ 0x2A1C0E01 ∷ [])

-- three frames: FMP 3 and FULL; after a release FMP 2, and FULL still set
abbrev pub release_keeps_full : Example
release_keeps_full = example
    (shown (after reset (listening 0 ++ Receive (frame 0 0) ∷ Receive (frame 0 0) ∷ Receive (frame 0 0) ∷ [])) 0x00C
    ∷ shown (after reset (listening 0 ++ Receive (frame 0 0) ∷ Receive (frame 0 0) ∷ Receive (frame 0 0) ∷ Write 0x00C 0x20 ∷ [])) 0x00C ∷ [])
    (0x0B ∷ 0x0A ∷ [])

-- under request order a request that failed keeps its place before a younger one
abbrev pub failed_keeps_place : Example
failed_keeps_place = example
    ((step (after reset (normal 4 ++ Write 0x190 1 ∷ Write 0x180 1 ∷ Start ∷ Outcome 7 ∷ [])) Start).word ∷ [])
    (1 ∷ [])

pub record Examples : Type 0 where
  pub numbers : map (λ (x : Example). x.worked) table ≡ map (λ (x : Example). x.paper) table
  pub reset_words : reset_values.worked ≡ reset_values.paper
  pub full : release_keeps_full.worked ≡ release_keeps_full.paper
  pub place : failed_keeps_place.worked ≡ failed_keeps_place.paper
