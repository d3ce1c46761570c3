-- The register map and the refusal numbers, read the other way: the offset of each register, when each code is given, and the word.
-- Document 01: "Register map" (its first lines), "Refusal numbers", "Bus events" (what code 4 says of each event).
use Rattle.std.specs.Prelude.{Bool, true, false, not, ◌&&◌, ◌||◌, ◌≡◌, ℕ, ◌+◌, ◌*◌, ◌%◌, ◌≤◌, eqb, ltb, leb}
use Rattle.base.specs.Base.{bit, bits}
use Rattle.model.specs.Queue.{number}
use Rattle.model.specs.Registers.{register_at, is_absent, bank_count}
use Rattle.model.specs.Step.{step, lines_of}
use Rattle.model.specs.Shown.{fifo_number, shown, tsr, inak, slak, in_normal, txm, tme, epvf, boff, lbkm, silm, finit, fact, Done, next_of, writes, is_read, is_start}
use Rattle.model.specs.declared.Mailbox.TheVariants.{M0, M1, M2}
use Rattle.model.specs.declared.Controller.{Controller}
use Rattle.model.specs.declared.Register.{Register}
use Rattle.model.specs.declared.Register.TheVariants.{Mcr, Msr, Tsr, Rfr, Ier, Esr, Btr, Ti, Tdt, Tdl, Tdh, Ri, Rdt, Rdl, Rdh, Fmr, Fm1r, Fs1r, Ffa1r, Fa1r, R1, R2, Absent}
use Rattle.model.specs.declared.Step as steps
use Rattle.model.specs.declared.Step.TheVariants.{Reset, Read, Write, Idle, BitTimes, Activity, Start, Outcome, Receive, ReceiveError}

-- ---- the map

-- the offset of a register; of none, a number that is no offset
abbrev pub offset_of : Register → ℕ
offset_of Mcr = 0x000
offset_of Msr = 0x004
offset_of Tsr = 0x008
offset_of (Rfr f) = 0x00C + 4 * fifo_number f
offset_of Ier = 0x014
offset_of Esr = 0x018
offset_of Btr = 0x01C
offset_of (Ti m) = 0x180 + 0x10 * number m
offset_of (Tdt m) = 0x184 + 0x10 * number m
offset_of (Tdl m) = 0x188 + 0x10 * number m
offset_of (Tdh m) = 0x18C + 0x10 * number m
offset_of (Ri f) = 0x1B0 + 0x10 * fifo_number f
offset_of (Rdt f) = 0x1B4 + 0x10 * fifo_number f
offset_of (Rdl f) = 0x1B8 + 0x10 * fifo_number f
offset_of (Rdh f) = 0x1BC + 0x10 * fifo_number f
offset_of Fmr = 0x200
offset_of Fm1r = 0x204
offset_of Fs1r = 0x20C
offset_of Ffa1r = 0x214
offset_of Fa1r = 0x21C
offset_of (R1 b) = 0x240 + 8 * b.0
offset_of (R2 b) = 0x244 + 8 * b.0
offset_of Absent = 0xFFFF

-- the word that a read of the register gives
abbrev pub reads : Controller → Register → ℕ
reads z r = shown z (offset_of r)

-- the offsets in the map, on a board with n banks: multiples of 4 in these ranges
abbrev pub in_map : ℕ → ℕ → Bool
in_map n o =
    eqb (o % 4) 0
    && (leb o 0x01C
    || (leb 0x180 o && leb o 0x1CC)
    || eqb o 0x200 || eqb o 0x204 || eqb o 0x20C || eqb o 0x214 || eqb o 0x21C
    || (leb 0x240 o && ltb o (0x240 + 8 * n)))

-- a register that this board has
abbrev pub IsPresent : Register → Type 0
IsPresent Mcr = Unit {0}
IsPresent Msr = Unit {0}
IsPresent Tsr = Unit {0}
IsPresent (Rfr f) = Unit {0}
IsPresent Ier = Unit {0}
IsPresent Esr = Unit {0}
IsPresent Btr = Unit {0}
IsPresent (Ti m) = Unit {0}
IsPresent (Tdt m) = Unit {0}
IsPresent (Tdl m) = Unit {0}
IsPresent (Tdh m) = Unit {0}
IsPresent (Ri f) = Unit {0}
IsPresent (Rdt f) = Unit {0}
IsPresent (Rdl f) = Unit {0}
IsPresent (Rdh f) = Unit {0}
IsPresent Fmr = Unit {0}
IsPresent Fm1r = Unit {0}
IsPresent Fs1r = Unit {0}
IsPresent Ffa1r = Unit {0}
IsPresent Fa1r = Unit {0}
IsPresent (R1 b) = ltb b.0 bank_count ≡ true
IsPresent (R2 b) = ltb b.0 bank_count ≡ true
IsPresent Absent = true ≡ false

-- the decoding of offsets is the map: nothing is there but what is in the map, each register is at its offset and at no other
pub record Map : Type 0 where
  pub absent : (o : ℕ) → is_absent (register_at o) ≡ not (in_map bank_count o)
  pub found : (r : Register) → IsPresent r → register_at (offset_of r) ≡ r
  pub only : (o : ℕ) → is_absent (register_at o) ≡ false → offset_of (register_at o) ≡ o

-- ---- when each code is given

-- 1: offset not a multiple of 4, or not in the map
abbrev pub not_mapped : steps.Step → Bool
not_mapped Reset = false
not_mapped (Read o) = not (in_map bank_count o)
not_mapped (Write o w) = not (in_map bank_count o)
not_mapped Idle = false
not_mapped (BitTimes n) = false
not_mapped Activity = false
not_mapped Start = false
not_mapped (Outcome r) = false
not_mapped (Receive x) = false
not_mapped (ReceiveError k n) = false

abbrev pub is_output : Register → Bool
is_output Mcr = false
is_output Msr = false
is_output Tsr = false
is_output (Rfr f) = false
is_output Ier = false
is_output Esr = false
is_output Btr = false
is_output (Ti m) = false
is_output (Tdt m) = false
is_output (Tdl m) = false
is_output (Tdh m) = false
is_output (Ri f) = true
is_output (Rdt f) = true
is_output (Rdl f) = true
is_output (Rdh f) = true
is_output Fmr = false
is_output Fm1r = false
is_output Fs1r = false
is_output Ffa1r = false
is_output Fa1r = false
is_output (R1 b) = false
is_output (R2 b) = false
is_output Absent = false

-- 3: write to a receive mailbox word
abbrev pub writes_output : steps.Step → Bool
writes_output = writes (λ o w. is_output (register_at o))

-- BTR while INAK=0; a mailbox that isn't empty; FM1R, FS1R or FFA1R while FINIT=0; a bank's value while FINIT=0 and that bank is active
abbrev pub is_locked : Register → Controller → Bool
is_locked Mcr z = false
is_locked Msr z = false
is_locked Tsr z = false
is_locked (Rfr f) z = false
is_locked Ier z = false
is_locked Esr z = false
is_locked Btr z = not (inak z)
is_locked (Ti m) z = not (tme m z)
is_locked (Tdt m) z = not (tme m z)
is_locked (Tdl m) z = not (tme m z)
is_locked (Tdh m) z = not (tme m z)
is_locked (Ri f) z = false
is_locked (Rdt f) z = false
is_locked (Rdl f) z = false
is_locked (Rdh f) z = false
is_locked Fmr z = false
is_locked Fm1r z = not (finit z)
is_locked Fs1r z = not (finit z)
is_locked Ffa1r z = not (finit z)
is_locked Fa1r z = false
is_locked (R1 b) z = not (finit z) && fact b z
is_locked (R2 b) z = not (finit z) && fact b z
is_locked Absent z = false

-- 2: write to a locked register
abbrev pub writes_locked : steps.Step → Controller → Bool
writes_locked s z = writes (λ o w. is_locked (register_at o) z) s

-- 5: event field out of range. Bit times 1 to 65535; an own end 0 to 8; a frame whose identifier word has bit 0, a standard one
-- with extended bits, a length code above 15; a receive error's code 1 to 6 and step 1 or 8
abbrev pub out_of_range : steps.Step → Bool
out_of_range Reset = false
out_of_range (Read o) = false
out_of_range (Write o w) = false
out_of_range Idle = false
out_of_range (BitTimes n) = not (leb 1 n && leb n 65535)
out_of_range Activity = false
out_of_range Start = false
out_of_range (Outcome r) = ltb 8 r
out_of_range (Receive x) = bit 0 x.identifier || (not (bit 2 x.identifier) && not (eqb (bits 3 18 x.identifier) 0)) || ltb 15 x.length
out_of_range (ReceiveError k n) = not (leb 1 k && leb k 6 && (eqb n 1 || eqb n 8))

-- Normal, not bus-off, none on the wire
abbrev pub is_ready : Controller → Bool
is_ready z = in_normal z && not (boff z) && not (txm z)

-- at least one mailbox isn't empty
abbrev pub any_pending : Controller → Bool
any_pending z = not (tme M0 z) || not (tme M1 z) || not (tme M2 z)

-- a start: one pending besides, and not SILM=1 with LBKM=0
abbrev pub can_start : Controller → Bool
can_start z = is_ready z && any_pending z && not (silm z && not (lbkm z))

-- a frame, and a receive error: LBKM=0 and FINIT=0 besides
abbrev pub can_receive : Controller → Bool
can_receive z = is_ready z && not (lbkm z) && not (finit z)

-- 4: event that the state can't have. Idle with an own frame on the wire; activity outside Sleep; an own end with none on the wire,
-- 3 and 8 with LBKM=1, and 8 with EPVF=0 (02, Q-4)
abbrev pub cannot_be : steps.Step → Controller → Bool
cannot_be Reset z = false
cannot_be (Read o) z = false
cannot_be (Write o w) z = false
cannot_be Idle z = txm z
cannot_be (BitTimes n) z = false
cannot_be Activity z = not (slak z)
cannot_be Start z = not (can_start z)
cannot_be (Outcome r) z = not (txm z) || ((eqb r 3 || eqb r 8) && lbkm z) || (eqb r 8 && not (epvf z))
cannot_be (Receive x) z = not (can_receive z)
cannot_be (ReceiveError k n) z = not (can_receive z)

-- the table, for every controller and every step: each code exactly when 01 says; 5 comes before 4, the others exclude each other
pub record Codes (z : Controller) (s : steps.Step) : Type 0 where
  pub one : eqb (step z s).code 1 ≡ not_mapped s
  pub three : eqb (step z s).code 3 ≡ writes_output s
  pub two : eqb (step z s).code 2 ≡ writes_locked s z
  pub five : eqb (step z s).code 5 ≡ out_of_range s
  pub four : eqb (step z s).code 4 ≡ not (out_of_range s) && cannot_be s z
  pub none : eqb (step z s).code 0 ≡ not (not_mapped s || writes_output s || writes_locked s z || out_of_range s || cannot_be s z)
  pub at_most : (step z s).code ≤ 5

-- what a refusal is: the word 0, the same state, the lines of that state
pub record Refused (z : Controller) (s : steps.Step) : Type 0 where
  pub kept : next_of z s ≡ z
  pub word : (step z s).word ≡ 0
  pub lines : (step z s).lines ≡ lines_of z.core

-- ---- the word

-- the word is 0 but for a read and a start; that of a start is the number of a mailbox that isn't empty, which TSR shows by
-- TME=0, and its frame is then on the wire, which MSR shows by TXM=1
pub record StepWords (z : Controller) : Type 0 where
  pub none : (s : steps.Step) → is_read s || is_start s ≡ false → (step z s).word ≡ 0
  pub mailbox : (step z Start).word ≤ 2
  pub pending : Done z Start → bit (26 + (step z Start).word) (tsr z) ≡ false
  pub on_wire : Done z Start → txm (next_of z Start) ≡ true
