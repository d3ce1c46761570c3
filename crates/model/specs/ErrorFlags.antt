-- The error flags and ERRI, REC and LEC, of what registers show.
-- Document 01: "Bus events" (own end, frame, receive error, last paragraph), "Register map" (ESR).
use Rattle.std.specs.Prelude.{Bool, false, not, ◌&&◌, ◌||◌, ◌≡◌, ℕ, ◌+◌, ◌-◌, ◌%◌, min, eqb, ltb, leb}
use Rattle.base.specs.Base.{pick, bits}
use Rattle.model.specs.Shown.{esr, erri, ewgie, epvie, bofie, lecie, ewgf, epvf, boff, lec, rec, tec, Done, next_of, writes_one, is_error_result, result_code, resets}
use Rattle.model.specs.declared.Controller.{Controller}
use Rattle.model.specs.declared.Step as steps
use Rattle.model.specs.declared.Step.TheVariants.{Reset, Read, Write, Idle, BitTimes, Activity, Start, Outcome, Receive, ReceiveError}

-- ---- what ESR shows of a state

pub record ErrorStatus (z : Controller) : Type 0 where
  pub tec_field : bits 16 8 (esr z) ≡ tec z % 256
  -- EWGF: TEC or REC at least 96. EPVF: above 127. BOFF: TEC above 255
  pub warning : ewgf z ≡ leb 96 (tec z) || leb 96 (rec z)
  pub passive : epvf z ≡ ltb 127 (tec z) || ltb 127 (rec z)
  pub bus_off : boff z ≡ ltb 255 (tec z)

-- ---- what an accepted step does

-- REC, n before the step. A frame: above 128 it becomes 120, else one less if not 0. A receive error: plus the step, stopping at 255.
-- An idle event with which bus-off ends (`on`): 0
abbrev pub rec_after : steps.Step → Bool → ℕ → ℕ
rec_after Reset on n = 0
rec_after (Read o) on n = n
rec_after (Write o w) on n = n
rec_after Idle on n = pick on 0 n
rec_after (BitTimes t) on n = n
rec_after Activity on n = n
rec_after Start on n = n
rec_after (Outcome r) on n = n
rec_after (Receive x) on n = pick (leb 129 n) 120 (n - 1)
rec_after (ReceiveError k t) on n = min (n + t) 255

-- LEC, n before the step. An own end: 0 if good, its code (3 for 8), unchanged if arbitration is lost. A frame: 0. A receive error:
-- its code. ESR written with 7 there: 7
abbrev pub lec_after : steps.Step → ℕ → ℕ
lec_after Reset n = 0
lec_after (Read o) n = n
lec_after (Write o w) n = pick (eqb o 0x018 && eqb (bits 4 3 w) 7) 7 n
lec_after Idle n = n
lec_after (BitTimes t) n = n
lec_after Activity n = n
lec_after Start n = n
lec_after (Outcome r) n = pick (eqb r 7) n (result_code r)
lec_after (Receive x) n = 0
lec_after (ReceiveError k t) n = k

-- the event puts 1 to 6 in LEC
abbrev pub puts_code : steps.Step → Bool
puts_code Reset = false
puts_code (Read o) = false
puts_code (Write o w) = false
puts_code Idle = false
puts_code (BitTimes t) = false
puts_code Activity = false
puts_code Start = false
puts_code (Outcome r) = is_error_result r
puts_code (Receive x) = false
puts_code (ReceiveError k t) = leb 1 k && leb k 6

-- a flag of ESR that goes from x to y
abbrev pub rises : Bool → Bool → Bool
rises x y = not x && y

-- a reset, or 1 written to ERRI
abbrev pub clears_erri : steps.Step → Bool
clears_erri s = resets s || writes_one 0x004 2 s

-- an accepted step s that leads from z to y
pub record ErrorChange (z : Controller) (s : steps.Step) (y : Controller) : Type 0 where
  pub received : rec y ≡ rec_after s (boff z && not (boff y)) (rec z)
  pub last : lec y ≡ lec_after s (lec z)
  -- EWGF rises exactly when neither TEC nor REC was at least 96 and one is now
  pub warned : rises (ewgf z) (ewgf y) ≡ ltb (tec z) 96 && ltb (rec z) 96 && (leb 96 (tec y) || leb 96 (rec y))
  -- ERRI is set when one of the flags rises with its enable set, or an event puts 1 to 6 in LEC with LECIE set, the same code
  -- again too; nothing clears it but a reset and 1 written to it
  pub erri : erri y
      ≡ not (clears_erri s)
      && (erri z
      || (ewgie z && rises (ewgf z) (ewgf y))
      || (epvie z && rises (epvf z) (epvf y))
      || (bofie z && rises (boff z) (boff y))
      || (lecie z && puts_code s))

pub record ErrorFlags (z : Controller) (s : steps.Step) : Type 0 where
  pub before : ErrorStatus z
  pub after : ErrorStatus (next_of z s)
  pub change : Done z s → ErrorChange z s (next_of z s)
