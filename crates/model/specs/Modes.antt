-- Modes, the flags of MSR and the timer, of what registers show.
-- Document 01: "Modes", "Bus events" (bit times, activity, start, own end), "What is modelled" (RX, SAMP, TXM), "Register map" (MSR).
-- RX, SAMP and RXM at the places of 000.
use Rattle.std.specs.Prelude.{Bool, true, false, not, ◌&&◌, ◌||◌, ◌≡◌, ◌+◌, ◌*◌, ◌%◌, ◌^◌, ◌<◌, eqb}
use Rattle.base.specs.Base.{pick, bit, bits, one}
use Rattle.model.specs.Shown.{mcr, msr, inrq, sleep, awum, ttcm, slak, wkui, slaki, txm, mode, slkie, timer, Done, next_of, writes_one, is_idle, is_activity, is_start, is_outcome, bit_times, resets}
use Rattle.model.specs.ReadBack.{sets}
use Rattle.model.specs.declared.Controller.{Controller}
use Rattle.model.specs.declared.Register.TheVariants.{Mcr}
use Rattle.model.specs.declared.Step as steps
use Rattle.model.specs.declared.Step.TheVariants.{Activity}

-- ---- the rest of MSR

pub record ModeStatus (z : Controller) : Type 0 where
  -- INAK and SLAK are never both 1
  pub modes : mode z < 3
  -- RX and SAMP read 1, RXM 0; there is nothing else
  pub samp : bit 10 (msr z) ≡ true
  pub rx : bit 11 (msr z) ≡ true
  pub rxm : bit 9 (msr z) ≡ false
  pub none : bits 5 3 (msr z) ≡ 0
  pub word : msr z < 2 ^ 12

-- ---- what an accepted step does

-- the step may change MCR: an activity, a hardware reset, a write to it
abbrev pub touches_mcr : steps.Step → Bool
touches_mcr s = is_activity s || sets s Mcr

-- the accepted step s leads from z to y
pub record ModeRule (z : Controller) (s : steps.Step) (y : Controller) : Type 0 where
  -- with an own frame on the wire the mode stays
  pub busy : txm y ≡ true → mode y ≡ mode z
  -- with none, INRQ=1 and SLEEP=0 leads to Initialization, SLEEP=1 and INRQ=0 to Sleep
  pub initialization : txm y ≡ false → inrq y ≡ true → sleep y ≡ false → mode y ≡ 1
  pub asleep : txm y ≡ false → inrq y ≡ false → sleep y ≡ true → mode y ≡ 2
  -- both set: stay. Both clear: Normal at an idle event, else stay
  pub both : txm y ≡ false → inrq y ≡ true → sleep y ≡ true → mode y ≡ mode z
  pub neither : txm y ≡ false → inrq y ≡ false → sleep y ≡ false → mode y ≡ pick (is_idle s) 0 (mode z)

-- SLAKI: set on entering Sleep if SLKIE, cleared on leaving it, by 1 written to it and by a reset
pub record SleepFlag (z : Controller) (s : steps.Step) (y : Controller) : Type 0 where
  pub awake : slak y ≡ false → slaki y ≡ false
  pub reset : resets s ≡ true → slaki y ≡ false
  pub entered : resets s ≡ false → slak z ≡ false → slak y ≡ true → slaki y ≡ slkie y
  pub stayed : resets s ≡ false → slak z ≡ true → slak y ≡ true → slaki y ≡ not (writes_one 0x004 4 s) && slaki z

-- While TTCM=0 the timer is 0. In Normal with TTCM=1 it adds the bit times; after 65535 it reads 0
pub record Timer (z : Controller) (s : steps.Step) (y : Controller) : Type 0 where
  pub stopped : ttcm y ≡ false → timer y ≡ 0
  pub runs : ttcm y ≡ true → timer y ≡ (timer z + pick (eqb (mode z) 0) (bit_times s) 0) % 65536

pub record ModeChange (z : Controller) (s : steps.Step) (y : Controller) : Type 0 where
  pub rule : ModeRule z s y
  pub reset_mcr : resets s ≡ true → mcr y ≡ 0x00010002
  pub same_mcr : touches_mcr s ≡ false → mcr y ≡ mcr z
  pub sleep_flag : SleepFlag z s y
  -- WKUI: an activity sets it, 1 written to it and a reset clear it
  pub wake_up : wkui y ≡ is_activity s || (not (resets s || writes_one 0x004 3 s) && wkui z)
  -- TXM: a start puts an own frame on the wire, its end and a reset take it away
  pub on_wire : txm y ≡ is_start s || (not (is_outcome s || resets s) && txm z)
  pub timed : Timer z s y

-- an activity: AWUM=1 clears SLEEP, and no other bit of MCR
pub record Wake (z y : Controller) : Type 0 where
  pub clears : sleep y ≡ sleep z && not (awum z)
  pub rest : mcr y + 2 * one (sleep z && awum z) ≡ mcr z

pub record Modes (z : Controller) (s : steps.Step) : Type 0 where
  pub before : ModeStatus z
  pub change : Done z s → ModeChange z s (next_of z s)
  pub wake : Done z Activity → Wake z (next_of z Activity)
