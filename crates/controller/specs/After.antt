-- What a step does, by its kind first: the code, the word, the core before the mode rule, and what becomes of the words of the banks.
-- Document 01: "Refusal numbers" (refuse first, then apply), "Modes".
use Rattle.std.specs.Prelude.{Bool, true, false, ◌&&◌, List, ◌≡◌, refl, ℕ, zero, suc, ◌≤◌, ◌<◌, eqb, Ok, Err}
use Rattle.std.specs.Result.{result_unwrap_or}
use Rattle.std.proofs.Common.{arith, ne_eqb, le-leb, ap, ◌∙◌}
use Rattle.base.specs.Base.{pick}
use Rattle.model.specs.Control.{boff}
use Rattle.model.specs.Control as control
use Rattle.model.specs.Refusals.{code_of}
use Rattle.model.specs.Registers.{register_at, is_absent, read_word, is_free}
use Rattle.model.specs.Step.{refusal, word_of, applied, banks_applied, settled, lines_of, core_after, banks_after, step, answered}
use Rattle.model.specs.declared.Core.{Core}
use Rattle.model.specs.declared.Controller.{Controller}
use Rattle.model.specs.declared.Stepped.{Stepped}
use Rattle.model.specs.declared.Control.{Control}
use Rattle.model.specs.declared.Refusal.{Refusal}
use Rattle.model.specs.declared.Refusal.TheVariants.{NotMapped}
use Rattle.model.specs.declared.Register.{Register}
use Rattle.model.specs.declared.Register.TheVariants.{Mcr, Msr, Tsr, Rfr, Ier, Esr, Btr, Ti, Tdt, Tdl, Tdh, Ri, Rdt, Rdl, Rdh, Fmr, Fm1r, Fs1r, Ffa1r, Fa1r, R1, R2, Absent}
use Rattle.model.specs.declared.Step.{Step}
use Rattle.model.specs.declared.Step.TheVariants.{Reset, Read, Write, Idle, BitTimes, Activity, Start, Outcome, Receive, ReceiveError}
use Rattle.reads.specs.Shown.{read_at}
use Rattle.writes.specs.Places.{bank_write, changed, changed_by_write}
use Rattle.writes.specs.declared.BankWrite.{BankWrite}
use Rattle.writes.specs.declared.BankWrite.TheVariants.{Nothing, Clear}
use Rattle.controller.specs.declared.Effect.{Effect}
use Rattle.controller.specs.declared.CoreStepped.{CoreStepped}

-- an effect with its refusal as a number, 0 for none, and the word 0 where it is refused
pub record Numbered : Type 0 where
  pub core : Core
  pub code : ℕ
  pub word : ℕ
  pub banks : BankWrite

abbrev pub numbered : Effect → Numbered
numbered a = record { core = a.core; code = code_of a.answer; word = result_unwrap_or a.answer 0; banks = a.banks }

-- a step with no word that writes no bank
abbrev pub on_core : Core → Effect
on_core c = record { core = c; answer = Ok 0; banks = Nothing }

abbrev pub not_done : Core → Refusal → Effect
not_done c r = record { core = c; answer = Err r; banks = Nothing }

-- a step refused with code k
abbrev pub refused : Core → ℕ → Numbered
refused c k = record { core = c; code = k; word = 0; banks = Nothing }

-- an accepted step with its word, and what it does to the words of the banks
abbrev pub done : Core → ℕ → BankWrite → Numbered
done c w x = record { core = c; code = 0; word = w; banks = x }

-- what an accepted step does to the words of the banks
unfoldable pub write_after : Step → BankWrite
write_after Reset = Clear
write_after (Read o) = Nothing
write_after (Write o w) = bank_write (register_at o) w
write_after Idle = Nothing
write_after (BitTimes n) = Nothing
write_after Activity = Nothing
write_after Start = Nothing
write_after (Outcome r) = Nothing
write_after (Receive x) = Nothing
write_after (ReceiveError k n) = Nothing

-- a refused step changes nothing
unfoldable pub effect_at : Core → List ℕ → Step → ℕ → Numbered
effect_at c v e k = pick (eqb k 0) (done (applied c v e) (word_of c v e) (write_after e)) (refused c k)

unfoldable pub effect : Core → List ℕ → Step → Numbered
effect c v e = effect_at c v e (refusal c e)

-- a read of no register is refused
of_register : (x : Register) (c : Core) (v : List ℕ)
    → numbered (record { core = c; answer = pick (is_absent x) (Err NotMapped) (Ok (read_word x c v)); banks = Nothing })
    ≡ pick (eqb (pick (is_absent x) 1 0) 0) (done c (read_word x c v) Nothing) (refused c (pick (is_absent x) 1 0))
unfolding read_word
of_register Mcr c v = refl
of_register Msr c v = refl
of_register Tsr c v = refl
of_register (Rfr f) c v = refl
of_register Ier c v = refl
of_register Esr c v = refl
of_register Btr c v = refl
of_register (Ti m) c v = refl
of_register (Tdt m) c v = refl
of_register (Tdl m) c v = refl
of_register (Tdh m) c v = refl
of_register (Ri f) c v = refl
of_register (Rdt f) c v = refl
of_register (Rdl f) c v = refl
of_register (Rdh f) c v = refl
of_register Fmr c v = refl
of_register Fm1r c v = refl
of_register Fs1r c v = refl
of_register Ffa1r c v = refl
of_register Fa1r c v = refl
of_register (R1 b) c v = refl
of_register (R2 b) c v = refl
of_register Absent c v = refl

pub of_read : (o : ℕ) (c : Core) (v : List ℕ) → numbered (record { core = c; answer = read_at o c v; banks = Nothing }) ≡ effect c v (Read o)
unfolding effect effect_at refusal applied word_of write_after read_at
of_read o c v = of_register (register_at o) c v

-- ok: the step is accepted
banks_where : (v : List ℕ) (e : Step) (ok : Bool) → changed v (pick ok (write_after e) Nothing) ≡ pick ok (banks_applied v e) v
unfolding write_after banks_applied changed
banks_where v e false = refl
banks_where v Reset true = refl
banks_where v (Read o) true = refl
banks_where v (Write o w) true = changed_by_write (register_at o) v w
banks_where v Idle true = refl
banks_where v (BitTimes n) true = refl
banks_where v Activity true = refl
banks_where v Start true = refl
banks_where v (Outcome r) true = refl
banks_where v (Receive x) true = refl
banks_where v (ReceiveError k n) true = refl

-- the words of the banks: changed by an accepted step
pub banks-changed : (v : List ℕ) (e : Step) (k : ℕ) → changed v (pick (eqb k 0) (write_after e) Nothing) ≡ banks_after v e k
unfolding banks_after
banks-changed v e k = banks_where v e (eqb k 0)

-- a count of bit times has 16 bits: 0 alone is refused
pub counted : (c : Core) (n : ℕ) → 1 ≤ n → n < 65536 → refusal c (BitTimes n) ≡ 0
unfolding refusal
counted c n h l = simp (le-leb 1 n h, le-leb n 65535 (omega arith))

-- the mode rule, where ok
abbrev pub settled_if : Bool → Core → Control
settled_if ok c = control.settled c.control (ok && is_free c) (boff c.errors)

-- what a step gives but for the banks' words
unfoldable pub core_step_at : Core → List ℕ → Step → ℕ → CoreStepped
core_step_at c v e k = record {
  core = core_after c v e k;
  answer = record { code = k; lines = lines_of (core_after c v e k); word = pick (eqb k 0) (word_of c v e) 0 };
  banks = pick (eqb k 0) (write_after e) Nothing;
}

unfoldable pub core_step : Core → List ℕ → Step → CoreStepped
core_step c v e = core_step_at c v e (refusal c e)

-- the mode rule, on what a step does
abbrev pub ruled : Numbered → Core
ruled a = record {
  control = settled_if (eqb a.code 0) a.core;
  errors = a.core.errors;
  transmit = a.core.transmit;
  fifo0 = a.core.fifo0;
  fifo1 = a.core.fifo1;
  filters = a.core.filters;
}

-- and the lines
abbrev pub finished : Numbered → CoreStepped
finished a = record { core = ruled a; answer = record { code = a.code; lines = lines_of (ruled a); word = a.word }; banks = a.banks }

-- an accepted step has code 0, and after any other the mode rule leaves the core
finished-at : (c : Core) (v : List ℕ) (e : Step) (k : ℕ) → finished (effect_at c v e k) ≡ core_step_at c v e k
unfolding effect_at core_step_at core_after settled control.settled
finished-at c v e zero = refl
finished-at c v e (suc k) = simp (ne_eqb (suc k) 0 (omega arith))

finished-step : (c : Core) (v : List ℕ) (e : Step) → finished (effect c v e) ≡ core_step c v e
unfolding effect core_step
finished-step c v e = finished-at c v e (refusal c e)

pub finished-effect : (a : Effect) (c : Core) (v : List ℕ) (e : Step) → numbered a ≡ effect c v e → finished (numbered a) ≡ core_step c v e
finished-effect a c v e h = ap finished h ∙ finished-step c v e

-- with the banks' words of the controller before
abbrev pub whole : Controller → CoreStepped → Stepped
whole z r = record { controller = record { core = r.core; banks = changed z.banks r.banks }; code = r.answer.code; lines = r.answer.lines; word = r.answer.word }

pub whole-step : (z : Controller) (e : Step) → whole z (core_step z.core z.banks e) ≡ step z e
unfolding core_step core_step_at step answered
whole-step z e = simp (banks-changed z.banks e (refusal z.core e))
