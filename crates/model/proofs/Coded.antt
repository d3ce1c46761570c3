-- Each code is given exactly when the table says, and a refusal changes nothing.
use mathlib.Core.Bool.{Bool, true, false, not, ◌&&◌, ◌||◌}
use mathlib.Core.Path.{◌≡◌, refl, sym, subst, ap, ◌∙◌}
use Prim.Native.Nat.{ℕ, ◌≤◌}
use native.Mathlib.Omega.{arith}
use lib.Dec.{eqb, ltb, leb}
use Rattle.base.specs.Base.{pick, bit}
use Rattle.model.specs.Reception.{malformed}
use Rattle.model.specs.Control.{is_sleep}
use Rattle.model.specs.Control as control
use Rattle.model.specs.Registers.{register_at, is_absent, write_refusal, is_free}
use Rattle.model.specs.Step.{step, answered, core_after, banks_after, refusal, may_start, may_end, may_receive, receive_error_in_range}
use Rattle.model.specs.Codes.{can_start, can_receive, not_mapped, writes_output, is_output, is_locked, writes_locked, out_of_range, cannot_be, Codes, Refused}
use Rattle.model.specs.Shown.{txm}
use Rattle.model.specs.declared.Bank.{Bank}
use Rattle.model.specs.declared.Controller.{Controller}
use Rattle.model.specs.declared.Register.{Register}
use Rattle.model.specs.declared.Register.TheVariants.{Mcr, Msr, Tsr, Rfr, Ier, Esr, Btr, Ti, Tdt, Tdl, Tdh, Ri, Rdt, Rdl, Rdh, Fmr, Fm1r, Fs1r, Ffa1r, Fa1r, R1, R2, Absent}
use Rattle.model.specs.declared.Step as steps
use Rattle.model.specs.declared.Step.TheVariants.{Reset, Read, Write, Idle, BitTimes, Activity, Start, Outcome, Receive, ReceiveError}
use Rattle.model.proofs.Mapped.{map}
use Rattle.model.proofs.ReadFields.{inak-read, slak-read, normal-read, txm-read, free_read, held-read, pending-read, epvf-read, boff-read, lbkm-read, silm-read, finit-read, active-read}

-- a code k is the one that these five conditions say
record Said (k : ℕ) (unmapped output locked range impossible : Bool) : Type 0 where
  one : eqb k 1 ≡ unmapped
  three : eqb k 3 ≡ output
  two : eqb k 2 ≡ locked
  five : eqb k 5 ≡ range
  four : eqb k 4 ≡ not range && impossible
  none : eqb k 0 ≡ not (unmapped || output || locked || range || impossible)
  at_most : k ≤ 5

done : Said 0 false false false false false
done = record { one = refl; three = refl; two = refl; five = refl; four = refl; none = refl; at_most = omega arith }

output_write : Said 3 false true false false false
output_write = record { one = refl; three = refl; two = refl; five = refl; four = refl; none = refl; at_most = omega arith }

-- the test b of the rules is a condition i of the table, or its opposite: one decides, or a range and then the state
by_map : (b i : Bool) → b ≡ i → Said (pick b 1 0) i false false false false
by_map true i e = rw (sym e) (record { one = refl; three = refl; two = refl; five = refl; four = refl; none = refl; at_most = omega arith })
by_map false i e = rw (sym e) done

by_lock : (b i : Bool) → i ≡ b → Said (pick b 2 0) false false i false false
by_lock true i e = rw e (record { one = refl; three = refl; two = refl; five = refl; four = refl; none = refl; at_most = omega arith })
by_lock false i e = rw e done

by_key : (b i : Bool) → i ≡ b → Said (pick b 0 2) false false (not i) false false
by_key true i e = rw e done
by_key false i e = rw e (by_lock true true refl)

by_state : (b i : Bool) → i ≡ not b → Said (pick b 0 4) false false false false i
by_state true i e = rw e done
by_state false i e = rw e (record { one = refl; three = refl; two = refl; five = refl; four = refl; none = refl; at_most = omega arith })

by_range : (a b i : Bool) → i ≡ not b → Said (pick a 5 (pick b 0 4)) false false false a i
by_range true b true e = record { one = refl; three = refl; two = refl; five = refl; four = refl; none = refl; at_most = omega arith }
by_range true b false e = record { one = refl; three = refl; two = refl; five = refl; four = refl; none = refl; at_most = omega arith }
by_range false b i e = by_state b i e

in_range_lem : (a b i : Bool) → i ≡ not b → Said (pick a (pick b 0 4) 5) false false false (not a) i
in_range_lem true b i e = by_state b i e
in_range_lem false b i e = by_range true b i e

ticks_range : (a : Bool) → Said (pick a 0 5) false false false (not a) false
ticks_range true = done
ticks_range false = by_range true true false refl

-- ---- the conditions as registers show them

module _ (z : Controller) where
  can_start_lem : can_start z ≡ may_start z.core
  unfolding may_start
  can_start_lem = λ i. normal-read z i && not (boff-read z i) && free_read z i && pending-read z i && not (silm-read z i && not (lbkm-read z i))

  can_receive_lem : can_receive z ≡ may_receive z.core
  unfolding may_receive
  can_receive_lem = λ i. normal-read z i && not (boff-read z i) && free_read z i && not (lbkm-read z i) && not (finit-read z i)

  cannot_end : (r : ℕ) → cannot_be (Outcome r) z ≡ not (may_end z.core r)
  unfolding may_end
  cannot_end r =
      (λ i. free_read z i || ((eqb r 3 || eqb r 8) && lbkm-read z i) || (eqb r 8 && not (epvf-read z i)))
      ∙ either (is_free z.core) ((eqb r 3 || eqb r 8) && control.lbkm z.core.control) (eqb r 8 && not (control.epvf z.core.errors))
    where
      either : (a b c : Bool) → (a || b || c) ≡ not (not a && not b && not c)
      either true b c = refl
      either false true c = refl
      either false false true = refl
      either false false false = refl

  -- a bank's value while FINIT=0 and the bank is active
  by_bank : (b : Bank) → Said (pick (not z.core.filters.finit && bit b.0 z.core.filters.activation) 2 0) false false (is_locked (R1 b) z) false false
  by_bank b = by_lock _ (is_locked (R1 b) z) (λ i. not (finit-read z i) && active-read z b i)

  write_said : (r : Register) → Said (write_refusal r z.core) (is_absent r) (is_output r) (is_locked r z) false false
  unfolding write_refusal
  write_said Mcr = done
  write_said Msr = done
  write_said Tsr = done
  write_said (Rfr f) = done
  write_said Ier = done
  write_said Esr = done
  write_said Btr = by_key _ _ (inak-read z)
  write_said (Ti m) = by_lock _ _ (held-read z m)
  write_said (Tdt m) = by_lock _ _ (held-read z m)
  write_said (Tdl m) = by_lock _ _ (held-read z m)
  write_said (Tdh m) = by_lock _ _ (held-read z m)
  write_said (Ri f) = output_write
  write_said (Rdt f) = output_write
  write_said (Rdl f) = output_write
  write_said (Rdh f) = output_write
  write_said Fmr = done
  write_said Fm1r = by_key _ _ (finit-read z)
  write_said Fs1r = by_key _ _ (finit-read z)
  write_said Ffa1r = by_key _ _ (finit-read z)
  write_said Fa1r = done
  write_said (R1 b) = by_bank b
  write_said (R2 b) = by_bank b
  write_said Absent = by_map true true refl

  said : (s : steps.Step) → Said (refusal z.core s) (not_mapped s) (writes_output s) (writes_locked s z) (out_of_range s) (cannot_be s z)
  unfolding refusal malformed receive_error_in_range
  said Reset = done
  said (Read o) = by_map (is_absent (register_at o)) (not_mapped (Read o)) (map.absent o)
  said (Write o w) = subst (λ (b : Bool). Said (write_refusal (register_at o) z.core) b (is_output (register_at o)) (is_locked (register_at o) z) false false) (map.absent o) (write_said (register_at o))
  said Idle = by_state (is_free z.core) (txm z) (txm-read z)
  said (BitTimes n) = ticks_range (leb 1 n && leb n 65535)
  said Activity = by_state (is_sleep z.core.control.mode) (cannot_be Activity z) (ap not (slak-read z))
  said Start = by_state (may_start z.core) (cannot_be Start z) (ap not can_start_lem)
  said (Outcome r) = by_range (ltb 8 r) (may_end z.core r) (cannot_be (Outcome r) z) (cannot_end r)
  said (Receive x) = by_range (malformed x) (may_receive z.core) (cannot_be (Receive x) z) (ap not can_receive_lem)
  said (ReceiveError k n) = in_range_lem (receive_error_in_range k n) (may_receive z.core) (cannot_be (ReceiveError k n) z) (ap not can_receive_lem)

-- each code exactly when 01 says
pub codes : (z : Controller) (s : steps.Step) → Codes z s
unfolding step answered
codes z s =
    let k = said z s in
    record { one = k.one; three = k.three; two = k.two; five = k.five; four = k.four; none = k.none; at_most = k.at_most }

-- any code other than 0 leaves the state, gives the word 0 and the lines of that state
pub refused : (z : Controller) (s : steps.Step) → eqb (step z s).code 0 ≡ false → Refused z s
unfolding step answered core_after banks_after
refused z s h = record { kept = rw h; word = rw h; lines = rw h }
