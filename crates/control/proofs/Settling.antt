-- With INRQ and SLEEP equal the mode rule changes nothing; where SLEEP is set, MCR is at least 2.
use Rattle.std.proofs.Common.{◌≡◌, ℕ, ◌/◌, ◌%◌, ◌^◌, ◌≤◌, Bool, true, false, not, ◌&&◌, ◌||◌, refl, arith, eqb-true}
use mathlib.Core.Bool.{beq, false≢true, and-true, or-false, and-not_self}
use Rattle.base.specs.Base.{pick, bit}
use Rattle.model.specs.Control.{inrq, sleep, is_sleep, mode_next, entered, settled}
use Rattle.model.specs.declared.Mode.{Mode}
use Rattle.model.specs.declared.Mode.TheVariants.{Sleep, Initialization, Normal}
use Rattle.model.specs.declared.Control.{Control}

mode-stays : (m : Mode) (a b : Bool) → beq a b ≡ true → mode_next m a b ≡ m
unfolding mode_next
mode-stays Sleep true true h = refl
mode-stays Sleep false false h = refl
mode-stays Initialization true true h = refl
mode-stays Initialization false false h = refl
mode-stays Normal true true h = refl
mode-stays Normal false false h = refl
mode-stays m true false h = absurd (false≢true h)
mode-stays m false true h = absurd (false≢true h)

slaki-stays : (m : Mode) (s b : Bool) → pick (is_sleep m) (s || (not (is_sleep m) && b)) (s && not (is_sleep m)) ≡ s
slaki-stays Sleep s b = or-false s
slaki-stays Initialization s b = and-true s
slaki-stays Normal s b = and-true s

-- entering the mode that one is in
entered-stays : (k : Control) (off : Bool) → entered k k.mode off ≡ k
unfolding entered
entered-stays k off = simp (and-not_self, or-false, slaki-stays)

pick_same : {A : Type 0} (b : Bool) (x : A) → pick b x x ≡ x
pick_same true x = refl
pick_same false x = refl

pub settled_stays : (k : Control) (free off a b : Bool) → a ≡ inrq k → b ≡ sleep k → beq a b ≡ true → k ≡ settled k free off
unfolding settled
settled_stays k free off a b p q h = simp (← p, ← q, mode-stays k.mode a b h, entered-stays k off, pick_same)

pub two_or_more_lem : (w : ℕ) → bit 1 w ≡ true → 2 ≤ w
two_or_more_lem w h = omega (arith, eqb-true (w / 2 ^ 1 % 2) 1 h)
