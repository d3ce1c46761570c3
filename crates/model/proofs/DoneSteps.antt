-- An accepted step: what it does itself, and then the mode rule, which leaves all but the mode, SLAKI and the recovery.
use Rattle.std.proofs.Common.{Option, Some, None}
use mathlib.Core.Bool.{Bool, true, false}
use mathlib.Core.Path.{◌≡◌, refl}
use mathlib.Core.List.{List}
use Prim.Native.Nat.{ℕ}
use lib.Dec.{eqb}
use borrow.Author.Tests.{eq-eqb}
use Rattle.model.specs.Control as control
use Rattle.model.specs.Step.{step, answered, core_after, refusal, applied, settled, started_by, ended_by}
use Rattle.model.specs.Shown.{Done, next_of}
use Rattle.model.specs.declared.Control.{Control}
use Rattle.model.specs.declared.Core.{Core}
use Rattle.model.specs.declared.Controller.{Controller}
use Rattle.model.specs.declared.Step as steps
use Rattle.model.specs.declared.Mailbox.{Mailbox}

pub accepted : (z : Controller) (s : steps.Step) → Done z s → eqb (refusal z.core s) 0 ≡ true
unfolding step answered
accepted z s h = eq-eqb _ _ h

pub done-core : (z : Controller) (s : steps.Step) → Done z s → (next_of z s).core ≡ settled (applied z.core z.banks s)
unfolding step answered core_after
done-core z s h = rw (accepted z s h)

-- what the mode rule leaves
pub record Left (d k : Control) : Type 0 where
  pub mcr : d.mcr ≡ k.mcr
  pub ier : d.ier ≡ k.ier
  pub btr : d.btr ≡ k.btr
  pub timer : d.timer ≡ k.timer
  pub erri : d.erri ≡ k.erri
  pub wkui : d.wkui ≡ k.wkui

settled_left : (k : Control) (free off : Bool) → Left (control.settled k free off) k
unfolding control.settled control.entered
settled_left k true off = record { mcr = refl; ier = refl; btr = refl; timer = refl; erri = refl; wkui = refl }
settled_left k false off = record { mcr = refl; ier = refl; btr = refl; timer = refl; erri = refl; wkui = refl }

pub rule_left : (c : Core) → Left (settled c).control c.control
unfolding settled
rule_left c = settled_left c.control _ _

-- what a start and an own end leave of the control words and flags: all but ERRI and the recovery
pub record Same (d k : Control) : Type 0 where
  pub mcr : d.mcr ≡ k.mcr
  pub timer : d.timer ≡ k.timer
  pub mode : d.mode ≡ k.mode
  pub wkui : d.wkui ≡ k.wkui
  pub slaki : d.slaki ≡ k.slaki

pub start-same : (u : Option Mailbox) (c : Core) → Same (started_by u c).control c.control
unfolding started_by
start-same None c = record { mcr = refl; timer = refl; mode = refl; wkui = refl; slaki = refl }
start-same (Some m) c = record { mcr = refl; timer = refl; mode = refl; wkui = refl; slaki = refl }

pub end_same : (u : Option Mailbox) (c : Core) (v : List ℕ) (r : ℕ) → Same (ended_by u c v r).control c.control
unfolding ended_by control.errors_changed
end_same None c v r = record { mcr = refl; timer = refl; mode = refl; wkui = refl; slaki = refl }
end_same (Some m) c v r = record { mcr = refl; timer = refl; mode = refl; wkui = refl; slaki = refl }
