-- The bits that the table of the codes speaks of, in every state.
use mathlib.Core.Bool.{Bool, true, false, not, ◌&&◌, ◌||◌, beq, not-not}
use mathlib.Core.Path.{◌≡◌, refl, ap, ◌∙◌}
use Prim.Native.Nat.{ℕ, ◌+◌}
use Rattle.base.specs.Base.{bit, one}
use Rattle.model.specs.Queue.{holds, is_empty}
use Rattle.model.specs.Control.{is_sleep, is_initialization, is_normal}
use Rattle.model.specs.Control as control
use Rattle.model.specs.Registers.{has_request, is_free}
use Rattle.model.specs.Codes.{any_pending}
use Rattle.model.specs.Shown as read
use Rattle.model.specs.Shown.{inak, slak, in_normal, txm, epvf, boff, lbkm, silm, finit, fact}
use Rattle.model.specs.declared.Mailbox.{Mailbox}
use Rattle.model.specs.declared.Mailbox.TheVariants.{M0, M1, M2}
use Rattle.model.specs.declared.RequestOrder.{RequestOrder}
use Rattle.model.specs.declared.Mode.{Mode}
use Rattle.model.specs.declared.Mode.TheVariants.{Sleep, Initialization, Normal}
use Rattle.model.specs.declared.Bank.{Bank}
use Rattle.model.specs.declared.Controller.{Controller}
use Rattle.base.proofs.Choices.{beq_eq}
use Rattle.model.proofs.Orders.{each-order}
use Rattle.model.proofs.ShownWords.{msr-shown, esr-shown, btr-shown, fmr-shown, fa1r-shown, msr-inak, msr-slak, msr-txm, esr-epvf, esr-boff}
use Rattle.model.proofs.StatusWord.{flags-shown}

neither : (m : Mode) → (not (is_initialization m) && not (is_sleep m)) ≡ is_normal m
neither Normal = refl
neither Initialization = refl
neither Sleep = refl

fmr-finit : (b : Bool) → bit 0 (0x2A1C0E00 + one b) ≡ b
fmr-finit true = refl
fmr-finit false = refl

abbrev some_held : RequestOrder → Bool
some_held o = holds o M0 || holds o M1 || holds o M2

-- an order is empty exactly when no mailbox is in it
held-some : (o : RequestOrder) → some_held o ≡ not (is_empty o)
held-some o = beq_eq _ _ (each-order (λ o. beq (some_held o) (not (is_empty o))) refl o)

module _ (z : Controller) where
  pub inak-read : inak z ≡ is_initialization z.core.control.mode
  inak-read = ap (λ (w : ℕ). bit 0 w) (msr-shown z) ∙ msr-inak z.core.control (is_free z.core)

  pub slak-read : slak z ≡ is_sleep z.core.control.mode
  slak-read = ap (λ (w : ℕ). bit 1 w) (msr-shown z) ∙ msr-slak z.core.control (is_free z.core)

  pub normal-read : in_normal z ≡ is_normal z.core.control.mode
  normal-read = (λ i. not (inak-read i) && not (slak-read i)) ∙ neither z.core.control.mode

  pub txm-read : txm z ≡ not (is_free z.core)
  txm-read = ap (λ (w : ℕ). bit 8 w) (msr-shown z) ∙ msr-txm z.core.control (is_free z.core)

  pub free_read : not (txm z) ≡ is_free z.core
  free_read = ap not txm-read ∙ not-not (is_free z.core)

  pub tme-read : (m : Mailbox) → read.tme m z ≡ not (has_request z.core m)
  tme-read m = (flags-shown z m).tme

  pub held-read : (m : Mailbox) → not (read.tme m z) ≡ has_request z.core m
  held-read m = ap not (tme-read m) ∙ not-not (has_request z.core m)

  pub pending-read : any_pending z ≡ not (is_empty z.core.transmit.queue.order)
  pending-read = (λ i. held-read M0 i || held-read M1 i || held-read M2 i) ∙ held-some z.core.transmit.queue.order

  pub epvf-read : epvf z ≡ control.epvf z.core.errors
  epvf-read = ap (λ (w : ℕ). bit 1 w) (esr-shown z) ∙ esr-epvf z.core.errors

  pub boff-read : boff z ≡ control.boff z.core.errors
  boff-read = ap (λ (w : ℕ). bit 2 w) (esr-shown z) ∙ esr-boff z.core.errors

  pub lbkm-read : lbkm z ≡ control.lbkm z.core.control
  lbkm-read = ap (λ (w : ℕ). bit 30 w) (btr-shown z)

  pub silm-read : silm z ≡ control.silm z.core.control
  silm-read = ap (λ (w : ℕ). bit 31 w) (btr-shown z)

  pub finit-read : finit z ≡ z.core.filters.finit
  finit-read = ap (λ (w : ℕ). bit 0 w) (fmr-shown z) ∙ fmr-finit z.core.filters.finit

  pub active-read : (b : Bank) → fact b z ≡ bit b.0 z.core.filters.activation
  active-read b = ap (λ (w : ℕ). bit b.0 w) (fa1r-shown z)
