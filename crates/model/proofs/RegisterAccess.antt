-- A read gives the word of the register at its offset; an accepted write does what the register's rule says, and the mode rule follows.
use Rattle.std.proofs.Common.{Option, Some, ℕ}
use mathlib.Core.Bool.{Bool, true, false, true≢false}
use mathlib.Core.Path.{◌≡◌, refl, sym, ap, ◌∙◌}
use Prim.Native.Nat.{ℕ}
use native.Mathlib.Omega.{arith}
use lib.Dec.{eqb}
use borrow.Author.Tests.{eq-eqb, eqb-true}
use Rattle.base.specs.Base.{pick}
use Rattle.model.specs.Queue.{number, is_empty}
use Rattle.model.specs.Mailboxes.{identifiers, sooner, first_in_wire_order, first, first_of, started}
use Rattle.model.specs.Control.{txfp}
use Rattle.model.specs.Registers.{register_at, is_absent, written, write_refusal, read_word, with_transmit}
use Rattle.model.specs.Step.{step, answered, core_after, refusal, word_of, applied, settled, started_by, may_start}
use Rattle.model.specs.Codes.{offset_of, IsPresent, reads}
use Rattle.model.specs.ReadBack.{Accepts, after_write}
use Rattle.model.specs.declared.Mailbox.{Mailbox}
use Rattle.model.specs.declared.RequestOrder.{RequestOrder}
use Rattle.model.specs.declared.RequestOrder.TheVariants.{Empty, One, Two, Three}
use Rattle.model.specs.declared.Core.{Core}
use Rattle.model.specs.declared.Controller.{Controller}
use Rattle.model.specs.declared.Register.{Register}
use Rattle.model.specs.declared.Step as steps
use Rattle.model.specs.declared.Step.TheVariants.{Start}
use Rattle.base.proofs.Choices.{opposed, pick_cases}
use Rattle.model.proofs.Mapped.{map}
use Rattle.model.proofs.Follows.{Startable, startable}
use Rattle.model.specs.declared.ByMailbox.{ByMailbox}

-- ---- accesses

pub read_word_lem : (r : Register) (z : Controller) → IsPresent r → is_absent r ≡ false → reads z r ≡ read_word r z.core z.banks
unfolding step answered refusal word_of
read_word_lem r z p a = rw (map.found r p, a)

pub write_core : (r : Register) (z : Controller) (w : ℕ) → IsPresent r → Accepts z r w → (after_write z r w).core ≡ settled (written r z.core w)
unfolding step answered core_after refusal applied
write_core r z w p h = rw (h, map.found r p)

pub accepts : (r : Register) (z : Controller) (w : ℕ) → IsPresent r → write_refusal r z.core ≡ 0 → Accepts z r w
unfolding step answered refusal
accepts r z w p h = rw (map.found r p, h)

-- the code 0 is that of the register
pub accepted : (r : Register) (z : Controller) (w : ℕ) → IsPresent r → Accepts z r w → write_refusal r z.core ≡ 0
unfolding step answered refusal
accepted r z w p h = rw (map.found r p) at h

-- no register is at two offsets
pub elsewhere : {A : Type 0} (o : ℕ) (r : Register) → register_at o ≡ r → is_absent r ≡ false → eqb o (offset_of r) ≡ false → A
elsewhere o r e a n =
    let k : offset_of r ≡ o = ap offset_of (sym e) ∙ map.only o (ap is_absent e ∙ a) in
    opposed (eq-eqb o (offset_of r) (sym k)) n

-- what a step leaves it leaves whether it is accepted or not
pub step_keeps : {A : Type 0} (f : Core → A) (z : Controller) (s : steps.Step) → ((c : Core) → f (settled c) ≡ f c)
    → ((step z s).code ≡ 0 → f (applied z.core z.banks s) ≡ f z.core) → f (step z s).controller.core ≡ f z.core
unfolding step answered core_after
step_keeps f z s rule h =
    pick_cases (λ (d : Core). f d ≡ f z.core) (eqb (refusal z.core s) 0) _ _
    (λ e. rule (applied z.core z.banks s) ∙ h (eqb-true _ _ e))
    (λ _. refl)

-- ---- a start

-- where there is a request, there is a first one
pub record Somebody (v : Option Mailbox) : Type 0 where
  pub mailbox : Mailbox
  pub is : v ≡ Some mailbox

pub first_somebody : (b : Bool) (i : ByMailbox ℕ) (o : RequestOrder) → is_empty o ≡ false → Somebody (first b i o)
unfolding first first_in_wire_order
first_somebody b i Empty e = absurd (true≢false e)
first_somebody true i (One x) e = record { mailbox = x; is = refl }
first_somebody true i (Two x y) e = record { mailbox = x; is = refl }
first_somebody true i (Three x y u) e = record { mailbox = x; is = refl }
first_somebody false i (One x) e = record { mailbox = x; is = refl }
first_somebody false i (Two x y) e = record { mailbox = sooner i x y; is = refl }
first_somebody false i (Three x y u) e = record { mailbox = sooner i (sooner i x y) u; is = refl }

-- an accepted start: some mailbox is first, and goes on the wire
pub record Starts (z : Controller) : Type 0 where
  pub may : Startable z.core
  pub mailbox : Mailbox
  pub is : first_of (txfp z.core.control) z.core.transmit ≡ Some mailbox
  pub word : (step z Start).word ≡ number mailbox
  pub core : (step z Start).controller.core ≡ settled (with_transmit z.core (started z.core.transmit mailbox z.core.control.timer))

start-code : (b : Bool) → ◌≡◌ {A = ℕ} (pick b 0 4) 0 → b ≡ true
start-code true h = refl
start-code false h = absurd (let n : ◌≡◌ {A = ℕ} 4 0 = h in omega arith)

pub start-accepted : (z : Controller) → (step z Start).code ≡ 0 → Starts z
unfolding step answered core_after refusal word_of applied started_by
start-accepted z h =
    let k = startable z.core (start-code (may_start z.core) h) in
    let f = first_somebody (txfp z.core.control) (identifiers z.core.transmit.mailboxes) z.core.transmit.queue.order k.asked in
    record { may = k; mailbox = f.mailbox; is = f.is; word = rw (h, f.is); core = rw (h, f.is) }
