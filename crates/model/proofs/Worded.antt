-- The word of a step: 0 but for a read and a start, which says the mailbox whose frame goes on the wire.
use mathlib.Core.Bool.{true, false, not, true≢false, ◌||◌}
use mathlib.Core.Path.{◌≡◌, refl, sym, subst, ap, ◌∙◌}
use Prim.Native.Nat.{ℕ, zero, suc, ◌+◌, ◌≤◌}
use native.Mathlib.Omega.{arith}
use lib.Dec.{eqb}
use Rattle.base.specs.Base.{bit}
use Rattle.model.specs.Queue.{number, numbered, is_nobody}
use Rattle.model.specs.Mailboxes.{first_of}
use Rattle.model.specs.Control.{txfp}
use Rattle.model.specs.Step.{step, answered, word_of, refusal}
use Rattle.model.specs.Requests.{starts, event, entry}
use Rattle.model.specs.Codes.{StepWords}
use Rattle.model.specs.Shown.{tsr, txm, tme, is_read, is_start}
use Rattle.model.specs.declared.Mailbox.{Mailbox}
use Rattle.model.specs.declared.Controller.{Controller}
use Rattle.model.specs.declared.Step as steps
use Rattle.model.specs.declared.Step.TheVariants.{Reset, Read, Write, Idle, BitTimes, Activity, Start, Outcome, Receive, ReceiveError}
use Rattle.model.proofs.ReadFields.{txm-read, tme-read}
use Rattle.model.proofs.StatusWord.{sender_small}
use Rattle.base.proofs.Choices.{pick_cases}
use Rattle.model.proofs.Views.{View, view_next, Granted}
use Rattle.model.proofs.Follows.{view_of, follows}

no_word : (z : Controller) (s : steps.Step) → is_read s || is_start s ≡ false → word_of z.core z.banks s ≡ 0
unfolding word_of
no_word z Reset h = refl
no_word z (Read o) h = absurd (true≢false h)
no_word z (Write o w) h = refl
no_word z Idle h = refl
no_word z (BitTimes n) h = refl
no_word z Activity h = refl
no_word z Start h = absurd (true≢false h)
no_word z (Outcome r) h = refl
no_word z (Receive x) h = refl
no_word z (ReceiveError k n) h = refl

number-numbered : (n : ℕ) → n ≤ 2 → number (numbered n) ≡ n
number-numbered zero h = refl
number-numbered (suc zero) h = refl
number-numbered (suc (suc zero)) h = refl
number-numbered (suc (suc (suc n))) h = absurd (omega arith)

module _ (z : Controller) where
  word_none : (s : steps.Step) → is_read s || is_start s ≡ false → (step z s).word ≡ 0
  unfolding step answered
  word_none s h = pick_cases (λ (w : ℕ). w ≡ 0) (eqb (refusal z.core s) 0) _ _ (λ _. no_word z s h) (λ _. refl)

  start_small : (step z Start).word ≤ 2
  unfolding step answered word_of
  start_small = pick_cases (λ (w : ℕ). w ≤ 2) (eqb (refusal z.core Start) 0) _ _ (λ _. sender_small (first_of (txfp z.core.control) z.core.transmit)) (λ _. omega arith)

  -- the mailbox that an accepted start takes
  abbrev taken : Mailbox
  taken = numbered (step z Start).word

  start-event : (step z Start).code ≡ 0 → event (entry Start (step z Start)) ≡ starts taken
  start-event h = rw h

  start-held : (step z Start).code ≡ 0 → tme taken z ≡ false
  start-held h = tme-read z taken ∙ ap not (subst (Granted (view_of z.core)) (start-event h) (follows z Start).granted).held

  start-on : (step z Start).code ≡ 0 → txm (step z Start).controller ≡ true
  start-on h =
      let e : view_of (step z Start).controller.core ≡ view_next (view_of z.core) (starts taken) = (follows z Start).view ∙ ap (view_next (view_of z.core)) (start-event h) in
      txm-read (step z Start).controller ∙ ap (λ (d : View). not (is_nobody d.queue.transmitting)) e

-- the word is 0 but for a read and a start, and that of a start is the number of a mailbox that isn't empty
pub step_words_lem : (z : Controller) → StepWords z
step_words_lem z = record {
  none = word_none z;
  mailbox = start_small z;
  pending = λ h. ap (λ (n : ℕ). bit (26 + n) (tsr z)) (sym (number-numbered (step z Start).word (start_small z))) ∙ start-held z h;
  on_wire = start-on z;
}
