-- CODE and LOW in the words of priority.
use Rattle.std.proofs.Common.{Option, Some, None}
use mathlib.Core.Bool.{Bool, true, false, not, false≢true}
use mathlib.Core.Path.{◌≡◌, refl, sym, ap, ◌∙◌}
use Prim.Native.Nat.{◌<◌, ◌≤◌}
use native.Mathlib.Omega.{arith}
use borrow.Author.Tests.{not-false}
use lib.ListN.{length}
use Rattle.model.specs.Queue.{number, holds, without, is_from, is_empty, two_or_more, besides, order_numbers, sender_numbers}
use Rattle.model.specs.Mailboxes.{identifiers, last_of, tme, low, code}
use Rattle.model.specs.Control.{txfp}
use Rattle.model.specs.Reachable.{distinct, InRange}
use Rattle.model.specs.Shown as read
use Rattle.model.specs.Arbitration.{requests, IsLast, SomeMailbox}
use Rattle.model.specs.TransmitStatus.{StatusWord}
use Rattle.model.specs.declared.Mailbox.{Mailbox}
use Rattle.model.specs.declared.Mailbox.TheVariants.{M0, M1, M2}
use Rattle.model.specs.declared.RequestOrder.{RequestOrder}
use Rattle.model.specs.declared.RequestOrder.TheVariants.{Empty, One, Two, Three}
use Rattle.model.specs.declared.Transmit.{Transmit}
use Rattle.model.specs.declared.Controller.{Controller}
use Rattle.base.proofs.Choices.{imp, imp_Is, Is-not, and_l, and_r}
use Rattle.model.proofs.Orders.{each-order, same-eq}
use Rattle.model.proofs.StatusWord.{flags-shown, code-shown}
use Rattle.model.proofs.Arbitrated.{each_of, has-order, same_self, last_somebody, is_last, last_unique, waiting_by}

-- ---- who is left besides the one on the wire

pub from_is : (v : Option Mailbox) (m : Mailbox) → is_from v m ≡ true → v ≡ Some m
from_is None m h = absurd (false≢true h)
from_is (Some a) m h = ap Some (same-eq a m h)

held-some : (o : RequestOrder) (m : Mailbox) → holds o m ≡ true → is_empty o ≡ false
held-some o m h = Is-not _ (imp_Is (each_of (λ o m. imp (holds o m) (not (is_empty o))) refl o m) h)

-- of two or more one at least is not on the wire
two-some : (v : Option Mailbox) (o : RequestOrder) → distinct o ≡ true → two_or_more o ≡ true → is_empty (besides v o) ≡ false
two-some None o d h = Is-not _ (imp_Is (each-order (λ o. imp (two_or_more o) (not (is_empty o))) refl o) h)
two-some (Some y) o d h = Is-not _ (imp_Is (imp_Is (each_of (λ o y. imp (distinct o) (imp (two_or_more o) (not (is_empty (without o y))))) refl o y) d) h)

three-two : (o : RequestOrder) → holds o M0 ≡ true → holds o M1 ≡ true → holds o M2 ≡ true → two_or_more o ≡ true
three-two o a b c = imp_Is (imp_Is (imp_Is (each-order (λ o. imp (holds o M0) (imp (holds o M1) (imp (holds o M2) (two_or_more o)))) refl o) a) b) c

two_long : (o : RequestOrder) → two_or_more o ≡ true → 2 ≤ length (order_numbers o)
two_long Empty h = absurd (false≢true h)
two_long (One a) h = absurd (false≢true h)
two_long (Two a b) h = omega arith
two_long (Three a b c) h = omega arith

long_two : (o : RequestOrder) → 2 ≤ length (order_numbers o) → two_or_more o ≡ true
long_two Empty h = absurd (let n : 2 ≤ 0 = h in omega arith)
long_two (One a) h = absurd (let n : 2 ≤ 1 = h in omega arith)
long_two (Two a b) h = refl
long_two (Three a b c) h = refl

-- ---- the word

module _ (z : Controller) (i : InRange z) where
  abbrev t : Transmit
  t = z.core.transmit

  abbrev p : Bool
  p = txfp z.core.control

  d : distinct t.queue.order ≡ true
  d = i.core.transmit.queue.once

  lowest-empty : (m : Mailbox) → tme t m ≡ true → ((x : Mailbox) → number x < number m → tme t x ≡ false) → code p t ≡ number m
  unfolding code
  lowest-empty M0 h f = rw h
  lowest-empty M1 h f = rw (f M0 (omega arith), h)
  lowest-empty M2 h f = rw (f M0 (omega arith), f M1 (omega arith), h)

  none-empty : ((x : Mailbox) → tme t x ≡ false) → SomeMailbox (λ x. (code p t ≡ number x) × IsLast z x)
  unfolding code
  none-empty f =
      let s = last_somebody p (identifiers t.mailboxes) (besides t.queue.transmitting t.queue.order)
      (two-some t.queue.transmitting t.queue.order d (three-two t.queue.order (not-false _ (f M0)) (not-false _ (f M1)) (not-false _ (f M2)))) in
      record { mailbox = s.mailbox; meets = (rw (f M0, f M1, f M2, s.is), is_last z d s.mailbox s.is) }

  shows_last : (m : Mailbox) → low p t m ≡ true → (2 ≤ length (requests z)) × IsLast z m
  unfolding low
  shows_last m h = (
    two_long t.queue.order (and_l (two_or_more t.queue.order) (is_from (last_of p t) m) h),
    is_last z d m (from_is (last_of p t) m (and_r (two_or_more t.queue.order) (is_from (last_of p t) m) h)),
  )

  last-shown : (m : Mailbox) → 2 ≤ length (requests z) → IsLast z m → low p t m ≡ true
  unfolding low
  last-shown m n l =
      let s = last_somebody p (identifiers t.mailboxes) (besides t.queue.transmitting t.queue.order)
      (held-some (besides t.queue.transmitting t.queue.order) m (sym (waiting_by z d m) ∙ l.pending)) in
      let e : s.mailbox ≡ m = last_unique z d s.mailbox m (is_last z d s.mailbox s.is) l in
      rw (long_two t.queue.order n, s.is, e) (same_self m)

  some-last : 2 ≤ length (requests z) → SomeMailbox (λ x. read.low x z ≡ true)
  some-last n =
      let s = last_somebody p (identifiers t.mailboxes) (besides t.queue.transmitting t.queue.order) (two-some t.queue.transmitting t.queue.order d (long_two t.queue.order n)) in
      record { mailbox = s.mailbox; meets = (flags-shown z s.mailbox).low ∙ last-shown s.mailbox n (is_last z d s.mailbox s.is) }

  pub status-word : (m : Mailbox) → StatusWord z m
  status-word m = record {
    empty = (flags-shown z m).tme ∙ ap not (sym (has-order t.queue.order m));
    code_empty = λ h f. code-shown z ∙ lowest-empty m (sym (flags-shown z m).tme ∙ h) (λ x l. sym (flags-shown z x).tme ∙ f x l);
    code_full = λ f. rw (code-shown z) (none-empty (λ x. sym (flags-shown z x).tme ∙ f x));
    low_last = λ h. shows_last m (sym (flags-shown z m).low ∙ h);
    lowest = λ n l. (flags-shown z m).low ∙ last-shown m n l;
    low_some = some-last;
    abrq = λ h. ap sender_numbers (from_is t.queue.transmitting m (i.core.transmit.queue.aborts m (sym (flags-shown z m).abrq ∙ h)));
    reserved = (flags-shown z m).reserved;
  }
