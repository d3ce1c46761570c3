-- Requests and mailboxes stay in their ranges.
use Rattle.std.proofs.Common.{Option, Some, None, Bool}
use mathlib.Core.Bool.{Bool, true, false, not, ◌&&◌, false≢true}
use mathlib.Core.Path.{◌≡◌, refl, sym, ap, ◌∙◌}
use Rattle.base.specs.Base.{pick}
use Rattle.model.specs.Queue.{same, at, put, holds, is_from, is_nobody, no_requests, requested, emptied, remembered, aborted, aborted_all, sending, off_wire}
use Rattle.model.specs.Mailboxes.{aborts_pending}
use Rattle.model.specs.Reachable.{distinct, QueueRange}
use Rattle.model.specs.declared.Mailbox.{Mailbox}
use Rattle.model.specs.declared.Mailbox.TheVariants.{M0, M1, M2}
use Rattle.model.specs.declared.Queue.{Queue}
use Rattle.base.proofs.Choices.{pick_cases, opposed, Is-not}
use Rattle.model.proofs.Orders.{distinct_without, distinct-joined, gone_without, held-before-without}
use Rattle.model.proofs.Views.{carried-without, carried-joined}
use Rattle.model.specs.declared.ByMailbox.{ByMailbox}

-- ---- a bit of three set or cleared

-- what is set was set before
cleared-bit : (f : ByMailbox Bool) (m x : Mailbox) → at (put f m false) x ≡ true → at f x ≡ true
cleared-bit f M0 M0 h = absurd (false≢true h)
cleared-bit f M0 M1 h = h
cleared-bit f M0 M2 h = h
cleared-bit f M1 M0 h = h
cleared-bit f M1 M1 h = absurd (false≢true h)
cleared-bit f M1 M2 h = h
cleared-bit f M2 M0 h = h
cleared-bit f M2 M1 h = h
cleared-bit f M2 M2 h = absurd (false≢true h)

-- what is set was set before, or is m's
set-bit : (P : Mailbox → Type 0) (f : ByMailbox Bool) (m x : Mailbox) → P m → (at f x ≡ true → P x) → at (put f m true) x ≡ true → P x
set-bit P f M0 M0 p g h = p
set-bit P f M0 M1 p g h = g h
set-bit P f M0 M2 p g h = g h
set-bit P f M1 M0 p g h = g h
set-bit P f M1 M1 p g h = p
set-bit P f M1 M2 p g h = g h
set-bit P f M2 M0 p g h = g h
set-bit P f M2 M1 p g h = g h
set-bit P f M2 M2 p g h = p

-- where only m's can be set and m's is not, none is
none-set : (f : ByMailbox Bool) (m x : Mailbox) → (at f x ≡ true → same m x ≡ true) → at f m ≡ false → at f x ≡ true → false ≡ true
none-set f M0 M0 g n h = sym n ∙ h
none-set f M0 M1 g n h = g h
none-set f M0 M2 g n h = g h
none-set f M1 M0 g n h = g h
none-set f M1 M1 g n h = sym n ∙ h
none-set f M1 M2 g n h = g h
none-set f M2 M0 g n h = g h
none-set f M2 M1 g n h = g h
none-set f M2 M2 g n h = sym n ∙ h

cleared-off : (f : ByMailbox Bool) (m : Mailbox) → at (put f m false) m ≡ false
cleared-off f M0 = refl
cleared-off f M1 = refl
cleared-off f M2 = refl

-- ---- requests

-- with a free wire no abort is remembered
free_none : (t : Option Mailbox) (m : Mailbox) → is_nobody t ≡ true → is_from t m ≡ false
free_none None m h = refl
free_none (Some x) m h = absurd (false≢true h)

pub no_requests-range : QueueRange no_requests
no_requests-range = record { once = refl; carries = refl; aborts = none }
  where
    none : (m : Mailbox) → at no_requests.aborts m ≡ true → is_from None m ≡ true
    none M0 h = h
    none M1 h = h
    none M2 h = h

module _ (q : Queue) (m : Mailbox) (r : QueueRange q) where
  emptied-range : is_from q.transmitting m ≡ false → QueueRange (emptied q m)
  emptied-range n = record {
    once = distinct_without q.order r.once m;
    carries = carried-without q.transmitting q.order m r.carries n;
    aborts = λ x h. r.aborts x (cleared-bit q.aborts m x h);
  }

  remembered-range : is_from q.transmitting m ≡ true → QueueRange (remembered q m)
  remembered-range y = record {
    once = r.once;
    carries = r.carries;
    aborts = λ x h. set-bit (λ (x : Mailbox). is_from q.transmitting x ≡ true) q.aborts m x y (r.aborts x) h;
  }

  pub aborted-range : (b : Bool) → QueueRange (aborted b q m)
  unfolding aborted
  aborted-range b =
      pick_cases QueueRange (b && holds q.order m) _ _
      (λ _. pick_cases QueueRange (is_from q.transmitting m) _ _ remembered-range emptied-range)
      (λ _. r)

  pub requested-range : holds q.order m ≡ false → QueueRange (requested q m)
  requested-range n = record {
    once = distinct-joined q.order r.once m (ap not n);
    carries = carried-joined q.transmitting q.order m r.carries;
    aborts = r.aborts;
  }

  pub sending-range : is_nobody q.transmitting ≡ true → holds q.order m ≡ true → QueueRange (sending q m)
  sending-range free h = record {
    once = r.once;
    carries = h;
    aborts = λ x on. opposed (r.aborts x on) (free_none q.transmitting x free);
  }

  -- the transmission of m ends; m's own remembered abort ends its request
  pub off_wire-range : q.transmitting ≡ Some m → (over : Bool) → (over ≡ false → at q.aborts m ≡ false) → QueueRange (off_wire q m over)
  unfolding off_wire
  off_wire-range e over k =
      let own : (x : Mailbox) → at q.aborts x ≡ true → same m x ≡ true = λ x on. rw e at (r.aborts x on) in
      pick_cases QueueRange over _ _
      (λ _. record {
        once = distinct_without q.order r.once m;
        carries = refl;
        aborts = λ x. none-set (put q.aborts m false) m x (λ on. own x (cleared-bit q.aborts m x on)) (cleared-off q.aborts m);
      })
      (λ no. record { once = r.once; carries = refl; aborts = λ x. none-set q.aborts m x (own x) (k no) })

pub aborted_all-range : (q : Queue) (f : ByMailbox Bool) → QueueRange q → QueueRange (aborted_all q f)
unfolding aborted_all
aborted_all-range q f r = aborted-range _ M2 (aborted-range _ M1 (aborted-range q M0 r f.m0) f.m1) f.m2

-- ---- what an abort leaves

pub aborted-wire : (b : Bool) (q : Queue) (m : Mailbox) → (aborted b q m).transmitting ≡ q.transmitting
unfolding aborted
aborted-wire b q m =
    pick_cases (λ (p : Queue). p.transmitting ≡ q.transmitting) (b && holds q.order m) _ _
    (λ _. pick_cases (λ (p : Queue). p.transmitting ≡ q.transmitting) (is_from q.transmitting m) _ _ (λ _. refl) (λ _. refl))
    (λ _. refl)

pub aborted_all-wire : (q : Queue) (f : ByMailbox Bool) → (aborted_all q f).transmitting ≡ q.transmitting
unfolding aborted_all
aborted_all-wire q f = aborted-wire f.m2 _ M2 ∙ (aborted-wire f.m1 _ M1 ∙ aborted-wire f.m0 q M0)

-- it adds no request
pub held-before-aborted : (b : Bool) (q : Queue) (m x : Mailbox) → holds (aborted b q m).order x ≡ true → holds q.order x ≡ true
unfolding aborted
held-before-aborted b q m x =
    pick_cases (λ (p : Queue). holds p.order x ≡ true → holds q.order x ≡ true) (b && holds q.order m) _ _
    (λ _. pick_cases (λ (p : Queue). holds p.order x ≡ true → holds q.order x ≡ true) (is_from q.transmitting m) _ _
    (λ _ h. h)
    (λ _ h. held-before-without q.order x m h))
    (λ _ h. h)

-- a request that is still there was not aborted as a pending one
pub kept-not-aborted : (b : Bool) (q : Queue) (m : Mailbox) → distinct q.order ≡ true → holds (aborted b q m).order m ≡ true → aborts_pending q m b ≡ false
unfolding aborted
kept-not-aborted b q m ok = kept (b && holds q.order m) (is_from q.transmitting m)
  where
    kept : (t f : Bool) → holds (pick t (pick f (remembered q m) (emptied q m)) q).order m ≡ true → (t && not f) ≡ false
    kept true true h = refl
    kept true false h = opposed h (Is-not _ (gone_without q.order ok m))
    kept false f h = refl
