-- The first in priority goes on the wire; the last in priority is the one that no pending mailbox comes behind.
use Rattle.std.proofs.Common.{Option, Some, None, ℕ}
use mathlib.Core.Bool.{Bool, true, false, not, ◌&&◌, ◌||◌, beq, true≢false, false≢true, and-true}
use mathlib.Core.List.{[], ◌∷◌}
use mathlib.Core.Path.{◌≡◌, refl, sym, ap, ap₂, subst, ◌∙◌}
use Prim.Native.Nat.{ℕ, ◌+◌, ◌*◌, ◌<◌, ◌≤◌}
use native.Mathlib.Omega.{arith}
use lib.Dec.{eqb, ltb}
use borrow.Author.Tests.{eqb-false, ltb-true, ltb-false, lt-ltb}
use Rattle.base.specs.Base.{pick, bit}
use Rattle.model.specs.Queue.{number, same, holds, without, oldest, newest, is_from, is_nobody, is_empty, besides, order_numbers, sender_numbers}
use Rattle.model.specs.Mailboxes.{at, identifiers, wire_key, key, before, sooner, later, first_in_wire_order, last_in_wire_order, first, last, last_of, started}
use Rattle.model.specs.Control.{txfp}
use Rattle.model.specs.Step.{step, settled}
use Rattle.model.specs.Reachable.{distinct, carried}
use Rattle.model.specs.ReadBack.{has}
use Rattle.model.specs.Shown.{ti}
use Rattle.model.specs.Arbitration.{is_pending, earlier, goes_before, precedes, IsFirst, IsLast, StartsFirst}
use Rattle.model.specs.declared.Mailbox.{Mailbox}
use Rattle.model.specs.declared.Mailbox.TheVariants.{M0, M1, M2}
use Rattle.model.specs.declared.RequestOrder.{RequestOrder}
use Rattle.model.specs.declared.RequestOrder.TheVariants.{Empty, One, Two, Three}
use Rattle.model.specs.declared.Core.{Core}
use Rattle.model.specs.declared.Controller.{Controller}
use Rattle.model.specs.declared.Step.TheVariants.{Start}
use Rattle.base.proofs.Choices.{Is, imp, imp_Is, not-Is, Is-not, and_l, beq_eq, opposed, pick_cases}
use Rattle.model.proofs.Orders.{mailboxes, orders, each-mailbox, each-order, each, same-eq, same_comm}
use Rattle.model.proofs.Follows.{first-carried, from-eq}
use Rattle.model.proofs.RegisterAccess.{Somebody, start-accepted}
use Rattle.model.proofs.WireBits.{goes-key, without-txrq, number_small}
use Rattle.model.proofs.ShownWords.{mcr-shown, ti-shown}
use Rattle.model.specs.declared.ByMailbox.{ByMailbox}

-- ---- computed tests over fewer mailboxes than `each` takes

pub each_pair : (p : Mailbox → Mailbox → Bool) → Is (mailboxes (λ a. mailboxes (λ b. p a b))) → (a b : Mailbox) → Is (p a b)
each_pair p h a b = each-mailbox (p a) (each-mailbox (λ a. mailboxes (λ b. p a b)) h a) b

pub each_triple : (p : Mailbox → Mailbox → Mailbox → Bool) → Is (mailboxes (λ a. mailboxes (λ b. mailboxes (λ c. p a b c)))) → (a b c : Mailbox) → Is (p a b c)
each_triple p h a = each_pair (p a) (each-mailbox (λ a. mailboxes (λ b. mailboxes (λ c. p a b c))) h a)

pub each_of : (p : RequestOrder → Mailbox → Bool) → Is (orders (λ o. mailboxes (λ m. p o m))) → (o : RequestOrder) (m : Mailbox) → Is (p o m)
each_of p h o m = each-mailbox (p o) (each-order (λ o. mailboxes (λ m. p o m)) h o) m

pub each_two : (p : RequestOrder → Mailbox → Mailbox → Bool) → Is (orders (λ o. mailboxes (λ m. mailboxes (λ x. p o m x)))) → (o : RequestOrder) (m x : Mailbox) → Is (p o m x)
each_two p h o = each_pair (p o) (each-order (λ o. mailboxes (λ m. mailboxes (λ x. p o m x))) h o)

-- ---- numbers of mailboxes

pub same_numbers : (a b : Mailbox) → eqb (number a) (number b) ≡ same a b
same_numbers a b = beq_eq _ _ (each_pair (λ a b. beq (eqb (number a) (number b)) (same a b)) refl a b)

pub has-order : (o : RequestOrder) (m : Mailbox) → has (order_numbers o) (number m) ≡ holds o m
has-order o m = beq_eq _ _ (each_of (λ o m. beq (has (order_numbers o) (number m)) (holds o m)) refl o m)

pub has-wire : (v : Option Mailbox) (m : Mailbox) → has (sender_numbers v) (number m) ≡ is_from v m
has-wire None m = refl
has-wire (Some a) m = beq_eq _ _ (each_pair (λ a m. beq (has (sender_numbers (Some a)) (number m)) (is_from (Some a) m)) refl a m)

-- ---- the definition's first and last

-- what holds of all mailboxes of an order holds of each that it has
abbrev All : (Mailbox → Type 0) → RequestOrder → Type 0
All P Empty = Unit {0}
All P (One a) = P a
All P (Two a b) = P a × P b
All P (Three a b c) = P a × P b × P c

or_else : {A : Type 0} (p q : Bool) → p || q ≡ true → (p ≡ true → A) → (q ≡ true → A) → A
or_else true q h f g = f refl
or_else false q h f g = g h

all_held : (P : Mailbox → Type 0) (o : RequestOrder) (x : Mailbox) → holds o x ≡ true → All P o → P x
all_held P Empty x h p = absurd (false≢true h)
all_held P (One a) x h p = subst P (same-eq a x h) p
all_held P (Two a b) x h p = or_else (same a x) (same b x) h (λ e. subst P (same-eq a x e) p.0) (λ e. subst P (same-eq b x e) p.1)
all_held P (Three a b c) x h p =
    or_else (same a x || same b x) (same c x) h
    (λ k. or_else (same a x) (same b x) k (λ e. subst P (same-eq a x e) p.0) (λ e. subst P (same-eq b x e) p.1))
    (λ e. subst P (same-eq c x e) p.2)

module _ (i : ByMailbox ℕ) where
  sooner-low : (a b : Mailbox) → (key i (sooner i a b) ≤ key i a) × (key i (sooner i a b) ≤ key i b)
  unfolding sooner before
  sooner-low a b =
      pick_cases (λ (m : Mailbox). (key i m ≤ key i a) × (key i m ≤ key i b)) (ltb (key i a) (key i b)) a b
      (λ e. let l : key i a < key i b = ltb-true _ _ e in (omega arith, omega arith))
      (λ e. let l : key i b ≤ key i a = ltb-false _ _ e in (l, omega arith))

  later-high : (a b : Mailbox) → (key i a ≤ key i (later i a b)) × (key i b ≤ key i (later i a b))
  unfolding later before
  later-high a b =
      pick_cases (λ (m : Mailbox). (key i a ≤ key i m) × (key i b ≤ key i m)) (ltb (key i a) (key i b)) b a
      (λ e. let l : key i a < key i b = ltb-true _ _ e in (omega arith, omega arith))
      (λ e. let l : key i b ≤ key i a = ltb-false _ _ e in (omega arith, l))

  first-lowest : (o : RequestOrder) (m : Mailbox) → first_in_wire_order i o ≡ Some m → All (λ (x : Mailbox). key i m ≤ key i x) o
  unfolding first_in_wire_order
  first-lowest Empty m e = tt
  first-lowest (One a) m e = rw (from-eq a m e) (omega arith)
  first-lowest (Two a b) m e = rw (← (from-eq (sooner i a b) m e)) (sooner-low a b)
  first-lowest (Three a b c) m e =
      let l = sooner-low a b in
      let k = sooner-low (sooner i a b) c in
      rw (← (from-eq (sooner i (sooner i a b) c) m e)) (omega (arith, l.0, k.0), omega (arith, l.1, k.0), k.1)

  last_highest : (o : RequestOrder) (m : Mailbox) → last_in_wire_order i o ≡ Some m → All (λ (x : Mailbox). key i x ≤ key i m) o
  unfolding last_in_wire_order
  last_highest Empty m e = tt
  last_highest (One a) m e = rw (from-eq a m e) (omega arith)
  last_highest (Two a b) m e = rw (← (from-eq (later i a b) m e)) (later-high a b)
  last_highest (Three a b c) m e =
      let l = later-high a b in
      let k = later-high (later i a b) c in
      rw (← (from-eq (later i (later i a b) c) m e)) (omega (arith, l.0, k.0), omega (arith, l.1, k.0), k.1)

  -- no two mailboxes have the same key
  strictly : (a b : Mailbox) → key i a ≤ key i b → same a b ≡ false → before i a b ≡ true
  unfolding before key
  strictly a b l n = lt-ltb (key i a) (key i b) (go (wire_key (at i a)) (wire_key (at i b)) (number a) (number b) (number_small a) (number_small b) l (eqb-false _ _ (same_numbers a b ∙ n)))
    where
      go : (x y p q : ℕ) → p < 4 → q < 4 → x * 4 + p ≤ y * 4 + q → (p ≡ q → ⊥) → x * 4 + p < y * 4 + q
      go x y p q lp lq h k = omega arith

  one_way : (a b : Mailbox) → before i a b ≡ true → before i b a ≡ true → ⊥
  unfolding before
  one_way a b h k = let l : key i a < key i b = ltb-true _ _ h in let n : key i b < key i a = ltb-true _ _ k in omega arith

  -- the last of an order is in it
  later-held : (a b : Mailbox) (o : RequestOrder) → holds o a ≡ true → holds o b ≡ true → holds o (later i a b) ≡ true
  unfolding later
  later-held a b o h k = pick_cases (λ (m : Mailbox). holds o m ≡ true) (before i a b) b a (λ _. k) (λ _. h)

in_order_lem : (o : RequestOrder) → All (λ (x : Mailbox). holds o x ≡ true) o
in_order_lem Empty = tt
in_order_lem (One a) = each-mailbox (λ a. holds (One a) a) refl a
in_order_lem (Two a b) = (each_pair (λ a b. holds (Two a b) a) refl a b, each_pair (λ a b. holds (Two a b) b) refl a b)
in_order_lem (Three a b c) = (
  each_triple (λ a b c. holds (Three a b c) a) refl a b c,
  each_triple (λ a b c. holds (Three a b c) b) refl a b c,
  each_triple (λ a b c. holds (Three a b c) c) refl a b c,
)

newest-held : (o : RequestOrder) (m : Mailbox) → is_from (newest o) m ≡ true → holds o m ≡ true
newest-held o m h = imp_Is (each_of (λ o m. imp (is_from (newest o) m) (holds o m)) refl o m) h

pub same_self : (m : Mailbox) → same m m ≡ true
same_self m = each-mailbox (λ m. same m m) refl m

is_from_lem : (v : Option Mailbox) (m : Mailbox) → v ≡ Some m → is_from v m ≡ true
is_from_lem v m e = rw e (same_self m)

last-held : (p : Bool) (i : ByMailbox ℕ) (o : RequestOrder) (m : Mailbox) → last p i o ≡ Some m → holds o m ≡ true
unfolding last last_in_wire_order
last-held true i o m e = newest-held o m (is_from_lem (newest o) m e)
last-held false i Empty m e = absurd (true≢false (ap is_nobody e))
last-held false i (One a) m e = rw (← (from-eq a m e)) (in_order_lem (One a))
last-held false i (Two a b) m e =
    let h = in_order_lem (Two a b) in
    rw (← (from-eq (later i a b) m e)) (later-held i a b (Two a b) h.0 h.1)
last-held false i (Three a b c) m e =
    let h = in_order_lem (Three a b c) in
    rw (← (from-eq (later i (later i a b) c) m e)) (later-held i (later i a b) c (Three a b c) (later-held i a b (Three a b c) h.0 h.1) h.2)

pub last_somebody : (p : Bool) (i : ByMailbox ℕ) (o : RequestOrder) → is_empty o ≡ false → Somebody (last p i o)
unfolding last last_in_wire_order
last_somebody b i Empty e = absurd (true≢false e)
last_somebody true i (One x) e = record { mailbox = x; is = refl }
last_somebody true i (Two x y) e = record { mailbox = y; is = refl }
last_somebody true i (Three x y u) e = record { mailbox = u; is = refl }
last_somebody false i (One x) e = record { mailbox = x; is = refl }
last_somebody false i (Two x y) e = record { mailbox = later i x y; is = refl }
last_somebody false i (Three x y u) e = record { mailbox = later i (later i x y) u; is = refl }

-- ---- request order by its numbers

oldest-earlier : (o : RequestOrder) (m x : Mailbox) → is_from (oldest o) m ≡ true → holds o x ≡ true → same x m ≡ false → earlier (order_numbers o) (number m) (number x) ≡ true
oldest-earlier o m x a b c =
    imp_Is (imp_Is (imp_Is (each_two (λ o m x. imp (is_from (oldest o) m) (imp (holds o x) (imp (not (same x m)) (earlier (order_numbers o) (number m) (number x))))) refl o m x) a) b) (not-Is c)

-- the newest of those that are not on the wire
newest-later : (v : Option Mailbox) (o : RequestOrder) (m x : Mailbox) → distinct o ≡ true → is_from (newest (besides v o)) m ≡ true → holds (besides v o) x ≡ true → same x m ≡ false
    → earlier (order_numbers o) (number x) (number m) ≡ true
newest-later None o m x d a b c =
    imp_Is (imp_Is (imp_Is (imp_Is
    (each_two (λ o m x. imp (distinct o) (imp (is_from (newest o) m) (imp (holds o x) (imp (not (same x m)) (earlier (order_numbers o) (number x) (number m)))))) refl o m x) d) a) b) (not-Is c)
newest-later (Some y) o m x d a b c =
    imp_Is (imp_Is (imp_Is (imp_Is
    (each (λ o m x y. imp (distinct o) (imp (is_from (newest (without o y)) m) (imp (holds (without o y) x) (imp (not (same x m)) (earlier (order_numbers o) (number x) (number m)))))) refl o m x y) d) a) b) (not-Is c)

earlier-one_way : (o : RequestOrder) (a b : Mailbox) → distinct o ≡ true → earlier (order_numbers o) (number a) (number b) ≡ true → earlier (order_numbers o) (number b) (number a) ≡ true → ⊥
earlier-one_way o a b d h k =
    opposed k (Is-not _ (imp_Is (imp_Is (each_two (λ o a b. imp (distinct o) (imp (earlier (order_numbers o) (number a) (number b)) (not (earlier (order_numbers o) (number b) (number a))))) refl o a b) d) h))

pub besides-held : (v : Option Mailbox) (o : RequestOrder) (m : Mailbox) → distinct o ≡ true → holds (besides v o) m ≡ holds o m && not (is_from v m)
besides-held None o m d = sym (and-true (holds o m))
besides-held (Some y) o m d = beq_eq _ _ (imp_Is (each_two (λ o y m. imp (distinct o) (beq (holds (without o y) m) (holds o m && not (same y m)))) refl o y m) d)

-- ---- priority as the registers show it

module _ (z : Controller) where
  abbrev order : RequestOrder
  order = z.core.transmit.queue.order

  abbrev wire : Option Mailbox
  wire = z.core.transmit.queue.transmitting

  abbrev words : ByMailbox ℕ
  words = identifiers z.core.transmit.mailboxes

  abbrev mode : Bool
  mode = txfp z.core.control

  ti-key : (m : Mailbox) → wire_key (ti m z) ≡ wire_key (at words m)
  ti-key m = ap wire_key (ti-shown m z) ∙ without-txrq (at z.core.transmit.mailboxes m).ti (holds order m) ∙ named m
    where
      named : (m : Mailbox) → wire_key (at z.core.transmit.mailboxes m).ti ≡ wire_key (at words m)
      named M0 = refl
      named M1 = refl
      named M2 = refl

  by_bits : (a b : Mailbox) → goes_before a (ti a z) b (ti b z) ≡ before words a b
  unfolding before key
  by_bits a b = goes-key a b (ti a z) (ti b z) ∙ ap₂ (λ (x y : ℕ). ltb (x * 4 + number a) (y * 4 + number b)) (ti-key a) (ti-key b)

  precedes_by : (a b : Mailbox) → precedes z a b ≡ pick mode (earlier (order_numbers order) (number a) (number b)) (before words a b)
  precedes_by a b =
      ap₂ (λ (p q : Bool). pick p (earlier (order_numbers order) (number a) (number b)) q) (ap (λ (w : ℕ). bit 2 w) (mcr-shown z)) (by_bits a b)

  pub pending_by : (m : Mailbox) → is_pending z m ≡ holds order m && not (is_from wire m)
  pending_by m = ap₂ (λ (p q : Bool). p && not q) (has-order order m) (has-wire wire m)

  -- ---- the first

  first-precedes : (p : Bool) (m x : Mailbox) → first p words order ≡ Some m → holds order x ≡ true → same x m ≡ false
      → pick p (earlier (order_numbers order) (number m) (number x)) (before words m x) ≡ true
  unfolding first
  first-precedes true m x e h n = oldest-earlier order m x (is_from_lem (oldest order) m e) h n
  first-precedes false m x e h n =
      strictly words m x (all_held (λ (x : Mailbox). key words m ≤ key words x) order x h (first-lowest words order m e)) (same_comm m x ∙ n)

  pub is_first : (m : Mailbox) → is_nobody wire ≡ true → first mode words order ≡ Some m → IsFirst z m
  is_first m f e = record {
    pending = pending_by m ∙ rw (carried_by (first mode words order) e (first-carried mode words order), nobody m);
    before = λ x h n. precedes_by m x ∙ first-precedes mode m x e (and_l (holds order x) (not (is_from wire x)) (sym (pending_by x) ∙ h)) (sym (same_numbers x m) ∙ n);
  }
    where
      carried_by : (v : Option Mailbox) → v ≡ Some m → carried v order ≡ true → holds order m ≡ true
      carried_by v q h = rw q at h

      nobody : (x : Mailbox) → is_from wire x ≡ false
      nobody x = go wire f
        where
          go : (v : Option Mailbox) → is_nobody v ≡ true → is_from v x ≡ false
          go None h = refl
          go (Some a) h = absurd (false≢true h)

  -- ---- the last

  module _ (d : distinct order ≡ true) where
    last_preceded : (p : Bool) (m x : Mailbox) → last p words (besides wire order) ≡ Some m → holds (besides wire order) x ≡ true → same x m ≡ false
        → pick p (earlier (order_numbers order) (number x) (number m)) (before words x m) ≡ true
    unfolding last
    last_preceded true m x e h n = newest-later wire order m x d (is_from_lem (newest (besides wire order)) m e) h n
    last_preceded false m x e h n =
        strictly words x m (all_held (λ (x : Mailbox). key words x ≤ key words m) (besides wire order) x h (last_highest words (besides wire order) m e)) n

    pub waiting_by : (m : Mailbox) → is_pending z m ≡ holds (besides wire order) m
    waiting_by m = pending_by m ∙ sym (besides-held wire order m d)

    pub is_last : (m : Mailbox) → last_of mode z.core.transmit ≡ Some m → IsLast z m
    is_last m e = record {
      pending = waiting_by m ∙ last-held mode words (besides wire order) m e;
      behind = λ x h n. precedes_by x m ∙ last_preceded mode m x e (sym (waiting_by x) ∙ h) (sym (same_numbers x m) ∙ n);
    }

    one_way_by : (p : Bool) (a b : Mailbox) → pick p (earlier (order_numbers order) (number a) (number b)) (before words a b) ≡ true
        → pick p (earlier (order_numbers order) (number b) (number a)) (before words b a) ≡ true → ⊥
    one_way_by true a b h k = earlier-one_way order a b d h k
    one_way_by false a b h k = one_way words a b h k

    -- there is one last
    pub last_unique : (m n : Mailbox) → IsLast z m → IsLast z n → m ≡ n
    last_unique m n p q = go (same m n) refl
      where
        go : (b : Bool) → same m n ≡ b → m ≡ n
        go true e = same-eq m n e
        go false e = absurd (one_way_by mode m n
            (sym (precedes_by m n) ∙ q.behind m p.pending (same_numbers m n ∙ e))
            (sym (precedes_by n m) ∙ p.behind n q.pending (same_numbers n m ∙ same_comm n m ∙ e)))

-- ---- a start

pub starts_first_lem : (z : Controller) → (step z Start).code ≡ 0 → StartsFirst z
unfolding settled started
starts_first_lem z h =
    let s = start-accepted z h in
    record {
      word = record { mailbox = s.mailbox; meets = (s.word, is_first z s.mailbox s.may.free s.is) };
      wire = ap (λ (c : Core). sender_numbers c.transmit.queue.transmitting) s.core ∙ ap (λ (n : ℕ). n ∷ []) (sym s.word);
      kept = ap (λ (c : Core). order_numbers c.transmit.queue.order) s.core;
    }
