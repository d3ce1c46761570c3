-- Facts about the orders of three mailboxes, each by one computed test over all of them.
use Rattle.std.proofs.Common.{Bool}
use mathlib.Core.Bool.{Bool, true, false, not, ◌&&◌, beq, false≢true}
use mathlib.Core.Path.{◌≡◌, refl}
use Prim.Native.Nat.{ℕ, suc, ◌+◌, ◌≤◌}
use lib.Dec.{leb, eqb}
use borrow.Author.Tests.{leb-true, eqb-true}
use Rattle.base.specs.Base.{pick, one}
use Rattle.model.specs.Queue.{same, at, put, holds, joined, without, oldest, is_from}
use Rattle.model.specs.Reachable.{distinct}
use Rattle.model.specs.declared.Mailbox.{Mailbox}
use Rattle.model.specs.declared.Mailbox.TheVariants.{M0, M1, M2}
use Rattle.model.specs.declared.RequestOrder.{RequestOrder}
use Rattle.model.specs.declared.RequestOrder.TheVariants.{Empty, One, Two, Three}
use Rattle.base.proofs.Choices.{Is, Not, imp, imp_Is, not-Is, and_l, and_r, beq_eq}
use Rattle.model.specs.declared.ByMailbox.{ByMailbox}

-- a test that holds at each mailbox, at each order
abbrev pub mailboxes : (Mailbox → Bool) → Bool
mailboxes p = p M0 && (p M1 && p M2)

abbrev pub orders : (RequestOrder → Bool) → Bool
orders p = (p Empty && mailboxes (λ a. p (One a))) && (mailboxes (λ a. mailboxes (λ b. p (Two a b))) && mailboxes (λ a. mailboxes (λ b. mailboxes (λ c. p (Three a b c)))))

pub each-mailbox : (p : Mailbox → Bool) → Is (mailboxes p) → (m : Mailbox) → Is (p m)
each-mailbox p h M0 = and_l (p M0) (p M1 && p M2) h
each-mailbox p h M1 = and_l (p M1) (p M2) (and_r (p M0) (p M1 && p M2) h)
each-mailbox p h M2 = and_r (p M1) (p M2) (and_r (p M0) (p M1 && p M2) h)

module _ (p : RequestOrder → Bool) (h : Is (orders p)) where
  abbrev small : Bool
  small = p Empty && mailboxes (λ a. p (One a))

  abbrev two : Bool
  two = mailboxes (λ a. mailboxes (λ b. p (Two a b)))

  abbrev three : Bool
  three = mailboxes (λ a. mailboxes (λ b. mailboxes (λ c. p (Three a b c))))

  pub each-order : (o : RequestOrder) → Is (p o)
  each-order Empty = and_l (p Empty) (mailboxes (λ a. p (One a))) (and_l small (two && three) h)
  each-order (One a) = each-mailbox (λ a. p (One a)) (and_r (p Empty) (mailboxes (λ a. p (One a))) (and_l small (two && three) h)) a
  each-order (Two a b) = each-mailbox (λ b. p (Two a b)) (each-mailbox (λ a. mailboxes (λ b. p (Two a b))) (and_l two three (and_r small (two && three) h)) a) b
  each-order (Three a b c) =
      each-mailbox (λ c. p (Three a b c))
      (each-mailbox (λ b. mailboxes (λ c. p (Three a b c)))
      (each-mailbox (λ a. mailboxes (λ b. mailboxes (λ c. p (Three a b c)))) (and_r two three (and_r small (two && three) h)) a) b) c

abbrev pub tests : (RequestOrder → Mailbox → Mailbox → Mailbox → Bool) → Bool
tests p = orders (λ o. mailboxes (λ m. mailboxes (λ x. mailboxes (λ y. p o m x y))))

pub each : (p : RequestOrder → Mailbox → Mailbox → Mailbox → Bool) → Is (tests p) → (o : RequestOrder) (m x y : Mailbox) → Is (p o m x y)
each p h o m x y =
    each-mailbox (p o m x)
    (each-mailbox (λ x. mailboxes (λ y. p o m x y))
    (each-mailbox (λ m. mailboxes (λ x. mailboxes (λ y. p o m x y)))
    (each-order (λ o. mailboxes (λ m. mailboxes (λ x. mailboxes (λ y. p o m x y)))) h o) m) x) y

-- how many stand before m
abbrev pub ahead : Mailbox → RequestOrder → ℕ
ahead m Empty = 0
ahead m (One a) = 0
ahead m (Two a b) = pick (same a m) 0 1
ahead m (Three a b c) = pick (same a m) 0 (pick (same b m) 1 2)

abbrev pub out_of : RequestOrder → ByMailbox Bool
out_of o = record { m0 = holds o M0; m1 = holds o M1; m2 = holds o M2 }

abbrev pub same_flags : ByMailbox Bool → ByMailbox Bool → Bool
same_flags f g = beq f.m0 g.m0 && beq f.m1 g.m1 && beq f.m2 g.m2

pub flags-eq : (f g : ByMailbox Bool) → Is (same_flags f g) → f ≡ g
flags-eq f g h =
    let a : Bool = beq f.m0 g.m0 in
    let b : Bool = beq f.m1 g.m1 in
    let c : Bool = beq f.m2 g.m2 in
    λ i. record {
      m0 = beq_eq f.m0 g.m0 (and_l a b (and_l (a && b) c h)) i;
      m1 = beq_eq f.m1 g.m1 (and_r a b (and_l (a && b) c h)) i;
      m2 = beq_eq f.m2 g.m2 (and_r (a && b) c h) i;
    }

pub ahead_two : (o : RequestOrder) (m : Mailbox) → ahead m o ≤ 2
ahead_two o m = leb-true _ _ (each (λ o m x y. leb (ahead m o) 2) refl o m m m)

-- ahead of m, and one more where x stands behind it: at most two others
pub rank-two : (o : RequestOrder) (m x : Mailbox) → Is (distinct o) → Is (holds o m) → Is (holds o x) → ahead m o + one (not (leb (ahead x o) (ahead m o))) ≤ 2
rank-two o m x d h k = leb-true _ _ (imp_Is (imp_Is (imp_Is (each (λ o m x y. imp (distinct o) (imp (holds o m) (imp (holds o x) (leb (ahead m o + one (not (leb (ahead x o) (ahead m o)))) 2)))) refl o m x x) d) h) k)

pub flag_out : (o : RequestOrder) (m : Mailbox) → at (out_of o) m ≡ holds o m
flag_out o M0 = refl
flag_out o M1 = refl
flag_out o M2 = refl

module _ (o : RequestOrder) (ok : Is (distinct o)) where
  pub out_without : (x : Mailbox) → out_of (without o x) ≡ put (out_of o) x false
  out_without x = flags-eq _ _ (imp_Is (each (λ o x a b. imp (distinct o) (same_flags (out_of (without o x)) (put (out_of o) x false))) refl o x x x) ok)

  pub distinct_without : (x : Mailbox) → Is (distinct (without o x))
  distinct_without x = imp_Is (each (λ o x a b. imp (distinct o) (distinct (without o x))) refl o x x x) ok

  pub gone_without : (x : Mailbox) → Is (not (holds (without o x) x))
  gone_without x = imp_Is (each (λ o x a b. imp (distinct o) (not (holds (without o x) x))) refl o x x x) ok

  pub out_joined : (x : Mailbox) → Is (not (holds o x)) → out_of (joined o x) ≡ put (out_of o) x true
  out_joined x new = flags-eq _ _ (imp_Is (imp_Is (each (λ o x a b. imp (distinct o) (imp (not (holds o x)) (same_flags (out_of (joined o x)) (put (out_of o) x true)))) refl o x x x) ok) new)

  pub distinct-joined : (x : Mailbox) → Is (not (holds o x)) → Is (distinct (joined o x))
  distinct-joined x new = imp_Is (imp_Is (each (λ o x a b. imp (distinct o) (imp (not (holds o x)) (distinct (joined o x)))) refl o x x x) ok) new

  pub holds-joined : (x : Mailbox) → Is (not (holds o x)) → Is (holds (joined o x) x)
  holds-joined x new = imp_Is (imp_Is (each (λ o x a b. imp (distinct o) (imp (not (holds o x)) (holds (joined o x) x))) refl o x x x) ok) new

  -- the order of y and m stays when x leaves
  pub still : (m x y : Mailbox) → Is (holds o m) → Is (holds o y) → Is (not (same x m)) → Is (not (same x y)) → Is (leb (ahead y o) (ahead m o))
      → Is (leb (ahead y (without o x)) (ahead m (without o x)))
  still m x y h k n k' l =
      imp_Is (imp_Is (imp_Is (imp_Is (imp_Is (imp_Is
      (each (λ o m x y. imp (distinct o) (imp (holds o m) (imp (holds o y) (imp (not (same x m)) (imp (not (same x y)) (imp (leb (ahead y o) (ahead m o))
      (leb (ahead y (without o x)) (ahead m (without o x))))))))) refl o m x y) ok) h) k) n) k') l

  pub nearer : (m x : Mailbox) → Is (holds o m) → Is (not (same x m)) → ahead m (without o x) ≤ ahead m o
  nearer m x h n = leb-true _ _ (imp_Is (imp_Is (imp_Is (each (λ o m x b. imp (distinct o) (imp (holds o m) (imp (not (same x m)) (leb (ahead m (without o x)) (ahead m o))))) refl o m x x) ok) h) n)

  -- and strictly so where x stood before m
  pub one_nearer : (m x : Mailbox) → Is (holds o m) → Is (holds o x) → Is (not (same x m)) → Is (leb (ahead x o) (ahead m o)) → suc (ahead m (without o x)) ≤ ahead m o
  one_nearer m x h k n l =
      leb-true _ _ (imp_Is (imp_Is (imp_Is (imp_Is (imp_Is
      (each (λ o m x b. imp (distinct o) (imp (holds o m) (imp (holds o x) (imp (not (same x m)) (imp (leb (ahead x o) (ahead m o)) (leb (suc (ahead m (without o x))) (ahead m o))))))) refl o m x x) ok) h) k) n) l)

pub kept-without : (o : RequestOrder) (m x : Mailbox) → Is (holds o m) → Is (not (same x m)) → Is (holds (without o x) m)
kept-without o m x h n = imp_Is (imp_Is (each (λ o m x b. imp (holds o m) (imp (not (same x m)) (holds (without o x) m))) refl o m x x) h) n

pub gone_stays : (o : RequestOrder) (m x : Mailbox) → Is (not (holds o m)) → Is (not (holds (without o x) m))
gone_stays o m x h = imp_Is (each (λ o m x b. imp (not (holds o m)) (not (holds (without o x) m))) refl o m x x) h

pub kept-joined : (o : RequestOrder) (m x : Mailbox) → Is (holds o m) → Is (holds (joined o x) m)
kept-joined o m x h = imp_Is (each (λ o m x b. imp (holds o m) (holds (joined o x) m)) refl o m x x) h

pub ahead_joined : (o : RequestOrder) (m x : Mailbox) → Is (holds o m) → ahead m (joined o x) ≡ ahead m o
ahead_joined o m x h = eqb-true _ _ (imp_Is (each (λ o m x b. imp (holds o m) (eqb (ahead m (joined o x)) (ahead m o))) refl o m x x) h)

pub oldest-first : (o : RequestOrder) (m x : Mailbox) → Is (is_from (oldest o) x) → Is (holds o m) → Is (leb (ahead x o) (ahead m o))
oldest-first o m x e h = imp_Is (imp_Is (each (λ o m x b. imp (is_from (oldest o) x) (imp (holds o m) (leb (ahead x o) (ahead m o)))) refl o m x x) e) h

pub oldest-held : (o : RequestOrder) (x : Mailbox) → Is (is_from (oldest o) x) → Is (holds o x)
oldest-held o x e = imp_Is (each (λ o x a b. imp (is_from (oldest o) x) (holds o x)) refl o x x x) e

pub same-eq : (a b : Mailbox) → Is (same a b) → a ≡ b
same-eq M0 M0 h = refl
same-eq M0 M1 h = absurd (false≢true h)
same-eq M0 M2 h = absurd (false≢true h)
same-eq M1 M0 h = absurd (false≢true h)
same-eq M1 M1 h = refl
same-eq M1 M2 h = absurd (false≢true h)
same-eq M2 M0 h = absurd (false≢true h)
same-eq M2 M1 h = absurd (false≢true h)
same-eq M2 M2 h = refl

pub same_comm : (a b : Mailbox) → same a b ≡ same b a
same_comm a b = beq_eq _ _ (each (λ o a b c. beq (same a b) (same b a)) refl Empty a b b)

pub held-before-without : (o : RequestOrder) (m x : Mailbox) → Is (holds (without o x) m) → Is (holds o m)
held-before-without o m x h = imp_Is (each (λ o m x b. imp (holds (without o x) m) (holds o m)) refl o m x x) h

pub held-before-joined : (o : RequestOrder) (m x : Mailbox) → Is (holds (joined o x) m) → Not (same x m) → Is (holds o m)
held-before-joined o m x h n = imp_Is (imp_Is (each (λ o m x b. imp (holds (joined o x) m) (imp (not (same x m)) (holds o m))) refl o m x x) h) (not-Is n)
