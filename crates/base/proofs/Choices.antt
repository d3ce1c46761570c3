-- Tests as equations, and cases of a choice.
use mathlib.Core.Bool.{Bool, true, false, not, ◌&&◌, ◌||◌, beq, true≢false, false≢true}
use mathlib.Core.Path.{◌≡◌, refl, sym, subst, ap, ◌∙◌}
use Prim.Native.Nat.{ℕ, ◌≤◌}
use native.Mathlib.Omega.{arith}
use lib.Dec.{eqb}
use borrow.Author.Tests.{eq-eqb, ne_eqb}
use Rattle.base.specs.Base.{pick, one}

-- a test, as an equation: it rewrites, and its argument is found
abbrev pub Is : Bool → Type 0
Is b = b ≡ true

abbrev pub Not : Bool → Type 0
Not b = b ≡ false

abbrev pub imp : Bool → Bool → Bool
imp true b = b
imp false b = true

pub imp_Is : {a b : Bool} → Is (imp a b) → Is a → Is b
imp_Is {a} {b} h t = subst (λ (x : Bool). Is (imp x b)) t h

pub not-Is : {a : Bool} → Not a → Is (not a)
not-Is h = ap not h

pub Is-not : (a : Bool) → Is (not a) → Not a
Is-not true h = sym h
Is-not false h = refl

pub and_l : (a b : Bool) → Is (a && b) → Is a
and_l true b h = refl
and_l false b h = h

pub and_r : (a b : Bool) → Is (a && b) → Is b
and_r true b h = h
and_r false b h = absurd (false≢true h)

pub and_both : (a b : Bool) → Is a → Is b → Is (a && b)
and_both true b h k = k
and_both false b h k = absurd (false≢true h)

pub and-not : (a b : Bool) → Not b → Not (a && b)
and-not true b h = h
and-not false b h = refl

-- a choice has what both its values have
pub pick_cases : {A : Type 0} (P : A → Type 0) (b : Bool) (x y : A) → (b ≡ true → P x) → (b ≡ false → P y) → P (pick b x y)
pick_cases P true x y f g = f refl
pick_cases P false x y f g = g refl

pub pick-both : {A B : Type 0} (f : A → B) (b : Bool) (x y : A) (u v : B) → f x ≡ u → f y ≡ v → f (pick b x y) ≡ pick b u v
pick-both f true x y u v p q = p
pick-both f false x y u v p q = q

pub beq_eq : (a b : Bool) → Is (beq a b) → a ≡ b
beq_eq true true h = refl
beq_eq true false h = absurd (false≢true h)
beq_eq false true h = absurd (false≢true h)
beq_eq false false h = refl

pub opposed : {A : Type 0} {b : Bool} → b ≡ true → b ≡ false → A
opposed t f = absurd (false≢true (sym f ∙ t))

pub or_l : (a b : Bool) → Not (a || b) → Not a
or_l true b h = h
or_l false b h = refl

pub or_r : (a b : Bool) → Not (a || b) → Not b
or_r true b h = absurd (true≢false h)
or_r false b h = h

-- a code that is 0 says how the test of a refusal came out, and that the next code is 0
pub refused_if : (b : Bool) (k n : ℕ) → eqb k 0 ≡ false → eqb (pick b k n) 0 ≡ true → (b ≡ false) × (eqb n 0 ≡ true)
refused_if true k n e h = opposed h e
refused_if false k n e h = (refl, h)

pub refused_unless : (b : Bool) (n k : ℕ) → eqb k 0 ≡ false → eqb (pick b n k) 0 ≡ true → (b ≡ true) × (eqb n 0 ≡ true)
refused_unless true n k e h = (refl, h)
refused_unless false n k e h = opposed h e

-- ---- flags as numbers

pub one-le : (b : Bool) → one b ≤ 1
one-le true = omega arith
one-le false = omega arith

pub one_bit : (n : ℕ) (a : Bool) → n ≡ one a → eqb n 1 ≡ a
one_bit n true e = eq-eqb n 1 e
one_bit n false e = ne_eqb n 1 (λ q. omega arith)
