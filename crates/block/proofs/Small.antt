-- Tests of small numbers, each by one computation over all of them.
use mathlib.Core.Bool.{Bool, not, ◌&&◌}
use mathlib.Core.Path.{◌≡◌, refl}
use Prim.Native.Nat.{ℕ, zero, suc, ◌≤◌}
use native.Mathlib.Omega.{arith}
use lib.Dec.{eqb, leb}
use borrow.Author.Tests.{eqb-true, leb-true, le-leb}
use Rattle.base.specs.Base.{one}
use Rattle.base.proofs.Choices.{Is, imp, imp_Is, and_l, and_r}
use Rattle.model.specs.Control.{mode_bits}
use Rattle.block.specs.Block.{mode_at, sender_byte, sender_at, order_byte0, order_byte1, order_byte2, order_at, order_ok}

-- a test of the numbers 0 to 3
abbrev four : (ℕ → Bool) → Bool
four p = p 0 && (p 1 && (p 2 && p 3))

below_four : (p : ℕ → Bool) → Is (four p) → (n : ℕ) → n ≤ 3 → Is (p n)
below_four p h zero l = and_l (p 0) _ h
below_four p h (suc zero) l = and_l (p 1) _ (and_r (p 0) _ h)
below_four p h (suc (suc zero)) l = and_l (p 2) _ (and_r (p 1) _ (and_r (p 0) _ h))
below_four p h (suc (suc (suc zero))) l = and_r (p 2) (p 3) (and_r (p 1) _ (and_r (p 0) _ h))
below_four p h (suc (suc (suc (suc n)))) l = absurd (omega arith)

pub flag_of : (n : ℕ) → n ≤ 1 → one (not (eqb n 0)) ≡ n
flag_of n h = eqb-true _ _ (imp_Is (below_four (λ n. imp (leb n 1) (eqb (one (not (eqb n 0))) n)) refl n (omega arith)) (le-leb n 1 h))

pub mode_of : (n : ℕ) → n ≤ 2 → mode_bits (mode_at n) ≡ n
unfolding mode_at
mode_of n h = eqb-true _ _ (imp_Is (below_four (λ n. imp (leb n 2) (eqb (mode_bits (mode_at n)) n)) refl n (omega arith)) (le-leb n 2 h))

pub sender_of : (n : ℕ) → n ≤ 3 → sender_byte (sender_at n) ≡ n
unfolding sender_at
sender_of n h = eqb-true _ _ (below_four (λ n. eqb (sender_byte (sender_at n)) n) refl n h)

-- the three bytes of a request order
abbrev same_bytes_lem : ℕ → ℕ → ℕ → Bool
same_bytes_lem x y z = eqb (order_byte0 (order_at x y z)) x && (eqb (order_byte1 (order_at x y z)) y && eqb (order_byte2 (order_at x y z)) z)

order_same : (x y z : ℕ) → Is (order_ok x y z) → Is (same_bytes_lem x y z)
unfolding order_ok order_at
order_same x y z h =
    let k = and_r (leb x 3) _ h in
    let m = and_r (leb y 3) _ k in
    imp_Is
    (below_four (λ z. imp (order_ok x y z) (same_bytes_lem x y z))
    (below_four (λ y. four (λ z. imp (order_ok x y z) (same_bytes_lem x y z)))
    (below_four (λ x. four (λ y. four (λ z. imp (order_ok x y z) (same_bytes_lem x y z)))) refl
    x (leb-true x 3 (and_l (leb x 3) _ h))) y (leb-true y 3 (and_l (leb y 3) _ k))) z (leb-true z 3 (and_l (leb z 3) _ m)))
    h

pub record OrderStands (x y z : ℕ) : Type 0 where
  pub byte0 : order_byte0 (order_at x y z) ≡ x
  pub byte1 : order_byte1 (order_at x y z) ≡ y
  pub byte2 : order_byte2 (order_at x y z) ≡ z

pub order_of : (x y z : ℕ) → Is (order_ok x y z) → OrderStands x y z
order_of x y z h =
    let k = order_same x y z h in
    let m = and_r (eqb (order_byte0 (order_at x y z)) x) _ k in
    record {
      byte0 = eqb-true _ _ (and_l (eqb (order_byte0 (order_at x y z)) x) _ k);
      byte1 = eqb-true _ _ (and_l (eqb (order_byte1 (order_at x y z)) y) _ m);
      byte2 = eqb-true _ _ (and_r (eqb (order_byte1 (order_at x y z)) y) _ m);
    }
