-- A test that is computed for every number below a bound, and the fact that it gives for each of them.
use mathlib.Core.Bool.{Bool, true, false, ◌&&◌}
use mathlib.Core.Path.{◌≡◌, refl, sym, subst}
use Prim.Native.Nat.{ℕ, zero, suc, ◌<◌}
use native.Mathlib.Omega.{arith}
use lib.Dec.{eqb}
use borrow.Author.Tests.{eqb-true, eqb-false}
use Rattle.base.proofs.Choices.{Is, and_l, and_r}

unfoldable pub all_below : (ℕ → Bool) → ℕ → Bool
all_below p zero = true
all_below p (suc n) = all_below p n && p n

pub each_below : (p : ℕ → Bool) (n : ℕ) → Is (all_below p n) → (i : ℕ) → i < n → Is (p i)
unfolding all_below
each_below p zero h i l = absurd (omega arith)
each_below p (suc n) h i l = go (eqb i n) refl (λ k. each_below p n (and_l (all_below p n) (p n) h) i k)
  where
    go : (b : Bool) → eqb i n ≡ b → (i < n → Is (p i)) → Is (p i)
    go true e ih = subst (λ (x : ℕ). Is (p x)) (sym (eqb-true i n e)) (and_r (all_below p n) (p n) h)
    go false e ih = ih (lower (eqb-false i n e))
      where
        lower : (i ≡ n → ⊥) → i < n
        lower d = omega arith
