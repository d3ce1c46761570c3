-- The code and the step of a receive error that is in range.
use mathlib.Core.Bool.{Bool, true, false, ◌&&◌, ◌||◌}
use mathlib.Core.Path.{◌≡◌, refl}
use Prim.Native.Nat.{ℕ, ◌≤◌}
use native.Mathlib.Omega.{arith}
use lib.Dec.{eqb, leb}
use borrow.Author.Tests.{eqb-true, leb-true}
use Rattle.model.specs.Step.{receive_error_in_range}
use Rattle.base.proofs.Choices.{and_l, and_r}

pub receive_error-code : (k n : ℕ) → receive_error_in_range k n ≡ true → k ≤ 7
unfolding receive_error_in_range
receive_error-code k n ok = let l : k ≤ 6 = leb-true _ _ (and_r (leb 1 k) (leb k 6) (and_l (leb 1 k && leb k 6) (eqb n 1 || eqb n 8) ok)) in omega arith

step-one-or-eight : (n : ℕ) (b : Bool) → eqb n 1 ≡ b → (b || eqb n 8) ≡ true → n ≤ 8
step-one-or-eight n true e h = let l : n ≡ 1 = eqb-true _ _ e in omega arith
step-one-or-eight n false e h = let l : n ≡ 8 = eqb-true _ _ h in omega arith

pub receive_error-step : (k n : ℕ) → receive_error_in_range k n ≡ true → n ≤ 8
unfolding receive_error_in_range
receive_error-step k n ok = step-one-or-eight n (eqb n 1) refl (and_r (leb 1 k && leb k 6) (eqb n 1 || eqb n 8) ok)
