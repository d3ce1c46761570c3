-- Past the end of a text stand blanks: what is none stands inside, so that the places behind it are numbers of 64 bits.
use mathlib.Core.Path.{◌≡◌, refl, ◌∙◌}
use mathlib.Core.List.{List, [], ◌∷◌}
use Prim.Native.Nat.{ℕ, zero, suc, ◌+◌, ◌*◌, ◌^◌, ◌<◌, ◌≤◌, suc-le-suc, zero-le}
use native.Mathlib.Omega.{arith}
use lib.ListN.{length}
use Rattle.names.specs.Scan.{byte_at}

inside : (s : List ℕ) (i : ℕ) → (byte_at s i ≡ 32 → ⊥) → i < length s
unfolding byte_at
inside [] i h = absurd (h refl)
inside (x ∷ s) zero h = suc-le-suc zero-le
inside (x ∷ s) (suc i) h = suc-le-suc (inside s i h)

pub record Near (i : ℕ) : Type 0 where
  pub one : i + 1 < 2 ^ 64
  pub two : i + 2 < 2 ^ 64
  pub second : i + 1 + 1 < 2 ^ 64
  pub third : i + 1 + 1 + 1 < 2 ^ 64

-- the byte b at place i is no blank
pub near : (s : List ℕ) (i b : ℕ) → b ≡ byte_at s i → 33 ≤ b → length s * 1 < 2 ^ 63 → Near i
near s i b e h l =
    let k : i < length s = inside s i (λ f. let g : b ≡ 32 = e ∙ f in omega arith) in
    record { one = omega arith; two = omega arith; second = omega arith; third = omega arith }
