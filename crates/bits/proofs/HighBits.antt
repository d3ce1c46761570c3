-- A word of 32 bits has no bit from 32 on.
use mathlib.Core.Bool.{false}
use mathlib.Core.Path.{◌≡◌}
use Prim.Native.Nat.{ℕ, ◌<◌, ◌≤◌, ◌^◌}
use native.Mathlib.Nat.{div-eq_of_lt, lt_of_lt_of_le}
use lib.Pow.{pow_mono}
use Rattle.base.specs.Base.{bit}

pub no_high-bit : (i w : ℕ) → 32 ≤ i → w < 2 ^ 32 → false ≡ bit i w
no_high-bit i w h l = rw (div-eq_of_lt (lt_of_lt_of_le l (pow_mono h)))
