-- A flag as the number that `From` makes of it.
use mathlib.Core.Bool.{Bool, true, false}
use mathlib.Core.Path.{◌≡◌, refl}
use Prim.Native.Nat.{◌<◌}
use native.Mathlib.Omega.{arith}
use Rattle.std.specs.Int.{from_bool}
use Rattle.base.specs.Base.{one}

pub from_bool_one : (b : Bool) → from_bool b ≡ one b
from_bool_one true = refl
from_bool_one false = refl

pub one_small : (b : Bool) → one b < 2
one_small true = omega arith
one_small false = omega arith

pub from_bool_small : (b : Bool) → from_bool b < 2
from_bool_small true = omega arith
from_bool_small false = omega arith
