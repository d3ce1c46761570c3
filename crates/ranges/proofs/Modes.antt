-- What `==` says of modes is what their bits say.
use mathlib.Core.Bool.{Bool, true, false}
use mathlib.Core.Path.{◌≡◌, refl}
use lib.Dec.{eqb}
use Rattle.model.specs.Control.{mode_bits}
use Rattle.model.specs.contracts.ModePartialEq.TheImpl.{eq-value}
use Rattle.model.specs.declared.Mode.{Mode}
use Rattle.model.specs.declared.Mode.TheVariants.{Sleep, Initialization, Normal}

pub equal_bits : (a b : Mode) → eq-value.it a b ≡ eqb (mode_bits a) (mode_bits b)
equal_bits Sleep Sleep = refl
equal_bits Sleep Initialization = refl
equal_bits Sleep Normal = refl
equal_bits Initialization Sleep = refl
equal_bits Initialization Initialization = refl
equal_bits Initialization Normal = refl
equal_bits Normal Sleep = refl
equal_bits Normal Initialization = refl
equal_bits Normal Normal = refl
