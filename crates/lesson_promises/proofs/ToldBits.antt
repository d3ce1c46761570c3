-- The fields of a register have exactly the bits that are not reserved: computed.
use mathlib.Core.Path.{refl}
use Rattle.lesson_promises.specs.Told.{besides, bits_on, field_bits, FieldBits}
use Rattle.lesson_promises.proofs.ToldNames.{lookups}

pub field_bits_lem : FieldBits
unfolding lookups besides bits_on field_bits
field_bits_lem = record { extended = refl; standard = refl }
