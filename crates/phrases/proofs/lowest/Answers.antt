use mathlib.Core.Path.{sym}
use native.Mathlib.Nat.{mod-eq_of_lt, lt_of_lt_of_le}
use lib.Pow.{pow_mono}
use Rattle.phrases.proofs.lowest.Goals as goal

pub returns-then-size-ge32 : goal.returns-then-size-ge32
returns-then-size-ge32 c = sym (mod-eq_of_lt (lt_of_lt_of_le c.ranges.n.fits (pow_mono c.if-size-ge32.true)))
