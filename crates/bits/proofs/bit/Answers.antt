use Rattle.bits.proofs.HighBits.{no_high-bit}
use Rattle.bits.proofs.bit.Goals as goal

pub returns-then-i-ge32 : goal.returns-then-i-ge32
returns-then-i-ge32 c = no_high-bit _ _ c.if-i-ge32.true c.ranges.w.fits
