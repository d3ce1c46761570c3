-- The last arm is of the banks' words and of no register.
use Rattle.reads.proofs.OtherOffsets.{other_offset}
use Rattle.reads.proofs.read_at.Goals as goal

pub returns-in_default : goal.returns-in_default
returns-in_default c = rw (c.bank_read.ensures, other_offset _ _ _ c.in_default.in_default-own.rest)
