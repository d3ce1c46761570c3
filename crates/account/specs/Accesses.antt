-- The offset that a step names, and so its register.
use Rattle.std.specs.Prelude.{ℕ}
use Rattle.model.specs.declared.Step.{Step}
use Rattle.model.specs.declared.Step.TheVariants.{Reset, Read, Write, Idle, BitTimes, Activity, Start, Outcome, Receive, ReceiveError}

-- the offset of a register access; any other step has 1, which names no register
abbrev pub offset_of : Step → ℕ
offset_of Reset = 1
offset_of (Read o) = o
offset_of (Write o w) = o
offset_of Idle = 1
offset_of (BitTimes n) = 1
offset_of Activity = 1
offset_of Start = 1
offset_of (Outcome r) = 1
offset_of (Receive x) = 1
offset_of (ReceiveError k n) = 1
