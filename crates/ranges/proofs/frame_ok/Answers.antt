use Rattle.receive.proofs.Masks.{data_bytes-le}
use Rattle.ranges.proofs.frame_ok.Goals as goal

pub none_behind-requires : goal.none_behind-requires
none_behind-requires c = rw c.data_bytes.ensures (data_bytes-le _)
