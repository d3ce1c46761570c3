use Rattle.bench.proofs.Taken.{record-taken}
use Rattle.bench.proofs.replay_record.Goals as goal

pub returns : goal.returns
returns c =
    record-taken _ _ _ _ _ c.replayed_at-s.result _ _ c.replayed_at-s.ensures.0 c.store.ensures c.replayed_at-s.ensures.1
