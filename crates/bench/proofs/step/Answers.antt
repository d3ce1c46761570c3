use Rattle.bench.proofs.Taken.{step-taken}
use Rattle.bench.proofs.step.Goals as goal

pub returns : goal.returns
returns c = step-taken _ _ c.core_step-s.result _ c.core_step-s.ensures c.store.ensures
