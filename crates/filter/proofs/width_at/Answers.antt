-- One digit of each word tells the width: `width-from-digits`.
use Rattle.std.proofs.Common.{arith}
use Rattle.model.specs.Banks.{class_of}
use Rattle.filter.proofs.Numbered.{width-from-digits}
use Rattle.filter.proofs.width_at.Goals as goal

pub returns : goal.returns
unfolding class_of
returns c = width-from-digits _ _ (omega arith) (omega arith)
