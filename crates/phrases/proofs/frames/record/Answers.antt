use Rattle.std.proofs.Common.{◌∙◌, arith}
use Rattle.phrases.proofs.Records.{frame-record}
use Rattle.phrases.proofs.frames.record.Goals as goal

pub returns : goal.returns
returns c = (rw c.from.ensures at c.write_record.ensures.space_after) ∙ frame-record c.args.x (omega arith) (omega arith) (omega arith) (omega arith)
