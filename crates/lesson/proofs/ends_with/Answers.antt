-- As many bytes as the reply has.
use mathlib.Core.Path.{◌∙◌, sym}
use Rattle.bench.proofs.Rounds.{reply_bytes_lem}
use Rattle.lesson.proofs.ends_with.Goals as goal

pub returns : goal.returns
returns c = rw (c.reply_length.ensures ∙ sym (reply_bytes_lem c.args.a))
