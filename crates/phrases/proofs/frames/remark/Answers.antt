use mathlib.Core.Path.{◌∙◌}
use Rattle.model.specs.Records.{field_bytes, bytes_of}
use Rattle.names.specs.Table.{bytes}
use Rattle.phrases.specs.Frames.{remark_text}
use Rattle.text.proofs.Putting.{behind}
use Rattle.phrases.proofs.frames.remark.Goals as goal

pub returns : goal.returns
unfolding remark_text bytes field_bytes bytes_of
returns c =
    behind _ _ _ (bytes " # frame, identifier word ") _ c.put.ensures.value
    (behind _ _ _ _ _ c.hex-a.ensures.value
    (behind _ _ _ (bytes ", length code ") _ c.put-2.ensures.value
    (behind _ _ _ _ _ (rw c.from.ensures at c.decimal-b.ensures.value) (behind _ _ _ (bytes ", data") _ c.put-3.ensures.value (c.pairs.ensures ∙ rw c.record-s.ensures)))))
