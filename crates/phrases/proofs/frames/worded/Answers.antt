use Rattle.phrases.specs.Frames.{worded_text}
use Rattle.text.proofs.Putting.{behind}
use Rattle.phrases.proofs.frames.worded.Goals as goal

pub returns : goal.returns
unfolding worded_text
returns c =
    behind _ _ _ _ _ c.begun.ensures
    (behind _ _ _ _ _ c.identifier-a.ensures
    (behind _ _ _ _ _ c.put.ensures.value (behind _ _ _ _ _ c.payload-b.ensures c.code.ensures)))
