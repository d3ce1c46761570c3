use Rattle.text.proofs.Putting.{says_extends}
use Rattle.wording.proofs.lines_up.Goals as goal

pub returns : goal.returns
returns c = says_extends _ _ _ c.lines.ensures
