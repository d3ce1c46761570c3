use mathlib.Core.Path.{◌≡◌}
use lib.ListN.{drop}
use Rattle.text.specs.Lines.{put_all}
use Rattle.phrases.specs.Frames.{pairs_text}
use Rattle.phrases.proofs.frames.pairs.Given as goal

abbrev pub invariant-loop-b : goal.invariant-loop-b
invariant-loop-b l = put_all l.line (pairs_text l.blank (drop l.b-index l.s)) ≡ put_all l.initial.line (pairs_text l.blank l.s)
