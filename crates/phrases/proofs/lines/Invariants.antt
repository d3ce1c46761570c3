use mathlib.Core.Path.{◌≡◌}
use Prim.Native.Nat.{◌-◌}
use Rattle.text.specs.Lines.{put_all}
use Rattle.phrases.specs.Lines.{lines_on, lines_text}
use Rattle.phrases.proofs.lines.Given as goal

abbrev pub invariant-loop-i : goal.invariant-loop-i
invariant-loop-i l = put_all l.line (lines_on l.up l.i (4 - l.i)) ≡ put_all l.initial.line (lines_text l.up)
