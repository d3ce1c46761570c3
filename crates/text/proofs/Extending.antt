-- A line extends itself, and what extends what extends it.
use Rattle.std.proofs.Common.{◌∙◌, refl, arith}
use Rattle.text.specs.Lines.{Extends}
use Rattle.text.specs.declared.Line.{Line}

pub extends_refl : (l : Line) → Extends l l
extends_refl l = record { kept = λ i h. refl; longer = omega arith }

pub extends_trans : (l m r : Line) → Extends l m → Extends m r → Extends l r
extends_trans l m r a b = record { kept = λ i h. b.kept i (omega (arith, a.longer)) ∙ a.kept i h; longer = omega (arith, a.longer, b.longer) }
