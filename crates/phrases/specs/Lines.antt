-- Interrupt lines as text.
use Rattle.std.specs.Prelude.{List, [], ◌∷◌, ◌++◌, ℕ, zero, suc, ◌+◌}
use Rattle.base.specs.Base.{pick, bit}
use Rattle.phrases.specs.Names.{name_text}

-- a line that is up, with a blank in front; rows 23 to 26 are the lines 0 to 3
unfoldable pub line_text : ℕ → ℕ → List ℕ
line_text up i = pick (bit i up) (32 ∷ name_text (23 + i) 0) []

-- n lines, from line i on
unfoldable pub lines_on : ℕ → ℕ → ℕ → List ℕ
lines_on up i zero = []
lines_on up i (suc n) = line_text up i ++ lines_on up (i + 1) n

unfoldable pub lines_text : ℕ → List ℕ
lines_text up = lines_on up 0 4
