-- The bytes of the reset state that are not 0, in two parts: the headers of the fields, and numbers.
use Rattle.std.specs.Prelude.{List, [], ◌∷◌, ℕ}
use Rattle.std.proofs.lemmas.List.Edits.{sets}
use Rattle.block.specs.Block.{word_bytes}

-- the tag and the length of a field
abbrev pub header : ℕ → ℕ → List ℕ
header t n = t ∷ n ∷ 0 ∷ []

unfoldable pub headers : List ℕ → List ℕ
headers b =
    sets (sets (sets (sets (sets (sets (sets (sets (sets (sets b 0 (header 0x40 20)) 23 (header 0x41 4)) 30 (header 0x42 20)) 53 (header 0x43 20)) 76 (header 0x44 20))
    99 (header 0x45 7)) 109 (header 0x46 52)) 164 (header 0x47 52)) 219 (header 0x48 17)) 239 (header 0x49 112)

-- MCR, IER, BTR, the mode; no mailbox in the order or on the wire; FINIT
unfoldable pub reset_numbers : List ℕ → List ℕ
reset_numbers b =
    sets (sets (sets (sets b 3 (word_bytes (0x00010002 ∷ 0 ∷ 0x01230000 ∷ []))) 17 (2 ∷ [])) 102 (3 ∷ 3 ∷ 3 ∷ 3 ∷ [])) 238 (1 ∷ [])
