-- A step as a line of lesson text: docs/LESSONS.md, "Steps" and "From bytes to text".
use Rattle.std.specs.Prelude.{Bool, not, ◌&&◌, List, ◌∷◌, ◌++◌, ℕ, ◌+◌, eqb, ltb}
use Rattle.base.specs.Base.{pick}
use Rattle.model.specs.declared.Step.{Step}
use Rattle.model.specs.declared.Step.TheVariants.{Reset, Read, Write, Idle, BitTimes, Activity, Start, Outcome, Receive, ReceiveError}
use Rattle.text.specs.Numbers.{decimal, hex}
use Rattle.phrases.specs.Names.{name_text, register_text, fields_text, is_said}
use Rattle.phrases.specs.Frames.{word_text, begun, frame_text}

abbrev pub number_text : ℕ → List ℕ
number_text w = 32 ∷ hex w 8

-- the fields alone where they say all of a word that isn't 0, else the number alone; `full`: the number and the fields
unfoldable pub written_text : ℕ → ℕ → Bool → List ℕ
written_text o w full =
    pick full (number_text w ++ fields_text o w)
    (pick (is_said o w && not (eqb w 0)) (fields_text o w) (number_text w))

unfoldable pub write_text : ℕ → ℕ → Bool → List ℕ
write_text o w full = begun 3 ++ (register_text o ++ written_text o w full)

-- rows 14 to 22 are the results from 0 to 8
unfoldable pub result_text : ℕ → List ℕ
result_text r = pick (ltb r 9) (name_text (14 + r) 0) (decimal r)

unfoldable pub error_text : ℕ → ℕ → List ℕ
error_text code by = begun 10 ++ (decimal code ++ (32 ∷ decimal by))

unfoldable pub step_text : Step → Bool → List ℕ
step_text Reset full = word_text 1
step_text (Read o) full = begun 2 ++ register_text o
step_text (Write o w) full = write_text o w full
step_text Idle full = word_text 4
step_text (BitTimes n) full = begun 5 ++ decimal n
step_text Activity full = word_text 6
step_text Start full = word_text 7
step_text (Outcome r) full = begun 8 ++ result_text r
step_text (Receive x) full = frame_text x
step_text (ReceiveError code by) full = error_text code by
