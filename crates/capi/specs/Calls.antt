-- The calls from C: a step on the state in a lent block. Document 02: Q-2. The numbers of a step are those that the caller gives, whatever
-- their width; code, lines and word come back in one number.
use Rattle.std.specs.Prelude.{Bool, not, ◌&&◌, List, ℕ, ◌+◌, ◌*◌, ◌^◌, eqb, Result, Ok, Err}
use Rattle.std.proofs.lemmas.List.Edits.{sets}
use Rattle.base.specs.Base.{pick}
use Rattle.model.specs.Registers.{reset}
use Rattle.model.specs.Step.{step}
use Rattle.model.specs.Shown.{is_read}
use Rattle.model.specs.Refusals.{code}
use Rattle.model.specs.declared.Answer.{Answer}
use Rattle.model.specs.declared.Refusal.{Refusal}
use Rattle.model.specs.declared.Step as steps
use Rattle.writes.specs.Places.{is_nothing}
use Rattle.controller.specs.After.{write_after}
use Rattle.block.specs.Block.{block_length, core_bytes, saved}
use Rattle.block.specs.Loading.{right_length, accepts, loaded}

-- 0 is the STM32F334; there is no other board
unfoldable pub is_board : ℕ → Bool
is_board board = eqb board 0

-- the length of a board's block; 0: no such board
unfoldable pub block_size : ℕ → ℕ
block_size board = pick (is_board board) block_length 0

-- for a board that does not exist no length is right
unfoldable pub fits : ℕ → List ℕ → Bool
fits board b = is_board board && right_length b

unfoldable pub takes : ℕ → List ℕ → Bool
takes board b = is_board board && accepts b

-- the code in bits 7 to 0, the lines in 15 to 8, the word in 63 to 32
abbrev pub packed : ℕ → ℕ → ℕ → ℕ
packed code lines word = code + lines * 256 + word * 2 ^ 32

-- a refusal has lines and word 0
abbrev pub packed_of : Result Answer Refusal → ℕ
packed_of (Ok a) = packed a.code a.lines a.word
packed_of (Err r) = code r

-- a block that is refused: code 10, lines and word 0
unfoldable pub answer : ℕ → List ℕ → steps.Step → ℕ
answer board b e = pick (takes board b) (packed (step (loaded b) e).code (step (loaded b) e).lines (step (loaded b) e).word) 10

-- the step may change something: it is accepted and no read
abbrev pub changes : List ℕ → steps.Step → Bool
changes b e = eqb (step (loaded b) e).code 0 && not (is_read e)

-- a refused block, a refused step and a read leave the bytes; else all is written where the step writes a bank's word, and all but the
-- field of the banks where it writes none
unfoldable pub block_after : ℕ → List ℕ → steps.Step → List ℕ
block_after board b e =
    pick (takes board b && changes b e)
    (pick (is_nothing (write_after e)) (sets b 0 (core_bytes (step (loaded b) e).controller.core)) (saved (step (loaded b) e).controller))
    b

-- a reset is refused only for a wrong length, and else writes the reset state
unfoldable pub reset_answer : ℕ → List ℕ → ℕ
reset_answer board b = pick (fits board b) 0 10

unfoldable pub block_reset : ℕ → List ℕ → List ℕ
block_reset board b = pick (fits board b) (saved reset) b
