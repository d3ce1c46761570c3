-- What the calls promise. Document 02: Q-2.
use Rattle.std.specs.Prelude.{false, List, [], ◌∷◌, ◌≡◌, ℕ, ◌/◌, ◌%◌, ◌^◌, eqb, length}
use Rattle.model.specs.Registers.{reset}
use Rattle.model.specs.Step.{step}
use Rattle.model.specs.Reachable.{StepRange, StepsRange}
use Rattle.model.specs.Records.{Bytes}
use Rattle.model.specs.Requests.{Entry, start_word, after, entries}
use Rattle.model.specs.Anywhere.{FromState}
use Rattle.model.specs.declared.Controller.{Controller}
use Rattle.model.specs.declared.Step as steps
use Rattle.model.specs.declared.Step.TheVariants.{Reset}
use Rattle.block.specs.Block.{saved}
use Rattle.block.specs.Loading.{loaded, Saves}
use Rattle.capi.specs.Calls.{block_size, answer, block_after, reset_answer, block_reset}

-- the parts of an answer
abbrev pub code_in : ℕ → ℕ
code_in a = a % 2 ^ 8

abbrev pub lines_in : ℕ → ℕ
lines_in a = a / 2 ^ 8 % 2 ^ 8

abbrev pub unused_in : ℕ → ℕ
unused_in a = a / 2 ^ 16 % 2 ^ 16

abbrev pub word_in : ℕ → ℕ
word_in a = a / 2 ^ 32

-- code 10 exactly where no state within the ranges is saved as these bytes, or there is no such board; then word and lines are 0, and the block stays
pub record BlockRefused (board : ℕ) (b : List ℕ) (e : steps.Step) : Type 0 where
  pub code : code_in (answer board b e) ≡ 10 → board ≡ 0 → Saves b → ⊥
  pub unknown : (board ≡ 0 → ⊥) → answer board b e ≡ 10
  pub block : (Saves b → ⊥) → answer board b e ≡ 10
  pub alone : code_in (answer board b e) ≡ 10 → answer board b e ≡ 10
  pub kept : answer board b e ≡ 10 → block_after board b e ≡ b

-- else the answer has code, lines and word of the step of the state in the block; the block is then that of the next state, and a
-- refused step leaves it as it was. `StepRange` holds of every call, whose numbers have 32 bits
pub record BlockStepped (b : List ℕ) (e : steps.Step) : Type 0 where
  pub code : code_in (answer 0 b e) ≡ (step (loaded b) e).code
  pub lines : lines_in (answer 0 b e) ≡ (step (loaded b) e).lines
  pub word : word_in (answer 0 b e) ≡ (step (loaded b) e).word
  pub unused : unused_in (answer 0 b e) ≡ 0
  pub block : block_after 0 b e ≡ saved (step (loaded b) e).controller
  pub stays : eqb (code_in (answer 0 b e)) 0 ≡ false → block_after 0 b e ≡ b
  pub next : StepRange e → loaded (block_after 0 b e) ≡ (step (loaded b) e).controller
  pub accepted : StepRange e → Saves (block_after 0 b e)

-- a reset: refused only for a wrong length; it gives what the step Reset gives from any state
pub record Resets (board : ℕ) (b : List ℕ) : Type 0 where
  pub right : board ≡ 0 → length b ≡ block_size board → (reset_answer board b ≡ 0) × (block_reset board b ≡ saved reset)
  pub wrong : (length b ≡ block_size board → ⊥) → (reset_answer board b ≡ 10) × (block_reset board b ≡ b)
  pub none : (board ≡ 0 → ⊥) → (reset_answer board b ≡ 10) × (block_reset board b ≡ b)
  pub step : (z : Controller) → (step z Reset).controller ≡ reset
  -- its block is accepted, and of an accepted block it is the call of the step Reset
  pub accepted : Saves (saved reset)
  pub same : Saves b → (reset_answer 0 b ≡ answer 0 b Reset) × (block_reset 0 b ≡ block_after 0 b Reset)

-- ---- lists of calls

-- the block after a list of steps, each by its call
unfoldable pub block_behind : List ℕ → List steps.Step → List ℕ
block_behind b [] = b
block_behind b (e ∷ l) = block_behind (block_after 0 b e) l

-- what an observer is fed of them: each step with the code of its answer, and a start's word
unfoldable pub call_entries : List ℕ → List steps.Step → List Entry
call_entries b [] = []
call_entries b (e ∷ l) = record { step = e; code = code_in (answer 0 b e); word = start_word e (word_in (answer 0 b e)) } ∷ call_entries (block_after 0 b e) l

-- it is the block of the state after these steps, so that demand 3 holds of every list of calls from an accepted block
pub record Called (b : List ℕ) (l : List steps.Step) : Type 0 where
  pub block : StepsRange l → block_behind b l ≡ saved (after (loaded b) l)
  pub accepted : StepsRange l → Saves (block_behind b l)
  pub fed : StepsRange l → call_entries b l ≡ entries (loaded b) l
  pub demand : FromState (loaded b) l

-- of every board, row of bytes and step, and of every list of steps from an accepted block
pub record Promises : Type 0 where
  pub refused : (board : ℕ) (b : List ℕ) (e : steps.Step) → Bytes b → BlockRefused board b e
  pub stepped : (b : List ℕ) (e : steps.Step) → Saves b → BlockStepped b e
  pub resets : (board : ℕ) (b : List ℕ) → Resets board b
  pub size : (block_size 0 ≡ 354) × ((board : ℕ) → (board ≡ 0 → ⊥) → block_size board ≡ 0)
  pub called : (b : List ℕ) (l : List steps.Step) → Saves b → Called b l
