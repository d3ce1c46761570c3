-- Which blocks are accepted, what loading and saving give, and the promises about them. Document 02: Q-2.
use Rattle.std.specs.Prelude.{Bool, ◌&&◌, true, false, not, List, ◌≡◌, ℕ, eqb, length, drop, Some}
use Rattle.std.proofs.lemmas.List.Edits.{sets}
use Rattle.base.specs.Base.{pick}
use Rattle.model.specs.Queue.{holds}
use Rattle.model.specs.Control.{is_normal, boff}
use Rattle.model.specs.Registers.{reset, is_free}
use Rattle.model.specs.Shown.{tme}
use Rattle.model.specs.Reachable.{InRange, distinct}
use Rattle.model.specs.Records.{Bytes}
use Rattle.model.specs.Anywhere.{FromState}
use Rattle.model.specs.declared.Mailbox.{Mailbox}
use Rattle.model.specs.declared.Core.{Core}
use Rattle.model.specs.declared.Controller.{Controller}
use Rattle.model.specs.declared.Step as steps
use Rattle.ranges.specs.Ranges.{in_range}
use Rattle.block.specs.Block.{block_length, core_bytes, banks_bytes, saved, core_at, words_of, decoded, canonical}

unfoldable pub right_length : List ℕ → Bool
right_length b = eqb (length b) block_length

-- a block of the one form, with the state in it in range
unfoldable pub accepts : List ℕ → Bool
accepts b = right_length b && (canonical b && in_range (core_at b))

-- ---- loading: of a block that is refused, the reset state with code 10

unfoldable pub load_code : List ℕ → ℕ
load_code b = pick (accepts b) 0 10

unfoldable pub core_loaded : List ℕ → Core
core_loaded b = pick (accepts b) (core_at b) reset.core

-- the words of the banks may be any; only the length is looked at
unfoldable pub banks_loaded : List ℕ → List ℕ
banks_loaded b = pick (right_length b) (words_of 28 (drop 242 b)) reset.banks

unfoldable pub loaded : List ℕ → Controller
loaded b = pick (accepts b) (decoded b) reset

-- ---- saving: a block of another length stays as it was, with code 10

unfoldable pub save_code : List ℕ → ℕ
save_code b = pick (right_length b) 0 10

unfoldable pub saved_over : List ℕ → Controller → List ℕ
saved_over b z = pick (right_length b) (saved z) b

unfoldable pub core_saved_over : List ℕ → Core → List ℕ
core_saved_over b c = pick (right_length b) (sets b 0 (core_bytes c)) b

unfoldable pub banks_saved_over : List ℕ → List ℕ → List ℕ
banks_saved_over b v = pick (right_length b) (sets b 239 (banks_bytes v)) b

-- ---- the promises

-- a state within the ranges whose bytes these are
pub record Saves (b : List ℕ) : Type 0 where
  pub state : Controller
  pub ranges : InRange state
  pub bytes : saved state ≡ b

-- a block is refused by 10 exactly when saving no state within the listed ranges yields those bytes; and loading what was saved gives the same
-- state back
pub record Exact (b : List ℕ) : Type 0 where
  pub refused : load_code b ≡ 10 → Saves b → ⊥
  pub only : (Saves b → ⊥) → load_code b ≡ 10
  pub accepted : load_code b ≡ 0 → Saves b
  pub saves : Saves b → load_code b ≡ 0
  pub back : (s : Saves b) → loaded b ≡ s.state

-- what was saved within the ranges has the right length, is accepted, and gives the state back
pub record SavedLoads (z : Controller) : Type 0 where
  pub size : InRange z → length (saved z) ≡ block_length
  pub code : InRange z → load_code (saved z) ≡ 0
  pub back : InRange z → loaded (saved z) ≡ z

-- the waiting order names each mailbox that isn't empty, as TSR shows it, once and no other; one on the wire is among them, with Normal mode and
-- no bus-off
pub record WaitingOrder (z : Controller) : Type 0 where
  pub names : (m : Mailbox) → tme m z ≡ not (holds z.core.transmit.queue.order m)
  pub once : InRange z → distinct z.core.transmit.queue.order ≡ true
  pub wire : InRange z → (m : Mailbox) → z.core.transmit.queue.transmitting ≡ Some m → holds z.core.transmit.queue.order m ≡ true
  pub normal : InRange z → is_free z.core ≡ false → is_normal z.core.control.mode ≡ true
  pub on : InRange z → is_free z.core ≡ false → boff z.core.errors ≡ false

-- an accepted block: its bytes are those of the state in it, which lies within the ranges, and demand 3 holds of every list of steps from it
pub record FromBlock (b : List ℕ) : Type 0 where
  pub same : saved (loaded b) ≡ b
  pub ranges : InRange (loaded b)
  pub order : WaitingOrder (loaded b)
  pub demand : (l : List steps.Step) → FromState (loaded b) l

-- of every row of bytes, where 0 is the code of an accepted block
pub record Blocks (b : List ℕ) : Type 0 where
  pub exact : Bytes b → Exact b
  pub from : Bytes b → load_code b ≡ 0 → FromBlock b
