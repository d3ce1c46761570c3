-- What loading gives: the state in a block that is accepted, or the refusal. Document 02: Q-2.
use Rattle.std.specs.Prelude.{List, ◌≡◌, ℕ, Result, Ok, Err}
use Rattle.base.specs.Base.{pick}
use Rattle.model.specs.Refusals.{code_of}
use Rattle.model.specs.declared.Core.{Core}
use Rattle.model.specs.declared.Controller.{Controller}
use Rattle.model.specs.declared.Refusal.{Refusal}
use Rattle.model.specs.declared.Refusal.TheVariants.{BadBlock}
use Rattle.block.specs.Loading as block

unfoldable pub loaded_core : List ℕ → Result Core Refusal
loaded_core b = pick (block.accepts b) (Ok (block.core_loaded b)) (Err BadBlock)

abbrev pub banks_loaded : List ℕ → List ℕ
banks_loaded b = block.banks_loaded b

unfoldable pub loaded_whole : List ℕ → Result Controller Refusal
loaded_whole b = pick (block.accepts b) (Ok (block.loaded b)) (Err BadBlock)

-- what was loaded, or what stands in the place of a refusal
abbrev pub given_or : {A : Type 0} → A → Result A Refusal → A
given_or z (Ok x) = x
given_or z (Err r) = z

-- both are refused by the code of the definition
pub record Coded (b : List ℕ) : Type 0 where
  pub core : code_of (loaded_core b) ≡ block.load_code b
  pub whole : code_of (loaded_whole b) ≡ block.load_code b
