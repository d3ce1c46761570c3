use mathlib.Core.List.{List}
use mathlib.Core.Path.{ap, ◌∙◌}
use Prim.Native.Nat.{ℕ}
use lib.ListN.{drop}
use borrow.Author.Tests.{eq-eqb, ne_eqb}
use Rattle.model.specs.Registers.{reset}
use Rattle.block.specs.Block.{words_of}
use Rattle.block.specs.Loading.{right_length, banks_loaded}
use Rattle.block_load.proofs.load_banks.Goals as goal

pub returns-in_default : goal.returns-in_default
unfolding right_length banks_loaded reset
returns-in_default c = simp (ne_eqb _ _ c.in_default.ensures.1)

pub returns : goal.returns
unfolding right_length banks_loaded
returns c =
    let chunk = c.in-Ok.ensures.1 in
    simp (eq-eqb _ _ chunk.long) (c.banks_at.ensures ∙ ap (λ (b : List ℕ). words_of 28 (drop 242 b)) chunk.same)
