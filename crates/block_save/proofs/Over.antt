-- The core, and then the banks' field behind it: the whole block.
use mathlib.Core.Bool.{Bool, true, false, false≢true}
use mathlib.Core.List.{List, ◌++◌}
use mathlib.Core.Path.{◌≡◌, refl, sym, ap, ◌∙◌}
use Prim.Native.Nat.{ℕ}
use native.Mathlib.Omega.{arith}
use lib.Dec.{eqb}
use lib.ListN.{length}
use lib.Seq.{sets, length-sets}
use borrow.Author.Tests.{eqb-true}
use Rattle.base.specs.Base.{pick}
use Rattle.model.specs.Refusals.{code}
use Rattle.model.specs.declared.Refusal.{Refusal}
use Rattle.model.specs.declared.Core.{Core}
use Rattle.model.specs.declared.Controller.{Controller}
use Rattle.model.proofs.RefusalNumbers.{refused}
use Rattle.block.specs.Block.{block_length, core_bytes, banks_bytes, saved}
use Rattle.block.specs.Loading.{right_length, save_code, saved_over, core_saved_over, banks_saved_over}
use Rattle.block.proofs.Lengths.{core-length, saved-length}
use Rattle.block.proofs.Stores.{sets-append, sets-whole}

-- saving the core keeps the length
pub same_size : (b : List ℕ) (c : Core) → right_length (core_saved_over b c) ≡ right_length b
unfolding right_length core_saved_over
same_size b c = go (eqb (length b) block_length) refl
  where
    go : (t : Bool) → eqb (length b) block_length ≡ t → right_length (core_saved_over b c) ≡ right_length b
    go true e = rw (e, length-sets b 0 (core_bytes c), e)
    go false e = rw (e, e)

whole : (b : List ℕ) (z : Controller) → length b ≡ block_length → length z.banks ≡ 28 → sets (sets b 0 (core_bytes z.core)) 239 (banks_bytes z.banks) ≡ saved z
unfolding saved
whole b z e n =
    sets-append (core_bytes z.core) (banks_bytes z.banks) b 0 239 (omega (arith, core-length z.core))
    ∙ sets-whole (core_bytes z.core ++ banks_bytes z.banks) b (e ∙ sym (saved-length z n))

pub over : (b : List ℕ) (z : Controller) → length z.banks ≡ 28 → banks_saved_over (core_saved_over b z.core) z.banks ≡ saved_over b z
unfolding right_length core_saved_over banks_saved_over saved_over
over b z n = go (eqb (length b) block_length) refl
  where
    go : (t : Bool) → eqb (length b) block_length ≡ t → banks_saved_over (core_saved_over b z.core) z.banks ≡ saved_over b z
    go true e = rw (e, length-sets b 0 (core_bytes z.core), e) (whole b z (eqb-true _ _ e) n)
    go false e = rw (e, e)

pub code-kept : (b : List ℕ) (c : Core) → save_code (core_saved_over b c) ≡ save_code b
unfolding save_code
code-kept b c = rw (same_size b c)

-- a refusal is one for the length, and then the block stays
pub refused_left : (b : List ℕ) (c : Core) (z : Controller) (r : Refusal) → code r ≡ save_code b → core_saved_over b c ≡ saved_over b z
unfolding save_code core_saved_over saved_over
refused_left b c z r e = go (right_length b) refl
  where
    go : (t : Bool) → right_length b ≡ t → core_saved_over b c ≡ saved_over b z
    go true h =
        let k : code r ≡ 0 = e ∙ ap (λ (t : Bool). pick t 0 10) h in
        absurd (false≢true (sym (refused r) ∙ ap (λ (n : ℕ). eqb n 0) k))
    go false h = rw h
