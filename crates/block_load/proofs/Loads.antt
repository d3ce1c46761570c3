-- What loading gives, by how its tests came out.
use mathlib.Core.Bool.{Bool, true, false}
use mathlib.Core.List.{List}
use mathlib.Core.Path.{◌≡◌, refl, sym, ap, ◌∙◌}
use Prim.Native.Nat.{ℕ}
use lib.ListN.{length, drop}
use borrow.Author.Tests.{eq-eqb, ne_eqb}
use Rattle.std.proofs.Common.{Ok, Err, Result}
use Rattle.base.specs.Base.{pick}
use Rattle.base.proofs.Choices.{Is, Not, and-not}
use Rattle.model.specs.Refusals.{code_of}
use Rattle.model.specs.Registers.{reset}
use Rattle.model.specs.declared.Controller.{Controller}
use Rattle.model.specs.declared.Core.{Core}
use Rattle.model.specs.declared.Refusal.{Refusal}
use Rattle.model.specs.declared.Refusal.TheVariants.{BadBlock}
use Rattle.ranges.specs.Ranges.{in_range}
use Rattle.block.specs.Block.{block_length, core_at, words_of, decoded, canonical}
use Rattle.block.specs.Loading.{right_length, accepts, load_code, core_loaded, banks_loaded, loaded}
use Rattle.block.proofs.Exactly.{accepted-length}
use Rattle.block_load.specs.Loaded.{loaded_core, loaded_whole, given_or, Coded}

-- ---- a block that is not accepted

pub short : (b : List ℕ) → (length b ≡ block_length → ⊥) → Not (accepts b)
unfolding accepts right_length
short b h = rw (ne_eqb (length b) block_length h)

pub unformed : (b : List ℕ) → Not (canonical b) → Not (accepts b)
unfolding accepts
unformed b h = and-not (right_length b) _ (rw h)

pub unranged : (b : List ℕ) (c : Core) → c ≡ core_at b → Not (in_range c) → Not (accepts b)
unfolding accepts
unranged b c e h = and-not (right_length b) _ (and-not (canonical b) _ (ap in_range (sym e) ∙ h))

pub gives_none : (b : List ℕ) → Not (accepts b) → Err BadBlock ≡ loaded_core b
unfolding loaded_core
gives_none b h = rw h

-- ---- one that is

pub gives_core : (b : List ℕ) (c : Core) → length b ≡ block_length → Is (canonical b) → c ≡ core_at b → Is (in_range c) → Ok c ≡ loaded_core b
unfolding loaded_core core_loaded accepts right_length
gives_core b c n f e h =
    let k : Is (in_range (core_at b)) = ap in_range (sym e) ∙ h in
    rw (eq-eqb (length b) block_length n, f, k, e)

-- ---- the whole, from the core that was loaded and the words of the banks

-- what a core that was loaded says of the block
pub was_accepted : (b : List ℕ) (c : Core) → Ok c ≡ loaded_core b → Is (accepts b) × (c ≡ core_loaded b)
unfolding loaded_core
was_accepted b c e = go (accepts b) refl e
  where
    go : (t : Bool) → accepts b ≡ t → Ok c ≡ pick t (Ok (core_loaded b)) (Err BadBlock) → Is (accepts b) × (c ≡ core_loaded b)
    go true h p = (h, cc)
    go false h p = absurd (cc)

-- what a refusal says of it
pub was_refused : (b : List ℕ) (r : Refusal) → Err r ≡ loaded_core b → Not (accepts b) × (r ≡ BadBlock)
unfolding loaded_core
was_refused b r e = go (accepts b) refl e
  where
    go : (t : Bool) → accepts b ≡ t → Err r ≡ pick t (Ok (core_loaded b)) (Err BadBlock) → Not (accepts b) × (r ≡ BadBlock)
    go true h p = absurd (cc)
    go false h p = (h, cc)

pub whole_none : (b : List ℕ) (r : Refusal) → Err r ≡ loaded_core b → Err r ≡ loaded_whole b
unfolding loaded_core loaded_whole
whole_none b r e = go (accepts b) e
  where
    go : (t : Bool) → Err r ≡ pick t (Ok (core_loaded b)) (Err BadBlock) → Err r ≡ pick t (Ok (loaded b)) (Err BadBlock)
    go true p = absurd (cc)
    go false p = cc

pub whole-loaded : (b : List ℕ) (c : Core) (v : List ℕ) → Ok c ≡ loaded_core b → v ≡ banks_loaded b → Ok (record { core = c; banks = v }) ≡ loaded_whole b
unfolding loaded_whole core_loaded banks_loaded loaded decoded right_length
whole-loaded b c v p q =
    let a : Is (accepts b) = (was_accepted b c p).0 in
    let k : c ≡ core_at b = (was_accepted b c p).1 ∙ rw a in
    let w : v ≡ words_of 28 (drop 242 b) = q ∙ rw (eq-eqb (length b) block_length (accepted-length b a)) in
    rw (a, k, w)

coded_by : {A : Type 0} (t : Bool) (a : A) → code_of (pick t (Ok a) (Err BadBlock)) ≡ pick t 0 10
coded_by true a = refl
coded_by false a = refl

pub coded : (b : List ℕ) → Coded b
unfolding loaded_core loaded_whole load_code
coded b = record { core = coded_by (accepts b) (core_loaded b); whole = coded_by (accepts b) (loaded b) }

-- ---- with the reset state in place of a refusal

given_by : {A : Type 0} (t : Bool) (x z : A) → given_or z (pick t (Ok (pick t x z)) (Err BadBlock)) ≡ pick t x z
given_by true x z = refl
given_by false x z = refl

pub core_or_reset : (b : List ℕ) (r : Result Core Refusal) → r ≡ loaded_core b → given_or reset.core r ≡ core_loaded b
unfolding loaded_core core_loaded
core_or_reset b r e = rw e (given_by (accepts b) (core_at b) reset.core)

pub whole_or_reset : (b : List ℕ) (r : Result Controller Refusal) → r ≡ loaded_whole b → given_or reset r ≡ loaded b
unfolding loaded_whole loaded
whole_or_reset b r e = rw e (given_by (accepts b) (decoded b) reset)
