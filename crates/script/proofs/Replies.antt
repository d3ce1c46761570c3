-- What is answered has space for its reply.
use Rattle.std.proofs.Common.{Some, None, Ok, Err}
use mathlib.Core.Bool.{Bool, true, false, ◌||◌}
use mathlib.Core.Path.{◌≡◌, refl}
use Prim.Native.Nat.{ℕ, ◌≤◌}
use native.Mathlib.Omega.{arith}
use borrow.Author.Tests.{ltb-false}
use lib.Dec.{eqb, ltb}
use Rattle.base.specs.Base.{pick}
use Rattle.script.specs.OneWay.{answerable, code_of, is_end}
use Rattle.model.specs.Script.{Reading}
use Rattle.model.specs.declared.Refusal.TheVariants.{NoSpace}

module _ (space code : ℕ) where
  abbrev Unanswered : Reading → Bool
  Unanswered x = is_end x || eqb (code_of x code) 9

  refused : {b : Bool} {G : Type 0} → b ≡ true → b ≡ false → G
  refused e d = let z : ◌≡◌ {A = ℕ} 0 1 = cc in absurd (omega arith)

  -- what is answered has space for its reply
  pub room : (x : Reading) → Unanswered (answerable x space) ≡ false → 9 ≤ space
  unfolding answerable
  room (Ok None) e = refused refl e
  room (Err k) e = go (ltb space 9) refl e
    where
      go : (b : Bool) → ltb space 9 ≡ b → Unanswered (pick b (Err NoSpace) (Err k)) ≡ false → 9 ≤ space
      go true d e = refused refl e
      go false d e = ltb-false space 9 d
  room (Ok (Some (s, q))) e = go (ltb space 9) refl e
    where
      go : (b : Bool) → ltb space 9 ≡ b → Unanswered (pick b (Err NoSpace) (Ok (Some (s, q)))) ≡ false → 9 ≤ space
      go true d e = refused refl e
      go false d e = ltb-false space 9 d
