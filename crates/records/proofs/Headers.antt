-- What is read at a place where a whole header stands, by the tag and the length that it says.
use Rattle.std.proofs.Common.{Option, Some, None, Ok, Err, sym, ap}
use mathlib.Core.Path.{◌≡◌, refl}
use mathlib.Core.Bool.{Bool, true, false, not}
use mathlib.Core.List.{List}
use Prim.Native.Nat.{ℕ, zero, suc, ◌+◌, ◌-◌, ◌≤◌}
use native.Mathlib.Omega.{arith}
use lib.Dec.{eqb, ltb, leb}
use lib.ListN.{length}
use borrow.Author.Tests.{leb-true, le-ltb, lt-leb}
use Rattle.base.specs.Base.{pick}
use Rattle.model.specs.Script.{byte_at, number16, is_tag, body_length, decoded, part, reading}
use Rattle.model.specs.Script.{Reading}
use Rattle.records.specs.Bodies.{refused}
use Rattle.model.specs.declared.Step.{Step}
use Rattle.model.specs.declared.Refusal.{Refusal}
use Rattle.model.specs.declared.Refusal.TheVariants.{Short, WrongLength}

-- the body of a record of tag t: it can't be read
pub by_refusal : (s : List ℕ) (p t : ℕ) (r : Refusal) → 3 ≤ length s - p → byte_at s p ≡ t → is_tag t ≡ true → refused s p (body_length t) ≡ Some r → Err r ≡ reading s p
unfolding reading
by_refusal s p t r h e i k = simp (lt-leb (length s) p (omega arith), le-ltb (length s - p) 3 h, e, i) (go (not (eqb (number16 s (p + 1)) (body_length t))) (ltb (length s - p) (3 + body_length t)) k)
  where
    go : (a b : Bool) → pick {A = Option Refusal} a (Some WrongLength) (pick b (Some Short) None) ≡ Some r
        → Err r ≡ pick {A = Reading} a (Err WrongLength) (pick b (Err Short) (Ok (Some (decoded t (part s (p + 3) (p + 3 + body_length t)), p + 3 + body_length t))))
    go true b k = ap (λ (x : Refusal). Err x) (sym (let f : WrongLength ≡ r = cc in f))
    go false true k = ap (λ (x : Refusal). Err x) (sym (let f : Short ≡ r = cc in f))
    go false false k = let z : ◌≡◌ {A = ℕ} 0 1 = cc in absurd (omega arith)

-- or it is whole
pub by_body : (s : List ℕ) (p t : ℕ) (d : Step) (q : ℕ) → 3 ≤ length s - p → byte_at s p ≡ t → is_tag t ≡ true → refused s p (body_length t) ≡ None
    → d ≡ decoded t (part s (p + 3) (p + 3 + body_length t)) → q ≡ p + 3 + body_length t → Ok (Some (d, q)) ≡ reading s p
unfolding reading
by_body s p t d q h e i k m n = simp (lt-leb (length s) p (omega arith), le-ltb (length s - p) 3 h, e, i) (go (not (eqb (number16 s (p + 1)) (body_length t))) (ltb (length s - p) (3 + body_length t)) k)
  where
    go : (a b : Bool) → pick {A = Option Refusal} a (Some WrongLength) (pick b (Some Short) None) ≡ None
        → Ok (Some (d, q)) ≡ pick {A = Reading} a (Err WrongLength) (pick b (Err Short) (Ok (Some (decoded t (part s (p + 3) (p + 3 + body_length t)), p + 3 + body_length t))))
    go true b k = let z : ◌≡◌ {A = ℕ} 0 1 = cc in absurd (omega arith)
    go false true k = let z : ◌≡◌ {A = ℕ} 0 1 = cc in absurd (omega arith)
    go false false k = rw (m, n)

-- a tag that is none of 1 to n, as a match leaves it
abbrev NoneTo : ℕ → ℕ → Type 0
NoneTo zero t = Unit {0}
NoneTo (suc n) t = NoneTo n t × (t ≡ suc n → ⊥)

-- from 1 on it is past n
above : (n t : ℕ) → NoneTo n t → 1 ≤ t → suc n ≤ t
above zero t h f = f
above (suc n) t h f = past (above n t h.0 f) h.1
  where
    past : suc n ≤ t → (t ≡ suc n → ⊥) → suc (suc n) ≤ t
    past l d = omega arith

-- tags are 1 to 10
pub no_tag : (t : ℕ) → NoneTo 10 t → is_tag t ≡ false
no_tag t h = by_first (leb 1 t) refl
  where
    by_first : (b : Bool) → leb 1 t ≡ b → is_tag t ≡ false
    by_first true e = rw (e, lt-leb t 10 (above 10 t h (leb-true 1 t e)))
    by_first false e = rw e
