-- What was read with no space for a reply, and with space.
use Rattle.std.proofs.Common.{Some, None, Ok, Err}
use mathlib.Core.Bool.{Bool, true, false, not}
use mathlib.Core.List.{List}
use mathlib.Core.Logic.{◌⊎◌, inl, inr}
use mathlib.Core.Path.{◌≡◌, refl, ◌∙◌}
use Prim.Native.Nat.{ℕ, ◌+◌, ◌-◌, ◌<◌, ◌≤◌}
use lib.Dec.{eqb, ltb, leb}
use lib.ListN.{length}
use borrow.Author.Tests.{lt-ltb, le-ltb, le-leb, lt-leb}
use Rattle.base.specs.Base.{pick}
use Rattle.model.specs.Script.{reading, byte_at, number16, part, is_tag, body_length, decoded}
use Rattle.model.specs.declared.Step as steps
use Rattle.script.specs.OneWay.{answerable, is_end}
use Rattle.model.specs.Script.{Reading}
use Rattle.model.specs.declared.Refusal.TheVariants.{NoSpace, Short, UnknownTag, WrongLength}

without-space : (x : Reading) (space : ℕ) → ltb space 9 ≡ true → answerable x space ≡ pick (is_end x) (Ok None) (Err NoSpace)
unfolding answerable
without-space (Ok None) space h = refl
without-space (Err k) space h = simp h
without-space (Ok (Some (e, q))) space h = simp h

with_space : (x : Reading) (space : ℕ) → ltb space 9 ≡ false → answerable x space ≡ x
unfolding answerable
with_space (Ok None) space h = refl
with_space (Err k) space h = simp h
with_space (Ok (Some (e, q))) space h = simp h

at_end : (x : Reading) (space : ℕ) → is_end x ≡ true → answerable x space ≡ x
unfolding answerable
at_end (Ok None) space h = refl
at_end (Err k) space h = cc
at_end (Ok (Some (e, q))) space h = cc

-- only an empty rest is the end
end_of : (s : List ℕ) (p : ℕ) → is_end (reading s p) ≡ leb (length s) p
unfolding reading
end_of s p =
    go (leb (length s) p) (ltb (length s - p) 3) (not (is_tag (byte_at s p))) (not (eqb (number16 s (p + 1)) (body_length (byte_at s p))))
    (ltb (length s - p) (3 + body_length (byte_at s p))) (decoded (byte_at s p) (part s (p + 3) (p + 3 + body_length (byte_at s p)))) (p + 3 + body_length (byte_at s p))
  where
    go : (b₀ b₁ b₂ b₃ b₄ : Bool) (e : steps.Step) (q : ℕ)
        → is_end (pick b₀ (Ok None) (pick b₁ (Err Short) (pick b₂ (Err UnknownTag) (pick b₃ (Err WrongLength) (pick b₄ (Err Short) (Ok (Some (e, q)))))))) ≡ b₀
    go true b₁ b₂ b₃ b₄ e q = refl
    go false true b₂ b₃ b₄ e q = refl
    go false false true b₃ b₄ e q = refl
    go false false false true b₄ e q = refl
    go false false false false true e q = refl
    go false false false false false e q = refl

-- without space for a reply only the end is answered
pub unanswered : (s : List ℕ) (p space : ℕ) → space < 9 → p < length s → answerable (reading s p) space ≡ Err NoSpace
unanswered s p space h k = without-space (reading s p) space (lt-ltb space 9 h) ∙ rw (end_of s p, lt-leb (length s) p k)

pub answered : (s : List ℕ) (p space : ℕ) → ((space < 9) × (length s ≤ p)) ⊎ (9 ≤ space) → answerable (reading s p) space ≡ reading s p
answered s p space (inl h) = at_end (reading s p) space (end_of s p ∙ le-leb (length s) p h.1)
answered s p space (inr h) = with_space (reading s p) space (le-ltb space 9 h)
