-- Bytes that are copied to their place, and flags that are stored one by one, as a run of stores.
use mathlib.Core.Bool.{Bool, true, false}
use mathlib.Core.List.{List, [], ◌∷◌, ◌++◌, map}
use mathlib.Core.Path.{◌≡◌, refl, sym, ap, ◌∙◌}
use Prim.Native.Nat.{ℕ, suc, ◌+◌, ◌-◌, ◌<◌, ◌≤◌}
use native.Mathlib.Numerals.{add-one}
use native.Mathlib.Omega.{arith}
use mir.Val.{bool_byte}
use lib.ListN.{length, get_or, take, drop, set}
use lib.Seq.{sets, take-suc, take_all, length-take-le}
use borrow.Rule.Slice.PartMut.{put_mid}
use Rattle.std.proofs.lemmas.List.Edits.{sets-eq}
use Rattle.std.proofs.lemmas.Slice.{put_mid-paste}
use Rattle.base.specs.Base.{one}
use Rattle.block.proofs.Stores.{sets-append}

pub stored : (b vs ys : List ℕ) (i n : ℕ) → ys ≡ vs → length vs ≡ n → i + n ≤ length b → put_mid i (i + n - i) b ys ≡ sets b i vs
stored b vs ys i n e l h =
    put_mid-paste i (i + n - i) b ys vs n e (omega arith) (sym l)
    ∙ ap (λ (x : List ℕ). take i b ++ x ++ drop (i + n) b) (take_all n vs (omega arith))
    ∙ ap (λ (m : ℕ). take i b ++ vs ++ drop (i + m) b) (sym l)
    ∙ sym (sets-eq vs b i (omega arith))

byte_one : (x : Bool) → bool_byte x ≡ one x
byte_one true = refl
byte_one false = refl

ones-last : (l : List Bool) (x : Bool) → map one (l ++ x ∷ []) ≡ map one l ++ one x ∷ []
ones-last [] x = refl
ones-last (y ∷ l) x = ap (λ (r : List ℕ). one y ∷ r) (ones-last l x)

ones-length : (l : List Bool) → length (map one l) ≡ length l
ones-length [] = refl
ones-length (y ∷ l) = ap suc (ones-length l)

-- one flag more
pub flag_more : (v : List Bool) (b : List ℕ) (i j : ℕ) → j < length v
    → set (sets b i (map one (take j v))) (i + j) (bool_byte (get_or v j false)) ≡ sets b i (map one (take (j + 1) v))
flag_more v b i j h =
    let n : length (take j v) ≡ j = length-take-le j v (omega arith) in
    ap (λ (x : ℕ). set (sets b i (map one (take j v))) (i + j) x) (byte_one (get_or v j false))
    ∙ sets-append (map one (take j v)) (one (get_or v j false) ∷ []) b i (i + j) (omega (arith, ones-length (take j v)))
    ∙ ap (λ (r : List ℕ). sets b i r) (sym (ones-last (take j v) (get_or v j false)) ∙ ap (map one) (sym (take-suc v j false h) ∙ ap (λ (k : ℕ). take k v) (sym (add-one j))))
