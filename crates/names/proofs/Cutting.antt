-- A literal of rows one behind the other, cut at row i, is row i of the list.
use Rattle.std.proofs.Math.Dec.{leb-suc-suc}
use mathlib.Core.Bool.{Bool, true, ◌&&◌}
use mathlib.Core.Path.{◌≡◌, ap, ◌∙◌}
use mathlib.Core.List.{List, [], ◌∷◌, ◌++◌}
use Prim.Native.Nat.{ℕ, zero, suc, ◌+◌, ◌*◌, ◌/◌, ◌<◌}
use native.Mathlib.Omega.{arith}
use lib.Dec.{eqb}
use lib.ListN.{length, take, drop, length-append}
use lib.Seq.{take_at, drop-append-add}
use borrow.Author.Tests.{eqb-true, le-leb, lt-leb}
use Rattle.base.specs.Base.{pick}
use Rattle.base.proofs.Choices.{Is, and_l, and_r}
use Rattle.names.specs.Listing.{no_row, cut, row_of}

-- ---- the rows

unfoldable pub spelled : List (List ℕ) → List ℕ
spelled [] = []
spelled (r ∷ l) = r ++ spelled l

-- every row has 14 bytes
unfoldable pub is_full : List (List ℕ) → Bool
is_full [] = true
is_full (r ∷ l) = eqb (length r) 14 && is_full l

first : (r x : List ℕ) → length r ≡ 14 → cut (r ++ x) 0 ≡ r
unfolding cut
first r x e =
    let h : 0 < length (r ++ x) / 14 = simp length-append (omega arith) in
    ap (λ (b : Bool). pick b no_row (take 14 (r ++ x))) (lt-leb _ _ h) ∙ take_at r x 14 e

further : (r x : List ℕ) (i : ℕ) → length r ≡ 14 → cut (r ++ x) (suc i) ≡ cut x i
unfolding cut
further r x i e =
    let n : length (r ++ x) / 14 ≡ suc (length x / 14) = simp length-append (omega arith) in
    let p : suc i * 14 ≡ length r + i * 14 = omega arith in
    let d : drop (suc i * 14) (r ++ x) ≡ drop (i * 14) x = rw p (drop-append-add r x (i * 14)) in
    rw (n, d) (ap (λ (b : Bool). pick b no_row (take 14 (drop (i * 14) x))) (leb-suc-suc (length x / 14) i))

pub cut_rows : (l : List (List ℕ)) → Is (is_full l) → (i : ℕ) → cut (spelled l) i ≡ row_of l i
unfolding spelled is_full row_of cut
cut_rows [] f i = ap (λ (b : Bool). pick b no_row (take 14 (drop (i * 14) []))) (le-leb 0 i (omega arith))
cut_rows (r ∷ l) f zero = first r (spelled l) (eqb-true (length r) 14 (and_l (eqb (length r) 14) (is_full l) f))
cut_rows (r ∷ l) f (suc i) =
    further r (spelled l) i (eqb-true (length r) 14 (and_l (eqb (length r) 14) (is_full l) f))
    ∙ cut_rows l (and_r (eqb (length r) 14) (is_full l) f) i
