-- A space that is written from its front on: by a store, and by a part that is lent and comes back.
use mathlib.Core.Path.{◌≡◌, refl, sym, ap}
use mathlib.Core.List.{List, [], ◌∷◌, ◌++◌, append_assoc, append-nil}
use Prim.Native.Nat.{ℕ, ◌-◌, ◌<◌, ◌≤◌}
use native.Mathlib.Omega.{arith}
use lib.ListN.{length, set, take, drop, length-append, length-drop, drop_of_length-le}
use lib.Seq.{take_all, take_at, drop_at, drop-drop}
use Rattle.model.specs.Script.{overwritten}

-- a byte stored behind what is written
pub set_next : (done space : List ℕ) (x : ℕ) → length done < length space → set (overwritten done space) (length done) x ≡ overwritten (done ++ x ∷ []) space
set_next [] [] x h = absurd (omega arith)
set_next [] (y ∷ s) x h = refl
set_next (a ∷ r) [] x h = absurd (omega arith)
set_next (a ∷ r) (y ∷ s) x h = ap (λ (l : List ℕ). a ∷ l) (set_next r s x (omega arith))

-- so many stores from the front on
pub two-sets : (s : List ℕ) (a b : ℕ) → 2 ≤ length s → set (set s 0 a) 1 b ≡ overwritten (a ∷ b ∷ []) s
two-sets s a b h = rw (set_next [] s a (omega arith)) (set_next (a ∷ []) s b (omega arith))

pub three-sets : (s : List ℕ) (a b c : ℕ) → 3 ≤ length s → set (set (set s 0 a) 1 b) 2 c ≡ overwritten (a ∷ b ∷ c ∷ []) s
three-sets s a b c h = rw (two-sets s a b (omega arith)) (set_next (a ∷ b ∷ []) s c (omega arith))

pub four-sets : (s : List ℕ) (a b c d : ℕ) → 4 ≤ length s → set (set (set (set s 0 a) 1 b) 2 c) 3 d ≡ overwritten (a ∷ b ∷ c ∷ d ∷ []) s
four-sets s a b c d h = rw (three-sets s a b c (omega arith)) (set_next (a ∷ b ∷ c ∷ []) s d (omega arith))

-- the part behind what is written is lent, and comes back with r written over it
pub put-behind : (done r space now part : List ℕ) (w : ℕ) → w ≡ length done → w ≤ length space → now ≡ overwritten done space
    → part ≡ overwritten r (take (length now - w) (drop w now))
    → take w now ++ (part ++ drop (length now - w) (drop w now)) ≡ overwritten (done ++ r) space
put-behind done r space now part w e l h k =
    let rest : drop w now ≡ drop (length done) space = rw h (drop_at done (drop (length done) space) w (sym e)) in
    let front : take w now ≡ done = rw h (take_at done (drop (length done) space) w (sym e)) in
    let all : take (length now - w) (drop w now) ≡ drop w now = take_all (length now - w) (drop w now) (omega (arith, length-drop w now)) in
    let none : drop (length now - w) (drop w now) ≡ [] = drop_of_length-le (drop w now) {i = length now - w} (omega (arith, length-drop w now)) in
    rw (none, front, k, all, rest) (simp (append-nil, append_assoc, length-append, drop-drop))
