-- The bytes that are not used yet, after some were used and after more were read behind them.
use Rattle.std.proofs.Common.{◌≡◌, ℕ, ◌+◌, ◌-◌, ◌≤◌, inl, inr, min, List, ◌++◌, length, take, drop, sym, ap, ◌∙◌, zero-add, arith, length-drop}
use Rattle.std.proofs.Math.Nat.{min-eq_left, min-eq_right, min-le_left}
use Rattle.std.proofs.lemmas.Bool.{cases_lt}
use Rattle.std.proofs.lemmas.List.{length-take, length-take-le, drop-take, take-append-le, drop_all}
use Rattle.std.proofs.Math.Seq.{drop-drop, take-append-add}
use Rattle.std.proofs.lemmas.List.Edits.{take-paste}
use Rattle.std.specs.List.{copy_within}
use borrow.Rule.Slice.PartMut.{put_mid, post_of}
use Rattle.stream.specs.Unread.{between}

pub between-later : (p f n : ℕ) (xs : List ℕ) → p ≤ f → between (p + min n (f - p)) f xs ≡ drop n (between p f xs)
between-later p f n xs h = elim (cases_lt n (f - p)) [
  | inl low ↦
      let m : min n (f - p) ≡ n = min-eq_left (omega arith) in
      let s : f - p ≡ n + (f - (p + n)) = omega arith in
      rw m (ap (λ (l : List ℕ). take (f - (p + n)) l) (sym (drop-drop n p xs)) ∙ sym (drop-take n (f - (p + n)) (drop p xs)) ∙ ap (λ (k : ℕ). drop n (take k (drop p xs))) (sym s))
  | inr high ↦
      let m : min n (f - p) ≡ f - p = min-eq_right high in
      let z : f - (p + (f - p)) ≡ 0 = omega arith in
      rw m (ap (λ (k : ℕ). take k (drop (p + (f - p)) xs)) z ∙ sym (drop_all n (between p f xs) (omega (arith, length-take (f - p) (drop p xs), min-le_left (f - p) (length (drop p xs)), high))))
]

pub length-between : (p f : ℕ) (xs : List ℕ) → p ≤ f → f ≤ length xs → length (between p f xs) ≡ f - p
length-between p f xs h w = length-take-le (f - p) (drop p xs) (rw (length-drop p xs) (omega (arith, h, w)))

-- they were moved to the front, and the bytes ys lie behind them now
pub read-behind : (p f n j : ℕ) (xs ys : List ℕ) → p ≤ f → f ≤ length xs → n ≤ length ys
    → between 0 (f - p + n) (put_mid (f - p) j (copy_within xs p f 0) ys) ≡ between p f xs ++ take n ys
read-behind p f n j xs ys h w fits =
    let k = f - p in
    let s = copy_within xs p f 0 in
    let post = post_of k j s in
    let room : k ≤ length (drop p xs) = rw (length-drop p xs) (omega (arith, h, w)) in
    let front : take k s ≡ between p f xs = ap (λ (i : ℕ). take i s) (sym (zero-add k)) ∙ take-paste xs 0 (drop p xs) k (omega arith) room in
    let whole : k + n - 0 ≡ k + n = omega arith in
    ap (λ (i : ℕ). take i (take k s ++ (ys ++ post))) whole
    ∙ ap (λ (a : List ℕ). take (k + n) (a ++ (ys ++ post))) front
    ∙ ap (λ (i : ℕ). take (i + n) (between p f xs ++ (ys ++ post))) (sym (length-between p f xs h w))
    ∙ take-append-add (between p f xs) (ys ++ post) n
    ∙ ap (λ (a : List ℕ). between p f xs ++ a) (take-append-le n ys post fits)
