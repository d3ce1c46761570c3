-- Runs of stores: one after the other, and over a whole list. Assumes nothing.
use mathlib.Core.Path.{◌≡◌, refl, ap, ◌∙◌}
use mathlib.Core.List.{List, [], ◌∷◌, ◌++◌}
use Prim.Native.Nat.{ℕ, suc, ◌+◌}
use native.Mathlib.Nat.{add-zero}
use native.Mathlib.Omega.{arith}
use lib.ListN.{length, set}
use lib.Seq.{sets, length-sets}

-- a run at the place behind the run before it
pub sets-append : (xs ys l : List ℕ) (i j : ℕ) → j ≡ i + length xs → sets (sets l i xs) j ys ≡ sets l i (xs ++ ys)
sets-append [] ys l i j e = ap (λ (k : ℕ). sets l k ys) (e ∙ add-zero i)
sets-append (x ∷ xs) ys l i j e = sets-append xs ys (set l i x) (suc i) j (omega arith)

-- bytes and their place
pub record Run : Type 0 where
  pub place : ℕ
  pub bytes : List ℕ

abbrev pub run : ℕ → List ℕ → Run
run i x = record { place = i; bytes = x }

abbrev pub placed : List ℕ → List Run → List ℕ
placed l [] = l
placed l (r ∷ rs) = placed (sets l r.place r.bytes) rs

abbrev pub joined : List ℕ → List Run → List ℕ
joined x [] = x
joined x (r ∷ rs) = x ++ joined r.bytes rs

-- each behind the one before it, from place i on
abbrev pub Behind : ℕ → List Run → Type 0
Behind i [] = Unit {0}
Behind i (r ∷ rs) = (r.place ≡ i) × Behind (i + length r.bytes) rs

-- runs one behind the other are one run
pub runs : (x : List ℕ) (rs : List Run) (l : List ℕ) (i : ℕ) → Behind (i + length x) rs → placed (sets l i x) rs ≡ sets l i (joined x rs)
runs x [] l i h = refl
runs x (r ∷ rs) l i h =
    ap (λ (j : ℕ). placed (sets (sets l i x) j r.bytes) rs) h.0
    ∙ (runs r.bytes rs (sets l i x) (i + length x) h.1
    ∙ sets-append x (joined r.bytes rs) l i (i + length x) refl)

pub past_head : (a : ℕ) (vs l : List ℕ) (i : ℕ) → sets (a ∷ l) (suc i) vs ≡ a ∷ sets l i vs
past_head a [] l i = refl
past_head a (v ∷ vs) l i = past_head a vs (set l i v) (suc i)

-- a run as long as the list
pub sets-whole : (vs l : List ℕ) → length l ≡ length vs → sets l 0 vs ≡ vs
sets-whole [] [] e = refl
sets-whole [] (x ∷ l) e = absurd (omega arith)
sets-whole (v ∷ vs) [] e = absurd (omega arith)
sets-whole (v ∷ vs) (x ∷ l) e = past_head v vs l 0 ∙ ap (λ (r : List ℕ). v ∷ r) (sets-whole vs l (omega arith))

-- a run keeps the length
pub kept : (e l : List ℕ) (i : ℕ) (x : List ℕ) → e ≡ sets l i x → length e ≡ length l
kept e l i x h = ap length h ∙ length-sets l i x
