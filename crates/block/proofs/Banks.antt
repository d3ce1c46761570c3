-- The words of the banks, written and read one after the other.
use mathlib.Core.Path.{◌≡◌, refl, sym, ap, ◌∙◌}
use mathlib.Core.List.{List, [], ◌∷◌, ◌++◌}
use Prim.Native.Nat.{ℕ, zero, suc, ◌+◌, ◌*◌, ◌<◌, ◌≤◌}
use native.Mathlib.Numerals.{add-one}
use native.Mathlib.Omega.{arith}
use lib.ListN.{length, get_or, take, drop}
use lib.Seq.{sets, take-suc, length-take-le, ext_get_or, get_or-drop}
use Rattle.std.specs.Int.{to_le_bytes, w32}
use Rattle.model.specs.Script.{number32}
use Rattle.block.specs.Block.{bytes32, word_bytes, banks_bytes, words_of}
use Rattle.block.proofs.Stores.{sets-append}

-- ---- written

pub word_bytes-length : (l : List ℕ) → length (word_bytes l) ≡ 4 * length l
unfolding word_bytes
word_bytes-length [] = refl
word_bytes-length (w ∷ l) = omega (arith, word_bytes-length l)

word_bytes-last : (l : List ℕ) (w : ℕ) → word_bytes (l ++ w ∷ []) ≡ word_bytes l ++ bytes32 w
unfolding word_bytes
word_bytes-last [] w = refl
word_bytes-last (x ∷ l) w = ap (λ (r : List ℕ). bytes32 x ++ r) (word_bytes-last l w)

-- one word more
pub word_more : (v b : List ℕ) (i j : ℕ) → j < length v
    → sets (sets b i (word_bytes (take j v))) (i + 4 * j) (to_le_bytes w32 (get_or v j 0)) ≡ sets b i (word_bytes (take (j + 1) v))
word_more v b i j h =
    let n : length (take j v) ≡ j = length-take-le j v (omega arith) in
    sets-append (word_bytes (take j v)) (bytes32 (get_or v j 0)) b i (i + 4 * j) (omega (arith, word_bytes-length (take j v)))
    ∙ ap (λ (r : List ℕ). sets b i r) (sym (word_bytes-last (take j v) (get_or v j 0)) ∙ ap word_bytes (sym (take-suc v j 0 h) ∙ ap (λ (k : ℕ). take k v) (sym (add-one j))))

-- the whole field
pub banks-whole : (v b : List ℕ) → sets (sets b 239 (0x49 ∷ 112 ∷ 0 ∷ [])) 242 (word_bytes v) ≡ sets b 239 (banks_bytes v)
unfolding banks_bytes
banks-whole v b = sets-append (0x49 ∷ 112 ∷ 0 ∷ []) (word_bytes v) b 239 242 refl

-- ---- read

pub words-length : (n : ℕ) (b : List ℕ) → length (words_of n b) ≡ n
unfolding words_of
words-length zero b = refl
words-length (suc n) b = ap suc (words-length n (drop 4 b))

number-drop : (n : ℕ) (b : List ℕ) (i : ℕ) → number32 (drop n b) i ≡ number32 b (n + i)
number-drop n b i =
    let e1 : n + (i + 1) ≡ n + i + 1 = omega arith in
    let e2 : n + (i + 2) ≡ n + i + 2 = omega arith in
    let e3 : n + (i + 2 + 1) ≡ n + i + 2 + 1 = omega arith in
    rw (get_or-drop n b i 0, get_or-drop n b (i + 1) 0, get_or-drop n b (i + 2) 0, get_or-drop n b (i + 2 + 1) 0, e1, e2, e3)

words-at : (n : ℕ) (b : List ℕ) (k : ℕ) → k < n → get_or (words_of n b) k 0 ≡ number32 b (4 * k)
unfolding words_of
words-at zero b k h = absurd (omega arith)
words-at (suc n) b zero h = refl
words-at (suc n) b (suc k) h =
    words-at n (drop 4 b) k (omega arith) ∙ number-drop 4 b (4 * k) ∙ ap (λ (i : ℕ). number32 b i) (omega arith)

-- a list that holds the word of each place
pub banks-read : (b v : List ℕ) (j : ℕ) → 28 ≤ j → length v ≡ 28 → ((k : ℕ) → k < j → get_or v k 0 ≡ number32 b (242 + 4 * k)) → v ≡ words_of 28 (drop 242 b)
banks-read b v j l n h =
    ext_get_or 0 v (words_of 28 (drop 242 b)) (n ∙ sym (words-length 28 (drop 242 b)))
    (λ k m. h k (omega arith) ∙ sym (words-at 28 (drop 242 b) k (omega arith) ∙ number-drop 242 b (4 * k)))
