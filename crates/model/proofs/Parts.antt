-- A record, the steps and the places in a part of a script: read from a place further on, and with more bytes behind.
use Rattle.std.proofs.Common.{Some, None, Ok, Err}
use mathlib.Core.Bool.{Bool, true, false, not, false≢true}
use mathlib.Core.Path.{◌≡◌, refl, sym, ap, ◌∙◌}
use mathlib.Core.List.{List, ◌∷◌, ◌++◌}
use Prim.Native.Nat.{ℕ, zero, suc, ◌+◌, ◌-◌, ◌≤◌, min}
use native.Mathlib.Nat.{add-zero, add-suc, zero-add, suc-add, zero-min, min-zero, suc-min-suc}
use native.Mathlib.Omega.{arith}
use lib.Dec.{eqb, ltb}
use lib.ListN.{length, take, drop, length-append, length-drop, get_or-append}
use lib.Seq.{take-append-le, drop-append-le, drop-drop, get_or-drop}
use borrow.Author.Tests.{ltb-false, leb-true, leb-false, le-ltb, le-leb, lt-leb}
use Rattle.base.specs.Base.{pick}
use Rattle.model.specs.Script.{byte_at, number16, body_length, decoded, part, reading, steps_by, steps_from, steps_of}
use Rattle.model.specs.Scripts.{is_end, header_short, tag_unknown, length_wrong, body_short, behind, step_at, place_by, place_after}
use Rattle.model.specs.declared.Step as steps
use Rattle.model.proofs.Replays.{steps-more, steps_on_lem}
use Rattle.model.specs.Script.{Reading}
use Rattle.model.specs.declared.Refusal.TheVariants.{Short, UnknownTag, WrongLength}
use Rattle.model.specs.Refusals.{code}

-- ---- a record read in a part of the script

-- a reading at a place that is counted from p bytes further to the front
abbrev pub shifted : ℕ → Reading → Reading
shifted p (Ok None) = (Ok None)
shifted p (Err k) = Err k
shifted p (Ok (Some (e, q))) = Ok (Some (e, (p + q)))

-- what is read, from the tests in their order
abbrev read : (e h t w b : Bool) → steps.Step → ℕ → Reading
read e h t w b d q = pick e (Ok None) (pick h (Err Short) (pick t (Err UnknownTag) (pick w (Err WrongLength) (pick b (Err Short) (Ok (Some (d, q)))))))

read_shifted : (e h t w b : Bool) (d : steps.Step) (p q : ℕ) → read e h t w b d (p + q) ≡ shifted p (read e h t w b d q)
read_shifted true h t w b d p q = refl
read_shifted false true t w b d p q = refl
read_shifted false false true w b d p q = refl
read_shifted false false false true b d p q = refl
read_shifted false false false false true d p q = refl
read_shifted false false false false false d p q = refl

reading-read : (s : List ℕ) (p : ℕ) → reading s p ≡ read (is_end s p) (header_short s p) (tag_unknown s p) (length_wrong s p) (body_short s p) (step_at s p) (behind s p)
unfolding reading
reading-read s p = refl

-- the body of a record has the length that its tag has
abbrev body_at : List ℕ → ℕ → List ℕ
body_at s p = take (body_length (byte_at s p)) (drop (p + 3) s)

part_body : (s : List ℕ) (p : ℕ) → part s (p + 3) (behind s p) ≡ body_at s p
part_body s p = let e : behind s p - (p + 3) ≡ body_length (byte_at s p) = omega arith in rw e

module _ (s : List ℕ) (p q : ℕ) where
  end_shift : is_end s (p + q) ≡ is_end (drop p s) q
  end_shift = go (is_end (drop p s) q) refl
    where
      go : (b : Bool) → is_end (drop p s) q ≡ b → is_end s (p + q) ≡ b
      go true e = le-leb (length s) (p + q) (omega (arith, leb-true (length (drop p s)) q e, length-drop p s))
      go false e = lt-leb (length s) (p + q) (omega (arith, leb-false (length (drop p s)) q e, length-drop p s))

  pub left_shift : length s - (p + q) ≡ length (drop p s) - q
  left_shift = omega (arith, length-drop p s)

  pub byte_shift : byte_at s (p + q) ≡ byte_at (drop p s) q
  byte_shift = sym (get_or-drop p s q 0)

  pub number_shift : number16 s (p + q + 1) ≡ number16 (drop p s) (q + 1)
  number_shift = simp get_or-drop (let e : p + q + 1 ≡ p + (q + 1) = omega arith in let f : p + q + 1 + 1 ≡ p + (q + 1 + 1) = omega arith in rw (f, e))

  step_shift : step_at s (p + q) ≡ step_at (drop p s) q
  step_shift = rw (part_body s (p + q), part_body (drop p s) q, byte_shift, drop-drop (q + 3) p s) (let e : p + q + 3 ≡ p + (q + 3) = omega arith in rw e)

  behind_shift : behind s (p + q) ≡ p + behind (drop p s) q
  behind_shift = rw byte_shift (omega arith)

  -- the record at a place, read from a place before it on
  pub reading_shift : reading s (p + q) ≡ shifted p (reading (drop p s) q)
  reading_shift =
      rw (reading-read s (p + q), reading-read (drop p s) q, end_shift, left_shift, number_shift, step_shift, behind_shift, byte_shift)
      (read_shifted (is_end (drop p s) q) (header_short (drop p s) q) (tag_unknown (drop p s) q) (length_wrong (drop p s) q) (body_short (drop p s) q) (step_at (drop p s) q) p (behind (drop p s) q))

-- ---- a record with more behind it

-- readings that more bytes behind the script don't change
abbrev pub settled : Reading → Bool
settled (Ok None) = false
settled (Err k) = not (eqb (code k) 6)
settled (Ok (Some (e, q))) = true

settled-header : (e h : Bool) (r : Reading) → settled (pick e (Ok None) (pick h (Err Short) r)) ≡ true → (e ≡ false) × (h ≡ false)
settled-header true h r k = absurd (false≢true k)
settled-header false true r k = absurd (false≢true k)
settled-header false false r k = (refl, refl)

read_behind : (t w b b' : Bool) (d d' : steps.Step) (q : ℕ) → settled (read false false t w b d q) ≡ true → (b ≡ false → (b' ≡ false) × (d' ≡ d))
    → read false false t w b' d' q ≡ read false false t w b d q
read_behind true w b b' d d' q k f = refl
read_behind false true b b' d d' q k f = refl
read_behind false false true b' d d' q k f = absurd (false≢true k)
read_behind false false false b' d d' q k f = rw ((f refl).0, (f refl).1)

module _ (a b : List ℕ) (p : ℕ) where
  longer : length (a ++ b) ≡ length a + length b
  longer = length-append a b

  body-behind : p + 3 ≤ length a → body_short a p ≡ false → byte_at (a ++ b) p ≡ byte_at a p → (body_short (a ++ b) p ≡ false) × (step_at (a ++ b) p ≡ step_at a p)
  body-behind h k e = (rw e (le-ltb (length (a ++ b) - p) (3 + body_length (byte_at a p)) (omega (arith, longer, l))), rw (part_body (a ++ b) p, part_body a p, e, front))
    where
      l : 3 + body_length (byte_at a p) ≤ length a - p
      l = ltb-false (length a - p) (3 + body_length (byte_at a p)) k

      front : take (body_length (byte_at a p)) (drop (p + 3) (a ++ b)) ≡ take (body_length (byte_at a p)) (drop (p + 3) a)
      front =
          rw (drop-append-le (p + 3) a b h)
          (take-append-le (body_length (byte_at a p)) (drop (p + 3) a) b (omega (arith, l, length-drop (p + 3) a)))

  reading-whole : p + 3 ≤ length a → settled (reading a p) ≡ true → reading (a ++ b) p ≡ reading a p
  reading-whole h k =
      let e : byte_at (a ++ b) p ≡ byte_at a p = get_or-append a b 0 p (omega arith) in
      let n : number16 (a ++ b) (p + 1) ≡ number16 a (p + 1) = rw (get_or-append a b 0 (p + 1) (omega arith), get_or-append a b 0 (p + 1 + 1) (omega arith)) in
      let l : is_end a p ≡ false = lt-leb (length a) p (omega arith) in
      let m : header_short a p ≡ false = le-ltb (length a - p) 3 (omega arith) in
      let l' : is_end (a ++ b) p ≡ false = lt-leb (length (a ++ b)) p (omega (arith, longer)) in
      let m' : header_short (a ++ b) p ≡ false = le-ltb (length (a ++ b) - p) 3 (omega (arith, longer)) in
      rw (reading-read (a ++ b) p, reading-read a p, l, m, l', m', n, e)
      (read_behind (tag_unknown a p) (length_wrong a p) (body_short a p) (ltb (length (a ++ b) - p) (3 + body_length (byte_at a p))) (step_at a p) (decoded (byte_at a p) (part (a ++ b) (p + 3) (behind a p))) (behind a p)
      (rw (reading-read a p, l, m) at k)
      (λ g. rw e at (body-behind h g e)))

  -- a record that is whole, or has an unknown tag or a wrong length, is read the same with more behind it
  pub reading-behind : settled (reading a p) ≡ true → reading (a ++ b) p ≡ reading a p
  reading-behind k = go (settled-header (is_end a p) (header_short a p) _ (rw (reading-read a p) at k))
    where
      go : (is_end a p ≡ false) × (header_short a p ≡ false) → reading (a ++ b) p ≡ reading a p
      go f = reading-whole (omega (arith, leb-false (length a) p f.0, ltb-false (length a - p) 3 f.1)) k

-- ---- steps and places in a part of the script

steps_shift : (n : ℕ) (s : List ℕ) (p q : ℕ) → steps_from n s (p + q) ≡ steps_from n (drop p s) q
unfolding steps_from steps_by
steps_shift zero s p q = refl
steps_shift (suc n) s p q = rw (reading_shift s p q) (go (reading (drop p s) q) (steps_shift n s p))
  where
    go : (r : Reading) → ((q' : ℕ) → steps_from n s (p + q') ≡ steps_from n (drop p s) q') → steps_by (shifted p r) (steps_from n s) ≡ steps_by r (steps_from n (drop p s))
    go (Ok None) f = refl
    go (Err k) f = refl
    go (Ok (Some (d, q'))) f = ap (λ (l : List steps.Step). d ∷ l) (f q')

pub place_shift : (n : ℕ) (s : List ℕ) (p q : ℕ) → place_after n s (p + q) ≡ p + place_after n (drop p s) q
unfolding place_after place_by
place_shift zero s p q = refl
place_shift (suc n) s p q = rw (reading_shift s p q) (go (reading (drop p s) q) (place_shift n s p))
  where
    go : (r : Reading) → ((q' : ℕ) → place_after n s (p + q') ≡ p + place_after n (drop p s) q') → place_by (shifted p r) (p + q) (place_after n s) ≡ p + place_by r q (place_after n (drop p s))
    go (Ok None) f = refl
    go (Err k) f = refl
    go (Ok (Some (d, q'))) f = f q'

-- the first steps of a script are those of fewer rounds
pub steps-take : (k n : ℕ) (s : List ℕ) (p : ℕ) → take k (steps_from n s p) ≡ steps_from (min k n) s p
unfolding steps_from steps_by
steps-take zero n s p = rw zero-min
steps-take (suc k) zero s p = rw min-zero
steps-take (suc k) (suc n) s p = rw suc-min-suc (go (reading s p) (steps-take k n s))
  where
    go : (r : Reading) → ((q : ℕ) → take k (steps_from n s q) ≡ steps_from (min k n) s q) → take (suc k) (steps_by r (steps_from n s)) ≡ steps_by r (steps_from (min k n) s)
    go (Ok None) f = refl
    go (Err i) f = refl
    go (Ok (Some (d, q))) f = ap (λ (l : List steps.Step). d ∷ l) (f q)

steps-enough : (k n : ℕ) (s : List ℕ) (p : ℕ) → length s - p ≤ n → steps_from (n + k) s p ≡ steps_from n s p
steps-enough zero n s p h = rw add-zero
steps-enough (suc k) n s p h = rw add-suc (steps-more (n + k) s p (omega arith) ∙ steps-enough k n s p h)

module _ (a b : List ℕ) where
  abbrev pub steps_on : ℕ → List steps.Step
  steps_on = steps_from (length (a ++ b)) (a ++ b)

  -- where n rounds from place p on stop in the first part
  abbrev pub stop_of : ℕ → ℕ → ℕ
  stop_of n p = place_after (length (steps_from n a p)) a p

  -- the steps of the first part, and then those from the place on where they stop
  pub steps_split : (n p : ℕ) → steps_on p ≡ steps_from n a p ++ steps_on (stop_of n p)
  unfolding steps_from steps_by place_after place_by
  steps_split zero p = refl
  steps_split (suc n) p = go (reading a p) refl (steps_split n)
    where
      go : (r : Reading) → reading a p ≡ r → ((q : ℕ) → steps_on q ≡ steps_from n a q ++ steps_on (stop_of n q))
          → steps_on p ≡ steps_by r (steps_from n a) ++ steps_on (place_after (length (steps_by r (steps_from n a))) a p)
      go (Ok None) e f = refl
      go (Err k) e f = refl
      go (Ok (Some (d, q))) e f =
          steps_on_lem (a ++ b) p ∙ rw (reading-behind a b p (rw e), e) (ap (λ (l : List steps.Step). d ∷ l) (f q))

  pub place_split : (n k p : ℕ) → place_after (length (steps_from n a p) + k) (a ++ b) p ≡ place_after k (a ++ b) (stop_of n p)
  unfolding steps_from steps_by place_after place_by
  place_split zero k p = rw zero-add
  place_split (suc n) k p = go (reading a p) refl (place_split n k)
    where
      go : (r : Reading) → reading a p ≡ r → ((q : ℕ) → place_after (length (steps_from n a q) + k) (a ++ b) q ≡ place_after k (a ++ b) (stop_of n q))
          → place_after (length (steps_by r (steps_from n a)) + k) (a ++ b) p ≡ place_after k (a ++ b) (place_after (length (steps_by r (steps_from n a))) a p)
      go (Ok None) e f = rw zero-add
      go (Err i) e f = rw zero-add
      go (Ok (Some (d, q))) e f = rw (suc-add, reading-behind a b p (rw e), e) (f q)

  -- what is behind a place of the first part is a script of its own
  pub steps-rest : (p : ℕ) → p ≤ length a → steps_on p ≡ steps_of (drop p a ++ b)
  unfolding steps_of
  steps-rest p h =
      let t : List ℕ = drop p a ++ b in
      let n : length (a ++ b) ≡ length t + p = omega (arith, length-append a b, length-append (drop p a) b, length-drop p a) in
      rw add-zero at (steps_shift (length (a ++ b)) (a ++ b) p 0) ∙ rw (drop-append-le p a b h, n) (steps-enough p (length t) t 0 (omega arith))
