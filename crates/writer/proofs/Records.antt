-- The record of each step, byte by byte, is what is put to the space.
use Rattle.std.proofs.Common.{◌≡◌, ℕ, ◌/◌, ◌^◌, ◌<◌, Bool, ◌&&◌, true, List, [], ◌∷◌, ltb, length, get_or, refl, arith}
use Rattle.std.specs.Int.{w32, to_le_bytes}
use mathlib.Core.Bool.{and-true}
use borrow.Author.Tests.{lt-ltb}
use Rattle.model.specs.Records.{bytes_of, field_bytes, step_fields, record_of}
use Rattle.model.specs.Script.{overwritten}
use Rattle.model.specs.Writer.{fit, record_written, written}
use Rattle.model.specs.declared.Frame.{Frame}
use Rattle.model.specs.declared.Step.{Step}
use Rattle.model.specs.declared.Step.TheVariants.{Read, Write, BitTimes, Outcome, Receive, ReceiveError}
use Rattle.writer.specs.Putting.{put, space_after}

-- the upper bytes of a word, by halving it as the record does
third : (n : ℕ) → n / 65536 ≡ n / 256 / 256
third n = omega arith

fourth : (n : ℕ) → n / 16777216 ≡ n / 256 / 256 / 256
fourth n = omega arith

-- bytes and a test, put to a space, are what is written of the step
pub record Put (e : Step) (r : List ℕ) (fits : Bool) (space : List ℕ) : Type 0 where
  pub value : put (length r) fits (length space) ≡ written e (length space)
  pub after : space_after r fits space ≡ overwritten (record_written e (length space)) space

put_is : {e : Step} {r : List ℕ} {fits : Bool} {space : List ℕ} → r ≡ record_of e → fits ≡ fit (step_fields e) → Put e r fits space
unfolding written record_written
put_is p q = record { value = rw (p, q) refl; after = rw (p, q) refl }

-- ---- each step: its bytes, and whether they hold the caller's numbers

module _ (space : List ℕ) where
  pub plain : (e : Step) (t : ℕ) → t ∷ 0 ∷ 0 ∷ [] ≡ record_of e → true ≡ fit (step_fields e) → Put e (t ∷ 0 ∷ 0 ∷ []) true space
  plain e t p q = put_is p q

  pub read : (o : ℕ) (l : List ℕ) → l ≡ to_le_bytes w32 o → Put (Read o) (2 ∷ 2 ∷ 0 ∷ get_or l 0 0 ∷ get_or l 1 0 ∷ []) (ltb o 65536) space
  unfolding bytes_of field_bytes
  read o l h = put_is (rw h refl) (simp and-true)

  pub write : (o w : ℕ) (l m : List ℕ) → w < 2 ^ 32 → l ≡ to_le_bytes w32 o → m ≡ to_le_bytes w32 w
      → Put (Write o w) (3 ∷ 6 ∷ 0 ∷ get_or l 0 0 ∷ get_or l 1 0 ∷ get_or m 0 0 ∷ get_or m 1 0 ∷ get_or m 2 0 ∷ get_or m 3 0 ∷ []) (ltb o 65536) space
  unfolding bytes_of field_bytes
  write o w l m s h k = put_is (rw (h, k, third w, fourth w) refl) (simp (and-true, lt-ltb w (256 ^ 4) s))

  pub bits : (n : ℕ) (l : List ℕ) → l ≡ to_le_bytes w32 n → Put (BitTimes n) (5 ∷ 2 ∷ 0 ∷ get_or l 0 0 ∷ get_or l 1 0 ∷ []) (ltb n 65536) space
  unfolding bytes_of field_bytes
  bits n l h = put_is (rw h refl) (simp and-true)

  pub outcome : (r : ℕ) (l : List ℕ) → l ≡ to_le_bytes w32 r → Put (Outcome r) (8 ∷ 1 ∷ 0 ∷ get_or l 0 0 ∷ []) (ltb r 256) space
  unfolding bytes_of field_bytes
  outcome r l h = put_is (rw h refl) (simp and-true)

  pub receive : (x : Frame) (i n l h : List ℕ) → x.identifier < 2 ^ 32 → x.low < 2 ^ 32 → x.high < 2 ^ 32
      → i ≡ to_le_bytes w32 x.identifier → n ≡ to_le_bytes w32 x.length → l ≡ to_le_bytes w32 x.low → h ≡ to_le_bytes w32 x.high
      → Put (Receive x) (9 ∷ 13 ∷ 0 ∷ get_or i 0 0 ∷ get_or i 1 0 ∷ get_or i 2 0 ∷ get_or i 3 0 ∷ get_or n 0 0 ∷ get_or l 0 0 ∷ get_or l 1 0 ∷ get_or l 2 0 ∷ get_or l 3 0 ∷ get_or h 0 0 ∷ get_or h 1 0 ∷ get_or h 2 0 ∷ get_or h 3 0 ∷ []) (ltb x.length 256) space
  unfolding bytes_of field_bytes
  receive x i n l h a b c p q r s =
      put_is
      (rw (p, q, r, s, third x.identifier, fourth x.identifier, third x.low, fourth x.low, third x.high, fourth x.high) refl)
      (simp (and-true, lt-ltb x.identifier (256 ^ 4) a, lt-ltb x.low (256 ^ 4) b, lt-ltb x.high (256 ^ 4) c))

  pub error : (k n : ℕ) (l m : List ℕ) → l ≡ to_le_bytes w32 k → m ≡ to_le_bytes w32 n
      → Put (ReceiveError k n) (10 ∷ 2 ∷ 0 ∷ get_or l 0 0 ∷ get_or m 0 0 ∷ []) (ltb k 256 && ltb n 256) space
  unfolding bytes_of field_bytes
  error k n l m h j = put_is (rw (h, j) refl) (simp and-true)
