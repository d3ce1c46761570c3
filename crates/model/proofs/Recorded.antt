-- A record says its step, and what is found at a place stands there as its record; a reply says its code, lines and word.
use Rattle.std.proofs.Common.{Some, None, Ok, Err}
use mathlib.Core.Bool.{Bool, true, false, false≢true}
use mathlib.Core.Path.{◌≡◌, refl, sym, ap, subst, ◌∙◌}
use mathlib.Core.List.{List, [], ◌∷◌, ◌++◌}
use Prim.Native.Nat.{ℕ, zero, suc, ◌+◌, ◌-◌, ◌*◌, ◌/◌, ◌%◌, ◌^◌, ◌<◌, ◌≤◌}
use native.Mathlib.Nat.{add-zero, pow-suc}
use native.Mathlib.Numerals.{add-one, add-two, add-three}
use native.Mathlib.Omega.{arith}
use lib.Dec.{eqb, leb}
use lib.ListN.{length, take, drop, length-drop, take-append-drop, drop_of_length-le}
use lib.Seq.{drop-append_seam, get_or-drop, length-take-le, drop-cons, drop-length}
use borrow.Author.Tests.{eq-eqb, le-ltb, lt-leb, ltb-false, leb-true, eqb-true, not-false}
use Rattle.base.specs.Base.{pick}
use Rattle.model.specs.Script.{byte_at, number16, is_tag, body_length, step_of, step_tag, step_values, decoded, part, reading, steps_by, steps_from, steps_of, reply}
use Rattle.model.specs.Scripts.{is_end, header_short, tag_unknown, length_wrong, body_short, behind, step_at}
use Rattle.model.specs.Records.{bytes_of, number_of, Bytes, Field, step_fields, FitWidths, field_bytes, step_body, record_of, reading_numbers, NumbersApart, Tags, RecordSays, IsRecord, RecordStands, script_of, AllFit, ScriptSays, sample_steps, Samples, ReplySays}
use Rattle.model.specs.declared.Step as steps
use Rattle.model.specs.declared.Step.TheVariants.{Reset, Read, Write, Idle, BitTimes, Activity, Start, Outcome, Receive, ReceiveError}
use Rattle.base.proofs.Choices.{and_r}
use Rattle.model.proofs.Parts.{reading_shift, steps-rest}
use Rattle.model.proofs.Replays.{steps_on_lem}
use Rattle.model.specs.Script.{Reading}
use Rattle.model.specs.declared.Refusal.TheVariants.{Short, UnknownTag, WrongLength}
use Rattle.std.specs.Result.{result_unwrap_or}
use Rattle.std.specs.Prelude.{unwrap_or}
use Rattle.model.specs.declared.Refusal.{Refusal}
use Rattle.model.proofs.RefusalNumbers.{refusal_of, refusal_back}

-- ---- numbers and their bytes

pub bytes_count : (k n : ℕ) → length (bytes_of k n) ≡ k
unfolding bytes_of
bytes_count zero n = refl
bytes_count (suc k) n = ap suc (bytes_count k (n / 256))

pub number-bytes : (k n : ℕ) → n < 256 ^ k → number_of (bytes_of k n) ≡ n
unfolding bytes_of number_of
number-bytes zero n h = omega arith
number-bytes (suc k) n h =
    let i : n / 256 < 256 ^ k = omega (arith, pow-suc 256 k) in
    rw (number-bytes k (n / 256) i) (omega arith)

pub bytes-number : (l : List ℕ) → Bytes l → bytes_of (length l) (number_of l) ≡ l
unfolding bytes_of number_of
bytes-number [] h = refl
bytes-number (b ∷ l) h =
    let i : b < 256 = h 0 in
    let m : (b + number_of l * 256) % 256 ≡ b = omega arith in
    let d : (b + number_of l * 256) / 256 ≡ number_of l = omega arith in
    rw (m, d, bytes-number l (λ j. h (suc j)))

-- lists of bytes
no_bytes : Bytes []
no_bytes i = omega arith

more_bytes : (b : ℕ) (l : List ℕ) → b < 256 → Bytes l → Bytes (b ∷ l)
more_bytes b l h k zero = h
more_bytes b l h k (suc i) = k i

bytes_of_lem : (k n : ℕ) → Bytes (bytes_of k n)
unfolding bytes_of
bytes_of_lem zero n = no_bytes
bytes_of_lem (suc k) n = more_bytes (n % 256) (bytes_of k (n / 256)) (omega arith) (bytes_of_lem k (n / 256))

both_bytes : (a b : List ℕ) → Bytes a → Bytes b → Bytes (a ++ b)
both_bytes [] b h k = k
both_bytes (x ∷ a) b h k = more_bytes x (a ++ b) (h 0) (both_bytes a b (λ i. h (suc i)) k)

field_bytes_lem : (l : List Field) → Bytes (field_bytes l)
unfolding field_bytes
field_bytes_lem [] = no_bytes
field_bytes_lem (f ∷ l) = both_bytes (bytes_of f.width f.value) (field_bytes l) (bytes_of_lem f.width f.value) (field_bytes_lem l)

-- ---- the numbers of a step and of a reading tell it

abbrev step_numbered : List ℕ → steps.Step
step_numbered l = step_of (byte_at l 0) (drop 1 l)

abbrev reading_of : List ℕ → Reading
reading_of l = pick (eqb (byte_at l 0) 0) (Ok None) (pick (eqb (byte_at l 0) 1) (Err (refusal_of (byte_at l 1))) (Ok (Some (step_numbered (drop 2 l), byte_at l 1))))

step_back : (e : steps.Step) → step_of (step_tag e) (step_values e) ≡ e
step_back Reset = refl
step_back (Read o) = refl
step_back (Write o w) = refl
step_back Idle = refl
step_back (BitTimes n) = refl
step_back Activity = refl
step_back Start = refl
step_back (Outcome r) = refl
step_back (Receive x) = refl
step_back (ReceiveError k n) = refl

reading-back : (x : Reading) → reading_of (reading_numbers x) ≡ x
reading-back (Ok None) = refl
reading-back (Err r) = ap (λ (q : Refusal). Err q) (refusal_back r)
reading-back (Ok (Some (e, q))) = ap (λ (f : steps.Step). Ok (Some (f, q))) (step_back e)

pub numbers_apart : NumbersApart
numbers_apart = record {
  steps = λ e f h. sym (step_back e) ∙ ap step_numbered h ∙ step_back f;
  readings = λ x y h. sym (reading-back x) ∙ ap reading_of h ∙ reading-back y;
}

-- ---- tags

over : (t : ℕ) → leb (suc (suc (suc (suc (suc (suc (suc (suc (suc (suc (suc t))))))))))) 10 ≡ true → ⊥
over t h = omega (arith, leb-true (suc (suc (suc (suc (suc (suc (suc (suc (suc (suc (suc t))))))))))) 10 h)

-- what is shown of 1 to 10 holds of every tag
for_tag : (P : ℕ → Type 0) → P 1 → P 2 → P 3 → P 4 → P 5 → P 6 → P 7 → P 8 → P 9 → P 10 → (t : ℕ) → is_tag t ≡ true → P t
for_tag P a b c d e f g h i j zero k = absurd (false≢true k)
for_tag P a b c d e f g h i j (suc zero) k = a
for_tag P a b c d e f g h i j (suc (suc zero)) k = b
for_tag P a b c d e f g h i j (suc (suc (suc zero))) k = c
for_tag P a b c d e f g h i j (suc (suc (suc (suc zero)))) k = d
for_tag P a b c d e f g h i j (suc (suc (suc (suc (suc zero))))) k = e
for_tag P a b c d e f g h i j (suc (suc (suc (suc (suc (suc zero)))))) k = f
for_tag P a b c d e f g h i j (suc (suc (suc (suc (suc (suc (suc zero))))))) k = g
for_tag P a b c d e f g h i j (suc (suc (suc (suc (suc (suc (suc (suc zero)))))))) k = h
for_tag P a b c d e f g h i j (suc (suc (suc (suc (suc (suc (suc (suc (suc zero))))))))) k = i
for_tag P a b c d e f g h i j (suc (suc (suc (suc (suc (suc (suc (suc (suc (suc zero)))))))))) k = j
for_tag P a b c d e f g h i j (suc (suc (suc (suc (suc (suc (suc (suc (suc (suc (suc t))))))))))) k =
    absurd (over t (and_r (leb 1 (suc (suc (suc (suc (suc (suc (suc (suc (suc (suc (suc t)))))))))))) (leb (suc (suc (suc (suc (suc (suc (suc (suc (suc (suc (suc t))))))))))) 10) k))

tag-known : (e : steps.Step) → is_tag (step_tag e) ≡ true
tag-known Reset = refl
tag-known (Read o) = refl
tag-known (Write o w) = refl
tag-known Idle = refl
tag-known (BitTimes n) = refl
tag-known Activity = refl
tag-known Start = refl
tag-known (Outcome r) = refl
tag-known (Receive x) = refl
tag-known (ReceiveError k n) = refl

body_length_lem : (e : steps.Step) → length (step_body e) ≡ body_length (step_tag e)
unfolding body_length field_bytes bytes_of
body_length_lem Reset = refl
body_length_lem (Read o) = refl
body_length_lem (Write o w) = refl
body_length_lem Idle = refl
body_length_lem (BitTimes n) = refl
body_length_lem Activity = refl
body_length_lem Start = refl
body_length_lem (Outcome r) = refl
body_length_lem (Receive x) = refl
body_length_lem (ReceiveError k n) = refl

tag-decoded : (t : ℕ) (b : List ℕ) → is_tag t ≡ true → step_tag (decoded t b) ≡ t
unfolding decoded
tag-decoded t b = for_tag (λ (t : ℕ). step_tag (decoded t b) ≡ t) refl refl refl refl refl refl refl refl refl refl t

pub tags : Tags
tags = record { known = tag-known; lengths = body_length_lem; each = tag-decoded; says = step_back }

-- ---- a record is read

found_at : (s : List ℕ) → is_tag (byte_at s 0) ≡ true → number16 s 1 ≡ body_length (byte_at s 0) → 3 + body_length (byte_at s 0) ≤ length s → reading s 0 ≡ Ok (Some ((step_at s 0), (behind s 0)))
unfolding reading
found_at s t n l =
    rw (lt-leb (length s) 0 (omega arith), le-ltb (length s - 0) 3 (omega arith), t, eq-eqb (number16 s 1) (body_length (byte_at s 0)) n, le-ltb (length s - 0) (3 + body_length (byte_at s 0)) (omega arith))

-- the numbers that the reader makes of a field's bytes
byte-read : (n : ℕ) → n < 256 → n % 256 ≡ n
byte-read n h = omega arith

half_read : (n : ℕ) → n < 2 ^ 16 → n % 256 + n / 256 % 256 * 256 ≡ n
half_read n h = omega arith

pub word_read : (n : ℕ) → n < 2 ^ 32 → n % 256 + n / 256 % 256 * 256 + (n / 256 / 256 % 256 + n / 256 / 256 / 256 % 256 * 256) * 65536 ≡ n
word_read n h = omega arith

-- at the front of a script
read-front : (e : steps.Step) → FitWidths (step_fields e) → (b : List ℕ) → reading (record_of e ++ b) 0 ≡ Ok (Some (e, (length (record_of e))))
unfolding body_length decoded field_bytes bytes_of
read-front Reset h b = found_at (record_of Reset ++ b) refl refl (omega arith)
read-front (Read o) h b = found_at (record_of (Read o) ++ b) refl refl (omega arith) ∙ rw (half_read o h.0)
read-front (Write o w) h b = found_at (record_of (Write o w) ++ b) refl refl (omega arith) ∙ rw (half_read o h.0, word_read w h.1.0)
read-front Idle h b = found_at (record_of Idle ++ b) refl refl (omega arith)
read-front (BitTimes n) h b = found_at (record_of (BitTimes n) ++ b) refl refl (omega arith) ∙ rw (half_read n h.0)
read-front Activity h b = found_at (record_of Activity ++ b) refl refl (omega arith)
read-front Start h b = found_at (record_of Start ++ b) refl refl (omega arith)
read-front (Outcome r) h b = found_at (record_of (Outcome r) ++ b) refl refl (omega arith) ∙ rw (byte-read r h.0)
read-front (Receive x) h b =
    found_at (record_of (Receive x) ++ b) refl refl (omega arith)
    ∙ rw (word_read x.identifier h.0, byte-read x.length h.1.0, word_read x.low h.1.1.0, word_read x.high h.1.1.1.0)
read-front (ReceiveError k n) h b = found_at (record_of (ReceiveError k n) ++ b) refl refl (omega arith) ∙ rw (byte-read k h.0, byte-read n h.1.0)

pub record-says : (e : steps.Step) → RecordSays e
record-says e = record {
  bytes = more_bytes (step_tag e) (bytes_of 2 (length (step_body e)) ++ step_body e) (tag-byte e) (both_bytes (bytes_of 2 (length (step_body e))) (step_body e) (bytes_of_lem 2 (length (step_body e))) (field_bytes_lem (step_fields e)));
  read = anywhere;
}
  where
    tag-byte : (e : steps.Step) → step_tag e < 256
    tag-byte e = for_tag (λ (t : ℕ). t < 256) (omega arith) (omega arith) (omega arith) (omega arith) (omega arith) (omega arith) (omega arith) (omega arith) (omega arith) (omega arith) (step_tag e) (tag-known e)

    anywhere : FitWidths (step_fields e) → (front behind : List ℕ) → reading (front ++ (record_of e ++ behind)) (length front) ≡ Ok (Some (e, (length front + length (record_of e))))
    anywhere h a b =
        let s : List ℕ = a ++ (record_of e ++ b) in
        ap (reading s) (sym (add-zero (length a)))
        ∙ reading_shift s (length a) 0
        ∙ rw (drop-append_seam a (record_of e ++ b), read-front e h b)

-- ---- a script is read

first_step : (e : steps.Step) (t : List ℕ) → FitWidths (step_fields e) → steps_of (record_of e ++ t) ≡ e ∷ steps_of t
unfolding steps_of steps_by
first_step e t h =
    steps_on_lem (record_of e ++ t) 0
    ∙ rw (read-front e h t)
    (ap (λ (l : List steps.Step). e ∷ l) (rw (drop-length (record_of e)) at (steps-rest (record_of e) t (length (record_of e)) (omega arith))))

all-steps : (l : List steps.Step) → AllFit l → steps_of (script_of l) ≡ l
unfolding script_of steps_of steps_from
all-steps [] h = refl
all-steps (e ∷ l) h = first_step e (script_of l) h.0 ∙ ap (λ (k : List steps.Step). e ∷ k) (all-steps l h.1)

pub script-says : (l : List steps.Step) → ScriptSays l
script-says l = record { read = all-steps l }

pub samples : Samples
unfolding script_of field_bytes bytes_of
samples = record { bytes = refl; steps = all-steps sample_steps fits }
  where
    fits : AllFit sample_steps
    fits = (tt, ((omega arith, tt), ((omega arith, (omega arith, tt)), (tt, ((omega arith, tt), (tt, (tt, ((omega arith, tt), ((omega arith, (omega arith, (omega arith, (omega arith, tt)))), ((omega arith, (omega arith, tt)), tt))))))))))

-- ---- what is found stands there as its record

-- a list of bytes by its elements
unfoldable pub elements : ℕ → List ℕ → ℕ → List ℕ
elements zero b i = []
elements (suc n) b i = byte_at b i ∷ elements n b (suc i)

elements_drop : (n : ℕ) (b : List ℕ) (i : ℕ) → i + n ≡ length b → elements n b i ≡ drop i b
unfolding elements
elements_drop zero b i h = sym (drop_of_length-le b {i = i} (omega arith))
elements_drop (suc n) b i h = rw (drop-cons b i 0 (omega arith), elements_drop n b (suc i) (omega arith))

all_elements : (n : ℕ) (b : List ℕ) → length b ≡ n → elements n b 0 ≡ b
all_elements n b h = elements_drop n b 0 (omega arith)

one_byte : (x : ℕ) → x < 256 → bytes_of 1 x ≡ x ∷ []
unfolding bytes_of
one_byte x h = rw (byte-read x h)

half_bytes : (x y : ℕ) → x < 256 → y < 256 → bytes_of 2 (x + y * 256) ≡ x ∷ y ∷ []
unfolding number_of
half_bytes x y h i =
    let e : x + (y + 0 * 256) * 256 ≡ x + y * 256 = omega arith in
    rw e at (bytes-number (x ∷ y ∷ []) (more_bytes x (y ∷ []) h (more_bytes y [] i no_bytes)))

pub word_bytes : (x y z u : ℕ) → x < 256 → y < 256 → z < 256 → u < 256 → bytes_of 4 (x + y * 256 + (z + u * 256) * 65536) ≡ x ∷ y ∷ z ∷ u ∷ []
unfolding number_of
word_bytes x y z u h i j k =
    let e : x + (y + (z + (u + 0 * 256) * 256) * 256) * 256 ≡ x + y * 256 + (z + u * 256) * 65536 = omega arith in
    rw e at (bytes-number (x ∷ y ∷ z ∷ u ∷ []) (more_bytes x (y ∷ z ∷ u ∷ []) h (more_bytes y (z ∷ u ∷ []) i (more_bytes z (u ∷ []) j (more_bytes u [] k no_bytes)))))

-- a body of its tag's length is the body of the step that is made of it
abbrev Body : ℕ → Type 0
Body t = (b : List ℕ) → length b ≡ body_length t → Bytes b → (step_body (decoded t b) ≡ b) × FitWidths (step_fields (decoded t b))

empty : (b : List ℕ) → length b ≡ 0 → [] ≡ b
unfolding elements
empty b h = all_elements 0 b h

reset-body : Body 1
unfolding body_length decoded field_bytes
reset-body b h k = (empty b h, tt)

read-body : Body 2
unfolding body_length decoded field_bytes elements
read-body b h k = (rw (half_bytes (byte_at b 0) (byte_at b 1) (k 0) (k 1)) (all_elements 2 b h), (omega (arith, k 0, k 1), tt))

write_body : Body 3
unfolding body_length decoded field_bytes elements
write_body b h k = (
  rw (half_bytes (byte_at b 0) (byte_at b 1) (k 0) (k 1), word_bytes (byte_at b 2) (byte_at b 3) (byte_at b 4) (byte_at b 5) (k 2) (k 3) (k 4) (k 5)) (all_elements 6 b h),
  (omega (arith, k 0, k 1), (omega (arith, k 2, k 3, k 4, k 5), tt)),
)

outcome_body : Body 8
unfolding body_length decoded field_bytes elements
outcome_body b h k = (rw (one_byte (byte_at b 0) (k 0)) (all_elements 1 b h), (k 0, tt))

receive_body : Body 9
unfolding body_length decoded field_bytes elements
receive_body b h k = (
  rw (
    word_bytes (byte_at b 0) (byte_at b 1) (byte_at b 2) (byte_at b 3) (k 0) (k 1) (k 2) (k 3),
    one_byte (byte_at b 4) (k 4),
    word_bytes (byte_at b 5) (byte_at b 6) (byte_at b 7) (byte_at b 8) (k 5) (k 6) (k 7) (k 8),
    word_bytes (byte_at b 9) (byte_at b 10) (byte_at b 11) (byte_at b 12) (k 9) (k 10) (k 11) (k 12),
  )
      (all_elements 13 b h),
  (omega (arith, k 0, k 1, k 2, k 3), (k 4, (omega (arith, k 5, k 6, k 7, k 8), (omega (arith, k 9, k 10, k 11, k 12), tt)))),
)

error-body : Body 10
unfolding body_length decoded field_bytes elements
error-body b h k = (rw (one_byte (byte_at b 0) (k 0), one_byte (byte_at b 1) (k 1)) (all_elements 2 b h), (k 0, (k 1, tt)))

body_back : (t : ℕ) → is_tag t ≡ true → Body t
unfolding body_length decoded field_bytes
body_back = for_tag Body reset-body read-body write_body (λ b h k. (empty b h, tt)) read-body (λ b h k. (empty b h, tt)) (λ b h k. (empty b h, tt)) outcome_body receive_body error-body

-- a reading that found a step passed all the tests
record Found-as (h t w b : Bool) (d : steps.Step) (n : ℕ) (e : steps.Step) (q : ℕ) : Type 0 where
  header : h ≡ false
  tag : t ≡ false
  size : w ≡ false
  body : b ≡ false
  step : d ≡ e
  place : n ≡ q

only-found : (o h t w b : Bool) (d : steps.Step) (n : ℕ) (e : steps.Step) (q : ℕ)
    → pick {A = Reading} o (Ok None) (pick h (Err Short) (pick t (Err UnknownTag) (pick w (Err WrongLength) (pick b (Err Short) (Ok (Some (d, n))))))) ≡ Ok (Some (e, q)) → Found-as h t w b d n e q
only-found true h t w b d n e q k = let z : ◌≡◌ {A = ℕ} 0 1 = cc in absurd (omega arith)
only-found false true t w b d n e q k = let z : ◌≡◌ {A = ℕ} 0 1 = cc in absurd (omega arith)
only-found false false true w b d n e q k = let z : ◌≡◌ {A = ℕ} 0 1 = cc in absurd (omega arith)
only-found false false false true b d n e q k = let z : ◌≡◌ {A = ℕ} 0 1 = cc in absurd (omega arith)
only-found false false false false true d n e q k = let z : ◌≡◌ {A = ℕ} 0 1 = cc in absurd (omega arith)
only-found false false false false false d n e q k = record { header = refl; tag = refl; size = refl; body = refl; step = ap (λ (x : Reading). (found x).0) k; place = ap (λ (x : Reading). (found x).1) k }
  where
    found : Reading → steps.Step × ℕ
    found x = unwrap_or (result_unwrap_or x None) (d, n)

pub bytes_drop : (n : ℕ) (l : List ℕ) → Bytes l → Bytes (drop n l)
bytes_drop n l h i = rw (get_or-drop n l i 0) (h (n + i))

bytes_take : (n : ℕ) (l : List ℕ) → Bytes l → Bytes (take n l)
bytes_take zero l h i = omega arith
bytes_take (suc n) [] h i = omega arith
bytes_take (suc n) (b ∷ l) h zero = h 0
bytes_take (suc n) (b ∷ l) h (suc i) = bytes_take n l (λ j. h (suc j)) i

module _ (s : List ℕ) (p : ℕ) (h : Bytes s) where
  -- the three bytes of the header, and the body
  record-bytes : (n : ℕ) → p + 3 + n ≤ length s → take (3 + n) (drop p s) ≡ byte_at s p ∷ byte_at s (p + 1) ∷ byte_at s (p + 2) ∷ take n (drop (p + 3) s)
  record-bytes n l =
      let e : 3 + n ≡ suc (suc (suc n)) = omega arith in
      rw (e, add-one p, add-two p, add-three p, drop-cons s p 0 (omega arith), drop-cons s (suc p) 0 (omega arith), drop-cons s (suc (suc p)) 0 (omega arith))

  stands_as : (t : is_tag (byte_at s p) ≡ true) → number16 s (p + 1) ≡ body_length (byte_at s p) → behind s p ≤ length s → IsRecord s p (step_at s p) (behind s p)
  stands_as t n l = record {
    place = omega (arith, record-size);
    within = l;
    bytes = rw (all, record-bytes size (omega arith), record_is, size-bytes) (rw exact);
    fits = back.1;
  }
    where
      size : ℕ
      size = body_length (byte_at s p)

      exact : behind s p - (p + 3) ≡ size
      exact = omega arith

      all : behind s p - p ≡ 3 + size
      all = omega arith

      body : List ℕ
      body = part s (p + 3) (behind s p)

      body-size : length body ≡ size
      body-size = rw exact (length-take-le size (drop (p + 3) s) (omega (arith, length-drop (p + 3) s)))

      back : (step_body (step_at s p) ≡ body) × FitWidths (step_fields (step_at s p))
      back = body_back (byte_at s p) t body body-size (bytes_take (behind s p - (p + 3)) (drop (p + 3) s) (bytes_drop (p + 3) s h))

      record_is : record_of (step_at s p) ≡ byte_at s p ∷ (bytes_of 2 size ++ body)
      record_is = rw (back.0, body-size, tag-decoded (byte_at s p) body t)

      size-bytes : bytes_of 2 size ≡ byte_at s (p + 1) ∷ byte_at s (p + 2) ∷ []
      size-bytes =
          let e : p + 1 + 1 ≡ p + 2 = omega arith in
          rw (n, e) at (half_bytes (byte_at s (p + 1)) (byte_at s (p + 1 + 1)) (h (p + 1)) (h (p + 1 + 1)))

      record-size : length (record_of (step_at s p)) ≡ 3 + size
      record-size = ap length record_is ∙ rw size-bytes (omega (arith, body-size))

found_stands : (s : List ℕ) (p : ℕ) → Bytes s → (e : steps.Step) (q : ℕ) → reading s p ≡ Ok (Some (e, q)) → IsRecord s p e q
unfolding reading
found_stands s p h e q k =
    let f : Found-as (header_short s p) (tag_unknown s p) (length_wrong s p) (body_short s p) (step_at s p) (behind s p) e q = only-found (is_end s p) (header_short s p) (tag_unknown s p) (length_wrong s p) (body_short s p) (step_at s p) (behind s p) e q k in
    rw (← f.step, ← f.place)
    (stands_as s p h (not-false (is_tag (byte_at s p)) f.tag) (eqb-true (number16 s (p + 1)) (body_length (byte_at s p)) (not-false (eqb (number16 s (p + 1)) (body_length (byte_at s p))) f.size))
    (omega (arith, ltb-false (length s - p) (3 + body_length (byte_at s p)) f.body, ltb-false (length s - p) 3 f.header)))

pub record_stands : (s : List ℕ) (p : ℕ) → RecordStands s p
record_stands s p = record { found = found_stands s p }

-- ---- replies

four_bytes : (w : ℕ) → w % 256 ∷ w / 2 ^ 8 % 256 ∷ w / 2 ^ 16 % 256 ∷ w / 2 ^ 24 % 256 ∷ [] ≡ bytes_of 4 w
unfolding bytes_of
four_bytes w =
    let a : w / 65536 ≡ w / 256 / 256 = omega arith in
    let b : w / 16777216 ≡ w / 256 / 256 / 256 = omega arith in
    rw (a, b)

reply-word : (code lines w : ℕ) → drop 5 (reply code lines w) ≡ bytes_of 4 w
unfolding reply
reply-word code lines w = four_bytes w

pub reply_parts : (code lines w : ℕ) → reply code lines w ≡ (0x81 ∷ 0x06 ∷ 0x00 ∷ code ∷ lines ∷ []) ++ bytes_of 4 w
unfolding reply
reply_parts code lines w = rw (← (reply-word code lines w))

pub reply-says : (code lines w : ℕ) → ReplySays code lines w
unfolding reply
reply-says code lines w = record {
  nine = refl;
  begins = refl;
  word = λ h. rw (reply-word code lines w) (number-bytes 4 w h);
  bytes = subst Bytes (sym (reply-word code lines w)) (bytes_of_lem 4 w);
  back = λ r n h f l. sym (take-append-drop 5 r) ∙ rw (f, ← (four r n h l)) (sym (reply_parts code lines w));
}
  where
    four : (r : List ℕ) → length r ≡ 9 → Bytes r → number_of (drop 5 r) ≡ w → bytes_of 4 w ≡ drop 5 r
    four r n h l = let k : length (drop 5 r) ≡ 4 = omega (arith, length-drop 5 r) in rw (k, l) at (bytes-number (drop 5 r) (bytes_drop 5 r h))
