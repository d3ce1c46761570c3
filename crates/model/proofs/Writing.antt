-- A step written is the record that reads as it, and a record read is written as the bytes that stood there; so are lists of steps.
use Rattle.std.proofs.Common.{Some, None, Result, Ok, Err}
use mathlib.Core.Bool.{Bool, true, false, not, ◌&&◌, ◌||◌, and-true}
use mathlib.Core.Path.{◌≡◌, refl, sym, ap, ◌∙◌}
use mathlib.Core.List.{List, [], ◌∷◌, ◌++◌, append_assoc}
use Prim.Native.Nat.{ℕ, zero, suc, ◌+◌, ◌-◌, ◌^◌, ◌≤◌}
use native.Mathlib.Nat.{sub-zero}
use native.Mathlib.Omega.{arith}
use lib.Dec.{eqb, ltb}
use lib.ListN.{length, take, drop, length-append, length-drop}
use lib.Seq.{take-append_seam, take_all, take-add, drop-drop}
use borrow.Author.Tests.{ltb-true, ltb-false, lt-ltb, le-ltb, eq-eqb}
use Rattle.base.specs.Base.{pick}
use Rattle.model.specs.Script.{body_length, step_tag, part, reading, steps_by, steps_from, steps_of, overwritten}
use Rattle.model.specs.Records.{Bytes, Field, bytes_of, FitWidths, step_fields, step_numbers, record_of, IsRecord, script_of, AllFit}
use Rattle.model.specs.Scripts.{place_by, place_after}
use Rattle.model.specs.Reachable.{StepRange}
use Rattle.model.specs.Writer.{step_said, wide_numbers, StepSaid, fit, write_code, record_written, written, too_large, WriteCodes, WrittenReads, ReadWrites, all_written, AllWritten, Rewritten}
use Rattle.model.specs.declared.Step as steps
use Rattle.model.specs.declared.WideStep as wide
use Rattle.model.specs.declared.WideStep.TheVariants as wides
use Rattle.model.specs.declared.Step.TheVariants.{Reset, Read, Write, Idle, BitTimes, Activity, Start, Outcome, Receive, ReceiveError}
use Rattle.base.proofs.Choices.{and_l, and_r, pick-both, pick_cases, refused_if, refused_unless}
use Rattle.model.proofs.Readings.{overwrites, Look, over, short, unknown, wrong, whole, look}
use Rattle.model.proofs.Recorded.{tags, record-says, record_stands, script-says}
use Rattle.model.proofs.FromAnywhere.{script-fit}
use Rattle.std.specs.Result.{result_unwrap_or}
use Rattle.model.specs.Refusals.{code_of}
use Rattle.model.specs.Script.{Reading}
use Rattle.model.specs.declared.Refusal.{Refusal}
use Rattle.model.specs.declared.Refusal.TheVariants.{NoSpace, OutOfRange}

-- ---- numbers that fit

fit_widths : (l : List Field) → fit l ≡ true → FitWidths l
fit_widths [] h = tt
fit_widths (f ∷ l) h =
    let a : Bool = ltb f.value (256 ^ f.width) in
    (ltb-true f.value (256 ^ f.width) (and_l a (fit l) h), fit_widths l (and_r a (fit l) h))

widths_fit : (l : List Field) → FitWidths l → fit l ≡ true
widths_fit [] h = refl
widths_fit (f ∷ l) h = rw (lt-ltb f.value (256 ^ f.width) h.0, widths_fit l h.1)

-- at most k, or more
at_most : (k n : ℕ) → ltb n (suc k) ≡ not (ltb k n)
at_most k n = go (ltb k n) refl
  where
    go : (b : Bool) → ltb k n ≡ b → ltb n (suc k) ≡ not b
    go true h = le-ltb n (suc k) (ltb-true k n h)
    go false h = lt-ltb n (suc k) (omega (arith, ltb-false k n h))

both_most : (a b : Bool) → (not a && (not b && true)) ≡ not (a || b)
both_most true b = refl
both_most false true = refl
both_most false false = refl

-- words fit, and so nothing else can be too large
fit-large : (e : steps.Step) → StepRange e → fit (step_fields e) ≡ not (too_large e)
fit-large Reset h = refl
fit-large (Read o) h = rw (at_most 65535 o) (and-true (not (ltb 65535 o)))
fit-large (Write o w) h = rw (lt-ltb w (2 ^ 32) h, at_most 65535 o) (and-true (not (ltb 65535 o)))
fit-large Idle h = refl
fit-large (BitTimes n) h = rw (at_most 65535 n) (and-true (not (ltb 65535 n)))
fit-large Activity h = refl
fit-large Start h = refl
fit-large (Outcome r) h = rw (at_most 255 r) (and-true (not (ltb 255 r)))
fit-large (Receive x) h = rw (lt-ltb x.identifier (2 ^ 32) h.0, lt-ltb x.low (2 ^ 32) h.1, lt-ltb x.high (2 ^ 32) h.2, at_most 255 x.length) (and-true (not (ltb 255 x.length)))
fit-large (ReceiveError k n) h = rw (at_most 255 k, at_most 255 n) (both_most (ltb 255 k) (ltb 255 n))

-- ---- one record

pub step_said_lem : (e : wide.WideStep) → StepSaid e
step_said_lem e = record { numbers = numbers e }
  where
    numbers : (e : wide.WideStep) → step_numbers (step_said e) ≡ wide_numbers e
    numbers wides.Reset = refl
    numbers (wides.Read o) = refl
    numbers (wides.Write o w) = refl
    numbers wides.Idle = refl
    numbers (wides.BitTimes n) = refl
    numbers wides.Activity = refl
    numbers wides.Start = refl
    numbers (wides.Outcome r) = refl
    numbers (wides.Receive x) = refl
    numbers (wides.ReceiveError k n) = refl

pub record-length : (e : steps.Step) → length (record_of e) ≡ 3 + body_length (step_tag e)
unfolding bytes_of
record-length e = omega (arith, tags.lengths e)

swapped : (b : Bool) → ◌≡◌ {A = ℕ} (pick (not b) 0 5) (pick b 5 0)
swapped true = refl
swapped false = refl

-- the code and the count of an answer
code_written : (e : steps.Step) (space : ℕ) → write_code e space ≡ pick (ltb space (length (record_of e))) 9 (pick (fit (step_fields e)) 0 5)
unfolding written
code_written e space = go (ltb space (length (record_of e))) (fit (step_fields e))
  where
    go : (b c : Bool) → code_of (pick {A = Result ℕ Refusal} b (Err NoSpace) (pick c (Ok (length (record_of e))) (Err OutOfRange))) ≡ pick b 9 (pick c 0 5)
    go true c = refl
    go false true = refl
    go false false = refl

count_written : (e : steps.Step) (space : ℕ) → result_unwrap_or (written e space) 0 ≡ length (record_written e space)
unfolding written record_written
count_written e space = go (ltb space (length (record_of e))) (fit (step_fields e))
  where
    go : (b c : Bool) → result_unwrap_or (pick {A = Result ℕ Refusal} b (Err NoSpace) (pick c (Ok (length (record_of e))) (Err OutOfRange))) 0
        ≡ length (pick (eqb (code_of (pick {A = Result ℕ Refusal} b (Err NoSpace) (pick c (Ok (length (record_of e))) (Err OutOfRange)))) 0) (record_of e) [])
    go true c = refl
    go false true = refl
    go false false = refl

-- 9, then 5
code-order : (e : steps.Step) (space : ℕ) → StepRange e → write_code e space ≡ pick (ltb space (3 + body_length (step_tag e))) 9 (pick (too_large e) 5 0)
code-order e space h = code_written e space ∙ rw (record-length e, fit-large e h, swapped (too_large e))

-- code 0: there is space, and every number fits
pub accepted : (e : steps.Step) (space : ℕ) → eqb (write_code e space) 0 ≡ true → (length (record_of e) ≤ space) × (fit (step_fields e) ≡ true)
accepted e space h =
    let k = refused_if (ltb space (length (record_of e))) 9 (pick (fit (step_fields e)) 0 5) refl (rw (code_written e space) at h) in
    (ltb-false space (length (record_of e)) k.0, (refused_unless (fit (step_fields e)) 0 5 refl k.1).0)

accepts : (e : steps.Step) (space : ℕ) → length (record_of e) ≤ space → FitWidths (step_fields e) → write_code e space ≡ 0
accepts e space l h = code_written e space ∙ rw (le-ltb space (length (record_of e)) l, widths_fit (step_fields e) h)

pub whole-record : (e : steps.Step) (space : ℕ) → write_code e space ≡ 0 → record_written e space ≡ record_of e
unfolding record_written
whole-record e space h = rw h

pub write_codes : (e : steps.Step) (space : ℕ) → WriteCodes e space
unfolding record_written
write_codes e space = record {
  code = code-order e space;
  bytes = rw (count_written e space) (pick-both length (eqb (write_code e space) 0) (record_of e) [] (3 + body_length (step_tag e)) 0 (record-length e) refl);
  whole = whole-record e space;
  nothing = λ h l. rw h;
  untouched = λ l h. overwrites (record_written e space) l (rw h (pick_cases (λ (r : List ℕ). length r ≤ space) (eqb (write_code e space) 0) (record_of e) [] (λ k. (accepted e space k).0) (λ _. omega arith)));
}

pub written-reads : (e : steps.Step) (space : ℕ) → WrittenReads e space
written-reads e space = record {
  read = λ h front behind. rw (count_written e space, whole-record e space h) ((record-says e).read (fit_widths (step_fields e) (accepted e space (eq-eqb (write_code e space) 0 h)).1) front behind);
}

pub read-writes : (s : List ℕ) (p : ℕ) → ReadWrites s p
read-writes s p = record {
  code = code;
  same = λ h e q space k l. whole-record e space (code h e q space k l) ∙ sym ((record_stands s p).found h e q k).bytes;
}
  where
    code : Bytes s → (e : steps.Step) (q space : ℕ) → reading s p ≡ Ok (Some (e, q)) → q - p ≤ space → write_code e space ≡ 0
    code h e q space k l =
        let i : IsRecord s p e q = (record_stands s p).found h e q k in
        accepts e space (omega (arith, i.place)) i.fits

-- ---- lists of steps

one-behind : (r t space : List ℕ) → r ++ overwritten t (drop (length r) space) ≡ overwritten (r ++ t) space
one-behind r t space = rw (length-append r t, ← (drop-drop (length t) (length r) space), append_assoc r t)

all-script : (l : List steps.Step) (space : List ℕ) → AllFit l → length (script_of l) ≤ length space → all_written l space ≡ overwritten (script_of l) space
unfolding all_written script_of
all-script [] space h n = refl
all-script (e ∷ l) space h n =
    let m : length (record_of e) + length (script_of l) ≤ length space = omega (arith, length-append (record_of e) (script_of l)) in
    rw (count_written e (length space), whole-record e (length space) (accepts e (length space) (omega arith) h.0))
    (ap (λ (t : List ℕ). record_of e ++ t) (all-script l (drop (length (record_of e)) space) h.1 (omega (arith, length-drop (length (record_of e)) space)))
    ∙ one-behind (record_of e) (script_of l) space)

pub all_written_lem : (l : List steps.Step) (space : List ℕ) → AllWritten l space
all_written_lem l space = record {
  script = all-script l space;
  read = λ h n. rw (all-script l space h n, take-append_seam (script_of l) (drop (length (script_of l)) space)) ((script-says l).read h);
}

-- ---- a script written again

place-from_by : {s : List ℕ} {p : ℕ} {r : Reading} (f : ℕ → ℕ) → ((q : ℕ) → q ≤ f q) → Look s p r → p ≤ place_by r p f
unfolding place_by
place-from_by f k (over l) = omega arith
place-from_by f k (short l) = omega arith
place-from_by f k (unknown l) = omega arith
place-from_by f k (wrong l) = omega arith
place-from_by f k (whole e q l m) = omega (arith, k q)

place-from : (n : ℕ) (s : List ℕ) (p : ℕ) → p ≤ place_after n s p
unfolding place_after
place-from zero s p = omega arith
place-from (suc n) s p = place-from_by (place_after n s) (place-from n s) (look s p)

no_part : (s : List ℕ) (p : ℕ) → [] ≡ part s p p
no_part s p = let e : p - p ≡ 0 = omega arith in rw e

-- two parts, one behind the other
join : (s : List ℕ) (p q r : ℕ) → p ≤ q → q ≤ r → part s p q ++ part s q r ≡ part s p r
join s p q r h k =
    let e : r - p ≡ q - p + (r - q) = omega arith in
    let f : p + (q - p) ≡ q = omega arith in
    rw (e, take-add (q - p) (r - q) (drop p s), drop-drop (q - p) p s, f)

module _ (s : List ℕ) (h : Bytes s) where
  -- the place behind the records that n rounds from p on read
  abbrev stop : ℕ → ℕ → ℕ
  stop n p = place_after (length (steps_from n s p)) s p

  again : (n p : ℕ) → script_of (steps_from n s p) ≡ part s p (stop n p)
  unfolding steps_from steps_by place_after place_by script_of
  again zero p = no_part s p
  again (suc n) p = go (reading s p) refl (again n)
    where
      go : (r : Reading) → reading s p ≡ r → ((q : ℕ) → script_of (steps_from n s q) ≡ part s q (stop n q))
          → script_of (steps_by r (steps_from n s)) ≡ part s p (place_after (length (steps_by r (steps_from n s))) s p)
      go (Ok None) k f = no_part s p
      go (Err c) k f = no_part s p
      go (Ok (Some (e, q))) k f =
          let i : IsRecord s p e q = (record_stands s p).found h e q k in
          rw k ((λ j. sym i.bytes j ++ f q j) ∙ join s p q (stop n q) (omega (arith, i.place)) (place-from (length (steps_from n s q)) s q))

end_over : (s : List ℕ) (p : ℕ) → reading s p ≡ (Ok None) → length s ≤ p
end_over s p = go (look s p)
  where
    go : {r : Reading} → Look s p r → r ≡ (Ok None) → length s ≤ p
    go (over l) k = l
    go (short l) k = let z : ◌≡◌ {A = ℕ} 0 1 = cc in absurd (omega arith)
    go (unknown l) k = let z : ◌≡◌ {A = ℕ} 0 1 = cc in absurd (omega arith)
    go (wrong l) k = let z : ◌≡◌ {A = ℕ} 0 1 = cc in absurd (omega arith)
    go (whole e q l m) k = let z : ◌≡◌ {A = ℕ} 0 1 = cc in absurd (omega arith)

pub rewritten : (s : List ℕ) → Rewritten s
unfolding steps_of
rewritten s = record {
  front = front;
  whole = whole;
  again = λ h k space n. all-script (steps_of s) space (script-fit s h) (rw (whole h k) n) ∙ ap (λ (l : List ℕ). overwritten l space) (whole h k);
}
  where
    front : Bytes s → script_of (steps_of s) ≡ take (place_after (length (steps_of s)) s 0) s
    front h = again s h (length s) 0 ∙ rw sub-zero

    whole : Bytes s → reading s (place_after (length (steps_of s)) s 0) ≡ (Ok None) → script_of (steps_of s) ≡ s
    whole h k = front h ∙ take_all (place_after (length (steps_of s)) s 0) s (end_over s (place_after (length (steps_of s)) s 0) k)
