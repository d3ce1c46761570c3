-- One record of a script: the codes of a step are at most 5, and the codes 6 to 9 are given exactly when document 01 says.
use Rattle.std.proofs.Common.{Some, None, Ok, Err}
use mathlib.Core.Bool.{Bool, true, false, not, ◌&&◌, ◌||◌, true≢false, false≢true}
use mathlib.Core.Path.{◌≡◌, refl, sym, ◌∙◌}
use mathlib.Core.List.{List, [], ◌∷◌}
use Prim.Native.Nat.{ℕ, ◌+◌, ◌-◌, ◌≤◌, ◌<◌}
use native.Mathlib.Omega.{arith}
use lib.Dec.{eqb, ltb, leb}
use lib.ListN.{length, drop, length-append, length-drop}
use lib.Seq.{take-append_seam, drop-append_seam}
use borrow.Author.Tests.{ltb-false, leb-true, leb-false, lt-leb, le-leb, ne_eqb}
use Rattle.base.specs.Base.{pick}
use Rattle.model.specs.Step.{step}
use Rattle.model.specs.Script.{byte_at, body_length, reading, reading_code, reply, stayed, at_end, passed, replayed, record_at, reply_of, overwritten, stops}
use Rattle.model.specs.Records.{step_numbers, reading_numbers}
use Rattle.model.specs.Scripts.{is_end, no_space, header_short, tag_unknown, length_wrong, body_short, behind, step_at, ReadingCodes, Unchanged, Answers, Overwrites, RecordCodes}
use Rattle.model.specs.declared.Controller.{Controller}
use Rattle.model.specs.declared.Stepped.{Stepped}
use Rattle.model.specs.declared.Replayed.{Replayed}
use Rattle.model.specs.declared.Step as steps
use Rattle.base.proofs.Choices.{and_l, and_r, pick_cases}
use Rattle.model.proofs.Coded.{codes}
use Rattle.model.specs.Script.{Reading}
use Rattle.model.specs.declared.Refusal.TheVariants.{Short, UnknownTag, WrongLength}

-- ---- the codes of a step

-- a step never gives the codes 6 to 9
pub code_small : (z : Controller) (e : steps.Step) → (step z e).code ≤ 5
code_small z e = (codes z e).at_most

-- ---- the order in which a record is looked at

abbrev ordered : (e a h t w b : Bool) → Controller → ℕ → ℕ → Stepped → ℕ → Replayed
ordered e a h t w b z n p x q =
    pick e (at_end z n)
    (pick a (stayed z p 9)
    (pick h (stayed z p 6)
    (pick t (stayed z p 7)
    (pick w (stayed z p 8)
    (pick b (stayed z p 6)
    (passed x q))))))

in_order_lem : (e a h t w b : Bool) (z : Controller) (n p space : ℕ) (d : steps.Step) (q : ℕ) → ltb space 9 ≡ a
    → replayed (pick e (Ok None) (pick h (Err Short) (pick t (Err UnknownTag) (pick w (Err WrongLength) (pick b (Err Short) (Ok (Some (d, q)))))))) z n p space
    ≡ ordered e a h t w b z n p (step z d) q
unfolding replayed
in_order_lem true a h t w b z n p space d q k = refl
in_order_lem false true true t w b z n p space d q k = rw k
in_order_lem false true false true w b z n p space d q k = rw k
in_order_lem false true false false true b z n p space d q k = rw k
in_order_lem false true false false false true z n p space d q k = rw k
in_order_lem false true false false false false z n p space d q k = rw k
in_order_lem false false true t w b z n p space d q k = rw k
in_order_lem false false false true w b z n p space d q k = rw k
in_order_lem false false false false true b z n p space d q k = rw k
in_order_lem false false false false false true z n p space d q k = rw k
in_order_lem false false false false false false z n p space d q k = rw k

record_in-order : (z : Controller) (s : List ℕ) (p space : ℕ)
    → record_at z s p space ≡ ordered (is_end s p) (no_space space) (header_short s p) (tag_unknown s p) (length_wrong s p) (body_short s p) z (length s) p (step z (step_at s p)) (behind s p)
unfolding record_at reading
record_in-order z s p space =
    in_order_lem (is_end s p) (no_space space) (header_short s p) (tag_unknown s p) (length_wrong s p) (body_short s p) z (length s) p space (step_at s p) (behind s p) refl

-- ---- the table

-- what the tests say of the answer r
record Table (e a h t w b : Bool) (z : Controller) (n p : ℕ) (x : Stepped) (q : ℕ) (r : Replayed) : Type 0 where
  ends : r.ended ≡ e
  code9 : eqb r.code 9 ≡ (not e && a)
  code6 : eqb r.code 6 ≡ (not e && not a && (h || (not t && not w && b)))
  code7 : eqb r.code 7 ≡ (not e && not a && not h && t)
  code8 : eqb r.code 8 ≡ (not e && not a && not h && not t && w)
  at_end : r.ended ≡ true → (r.code ≡ 0) × Unchanged z n r
  stays : r.ended ≡ false → 6 ≤ r.code → Unchanged z p r
  answered : r.ended ≡ false → r.code ≤ 5 → Answers x q r
  at_most : r.code ≤ 9
  writes : reply_of r ≡ pick (e || a) [] (reply r.code r.lines r.word)

pub same-state : (z : Controller) (p k : ℕ) → Unchanged z p (stayed z p k)
same-state z p k = record { controller = refl; place = refl; lines = refl; word = refl }

-- a record that is refused with code k
row : (a h t w b : Bool) (z : Controller) (n p : ℕ) (x : Stepped) (q k : ℕ) → (leb 6 k && leb k 9) ≡ true → eqb k 9 ≡ a → eqb k 6 ≡ (not a && (h || (not t && not w && b)))
    → eqb k 7 ≡ (not a && not h && t) → eqb k 8 ≡ (not a && not h && not t && w) → Table false a h t w b z n p x q (stayed z p k)
unfolding reply_of
row a h t w b z n p x q k i k9 k6 k7 k8 = record {
  ends = refl;
  code9 = k9;
  code6 = k6;
  code7 = k7;
  code8 = k8;
  at_end = λ f. absurd (false≢true f);
  stays = λ f l. same-state z p k;
  answered = λ f l. absurd (omega (arith, leb-true 6 k (and_l (leb 6 k) (leb k 9) i)));
  at_most = leb-true k 9 (and_r (leb 6 k) (leb k 9) i);
  writes = rw k9;
}

table : (e a h t w b : Bool) (z : Controller) (n p : ℕ) (x : Stepped) (q : ℕ) → x.code ≤ 5 → Table e a h t w b z n p x q (ordered e a h t w b z n p x q)
unfolding reply_of
table true a h t w b z n p x q l = record {
  ends = refl;
  code9 = refl;
  code6 = refl;
  code7 = refl;
  code8 = refl;
  at_end = λ f. (refl, record { controller = refl; place = refl; lines = refl; word = refl });
  stays = λ f _. absurd (true≢false f);
  answered = λ f _. absurd (true≢false f);
  at_most = omega arith;
  writes = refl;
}
table false true h t w b z n p x q l = row true h t w b z n p x q 9 refl refl refl refl refl
table false false true t w b z n p x q l = row false true t w b z n p x q 6 refl refl refl refl refl
table false false false true w b z n p x q l = row false false true w b z n p x q 7 refl refl refl refl refl
table false false false false true b z n p x q l = row false false false true b z n p x q 8 refl refl refl refl refl
table false false false false false true z n p x q l = row false false false false true z n p x q 6 refl refl refl refl refl
table false false false false false false z n p x q l = record {
  ends = refl;
  code9 = ne_eqb x.code 9 (λ e. omega arith);
  code6 = ne_eqb x.code 6 (λ e. omega arith);
  code7 = ne_eqb x.code 7 (λ e. omega arith);
  code8 = ne_eqb x.code 8 (λ e. omega arith);
  at_end = λ f. absurd (false≢true f);
  stays = λ f m. absurd (omega arith);
  answered = λ f m. record { controller = refl; place = refl; code = refl; lines = refl; word = refl };
  at_most = omega arith;
  writes = rw (ne_eqb x.code 9 (λ e. omega arith));
}

-- a record that is not answered, though there is space, has the code of its reading
unread-code : (x : Reading) (z : Controller) (n p space : ℕ) → no_space space ≡ false → stops (replayed x z n p space).ended (replayed x z n p space).code ≡ true → (replayed x z n p space).code ≡ reading_code x
unfolding replayed
unread-code (Ok None) z n p space h s = refl
unread-code (Err k) z n p space h s = rw h
unread-code (Ok (Some (e, q))) z n p space h s = absurd (false≢true (rw (h, lt-leb 6 (step z e).code (omega (arith, code_small z e))) at s))

unread-at : (z : Controller) (s : List ℕ) (p space : ℕ) → no_space space ≡ false → stops (record_at z s p space).ended (record_at z s p space).code ≡ true → (record_at z s p space).code ≡ reading_code (reading s p)
unfolding record_at
unread-at z s p space = unread-code (reading s p) z (length s) p space

-- which case a reading is, from the tests in their order
case_of : (e h t w b : Bool) (d : steps.Step) (q : ℕ)
    → reading_numbers (pick e (Ok None) (pick h (Err Short) (pick t (Err UnknownTag) (pick w (Err WrongLength) (pick b (Err Short) (Ok (Some (d, q))))))))
    ≡ pick e (0 ∷ []) (pick (not h && not t && not w && not b) (2 ∷ q ∷ step_numbers d) (1 ∷ reading_code (pick e (Ok None) (pick h (Err Short) (pick t (Err UnknownTag) (pick w (Err WrongLength) (pick b (Err Short) (Ok (Some (d, q)))))))) ∷ []))
case_of true h t w b d q = refl
case_of false true t w b d q = refl
case_of false false true w b d q = refl
case_of false false false true b d q = refl
case_of false false false false true d q = refl
case_of false false false false false d q = refl

code_of : (e h t w b : Bool) (d : steps.Step) (q : ℕ)
    → reading_code (pick e (Ok None) (pick h (Err Short) (pick t (Err UnknownTag) (pick w (Err WrongLength) (pick b (Err Short) (Ok (Some (d, q))))))))
    ≡ pick e 0 (pick h 6 (pick t 7 (pick w 8 (pick b 6 0))))
code_of true h t w b d q = refl
code_of false true t w b d q = refl
code_of false false true w b d q = refl
code_of false false false true b d q = refl
code_of false false false false true d q = refl
code_of false false false false false d q = refl

-- which case a reading is, and its code
pub reading-codes : (s : List ℕ) (p : ℕ) → ReadingCodes s p
unfolding reading
reading-codes s p = record {
  numbers = case_of (is_end s p) (header_short s p) (tag_unknown s p) (length_wrong s p) (body_short s p) (step_at s p) (behind s p);
  code = code_of (is_end s p) (header_short s p) (tag_unknown s p) (length_wrong s p) (body_short s p) (step_at s p) (behind s p);
}

-- a reply that fits leaves the rest of its space
pub overwrites : (r l : List ℕ) → length r ≤ length l → Overwrites r l (overwritten r l)
overwrites r l h = record {
  front = take-append_seam r (drop (length r) l);
  rest = drop-append_seam r (drop (length r) l);
  same = omega (arith, length-append r (drop (length r) l), length-drop (length r) l);
}

pub reply-fits : (b a : Bool) (r : List ℕ) (k m w space : ℕ) → ltb space 9 ≡ a → r ≡ pick (b || a) [] (reply k m w) → length r ≤ space
unfolding reply
reply-fits true a r k m w space h e = rw e (omega arith)
reply-fits false true r k m w space h e = rw e (omega arith)
reply-fits false false r k m w space h e = rw e (ltb-false space 9 h)

pub record-codes : (z : Controller) (s : List ℕ) (p space : ℕ) → RecordCodes z s p space (record_at z s p space)
record-codes z s p space = record {
  ends = t.ends;
  code9 = t.code9;
  code6 = t.code6;
  code7 = t.code7;
  code8 = t.code8;
  unread = unread-at z s p space;
  at_end = t.at_end;
  stays = t.stays;
  answered = t.answered;
  at_most = t.at_most;
  writes = t.writes;
  untouched = λ l h. overwrites (reply_of r) l (rw h (reply-fits (is_end s p) (no_space space) (reply_of r) r.code r.lines r.word space refl t.writes));
}
  where
    r : Replayed
    r = record_at z s p space

    t : Table (is_end s p) (no_space space) (header_short s p) (tag_unknown s p) (length_wrong s p) (body_short s p) z (length s) p (step z (step_at s p)) (behind s p) (record_at z s p space)
    t = rw (record_in-order z s p space) (table (is_end s p) (no_space space) (header_short s p) (tag_unknown s p) (length_wrong s p) (body_short s p) z (length s) p (step z (step_at s p)) (behind s p) (code_small z (step_at s p)))

-- ---- what a reading says of the place

-- the reading at a place, with what each case says of the lengths
pub data Look (s : List ℕ) (p : ℕ) : Reading → Type 0 where
  over : length s ≤ p → Look s p (Ok None)
  short : p < length s → Look s p (Err Short)
  unknown : p < length s → Look s p (Err UnknownTag)
  wrong : p < length s → Look s p (Err WrongLength)
  whole : (e : steps.Step) (q : ℕ) → p + 3 ≤ q → q ≤ length s → Look s p (Ok (Some (e, q)))

-- cases of a choice
pub look : (s : List ℕ) (p : ℕ) → Look s p (reading s p)
unfolding reading
look s p =
    pick_cases (Look s p) (is_end s p) _ _ (λ h. over (leb-true (length s) p h))
    (λ h. let l : p < length s = leb-false (length s) p h in
    pick_cases (Look s p) (header_short s p) _ _ (λ _. short l)
    (λ _. pick_cases (Look s p) (tag_unknown s p) _ _ (λ _. unknown l)
    (λ _. pick_cases (Look s p) (length_wrong s p) _ _ (λ _. wrong l)
    (λ _. pick_cases (Look s p) (body_short s p) _ _ (λ _. short l)
    (λ k. whole (step_at s p) (behind s p) (omega arith) (omega (arith, ltb-false (length s - p) (3 + body_length (byte_at s p)) k)))))))

-- the place is at most the script's length, if it was before
pub record-within : (z : Controller) (s : List ℕ) (p space : ℕ) → p ≤ length s → (record_at z s p space).place ≤ length s
unfolding record_at replayed
record-within z s p space h = go (look s p)
  where
    go : {r : Reading} → Look s p r → (replayed r z (length s) p space).place ≤ length s
    go (over l) = omega arith
    go (short l) = h
    go (unknown l) = h
    go (wrong l) = h
    go (whole e q l m) = pick_cases (λ (r : Replayed). r.place ≤ length s) (ltb space 9) _ _ (λ _. h) (λ _. m)

-- where a replay stops, and where it goes on
stops-from : (e : Bool) (k : ℕ) → stops e k ≡ true → e ≡ false → 6 ≤ k
stops-from true k h f = absurd (true≢false f)
stops-from false k h f = leb-true 6 k (and_l (leb 6 k) (leb k 9) h)

goes_below : (e : Bool) (k : ℕ) → k ≤ 9 → stops e k ≡ false → (e ≡ false) × (k ≤ 5)
goes_below true k l h = absurd (true≢false h)
goes_below false k l h = (refl, go (leb 6 k) refl)
  where
    go : (b : Bool) → leb 6 k ≡ b → k ≤ 5
    go true e = absurd (true≢false (sym (rw (e, le-leb k 9 l)) ∙ h))
    go false e = omega (arith, leb-false 6 k e)

-- a record that is answered takes at least three bytes
pub record_advances : (z : Controller) (s : List ℕ) (p space : ℕ) → stops (record_at z s p space).ended (record_at z s p space).code ≡ false → p + 3 ≤ (record_at z s p space).place
record_advances z s p space h =
    let c : RecordCodes z s p space (record_at z s p space) = record-codes z s p space in
    let g = goes_below (record_at z s p space).ended (record_at z s p space).code c.at_most h in
    rw (c.answered g.0 g.1).place (omega arith)

-- one that is not answered keeps the place
pub stop-place : (z : Controller) (s : List ℕ) (p space : ℕ) → p ≤ length s → stops (record_at z s p space).ended (record_at z s p space).code ≡ true → (record_at z s p space).place ≡ p
stop-place z s p space l h = go (is_end s p) refl
  where
    c : RecordCodes z s p space (record_at z s p space)
    c = record-codes z s p space

    go : (b : Bool) → is_end s p ≡ b → (record_at z s p space).place ≡ p
    go true e = omega (arith, (c.at_end (c.ends ∙ e)).1.place, leb-true (length s) p e)
    go false e = (c.stays (c.ends ∙ e) (stops-from (record_at z s p space).ended (record_at z s p space).code h (c.ends ∙ e))).place
