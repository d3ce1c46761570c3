-- Texts put on a line one behind the other, and the definitions that count what is left, one place on and at their end.
use mathlib.Core.Bool.{Bool}
use mathlib.Core.Path.{◌≡◌, refl, sym, ap, ◌∙◌}
use mathlib.Core.List.{List, [], ◌∷◌, ◌++◌}
use Prim.Native.Nat.{ℕ, zero, suc, ◌+◌, ◌-◌, ◌*◌, ◌^◌, ◌<◌, ◌≤◌}
use native.Mathlib.Nat.{sub-zero, zero-mul}
use native.Mathlib.Numerals.{add-one}
use native.Mathlib.Omega.{arith}
use lib.ListN.{length, get_or, take, drop, drop_of_length-le}
use lib.Seq.{drop-cons}
use Rattle.std.proofs.lemmas.List.{get_or-take}
use Rattle.names.specs.Table.{place}
use Rattle.names.specs.declared.rows.Found.{Found}
use borrow.Author.Tests.{le-leb, lt-leb, eq-eqb, ne_eqb}
use Rattle.base.specs.Base.{pick}
use Rattle.text.specs.Lines.{put_all, put_both}
use Rattle.text.proofs.Putting.{on, ended}
use Rattle.text.specs.declared.Line.{Line}
use Rattle.phrases.specs.Names.{letter_text, name_on, name_text, field_value, placed, number_of, field_text, row_on, row_fields, fields_on, all_text, rest_of, with_field, with_fields}
use Rattle.phrases.specs.Frames.{pair_text, pairs_text}
use Rattle.phrases.specs.declared.Said.{Said}

module _ (i j : ℕ) where
  left : i < j → j - i ≡ suc (j - (i + 1))
  left h = omega arith

  none_left : j ≤ i → j - i ≡ 0
  none_left h = omega arith

-- ---- names

module _ (m z : Line) (t : List ℕ) (index k : ℕ) where
  step : k < 8 → 32 < get_or t k 0 → name_on t index k (8 - k) ≡ letter_text (get_or t k 0) index ++ name_on t index (k + 1) (8 - (k + 1))
  unfolding name_on
  step h b = ap (name_on t index k) (left k 8 h) ∙ ap (λ (x : Bool). pick x [] (letter_text (get_or t k 0) index ++ name_on t index (k + 1) (8 - (k + 1)))) (lt-leb (get_or t k 0) 32 b)

  pub name_on_lem : (r : Line) → k < 8 → 32 < get_or t k 0 → r ≡ put_all m (letter_text (get_or t k 0) index) → put_all m (name_on t index k (8 - k)) ≡ z
      → put_all r (name_on t index (k + 1) (8 - (k + 1))) ≡ z
  name_on_lem r h b e q = on m r z (letter_text (get_or t k 0) index) (name_on t index (k + 1) (8 - (k + 1))) (name_on t index k (8 - k)) (step h b) e q

  pub name-blank : k < 8 → get_or t k 0 ≤ 32 → put_all m (name_on t index k (8 - k)) ≡ z → m ≡ z
  unfolding name_on
  name-blank h b q =
      ended m z (name_on t index k (8 - k))
      (ap (name_on t index k) (left k 8 h) ∙ ap (λ (x : Bool). pick x [] (letter_text (get_or t k 0) index ++ name_on t index (k + 1) (8 - (k + 1)))) (le-leb (get_or t k 0) 32 b)) q

  pub name-ended : 8 ≤ k → put_all m (name_on t index k (8 - k)) ≡ z → m ≡ z
  unfolding name_on
  name-ended h q = ended m z (name_on t index k (8 - k)) (ap (name_on t index k) (none_left k 8 h)) q

-- a name is in the first eight bytes of its row
eight : (t : List ℕ) (index k n : ℕ) → k + n ≤ 8 → name_on (take 8 t) index k n ≡ name_on t index k n
unfolding name_on
eight t index k zero h = refl
eight t index k (suc n) h =
    let b : get_or (take 8 t) k 0 ≡ get_or t k 0 = get_or-take 8 t k 0 (omega arith) in
    rw (b, eight t index (k + 1) n (omega arith))

pub whole-name : (l : Line) (t u : List ℕ) (index : ℕ) → t ≡ u → put_all l (name_on (take 8 t) index 0 8) ≡ put_all l (name_on u index 0 8)
whole-name l t u index e = ap (put_all l) (eight t index 0 8 (omega arith) ∙ ap (λ (x : List ℕ). name_on x index 0 8) e)

-- ---- bytes

module _ (m z : Line) (blank : Bool) (s : List ℕ) (i : ℕ) where
  pub pairs-on : (r : Line) → i < length s → r ≡ put_all m (pair_text blank (get_or s i 0)) → put_all m (pairs_text blank (drop i s)) ≡ z → put_all r (pairs_text blank (drop (i + 1) s)) ≡ z
  unfolding pairs_text
  pairs-on r h e q =
      on m r z (pair_text blank (get_or s i 0)) (pairs_text blank (drop (i + 1) s)) (pairs_text blank (drop i s))
      (ap (pairs_text blank) (drop-cons s i 0 h ∙ ap (λ (n : ℕ). get_or s i 0 ∷ drop n s) (sym (add-one i)))) e q

  pub pairs-ended : length s ≤ i → put_all m (pairs_text blank (drop i s)) ≡ z → m ≡ z
  unfolding pairs_text
  pairs-ended h q = ended m z (pairs_text blank (drop i s)) (ap (pairs_text blank) (drop_of_length-le s h)) q

-- ---- fields

pub fields-both : (s : Said) (a b : List Found) (w : ℕ) → with_fields (with_fields s a w) b w ≡ with_fields s (a ++ b) w
unfolding with_fields
fields-both s [] b w = refl
fields-both s (f ∷ a) b w = fields-both (with_field s f w) a b w

fields-step : (s t z : Said) (a b c : List Found) (w : ℕ) → c ≡ a ++ b → t ≡ with_fields s a w → with_fields s c w ≡ z → with_fields t b w ≡ z
fields-step s t z a b c w p e k =
    ap (λ (x : Said). with_fields x b w) e ∙ (fields-both s a b w ∙ (sym (ap (λ (x : List Found). with_fields s x w) p) ∙ k))

module _ (s z : Said) (w row i n : ℕ) where
  pub row_on_lem : (t : Said) → i < n → t ≡ with_field s (record { row = row; index = i }) w → with_fields s (row_on row i (n - i)) w ≡ z → with_fields t (row_on row (i + 1) (n - (i + 1))) w ≡ z
  unfolding row_on with_fields
  row_on_lem t h e q =
      fields-step s t z (record { row = row; index = i } ∷ []) (row_on row (i + 1) (n - (i + 1))) (row_on row i (n - i)) w (ap (row_on row i) (left i n h)) e q

  pub row-ended : n ≤ i → with_fields s (row_on row i (n - i)) w ≡ z → s ≡ z
  unfolding row_on with_fields
  row-ended h q = sym (ap (λ (x : List Found). with_fields s x w) (ap (row_on row i) (none_left i n h))) ∙ q

module _ (s z : Said) (w row end : ℕ) where
  next : row < end → fields_on row (end - row) ≡ row_fields row ++ fields_on (row + 1) (end - (row + 1))
  unfolding fields_on
  next h = ap (fields_on row) (left row end h)

  pub fields_on_lem : (t : Said) → row < end → t ≡ with_fields s (row_fields row) w → with_fields s (fields_on row (end - row)) w ≡ z → with_fields t (fields_on (row + 1) (end - (row + 1))) w ≡ z
  fields_on_lem t h e q =
      fields-step s t z (row_fields row) (fields_on (row + 1) (end - (row + 1))) (fields_on row (end - row)) w (next h) e q

  pub fields-ended : end ≤ row → with_fields s (fields_on row (end - row)) w ≡ z → s ≡ z
  unfolding fields_on with_fields
  fields-ended h q = sym (ap (λ (x : List Found). with_fields s x w) (ap (fields_on row) (none_left row end h))) ∙ q

-- field by field, and all at once
pub all_said : (s : Said) (fs : List Found) (w : ℕ) → with_fields s fs w ≡ record { line = put_all s.line (all_text fs w); rest = rest_of fs w s.rest }
unfolding with_fields with_field all_text rest_of put_all
all_said s [] w = refl
all_said s (f ∷ l) w = all_said (with_field s f w) l w ∙ ap (λ (x : Line). record { line = x; rest = rest_of (f ∷ l) w s.rest }) (put_both s.line (field_text f w) (all_text l w))

-- ---- one field

module _ (s : Said) (f : Found) (w v : ℕ) (h : v ≡ field_value f w) where
  pub hidden : v ≡ 0 → s ≡ with_field s f w
  unfolding with_field field_text put_all
  hidden e =
      let z : field_value f w ≡ 0 = sym h ∙ e in
      let r : s.rest ≡ s.rest - placed f w = sym (ap (λ (x : ℕ). s.rest - x) (ap (λ (x : ℕ). x * 2 ^ place f) z ∙ zero-mul (2 ^ place f)) ∙ sub-zero s.rest) in
      rw (eq-eqb (field_value f w) 0 z) (ap (λ (n : ℕ). record { line = s.line; rest = n }) r)

  pub shown : (l : Line) (n : ℕ) → (v ≡ 0 → ⊥) → l ≡ put_all s.line (32 ∷ (name_text f.row f.index ++ number_of f (field_value f w)))
      → n ≡ s.rest - placed f w → record { line = l; rest = n } ≡ with_field s f w
  unfolding with_field field_text
  shown l n z e k = rw (ne_eqb (field_value f w) 0 (λ x. z (h ∙ x)), e, k)
