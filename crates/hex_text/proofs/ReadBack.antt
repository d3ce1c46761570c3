-- What is promised of hex text holds.
use Rattle.std.proofs.Common.{◌≡◌, ℕ, suc, ◌+◌, ◌-◌, ◌*◌, ◌/◌, ◌%◌, ◌<◌, ◌≤◌, Bool, true, false, ◌||◌, eqb, leb, List, [], ◌∷◌, ◌++◌, length, sym, refl, ap, ◌∙◌, true≢false, append_assoc, append-nil, arith, le-ltb, lt-ltb, eq-eqb, ne_eqb, eqb-true, leb-true}
use mathlib.Core.Bool.{false≢true}
use Rattle.std.proofs.Math.Bool.{or-true}
use Rattle.base.specs.Base.{pick}
use Rattle.model.specs.Records.{Bytes}
use Rattle.model.specs.Script.{byte_at}
use Rattle.base.proofs.Choices.{Is, and_l, and_r, pick_cases}
use Rattle.model.proofs.Bounded.{all_below, each_below}
use Rattle.hex_text.specs.Text.{kind_numbers, fault_numbers, place_numbers, is_within, kind_of, taken, reader_after, given_by, after_byte, after_digit, in_comment, second_digit, along, at, bytes_of, start, Progress, read_on, unhexed, ended, read}
use Rattle.hex_text.specs.Written.{CasesApart, upper_digit, lower_digit, Digits, Places, hex_of, ReadBack, TwoPieces, StaysAtFault}
use Rattle.hex_text.specs.declared.Kind.{Kind}
use Rattle.hex_text.specs.declared.Kind.TheVariants.{Digit, Blank, LineEnd, Hash, Other}
use Rattle.hex_text.specs.declared.Fault.{Fault}
use Rattle.hex_text.specs.declared.Fault.TheVariants.{Character, LoneDigit}
use Rattle.hex_text.specs.declared.Place.{Place}
use Rattle.hex_text.specs.declared.Place.TheVariants.{Between, Inside, Comment, Stopped}
use Rattle.hex_text.specs.declared.Reader.{Reader}
use Rattle.std.specs.Prelude.{Option, Some, None}
use Rattle.hex_text.proofs.Texts.{in_pieces_lem, stays}

-- ---- the numbers tell the cases apart

abbrev kind_of_numbers : List ℕ → Kind
kind_of_numbers l = pick (eqb (byte_at l 0) 0) (Digit (byte_at l 1)) (pick (eqb (byte_at l 0) 1) Blank (pick (eqb (byte_at l 0) 2) LineEnd (pick (eqb (byte_at l 0) 3) Hash Other)))

abbrev fault_from : ℕ → ℕ → Fault
fault_from k c = pick (eqb k 0) (Character c) LoneDigit

abbrev place_of_numbers : List ℕ → Place
place_of_numbers l =
    pick (eqb (byte_at l 0) 0) Between
    (pick (eqb (byte_at l 0) 1) (Inside (byte_at l 1)) (pick (eqb (byte_at l 0) 2) Comment (Stopped (fault_from (byte_at l 1) (byte_at l 2)))))

abbrev given_of : List ℕ → Option ℕ
given_of [] = None
given_of (b ∷ l) = Some b

kind_back : (x : Kind) → kind_of_numbers (kind_numbers x) ≡ x
kind_back (Digit v) = refl
kind_back Blank = refl
kind_back LineEnd = refl
kind_back Hash = refl
kind_back Other = refl

fault_back : (x : Fault) → fault_from (byte_at (fault_numbers x) 0) (byte_at (fault_numbers x) 1) ≡ x
fault_back (Character c) = refl
fault_back LoneDigit = refl

place-back : (x : Place) → place_of_numbers (place_numbers x) ≡ x
place-back Between = refl
place-back (Inside h) = refl
place-back Comment = refl
place-back (Stopped f) = ap Stopped (fault_back f)

given_back : (x : Option ℕ) → given_of (bytes_of x) ≡ x
given_back (Some b) = refl
given_back None = refl

pub cases_apart : CasesApart
cases_apart = record {
  kinds = λ x y h. sym (kind_back x) ∙ ap kind_of_numbers h ∙ kind_back y;
  faults = λ x y h. sym (fault_back x) ∙ ap (λ (l : List ℕ). fault_from (byte_at l 0) (byte_at l 1)) h ∙ fault_back y;
  places = λ x y h. sym (place-back x) ∙ ap place_of_numbers h ∙ place-back y;
  given = λ x y h. sym (given_back x) ∙ ap given_of h ∙ given_back y;
}

-- ---- digits

abbrev same_kind : Kind → ℕ → Bool
same_kind (Digit w) v = eqb w v
same_kind Blank v = false
same_kind LineEnd v = false
same_kind Hash v = false
same_kind Other v = false

-- a test that is computed for each number below 16
is_digit : (f : ℕ → ℕ) → Is (all_below (λ (v : ℕ). same_kind (kind_of (f v)) v) 16) → (v : ℕ) → v < 16 → kind_of (f v) ≡ Digit v
is_digit f h v l = go (kind_of (f v)) (each_below (λ (v : ℕ). same_kind (kind_of (f v)) v) 16 h v l)
  where
    go : (k : Kind) → Is (same_kind k v) → k ≡ Digit v
    go (Digit w) e = ap Digit (eqb-true w v e)
    go Blank e = absurd (false≢true e)
    go LineEnd e = absurd (false≢true e)
    go Hash e = absurd (false≢true e)
    go Other e = absurd (false≢true e)

upper_digit_lem : (v : ℕ) → v < 16 → kind_of (upper_digit v) ≡ Digit v
unfolding kind_of all_below
upper_digit_lem = is_digit upper_digit refl

lower_digit_lem : (v : ℕ) → v < 16 → kind_of (lower_digit v) ≡ Digit v
unfolding kind_of all_below
lower_digit_lem = is_digit lower_digit refl

-- a character within a range
in_range_lem : (a b c : ℕ) → is_within a b c ≡ true → (a ≤ c) × (c ≤ b)
in_range_lem a b c h = (leb-true a c (and_l (leb a c) (leb c b) h), leb-true c b (and_r (leb a c) (leb c b) h))

abbrev DigitOnly : ℕ → Kind → Type 0
DigitOnly c k = (v : ℕ) → kind_numbers k ≡ 0 ∷ v ∷ [] → (v < 16) × ((eqb c (upper_digit v) || eqb c (lower_digit v)) ≡ true)

module _ (c v : ℕ) where
  abbrev Shown : Type 0
  Shown = (v < 16) × ((eqb c (upper_digit v) || eqb c (lower_digit v)) ≡ true)

  number-digit : c - 48 ≡ v → (48 ≤ c) × (c ≤ 57) → Shown
  number-digit e (l, m) = (omega arith, rw (lt-ltb v 10 (omega arith), eq-eqb c (48 + v) (omega arith)))

  upper_letter : c - 55 ≡ v → (65 ≤ c) × (c ≤ 70) → Shown
  upper_letter e (l, m) = (omega arith, rw (le-ltb v 10 (omega arith), eq-eqb c (65 + (v - 10)) (omega arith)))

  lower_letter : c - 87 ≡ v → (97 ≤ c) × (c ≤ 102) → Shown
  lower_letter e (l, m) = (omega arith, rw (le-ltb v 10 (omega arith)) (rw (eq-eqb c (97 + (v - 10)) (omega arith)) (or-true (eqb c (65 + (v - 10))))))

digit_value : (n v : ℕ) → kind_numbers (Digit n) ≡ 0 ∷ v ∷ [] → n ≡ v
digit_value n v h = ap (λ (x : List ℕ). byte_at x 1) h

not_digit : (c k : ℕ) → (k ≡ 0 → ⊥) → (v : ℕ) → (k ∷ []) ≡ (0 ∷ v ∷ []) → (v < 16) × ((eqb c (upper_digit v) || eqb c (lower_digit v)) ≡ true)
not_digit c k n v h = absurd (n (ap (λ (x : List ℕ). byte_at x 0) h))

digit-only : (c : ℕ) → DigitOnly c (kind_of c)
unfolding kind_of
digit-only c =
    pick_cases (DigitOnly c) (is_within 48 57 c) _ _ (λ h v e. number-digit c v (digit_value (c - 48) v e) (in_range_lem 48 57 c h))
    (λ _. pick_cases (DigitOnly c) (is_within 65 70 c) _ _ (λ h v e. upper_letter c v (digit_value (c - 55) v e) (in_range_lem 65 70 c h))
    (λ _. pick_cases (DigitOnly c) (is_within 97 102 c) _ _ (λ h v e. lower_letter c v (digit_value (c - 87) v e) (in_range_lem 97 102 c h))
    (λ _. pick_cases (DigitOnly c) (eqb c 35) _ _ (λ _. not_digit c 3 (λ e. omega arith))
    (λ _. pick_cases (DigitOnly c) (eqb c 10) _ _ (λ _. not_digit c 2 (λ e. omega arith))
    (λ _. pick_cases (DigitOnly c) (eqb c 32 || eqb c 9 || eqb c 13) _ _ (λ _. not_digit c 1 (λ e. omega arith)) (λ _. not_digit c 4 (λ e. omega arith)))))))

pub digits : Digits
digits = record {
  upper = λ v h. rw (upper_digit_lem v h);
  lower = λ v h. rw (lower_digit_lem v h);
  only = digit-only;
}

-- ---- one character at each place

abbrev is_line_end : Kind → Bool
is_line_end (Digit v) = false
is_line_end Blank = false
is_line_end LineEnd = true
is_line_end Hash = false
is_line_end Other = false

line_end_lem : (c : ℕ) → is_line_end (kind_of c) ≡ eqb c 10
unfolding kind_of
line_end_lem c =
    pick_cases (λ (k : Kind). is_line_end k ≡ eqb c 10) (is_within 48 57 c) _ _ (λ h. sym (ne_eqb c 10 (λ e. omega (arith, in_range_lem 48 57 c h))))
    (λ _. pick_cases (λ (k : Kind). is_line_end k ≡ eqb c 10) (is_within 65 70 c) _ _ (λ h. sym (ne_eqb c 10 (λ e. omega (arith, in_range_lem 65 70 c h))))
    (λ _. pick_cases (λ (k : Kind). is_line_end k ≡ eqb c 10) (is_within 97 102 c) _ _ (λ h. sym (ne_eqb c 10 (λ e. omega (arith, in_range_lem 97 102 c h))))
    (λ _. pick_cases (λ (k : Kind). is_line_end k ≡ eqb c 10) (eqb c 35) _ _ (λ h. sym (ne_eqb c 10 (λ e. omega (arith, eqb-true c 35 h))))
    (λ _. pick_cases (λ (k : Kind). is_line_end k ≡ eqb c 10) (eqb c 10) _ _ (λ h. sym h)
    (λ n. pick_cases (λ (k : Kind). is_line_end k ≡ eqb c 10) (eqb c 32 || eqb c 9 || eqb c 13) _ _ (λ _. sym n) (λ _. sym n))))))

lone-digit : (r : Reader) (c k : ℕ) (x : Kind) → kind_numbers x ≡ k ∷ [] → eqb k 4 ≡ false → place_numbers (after_digit r c x).place ≡ 3 ∷ 1 ∷ []
unfolding after_digit
lone-digit r c k (Digit v) e n = let z : ◌≡◌ {A = ℕ} 2 1 = ap length e in absurd (omega arith)
lone-digit r c k Blank e n = refl
lone-digit r c k LineEnd e n = refl
lone-digit r c k Hash e n = refl
lone-digit r c k Other e n = absurd (true≢false (sym (eq-eqb k 4 (sym (ap (λ (x : List ℕ). byte_at x 0) e))) ∙ n))

in_comment_lem : (r : Reader) (x : Kind) → place_numbers (in_comment r x).place ≡ pick (is_line_end x) (0 ∷ []) (2 ∷ [])
unfolding in_comment
in_comment_lem r (Digit v) = refl
in_comment_lem r Blank = refl
in_comment_lem r LineEnd = refl
in_comment_lem r Hash = refl
in_comment_lem r Other = refl

module _ (r : Reader) (c : ℕ) where
  at_place : (l : List ℕ) → place_numbers r.place ≡ l → r.place ≡ place_of_numbers l
  at_place l e = sym (place-back r.place) ∙ ap place_of_numbers e

  of_kind : (l : List ℕ) → kind_numbers (kind_of c) ≡ l → kind_of c ≡ kind_of_numbers l
  of_kind l e = sym (kind_back (kind_of c)) ∙ ap kind_of_numbers e

  pub places : Places r c
  unfolding taken reader_after given_by after_byte after_digit in_comment second_digit
  places = record {
    second = λ h v l e k.
        let a : h % 16 ≡ h = omega arith in
        let b : v % 16 ≡ v = omega (arith, (digit-only c v k).0) in
        rw (at_place (1 ∷ h ∷ []) e, of_kind (0 ∷ v ∷ []) k, a, b);
    first = λ v e k. rw (at_place (0 ∷ []) e, of_kind (0 ∷ v ∷ []) k);
    hash = λ e k. rw (at_place (0 ∷ []) e, of_kind (3 ∷ []) k);
    blank = λ e k. rw (at_place (0 ∷ []) e, of_kind (1 ∷ []) k);
    line_end = λ e k. rw (at_place (0 ∷ []) e, of_kind (2 ∷ []) k);
    wrong = λ e k. rw (at_place (0 ∷ []) e, of_kind (4 ∷ []) k);
    wrong_inside = λ h e k. rw (at_place (1 ∷ h ∷ []) e, of_kind (4 ∷ []) k);
    lone = λ h k e f n. rw (at_place (1 ∷ h ∷ []) e) (lone-digit (at r (Inside h)) c k (kind_of c) f n);
    comment = λ e. rw (at_place (2 ∷ []) e, ← (line_end_lem c)) (in_comment_lem (at r Comment) (kind_of c));
    stays = λ f e. rw (at_place (3 ∷ f) e);
  }

-- ---- a text

pub stays-at_fault : (r : Reader) (s : List ℕ) → StaysAtFault r s
stays-at_fault r s = record { stays = λ f e. rw (← (ap (at r) (at_place r 0 (3 ∷ f) e))) at (stays (fault_from (byte_at (3 ∷ f) 1) (byte_at (3 ∷ f) 2)) r s) }

pub two-pieces : (r : Reader) (s t : List ℕ) → TwoPieces r s t
two-pieces r s t = record { bytes = ap (λ (x : Progress). x.bytes) (in_pieces_lem r s t); reader = ap (λ (x : Progress). x.reader) (in_pieces_lem r s t) }

-- the two digits of a byte
byte-read : (b : ℕ) (r : Reader) (done s : List ℕ) → b < 256
    → read_on (record { reader = at r Between; bytes = done }) (upper_digit (b / 16) ∷ upper_digit (b % 16) ∷ s) ≡ read_on (record { reader = at (along r 2 Between) Between; bytes = done ++ (b ∷ []) }) s
unfolding read_on taken reader_after given_by after_byte after_digit second_digit
byte-read b r done s h =
    let e : b / 16 % 16 * 16 + b % 16 % 16 ≡ b = omega arith in
    rw (upper_digit_lem (b / 16) (omega arith), upper_digit_lem (b % 16) (omega arith), e, append-nil)

abbrev Ends : List ℕ → List ℕ → Progress → Type 0
Ends done l x = (x.bytes ≡ done ++ l) × (x.reader.place ≡ Between)

text-read : (l : List ℕ) (r : Reader) (done : List ℕ) → Bytes l → Ends done l (read_on (record { reader = at r Between; bytes = done }) (hex_of l))
unfolding read_on hex_of
text-read [] r done h = (sym (append-nil done), refl)
text-read (b ∷ l) r done h =
    rw (byte-read b r done (hex_of l) (h 0))
    (rw (append_assoc done (b ∷ []) l) at (text-read l (along r 2 Between) (done ++ (b ∷ [])) (λ i. h (suc i))))

pub read_back : (l : List ℕ) → ReadBack l
unfolding read unhexed ended
read_back l = record { bytes = λ h. (ends h).0; place = λ h. rw (ends h).1 (ap place_numbers (ends h).1) }
  where
    ends : Bytes l → Ends [] l (read_on (record { reader = start; bytes = [] }) (hex_of l))
    ends h = text-read l start [] h
