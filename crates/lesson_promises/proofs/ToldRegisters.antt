-- The registers of the table are the model's. The numbers of the 23 rows are computed once; below 0x300 every offset is tried, and
-- from there on no row and no register of the model reaches.
use mathlib.Core.Bool.{Bool, true, false, not, ◌&&◌, ◌||◌, true≢false, false≢true}
use mathlib.Core.Path.{◌≡◌, refl, sym, ap, ◌∙◌}
use mathlib.Core.List.{List, [], ◌∷◌}
use Rattle.std.specs.Prelude.{Option, Some, None, is_some, is_none}
use Prim.Native.Nat.{ℕ, zero, suc, ◌+◌, ◌-◌, ◌*◌, ◌/◌, ◌%◌, ◌<◌, ◌≤◌}
use native.Mathlib.Nat.{le-div_iff_mul-le}
use native.Mathlib.Omega.{arith}
use lib.Dec.{eqb, ltb, leb}
use lib.ListN.{get_or}
use borrow.Author.Tests.{eqb-true, ltb-true, ltb-false, leb-true, le-ltb, le-leb, ne_eqb}
use Rattle.model.specs.Registers as model
use Rattle.model.specs.Registers.{is_absent, control_register, mailbox_register, output_register, block_register, bank_register, filter_register}
use Rattle.model.specs.declared.Register.TheVariants.{Absent}
use Rattle.base.proofs.Choices.{Is, and_l, and_r, or_r, pick_cases}
use Rattle.model.proofs.Bounded.{all_below, each_below}
use Rattle.names.specs.Rows.{found, numbers, index_in, index_at, or_behind, register_on}
use Rattle.names.specs.Table.{place, register_at}
use Rattle.lesson_promises.specs.Told.{looked_up, register_name, RegisterNames}
use Rattle.names.specs.declared.rows.Found.{Found}
use Rattle.names.specs.declared.rows.Numbers.{Numbers}
use Rattle.names.specs.declared.Group.TheVariants.{Registers}
use Rattle.lesson_promises.proofs.ToldNames.{lookups}

-- ---- the rows as numbers

abbrev places : List ℕ
places = 0x000 ∷ 0x004 ∷ 0x008 ∷ 0x00C ∷ 0x010 ∷ 0x014 ∷ 0x018 ∷ 0x01C ∷ 0x180 ∷ 0x184 ∷ 0x188 ∷ 0x18C ∷ 0x1B0 ∷ 0x1B4 ∷ 0x1B8 ∷ 0x1BC ∷ 0x200 ∷ 0x204 ∷ 0x20C ∷ 0x214 ∷ 0x21C ∷ 0x240 ∷ 0x244 ∷ []

abbrev sizes : List ℕ
sizes = 4 ∷ 4 ∷ 4 ∷ 4 ∷ 4 ∷ 4 ∷ 4 ∷ 4 ∷ 16 ∷ 16 ∷ 16 ∷ 16 ∷ 16 ∷ 16 ∷ 16 ∷ 16 ∷ 4 ∷ 4 ∷ 4 ∷ 4 ∷ 4 ∷ 8 ∷ 8 ∷ []

abbrev counts : List ℕ
counts = 1 ∷ 1 ∷ 1 ∷ 1 ∷ 1 ∷ 1 ∷ 1 ∷ 1 ∷ 3 ∷ 3 ∷ 3 ∷ 3 ∷ 2 ∷ 2 ∷ 2 ∷ 2 ∷ 1 ∷ 1 ∷ 1 ∷ 1 ∷ 1 ∷ 14 ∷ 14 ∷ []

abbrev place' : ℕ → ℕ
place' k = get_or places k 0

abbrev size' : ℕ → ℕ
size' k = get_or sizes k 0

abbrev count' : ℕ → ℕ
count' k = get_or counts k 0

all_known : (f : Numbers → ℕ) (l : List ℕ) → Is (all_below (λ (k : ℕ). eqb (f (numbers (k + 30))) (get_or l k 0)) 23)
    → (k : ℕ) → k < 23 → f (numbers (k + 30)) ≡ get_or l k 0
all_known f l t k h = eqb-true (f (numbers (k + 30))) (get_or l k 0) (each_below (λ (k : ℕ). eqb (f (numbers (k + 30))) (get_or l k 0)) 23 t k h)

known-place : (k : ℕ) → k < 23 → (numbers (k + 30)).place ≡ place' k
unfolding lookups all_below
known-place = all_known (λ (n : Numbers). n.place) places refl

known-size : (k : ℕ) → k < 23 → (numbers (k + 30)).size ≡ size' k
unfolding lookups all_below
known-size = all_known (λ (n : Numbers). n.size) sizes refl

known-count : (k : ℕ) → k < 23 → (numbers (k + 30)).count ≡ count' k
unfolding lookups all_below
known-count = all_known (λ (n : Numbers). n.count) counts refl

-- no row reaches 0x300
abbrev low : ℕ → Bool
low k = ltb 0 (size' k) && leb (place' k + count' k * size' k) 0x300

all-low : Is (all_below low 23)
unfolding all_below
all-low = refl

-- ---- the same walk over these numbers

unfoldable along : ℕ → ℕ → ℕ → Option Found
along o k zero = None
along o k (suc n) = or_behind (k + 30) (index_in (place' k) (size' k) (count' k) o) (along o (k + 1) n)

walked : (o k n : ℕ) → k + n ≤ 23 → register_on o (k + 30) n ≡ along o k n
unfolding register_on index_at along
walked o k zero h = refl
walked o k (suc n) h =
    let e : k + 30 + 1 ≡ k + 1 + 30 = omega arith in
    rw (known-place k (omega arith), known-size k (omega arith), known-count k (omega arith), e, walked o (k + 1) n (omega arith))

register-along : (o : ℕ) → register_at o ≡ along o 0 23
unfolding register_at
register-along o = walked o 0 23 (omega arith)

-- ---- from 0x300 on

beyond : (p s c o : ℕ) → 0 < s → p + c * s ≤ 0x300 → 0x300 ≤ o → index_in p s c o ≡ None
beyond p s c o h k l =
    let m : c ≤ (o - p) / s = (le-div_iff_mul-le h).1 (omega arith) in
    pick_cases (λ (i : Option ℕ). i ≡ None) (ltb o p || eqb s 0) _ _ (λ _. refl)
    (λ _. pick_cases (λ (i : Option ℕ). i ≡ None) (not (eqb ((o - p) % s) 0) || leb c ((o - p) / s)) _ _ (λ _. refl)
    (λ n. absurd (true≢false (sym (le-leb c ((o - p) / s) m) ∙ or_r (not (eqb ((o - p) % s) 0)) _ n))))

nothing_above : (o k n : ℕ) → 0x300 ≤ o → k + n ≤ 23 → along o k n ≡ None
unfolding along
nothing_above o k zero l h = refl
nothing_above o k (suc n) l h =
    let r = each_below low 23 all-low k (omega arith) in
    let s = ltb-true 0 (size' k) (and_l (ltb 0 (size' k)) _ r) in
    let e = leb-true (place' k + count' k * size' k) 0x300 (and_r (ltb 0 (size' k)) _ r) in
    rw (beyond (place' k) (size' k) (count' k) o s e l) (nothing_above o (k + 1) n l (omega arith))

absent_above : (o : ℕ) → 0x300 ≤ o → model.register_at o ≡ Absent
unfolding model.register_at filter_register
absent_above o l = simp (le-ltb o 0x20 (omega arith), le-ltb o 0x200 (omega arith), ne_eqb o 0x200 (λ e. omega arith), ne_eqb o 0x204 (λ e. omega arith), ne_eqb o 0x20C (λ e. omega arith), ne_eqb o 0x214 (λ e. omega arith), ne_eqb o 0x21C (λ e. omega arith), le-leb 0x240 o (omega arith), le-ltb o 0x2B0 (omega arith))

-- ---- every offset

-- f is found by the offset o, g by the name of the model's register there, which may be absent
unfoldable agrees : Bool → Option Found → Option Found → ℕ → Bool
agrees true f g o = is_none f
agrees false None g o = false
agrees false (Some f) None o = false
agrees false (Some f) (Some g) o = eqb g.row f.row && (eqb g.index f.index && eqb (place g) o)

abbrev name_at : ℕ → List ℕ
name_at o = register_name (model.register_at o)

abbrev agrees_along : ℕ → Bool
agrees_along o = agrees (is_absent (model.register_at o)) (along o 0 23) (looked_up (name_at o) Registers) o

all_below_lem : Is (all_below agrees_along 0x300)
unfolding lookups all_below agrees along register_name model.register_at control_register block_register mailbox_register output_register filter_register bank_register
all_below_lem = refl

agreed_above : (o : ℕ) → 0x300 ≤ o → Is (agrees (is_absent (model.register_at o)) (register_at o) (looked_up (name_at o) Registers) o)
unfolding agrees
agreed_above o l = rw (absent_above o l, register-along o, nothing_above o 0 23 l (omega arith))

agreed : (o : ℕ) → Is (agrees (is_absent (model.register_at o)) (register_at o) (looked_up (name_at o) Registers) o)
agreed o = go (ltb o 0x300) refl
  where
    go : (b : Bool) → ltb o 0x300 ≡ b → Is (agrees (is_absent (model.register_at o)) (register_at o) (looked_up (name_at o) Registers) o)
    go true e = rw (register-along o) (each_below agrees_along 0x300 all_below_lem o (ltb-true o 0x300 e))
    go false e = agreed_above o (ltb-false o 0x300 e)

none_there : (f g : Option Found) (o : ℕ) (a : Bool) → Is (agrees a f g o) → a ≡ true → f ≡ None
unfolding agrees
none_there None g o true t e = refl
none_there (Some f) g o true t e = absurd (false≢true t)
none_there f g o false t e = absurd (false≢true e)

same_found : (f g : Found) → g.row ≡ f.row → g.index ≡ f.index → g ≡ f
same_found f g e i = ap (λ (r : ℕ). found r g.index) e ∙ ap (found f.row) i

record There (f g : Option Found) (o : ℕ) : Type 0 where
  present : is_some f ≡ true
  same : g ≡ f
  offset : (x : Found) → g ≡ Some x → place x ≡ o

one_there : (f g : Option Found) (o : ℕ) (a : Bool) → Is (agrees a f g o) → a ≡ false → There f g o
unfolding agrees
one_there f g o true t e = absurd (true≢false e)
one_there None g o false t e = absurd (false≢true t)
one_there (Some f) None o false t e = absurd (false≢true t)
one_there (Some f) (Some g) o false t e =
    let r = eqb-true g.row f.row (and_l (eqb g.row f.row) _ t) in
    let u = and_r (eqb g.row f.row) (eqb g.index f.index && eqb (place g) o) t in
    let i = eqb-true g.index f.index (and_l (eqb g.index f.index) _ u) in
    let p = eqb-true (place g) o (and_r (eqb g.index f.index) _ u) in
    record { present = refl; same = ap Some (same_found f g r i); offset = λ x h. let k : g ≡ x = cc in rw (← k) p }

pub register-names : (o : ℕ) → RegisterNames o
register-names o =
    let there = one_there (register_at o) (looked_up (name_at o) Registers) o (is_absent (model.register_at o)) (agreed o) in
    record {
      absent = none_there (register_at o) (looked_up (name_at o) Registers) o (is_absent (model.register_at o)) (agreed o);
      present = λ e. (there e).present;
      same = λ e. (there e).same;
      offset = λ x e. (there e).offset x;
    }
