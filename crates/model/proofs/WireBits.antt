-- The definition of wire order agrees with the bits on the wire.
use Rattle.std.proofs.Common.{ℕ}
use mathlib.Core.Bool.{Bool, true, false, not, ◌&&◌, ◌||◌}
use mathlib.Core.List.{List, [], ◌∷◌, ◌++◌}
use mathlib.Core.Path.{◌≡◌, refl, sym, ap, ap₂, ◌∙◌}
use Prim.Native.Nat.{ℕ, zero, suc, ◌+◌, ◌*◌, ◌-◌, ◌/◌, ◌%◌, ◌^◌, ◌<◌, ◌≤◌}
use native.Mathlib.Omega.{arith}
use native.Mathlib.Nat.{mod-lt, mod-one, mul-le-mul_right, suc-mul}
use native.Mathlib.Numerals.{one-add}
use lib.Dec.{eqb, ltb, leb}
use lib.Pow.{pow_pos, mod-pow-add, shr-shr, high, low}
use borrow.Author.Tests.{eqb-true, eqb-false, ltb-true, ltb-false, leb-true, leb-false, eq-eqb, ne_eqb, lt-ltb, le-ltb}
use Rattle.base.specs.Base.{pick, bit, bits, one}
use Rattle.model.specs.Queue.{number}
use Rattle.model.specs.Mailboxes.{wire_key, at, key, before, sent_identifier}
use Rattle.model.specs.Arbitration.{down_to, arbitration, wins, goes_before, WireOrder, SentIdentifier}
use Rattle.model.specs.declared.Mailbox.{Mailbox}
use Rattle.model.specs.declared.Mailbox.TheVariants.{M0, M1, M2}
use Rattle.base.proofs.Choices.{one-le}
use Rattle.model.proofs.Digits.{for_digit}
use Rattle.model.proofs.MaskedBits.{bit-low, bit_high, next_bit, no_bit}
use Rattle.model.specs.declared.ByMailbox.{ByMailbox}

-- ---- numbers of two digits compare by the first, then by the second

first-digit : (k a c b d : ℕ) → c < k → a < b → a * k + c < b * k + d
first-digit k a c b d l h = omega (arith, mul-le-mul_right k h, suc-mul a k)

unequal : (a b : ℕ) → eqb a b ≡ false → ltb a b ≡ false → b < a
unequal a b p q = go (eqb-false a b p) (ltb-false a b q)
  where
    go : (a ≡ b → ⊥) → b ≤ a → b < a
    go n l = omega arith

pub by_digits : (k a c b d : ℕ) → c < k → d < k → ltb (a * k + c) (b * k + d) ≡ pick (eqb a b) (ltb c d) (ltb a b)
by_digits k a c b d lc ld = go (eqb a b) (ltb a b) (ltb c d) refl refl refl
  where
    go : (e l n : Bool) → eqb a b ≡ e → ltb a b ≡ l → ltb c d ≡ n → ltb (a * k + c) (b * k + d) ≡ pick e n l
    go true l true p q r =
        let e : a * k ≡ b * k = ap (λ (x : ℕ). x * k) (eqb-true a b p) in
        let h : c < d = ltb-true c d r in
        lt-ltb (a * k + c) (b * k + d) (omega arith)
    go true l false p q r =
        let e : a * k ≡ b * k = ap (λ (x : ℕ). x * k) (eqb-true a b p) in
        let h : d ≤ c = ltb-false c d r in
        le-ltb (a * k + c) (b * k + d) (omega arith)
    go false true n p q r = lt-ltb (a * k + c) (b * k + d) (first-digit k a c b d lc (ltb-true a b q))
    go false false n p q r =
        let h : b * k + d < a * k + c = first-digit k b d a c ld (unequal a b p q) in
        le-ltb (a * k + c) (b * k + d) (omega arith)

same_digits : (k a c b d : ℕ) → c < k → d < k → eqb (a * k + c) (b * k + d) ≡ eqb a b && eqb c d
same_digits k a c b d lc ld = go (eqb a b) (eqb c d) (ltb a b) refl refl refl
  where
    go : (e n l : Bool) → eqb a b ≡ e → eqb c d ≡ n → ltb a b ≡ l → eqb (a * k + c) (b * k + d) ≡ e && n
    go true true l p r q =
        let e : a * k ≡ b * k = ap (λ (x : ℕ). x * k) (eqb-true a b p) in
        let h : c ≡ d = eqb-true c d r in
        eq-eqb (a * k + c) (b * k + d) (omega arith)
    go true false l p r q =
        let e : a * k ≡ b * k = ap (λ (x : ℕ). x * k) (eqb-true a b p) in
        ne_eqb (a * k + c) (b * k + d) (λ h. eqb-false c d r (omega arith))
    go false n true p r q =
        let h : a * k + c < b * k + d = first-digit k a c b d lc (ltb-true a b q) in
        ne_eqb (a * k + c) (b * k + d) (λ e. omega arith)
    go false n false p r q =
        let h : b * k + d < a * k + c = first-digit k b d a c ld (unequal a b p q) in
        ne_eqb (a * k + c) (b * k + d) (λ e. omega arith)

-- ---- a field of bits wins as its number is lower

one_more : (s t : List Bool) (e w l : Bool) → wins s t ≡ pick e w l → (p q : ℕ) → p < 2 → q < 2
    → wins (eqb p 1 ∷ s) (eqb q 1 ∷ t) ≡ pick (eqb p q && e) w (pick (eqb p q) l (ltb p q))
unfolding wins
one_more s t e w l h p q a b =
    for_digit (λ (p : ℕ). wins (eqb p 1 ∷ s) (eqb q 1 ∷ t) ≡ pick (eqb p q && e) w (pick (eqb p q) l (ltb p q)))
    (for_digit (λ (q : ℕ). wins (false ∷ s) (eqb q 1 ∷ t) ≡ pick (eqb 0 q && e) w (pick (eqb 0 q) l (ltb 0 q))) h refl q b)
    (for_digit (λ (q : ℕ). wins (true ∷ s) (eqb q 1 ∷ t) ≡ pick (eqb 1 q && e) w (pick (eqb 1 q) l (ltb 1 q))) refl h q b)
    p a

field-more : (i n a : ℕ) → bits i (suc n) a ≡ a / 2 ^ (i + n) % 2 * 2 ^ n + bits i n a
field-more i n a =
    ap (λ (e : ℕ). a / 2 ^ i % 2 ^ e) (sym (one-add n))
    ∙ mod-pow-add (a / 2 ^ i) 1 n
    ∙ ap (λ (x : ℕ). x % 2 * 2 ^ n + bits i n a) (shr-shr a i n)

field-wins : (i n a b : ℕ) (s t : List Bool)
    → wins (down_to i a n ++ s) (down_to i b n ++ t) ≡ pick (eqb (bits i n a) (bits i n b)) (wins s t) (ltb (bits i n a) (bits i n b))
unfolding down_to
field-wins i zero a b s t = rw (mod-one (a / 2 ^ i), mod-one (b / 2 ^ i))
field-wins i (suc n) a b s t =
    let p : ℕ = a / 2 ^ (i + n) % 2 in
    let q : ℕ = b / 2 ^ (i + n) % 2 in
    let x : ℕ = bits i n a in
    let y : ℕ = bits i n b in
    let lx : x < 2 ^ n = mod-lt (a / 2 ^ i) (pow_pos n) in
    let ly : y < 2 ^ n = mod-lt (b / 2 ^ i) (pow_pos n) in
    one_more (down_to i a n ++ s) (down_to i b n ++ t) (eqb x y) (wins s t) (ltb x y) (field-wins i n a b s t) p q (omega arith) (omega arith)
    ∙ sym (ap₂ (λ (e l : Bool). pick e (wins s t) l)
    (ap₂ (λ (u v : ℕ). eqb u v) (field-more i n a) (field-more i n b) ∙ same_digits (2 ^ n) p x q y lx ly)
    (ap₂ (λ (u v : ℕ). ltb u v) (field-more i n a) (field-more i n b) ∙ by_digits (2 ^ n) p x q y lx ly))

-- ---- the keys

same_test : (a b c d : ℕ) → (a < b → c < d) → (b ≤ a → d ≤ c) → ltb c d ≡ ltb a b
same_test a b c d f g = go (ltb a b) refl
  where
    go : (x : Bool) → ltb a b ≡ x → ltb c d ≡ x
    go true e = lt-ltb c d (f (ltb-true a b e))
    go false e = le-ltb c d (g (ltb-false a b e))

-- RTR as the last bit, and before IDE
last_bit : (r q : ℕ) → r < 2 → q < 2 → wins (eqb r 1 ∷ []) (eqb q 1 ∷ []) ≡ ltb r q
unfolding wins
last_bit r q l k =
    for_digit (λ (r : ℕ). wins (eqb r 1 ∷ []) (eqb q 1 ∷ []) ≡ ltb r q)
    (for_digit (λ (q : ℕ). wins (false ∷ []) (eqb q 1 ∷ []) ≡ ltb 0 q) refl refl q k)
    (for_digit (λ (q : ℕ). wins (true ∷ []) (eqb q 1 ∷ []) ≡ ltb 1 q) refl refl q k)
    r l

both-standard : (r q : ℕ) → r < 2 → q < 2 → wins (eqb r 1 ∷ false ∷ []) (eqb q 1 ∷ false ∷ []) ≡ ltb (r * 2 ^ 19) (q * 2 ^ 19)
unfolding wins
both-standard r q l k =
    for_digit (λ (r : ℕ). wins (eqb r 1 ∷ false ∷ []) (eqb q 1 ∷ false ∷ []) ≡ ltb (r * 2 ^ 19) (q * 2 ^ 19))
    (for_digit (λ (q : ℕ). wins (false ∷ false ∷ []) (eqb q 1 ∷ false ∷ []) ≡ ltb (0 * 2 ^ 19) (q * 2 ^ 19)) refl refl q k)
    (for_digit (λ (q : ℕ). wins (true ∷ false ∷ []) (eqb q 1 ∷ false ∷ []) ≡ ltb (1 * 2 ^ 19) (q * 2 ^ 19)) refl refl q k)
    r l

-- a standard identifier goes before an extended one with the same top bits
standard-first : (b : Bool) (t : List Bool) → wins (b ∷ false ∷ []) (true ∷ true ∷ t) ≡ true
unfolding wins
standard-first true t = refl
standard-first false t = refl

extended-last : (b : Bool) (s : List Bool) → wins (true ∷ true ∷ s) (b ∷ false ∷ []) ≡ false
unfolding wins
extended-last true s = refl
extended-last false s = refl

regrouped : (a x r : ℕ) → a * 2 ^ 21 + (2 ^ 20 + x * 2 + r) ≡ a * 2 ^ 21 + 2 ^ 20 + x * 2 + r
regrouped a x r = omega arith

module _ (a b : ℕ) where
  -- the top 11 bits, the low 18 and RTR of each
  abbrev A : ℕ
  A = bits 21 11 a

  abbrev B : ℕ
  B = bits 21 11 b

  abbrev X : ℕ
  X = bits 3 18 a

  abbrev Y : ℕ
  Y = bits 3 18 b

  abbrev r : ℕ
  r = bits 1 1 a

  abbrev q : ℕ
  q = bits 1 1 b

  -- the rest of the keys, below 2 ^ 21
  by_top : (s t : List Bool) (c d : ℕ) → c < 2 ^ 21 → d < 2 ^ 21 → wins s t ≡ ltb c d
      → wins (down_to 21 a 11 ++ s) (down_to 21 b 11 ++ t) ≡ ltb (A * 2 ^ 21 + c) (B * 2 ^ 21 + d)
  by_top s t c d lc ld h =
      field-wins 21 11 a b s t ∙ ap (λ (w : Bool). pick (eqb A B) w (ltb A B)) h ∙ sym (by_digits (2 ^ 21) A c B d lc ld)

  both-extended : wins (true ∷ true ∷ (down_to 3 a 18 ++ (bit 1 a ∷ []))) (true ∷ true ∷ (down_to 3 b 18 ++ (bit 1 b ∷ []))) ≡ ltb (2 ^ 20 + X * 2 + r) (2 ^ 20 + Y * 2 + q)
  unfolding wins
  both-extended =
      field-wins 3 18 a b (bit 1 a ∷ []) (bit 1 b ∷ [])
      ∙ ap (λ (w : Bool). pick (eqb X Y) w (ltb X Y)) (last_bit r q (omega arith) (omega arith))
      ∙ sym (by_digits 2 X r Y q (omega arith) (omega arith))
      ∙ sym (same_test (X * 2 + r) (Y * 2 + q) (2 ^ 20 + X * 2 + r) (2 ^ 20 + Y * 2 + q) (λ h. omega arith) (λ h. omega arith))

  pub wins-key : wins (arbitration a) (arbitration b) ≡ ltb (wire_key a) (wire_key b)
  unfolding arbitration wire_key
  wins-key = go (bit 2 a) (bit 2 b)
    where
      go : (e f : Bool)
          → wins (pick e (down_to 21 a 11 ++ (true ∷ true ∷ (down_to 3 a 18 ++ (bit 1 a ∷ [])))) (down_to 21 a 11 ++ bit 1 a ∷ false ∷ []))
          (pick f (down_to 21 b 11 ++ (true ∷ true ∷ (down_to 3 b 18 ++ (bit 1 b ∷ [])))) (down_to 21 b 11 ++ bit 1 b ∷ false ∷ []))
          ≡ ltb (pick e (A * 2 ^ 21 + 2 ^ 20 + X * 2 + r) (A * 2 ^ 21 + r * 2 ^ 19)) (pick f (B * 2 ^ 21 + 2 ^ 20 + Y * 2 + q) (B * 2 ^ 21 + q * 2 ^ 19))
      go true true =
          by_top (true ∷ true ∷ (down_to 3 a 18 ++ (bit 1 a ∷ []))) (true ∷ true ∷ (down_to 3 b 18 ++ (bit 1 b ∷ []))) (2 ^ 20 + X * 2 + r) (2 ^ 20 + Y * 2 + q) (omega arith) (omega arith) both-extended
          ∙ ap₂ (λ (u v : ℕ). ltb u v) (regrouped A X r) (regrouped B Y q)
      go true false =
          by_top (true ∷ true ∷ (down_to 3 a 18 ++ (bit 1 a ∷ []))) (bit 1 b ∷ false ∷ []) (2 ^ 20 + X * 2 + r) (q * 2 ^ 19) (omega arith) (omega arith)
          (extended-last (bit 1 b) _ ∙ sym (le-ltb (2 ^ 20 + X * 2 + r) (q * 2 ^ 19) (omega arith)))
          ∙ ap (λ (u : ℕ). ltb u (B * 2 ^ 21 + q * 2 ^ 19)) (regrouped A X r)
      go false true =
          by_top (bit 1 a ∷ false ∷ []) (true ∷ true ∷ (down_to 3 b 18 ++ (bit 1 b ∷ []))) (r * 2 ^ 19) (2 ^ 20 + Y * 2 + q) (omega arith) (omega arith)
          (standard-first (bit 1 a) _ ∙ sym (lt-ltb (r * 2 ^ 19) (2 ^ 20 + Y * 2 + q) (omega arith)))
          ∙ ap (λ (v : ℕ). ltb (A * 2 ^ 21 + r * 2 ^ 19) v) (regrouped B Y q)
      go false false =
          by_top (bit 1 a ∷ false ∷ []) (bit 1 b ∷ false ∷ []) (r * 2 ^ 19) (q * 2 ^ 19) (omega arith) (omega arith) (both-standard r q (omega arith) (omega arith))

-- ---- equal bits: the lower mailbox

tie : (x y : ℕ) (n : Bool) → ltb x y || (not (ltb y x) && n) ≡ pick (eqb x y) n (ltb x y)
tie x y n = go (eqb x y) (ltb x y) refl refl
  where
    go : (e l : Bool) → eqb x y ≡ e → ltb x y ≡ l → l || (not (ltb y x) && n) ≡ pick e n l
    go true true p q = absurd (let h : x ≡ y = eqb-true x y p in let l : x < y = ltb-true x y q in omega arith)
    go true false p q = let h : x ≡ y = eqb-true x y p in rw (le-ltb y x (omega arith))
    go false true p q = refl
    go false false p q = rw (lt-ltb y x (unequal x y p q))

pub number_small : (m : Mailbox) → number m < 4
number_small M0 = omega arith
number_small M1 = omega arith
number_small M2 = omega arith

pub goes-key : (a b : Mailbox) (v w : ℕ) → goes_before a v b w ≡ ltb (wire_key v * 4 + number a) (wire_key w * 4 + number b)
goes-key a b v w =
    ap₂ (λ (p q : Bool). p || (not q && ltb (number a) (number b))) (wins-key v w) (wins-key w v)
    ∙ tie (wire_key v) (wire_key w) (ltb (number a) (number b))
    ∙ sym (by_digits 4 (wire_key v) (number a) (wire_key w) (number b) (number_small a) (number_small b))

pub wire-order : (i : ByMailbox ℕ) (a b : Mailbox) → WireOrder i a b
unfolding before key
wire-order i a b = record { agrees = sym (goes-key a b (at i a) (at i b)) }

-- bit 0 of TI takes no part
pub without-txrq : (x : ℕ) (b : Bool) → wire_key (x / 2 * 2 + one b) ≡ wire_key x
unfolding wire_key
without-txrq x b = go (x / 2 * 2 + one b) (omega (arith, one-le b))
  where
    go : (y : ℕ) → y / 2 ≡ x / 2 → wire_key y ≡ wire_key x
    go y h =
        let a : y / 2 ^ 21 ≡ x / 2 ^ 21 = omega (arith, shr-shr y 1 20, shr-shr x 1 20, ap (λ (n : ℕ). n / 2 ^ 20) h) in
        let c : y / 2 ^ 3 ≡ x / 2 ^ 3 = omega (arith, shr-shr y 1 2, shr-shr x 1 2, ap (λ (n : ℕ). n / 2 ^ 2) h) in
        let d : y / 2 ^ 2 ≡ x / 2 ^ 2 = omega (arith, shr-shr y 1 1, shr-shr x 1 1, ap (λ (n : ℕ). n / 2 ^ 1) h) in
        let e : y / 2 ^ 1 ≡ x / 2 ^ 1 = h in
        rw (a, c, d, e)

-- ---- the identifier that is sent

module _ (ti : ℕ) where
  low_part : (i : ℕ) → bit i (bits 1 1 ti * 2) ≡ eqb i 1 && bit i ti
  low_part zero =
      let e : bits 1 1 ti * 2 / 2 ^ 0 % 2 ≡ 0 = omega arith in
      ap (λ (n : ℕ). eqb n 1) e
  low_part (suc zero) =
      let e : bits 1 1 ti * 2 / 2 ^ 1 % 2 ≡ ti / 2 ^ 1 % 2 = omega arith in
      ap (λ (n : ℕ). eqb n 1) e
  low_part (suc (suc j)) =
      let e : bits 1 1 ti * 2 / 2 / 2 ≡ 0 = omega arith in
      next_bit (suc j) (bits 1 1 ti * 2)
      ∙ next_bit j (bits 1 1 ti * 2 / 2)
      ∙ ap (λ (n : ℕ). bit j n) e
      ∙ no_bit j
      ∙ sym (ap (λ (b : Bool). b && bit (suc (suc j)) ti) (ne_eqb (suc (suc j)) 1 (λ h. omega arith)))

  standard : (i : ℕ) → bit i (ti / 2 ^ 21 * 2 ^ 21 + bits 1 1 ti * 2) ≡ (leb 21 i || eqb i 1) && bit i ti
  standard i = go (leb 21 i) refl
    where
      go : (b : Bool) → leb 21 i ≡ b → bit i (ti / 2 ^ 21 * 2 ^ 21 + bits 1 1 ti * 2) ≡ (b || eqb i 1) && bit i ti
      go true e =
          let l : 21 ≤ i = leb-true 21 i e in
          bit_high 21 i (ti / 2 ^ 21 * 2 ^ 21 + bits 1 1 ti * 2) l
          ∙ ap (λ (n : ℕ). bit (i - 21) n) (high (ti / 2 ^ 21) 21 (omega arith))
          ∙ sym (bit_high 21 i ti l)
      go false e =
          let l : i < 21 = leb-false 21 i e in
          bit-low 21 i (ti / 2 ^ 21 * 2 ^ 21 + bits 1 1 ti * 2) l
          ∙ ap (λ (n : ℕ). bit i n) (low (ti / 2 ^ 21) 21 (omega arith))
          ∙ low_part i

  pub sent_identifier_lem : SentIdentifier ti
  unfolding sent_identifier
  sent_identifier_lem = record { extended = λ h. rw h; standard = λ h i. rw h (standard i) }
