-- The classes of banks, and the words that their filters take, are those that 01 names. Assumes nothing.
use mathlib.Core.Bool.{Bool, true, false, not, true≢false, false≢true}
use mathlib.Core.Logic.{◌↔◌}
use mathlib.Core.Path.{◌≡◌, refl, sym, ap, ◌∙◌}
use Prim.Native.Nat.{ℕ, zero, suc, ◌+◌, ◌*◌, ◌/◌, ◌%◌, ◌^◌, ◌<◌, min}
use native.Mathlib.Omega.{arith}
use borrow.Author.Tests.{eq-eqb, eqb-true, eqb-false, not-false}
use lib.Bits.{bit_and}
use lib.Dec.{eqb, ltb}
use lib.Pow.{shr-shr}
use lib.Pow as pow
use Rattle.base.specs.Base.{bit, bits}
use Rattle.model.specs.Banks.{rank, short_word, matches}
use Rattle.model.specs.Mailboxes.{sent_identifier}
use Rattle.model.specs.Reception.{malformed, sent_frame}
use Rattle.model.specs.Filtering.{scale_bit, mode_bit, Classes, ShortWord, Agrees, Filters32, halves, Filters16, Takes}
use Rattle.model.specs.declared.Frame.{Frame}
use Rattle.model.specs.declared.MailboxState.{MailboxState}
use Rattle.model.specs.declared.FilterClass.{FilterClass}
use Rattle.model.specs.declared.FilterClass.TheVariants.{List32, Mask32, List16, Mask16}
use Rattle.base.proofs.Choices.{or_l, or_r}
use Rattle.model.proofs.Digits.{for_digit, and-digit, same_digits}
use Rattle.model.proofs.FirstHit.{filter-within}
use Rattle.model.proofs.Masks.{field, lowest}

-- ---- classes

wide_first : (k l : FilterClass) → scale_bit k ≡ true → scale_bit l ≡ false → rank k < rank l
wide_first List32 List16 p q = omega arith
wide_first List32 Mask16 p q = omega arith
wide_first Mask32 List16 p q = omega arith
wide_first Mask32 Mask16 p q = omega arith
wide_first List16 l p q = absurd (false≢true p)
wide_first Mask16 l p q = absurd (false≢true p)
wide_first List32 List32 p q = absurd (true≢false q)
wide_first List32 Mask32 p q = absurd (true≢false q)
wide_first Mask32 List32 p q = absurd (true≢false q)
wide_first Mask32 Mask32 p q = absurd (true≢false q)

list_first : (k l : FilterClass) → scale_bit k ≡ scale_bit l → mode_bit k ≡ true → mode_bit l ≡ false → rank k < rank l
list_first List32 Mask32 s p q = omega arith
list_first List16 Mask16 s p q = omega arith
list_first List32 Mask16 s p q = absurd (true≢false s)
list_first List16 Mask32 s p q = absurd (false≢true s)
list_first Mask32 l s p q = absurd (false≢true p)
list_first Mask16 l s p q = absurd (false≢true p)
list_first List32 List32 s p q = absurd (true≢false q)
list_first List32 List16 s p q = absurd (true≢false q)
list_first List16 List32 s p q = absurd (true≢false q)
list_first List16 List16 s p q = absurd (true≢false q)

pub classes : Classes
classes = record { mask32 = refl; list32 = refl; mask16 = refl; list16 = refl; scale = wide_first; mode = list_first }

-- ---- the 16-bit word

same_bit : (i j a b : ℕ) → a / 2 ^ i % 2 ≡ b / 2 ^ j % 2 → bit i a ≡ bit j b
same_bit i j a b e = ap (λ (x : ℕ). eqb x 1) e

-- a word of four parts: a, and below it b, c and d of 1, 1 and 3 bits
module _ (a b c d : ℕ) (lb : b < 2) (lc : c < 2) (ld : d < 8) where
  top_part : (a * 32 + b * 16 + c * 8 + d) / 2 ^ 5 ≡ a
  top_part = let low : b * 16 + c * 8 + d < 2 ^ 5 = omega arith in omega arith

  fourth-bit : (a * 32 + b * 16 + c * 8 + d) / 2 ^ 4 % 2 ≡ b
  fourth-bit = field 16 2 (a * 32 + b * 16 + c * 8 + d) a b (c * 8 + d) (omega arith) (omega arith) lb

  third-bit : (a * 32 + b * 16 + c * 8 + d) / 2 ^ 3 % 2 ≡ c
  third-bit = field 8 2 (a * 32 + b * 16 + c * 8 + d) (a * 2 + b) c d (omega arith) ld lc

  low_part : (a * 32 + b * 16 + c * 8 + d) % 8 ≡ d
  low_part = lowest 8 (a * 32 + b * 16 + c * 8 + d) (a * 4 + b * 2 + c) d (omega arith) ld

  fits_16 : a < 2048 → a * 32 + b * 16 + c * 8 + d < 65536
  fits_16 la = omega arith

top-bits : (w i : ℕ) → bit (5 + i) (short_word w) ≡ bit (21 + i) w
top-bits w i =
    let top : short_word w / 2 ^ 5 ≡ w / 2 ^ 21 = top_part _ _ _ _ (omega arith) (omega arith) (omega arith) in
    ap (λ (x : ℕ). eqb (x % 2) 1) (sym (shr-shr (short_word w) 5 i) ∙ ap (λ (x : ℕ). x / 2 ^ i) top ∙ shr-shr w 21 i)

-- the three lowest digits are those of the remainder by 8
digit_below_8 : (n i : ℕ) → i < 3 → n % 8 / 2 ^ i % 2 ≡ n / 2 ^ i % 2
digit_below_8 n zero h = omega arith
digit_below_8 n (suc zero) h = omega arith
digit_below_8 n (suc (suc zero)) h = omega arith
digit_below_8 n (suc (suc (suc i))) h = absurd (omega arith)

low_bits : (w : ℕ) → short_word w % 8 ≡ bits 18 3 w
low_bits w = low_part _ _ _ _ (omega arith) (omega arith) (omega arith)

exid-bits : (w i : ℕ) → i < 3 → bit i (short_word w) ≡ bit (18 + i) w
exid-bits w i h =
    same_bit i (18 + i) (short_word w) w
    (sym (digit_below_8 (short_word w) i h) ∙ ap (λ (x : ℕ). x / 2 ^ i % 2) (low_bits w) ∙ digit_below_8 (w / 2 ^ 18) i h ∙ ap (λ (x : ℕ). x % 2) (shr-shr w 18 i))

short : (w : ℕ) → ShortWord w
short w = record {
  top = λ i h. top-bits w i;
  rtr = same_bit 4 1 (short_word w) w (fourth-bit _ _ _ _ (omega arith) (omega arith) (omega arith));
  ide = same_bit 3 2 (short_word w) w (third-bit _ _ _ _ (omega arith) (omega arith) (omega arith));
  exid = exid-bits w;
  fits = λ h. fits_16 _ _ _ _ (omega arith) (omega arith) (omega arith) (omega arith);
}

low_field : (w : ℕ) → bits 0 3 (short_word w) ≡ bits 18 3 w
low_field w = let one : short_word w / 2 ^ 0 ≡ short_word w = omega arith in ap (λ (x : ℕ). x % 2 ^ 3) one ∙ low_bits w

no_extended : (w : ℕ) → bits 3 18 w ≡ 0 → bits 18 3 w ≡ 0
no_extended w e = sym (field_of_lem w) ∙ ap (λ (x : ℕ). x / 2 ^ 15) e
  where
    field_of_lem : (w : ℕ) → bits 3 18 w / 2 ^ 15 ≡ bits 18 3 w
    field_of_lem w = pow.field (w / 2 ^ 3) 3 15 ∙ ap (λ (x : ℕ). x % 2 ^ 3) (shr-shr w 3 15)

-- a standard frame has no extended bits, as it comes and as it is sent
received : (x : Frame) → malformed x ≡ false → bit 2 x.identifier ≡ false → bits 0 3 (short_word x.identifier) ≡ 0
unfolding malformed
received x h s =
    let e : not (eqb (bits 3 18 x.identifier) 0) ≡ false = or_r (bit 0 x.identifier) _ (or_l _ (ltb 15 x.length) (rw s at h)) in
    low_field x.identifier ∙ no_extended x.identifier (eqb-true _ _ (not-false _ e))

sent : (x : MailboxState) → bit 2 x.ti ≡ false → bits 0 3 (short_word (sent_frame x).identifier) ≡ 0
unfolding sent_frame sent_identifier
sent x s = rw s (low_field (x.ti / 2 ^ 21 * 2 ^ 21 + bits 1 1 x.ti * 2) ∙ above_low (x.ti / 2 ^ 21) (bits 1 1 x.ti) (omega arith))
  where
    above_low : (a b : ℕ) → b < 2 → bits 18 3 (a * 2 ^ 21 + b * 2) ≡ 0
    above_low a b l = omega arith

-- ---- list and mask

is : (x y z : ℕ) → y ≡ z → (eqb x y ≡ true) ↔ (x ≡ z)
is x y z e = (λ t. eqb-true x y t ∙ e, λ t. eq-eqb x y (t ∙ sym e))

-- with a 1 in the mask the digits are the same, with a 0 they are free
under_one : (d e m : ℕ) → d < 2 → e < 2 → m ≡ 1 → min d m ≡ min e m → d ≡ e
under_one d e m l k o h = omega arith

under-zero : (d e m : ℕ) → m ≡ 0 → min d m ≡ min e m
under-zero d e m o = omega arith

module _ (m x w : ℕ) where
  masked_agrees : bit_and w m ≡ bit_and x m → Agrees m x w
  masked_agrees e i o =
      same_bit i i w x
      (under_one (w / 2 ^ i % 2) (x / 2 ^ i % 2) (m / 2 ^ i % 2) (omega arith) (omega arith) (eqb-true _ _ o)
      (sym (and-digit i w m) ∙ ap (λ (y : ℕ). y / 2 ^ i % 2) e ∙ and-digit i x m))

  agrees_masked : Agrees m x w → bit_and w m ≡ bit_and x m
  agrees_masked h = same_digits (bit_and w m) (bit_and x m) (λ i. and-digit i w m ∙ at i (bit i m) refl ∙ sym (and-digit i x m))
    where
      same : (d e : ℕ) → d < 2 → e < 2 → eqb d 1 ≡ eqb e 1 → d ≡ e
      same d e = for_digit (λ (d : ℕ). e < 2 → eqb d 1 ≡ eqb e 1 → d ≡ e)
          (for_digit (λ (e : ℕ). eqb 0 1 ≡ eqb e 1 → 0 ≡ e) (λ q. refl) (λ q. absurd (false≢true q)) e)
          (for_digit (λ (e : ℕ). eqb 1 1 ≡ eqb e 1 → 1 ≡ e) (λ q. absurd (true≢false q)) (λ q. refl) e)
          d

      at : (i : ℕ) (b : Bool) → bit i m ≡ b → min (w / 2 ^ i % 2) (m / 2 ^ i % 2) ≡ min (x / 2 ^ i % 2) (m / 2 ^ i % 2)
      at i true e = ap (λ (d : ℕ). min d (m / 2 ^ i % 2)) (same (w / 2 ^ i % 2) (x / 2 ^ i % 2) (omega arith) (omega arith) (h i e))
      at i false e = under-zero (w / 2 ^ i % 2) (x / 2 ^ i % 2) (m / 2 ^ i % 2) (none (eqb-false _ _ e))
        where
          none : (m / 2 ^ i % 2 ≡ 1 → ⊥) → m / 2 ^ i % 2 ≡ 0
          none q = omega arith

  mask : (eqb (bit_and w m) (bit_and x m) ≡ true) ↔ Agrees m x w
  mask = (λ e. masked_agrees (eqb-true _ _ e), λ h. eq-eqb _ _ (agrees_masked h))

filters32 : (a b w : ℕ) → Filters32 a b w
unfolding matches
filters32 a b w = record { list0 = is w _ a refl; list1 = is w _ b refl; mask0 = mask b a w }

filters16 : (l h p q w : ℕ) → l < 2 ^ 16 → p < 2 ^ 16 → Filters16 l h p q w
unfolding matches
filters16 l h p q w fl fp =
    let a : halves l h % 65536 ≡ l = omega arith in
    let b : halves l h / 65536 ≡ h = omega arith in
    let c : halves p q % 65536 ≡ p = omega arith in
    let d : halves p q / 65536 ≡ q = omega arith in
    record {
      list0 = is (short_word w) _ l a;
      list1 = is (short_word w) _ h b;
      list2 = is (short_word w) _ p c;
      list3 = is (short_word w) _ q d;
      mask0 = rw (a, b) (mask h l (short_word w));
      mask1 = rw (c, d) (mask q p (short_word w));
    }

-- which words the filters of a bank take, in their order
pub takes : Takes
takes = record { short = short; received = received; sent = sent; filters32 = filters32; filters16 = filters16; only = filter-within }
