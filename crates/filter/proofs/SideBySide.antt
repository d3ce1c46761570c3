-- Four words of fourteen digits side by side in one have the ones of all four. Assumes nothing.
use Rattle.std.proofs.Common.{◌≡◌, ℕ, ◌+◌, ◌-◌, ◌*◌, ◌%◌, ◌^◌, ◌<◌, ◌≤◌, ap, ◌∙◌, lt_of_lt_of_le, arith, pow_mono}
use lib.Bits.{bit_and, and_le_l, mask_lt}
use lib.Count.{ones, ones_cat}
use Rattle.model.specs.Banks.{ones_below}
use Rattle.model.proofs.Digits.{same_digits, and-digit, one_shifted}

and_swap : (a b c : ℕ) → bit_and (bit_and a b) c ≡ bit_and (bit_and a c) b
and_swap a b c =
    same_digits _ _ (λ i. rw (and-digit i (bit_and a b) c, and-digit i a b, and-digit i (bit_and a c) b, and-digit i a c) (omega arith))

side_ones : (a b c d : ℕ) → a < 16384 → b < 16384 → c < 16384
    → ones (a + b * 16384 + c * 268435456 + d * 4398046511104) ≡ ones a + ones b + ones c + ones d
side_ones a b c d ha hb hc =
    let whole : a + b * 16384 + c * 268435456 + d * 4398046511104 ≡ ((d * 2 ^ 14 + c) * 2 ^ 14 + b) * 2 ^ 14 + a = omega arith in
    ap ones whole
    ∙ omega (arith, ones_cat 14 ((d * 2 ^ 14 + c) * 2 ^ 14 + b) a ha, ones_cat 14 (d * 2 ^ 14 + c) b hb, ones_cat 14 d c hc)

-- the code's `x & ((1 << i) - 1)`
abbrev pub low_banks : ℕ → ℕ → ℕ
low_banks i x = bit_and x (1 * 2 ^ i % 2 ^ 32 - 1)

-- side by side: those of the words a, of a and b, of a and c, of all three
abbrev pub sides : ℕ → ℕ → ℕ → ℕ
sides a b c = a + bit_and a b * 16384 + bit_and a c * 268435456 + bit_and (bit_and a b) c * 4398046511104

module _ (i x b c : ℕ) (h : i ≤ 14) where
  low_small : low_banks i x < 16384
  low_small = rw (one_shifted i (omega arith)) (lt_of_lt_of_le (mask_lt x i) (pow_mono h))

  -- the four words fit in 56 bits
  pub sides_small : sides (low_banks i x) b c < 2 ^ 56
  sides_small =
      omega (arith, low_small, and_le_l (low_banks i x) b, and_le_l (low_banks i x) c, and_le_l (bit_and (low_banks i x) b) c)

  -- and one count of their ones is the four counts below i
  pub sides_counts : ones (sides (low_banks i x) b c)
      ≡ ones_below i x + ones_below i (bit_and x b) + ones_below i (bit_and x c) + ones_below i (bit_and (bit_and x b) c)
  sides_counts =
      side_ones (low_banks i x) (bit_and (low_banks i x) b) (bit_and (low_banks i x) c) (bit_and (bit_and (low_banks i x) b) c)
      low_small (omega (arith, low_small, and_le_l (low_banks i x) b)) (omega (arith, low_small, and_le_l (low_banks i x) c))
      ∙ rw (
        one_shifted i (omega arith),
        and_swap x (2 ^ i - 1) b,
        and_swap x (2 ^ i - 1) c,
        and_swap (bit_and x b) (2 ^ i - 1) c,
      )
