-- An offset that no arm of a read names: that of a bank's word, or of no register. Below the banks it is computed for each offset.
use mathlib.Core.Bool.{Bool, true, false, ◌||◌, false≢true}
use mathlib.Core.List.{List, [], ◌∷◌}
use mathlib.Core.Path.{◌≡◌, refl}
use Prim.Native.Nat.{ℕ, ◌+◌, ◌*◌, ◌-◌, ◌/◌, ◌%◌, ◌<◌, ◌≤◌}
use native.Mathlib.Omega.{arith}
use lib.Dec.{eqb, ltb}
use borrow.Author.Tests.{eqb-true, eqb-false, ltb-true, ltb-false, ne_eqb, lt-ltb, le-ltb, le-leb, lt-leb}
use Rattle.base.specs.Base.{pick}
use Rattle.model.specs.Banks.{bank}
use Rattle.model.specs.Registers.{register_at, control_register, mailbox_register, output_register, block_register, bank_register, filter_register, is_absent, bank_word, read_word}
use Rattle.model.specs.declared.Core.{Core}
use Rattle.model.specs.declared.Register.{Register}
use Rattle.model.specs.declared.Register.TheVariants.{Mcr, Msr, Tsr, Rfr, Ier, Esr, Btr, Ti, Tdt, Tdl, Tdh, Ri, Rdt, Rdl, Rdh, Fmr, Fm1r, Fs1r, Ffa1r, Fa1r, R1, R2, Absent}
use Rattle.base.proofs.Choices.{Is}
use Rattle.model.proofs.Bounded.{all_below, each_below}
use Rattle.reads.specs.Shown.{bank_read, read_at}

-- the offsets of the arms, from the last on
abbrev pub named : List ℕ
named =
    0x21C ∷ 0x214 ∷ 0x20C ∷ 0x204 ∷ 0x200
    ∷ 0x1CC ∷ 0x1C8 ∷ 0x1C4 ∷ 0x1C0 ∷ 0x1BC ∷ 0x1B8 ∷ 0x1B4 ∷ 0x1B0
    ∷ 0x1AC ∷ 0x1A8 ∷ 0x1A4 ∷ 0x1A0 ∷ 0x19C ∷ 0x198 ∷ 0x194 ∷ 0x190 ∷ 0x18C ∷ 0x188 ∷ 0x184 ∷ 0x180
    ∷ 0x01C ∷ 0x018 ∷ 0x014 ∷ 0x010 ∷ 0x00C ∷ 0x008 ∷ 0x004 ∷ 0x000 ∷ []

-- as the last arm of a match knows it
abbrev pub NoneOf : List ℕ → ℕ → Type 0
NoneOf [] o = Unit {0}
NoneOf (k ∷ ks) o = NoneOf ks o × (o ≡ k → ⊥)

abbrev is_any : List ℕ → ℕ → Bool
is_any [] o = false
is_any (k ∷ ks) o = is_any ks o || eqb o k

none : (ks : List ℕ) (o : ℕ) → NoneOf ks o → is_any ks o ≡ false
none [] o h = refl
none (k ∷ ks) o h = rw (none ks o h.0, ne_eqb o k h.1)

abbrev is_other : ℕ → Bool
is_other o = is_any named o || is_absent (register_at o)

below_banks : Is (all_below is_other 0x240)
unfolding all_below register_at control_register block_register mailbox_register output_register filter_register bank_register
below_banks = refl

is_absent_lem : (r : Register) → Is (is_absent r) → r ≡ Absent
is_absent_lem Mcr h = absurd (false≢true h)
is_absent_lem Msr h = absurd (false≢true h)
is_absent_lem Tsr h = absurd (false≢true h)
is_absent_lem (Rfr f) h = absurd (false≢true h)
is_absent_lem Ier h = absurd (false≢true h)
is_absent_lem Esr h = absurd (false≢true h)
is_absent_lem Btr h = absurd (false≢true h)
is_absent_lem (Ti m) h = absurd (false≢true h)
is_absent_lem (Tdt m) h = absurd (false≢true h)
is_absent_lem (Tdl m) h = absurd (false≢true h)
is_absent_lem (Tdh m) h = absurd (false≢true h)
is_absent_lem (Ri f) h = absurd (false≢true h)
is_absent_lem (Rdt f) h = absurd (false≢true h)
is_absent_lem (Rdl f) h = absurd (false≢true h)
is_absent_lem (Rdh f) h = absurd (false≢true h)
is_absent_lem Fmr h = absurd (false≢true h)
is_absent_lem Fm1r h = absurd (false≢true h)
is_absent_lem Fs1r h = absurd (false≢true h)
is_absent_lem Ffa1r h = absurd (false≢true h)
is_absent_lem Fa1r h = absurd (false≢true h)
is_absent_lem (R1 b) h = absurd (false≢true h)
is_absent_lem (R2 b) h = absurd (false≢true h)
is_absent_lem Absent h = refl

from-banks : (o : ℕ) → 0x240 ≤ o → register_at o ≡ pick (ltb o 0x2B0) (bank_register (bank ((o - 0x240) / 8)) (o % 8)) Absent
unfolding register_at filter_register
from-banks o h =
    simp (
      le-ltb o 0x20 (omega arith),
      le-ltb o 0x200 (omega arith),
      ne_eqb o 0x200 (λ e. omega arith),
      ne_eqb o 0x204 (λ e. omega arith),
      ne_eqb o 0x20C (λ e. omega arith),
      ne_eqb o 0x214 (λ e. omega arith),
      ne_eqb o 0x21C (λ e. omega arith),
      le-leb 0x240 o h,
    )

module _ (o : ℕ) (c : Core) (v : List ℕ) where
  below : o < 0x240 → NoneOf named o → read_at o c v ≡ bank_read o v
  unfolding read_at bank_read read_word
  below h n =
      let a : Is (is_absent (register_at o)) = rw (none named o n) at (each_below is_other 0x240 below_banks o h) in
      rw (is_absent_lem (register_at o) a, lt-ltb o 0x240 h)

  past : 0x2B0 ≤ o → read_at o c v ≡ bank_read o v
  unfolding read_at bank_read read_word
  past h = rw (from-banks o (omega arith), le-ltb o 0x2B0 h, le-ltb o 0x240 (omega arith), le-leb 0x2B0 o h)

  -- R1 and R2 are at bytes 0 and 4 of a bank's block of 8
  module _ (h : 0x240 ≤ o) (l : o < 0x2B0) where
    in_bank_lem : (a b : Bool) → eqb (o % 8) 0 ≡ a → eqb (o % 8) 4 ≡ b → read_at o c v ≡ bank_read o v
    unfolding read_at bank_read read_word bank_word bank_register
    in_bank_lem true b p q =
        let z : o % 8 ≡ 0 = eqb-true _ _ p in
        let y : o % 4 ≡ 0 = omega arith in
        let i : 2 * ((o - 0x240) / 8) + 0 ≡ (o - 0x240) / 4 = omega arith in
        rw (from-banks o h, lt-ltb o 0x2B0 l, le-ltb o 0x240 h, lt-leb 0x2B0 o l, p, y, lt-ltb ((o - 0x240) / 8) 14 (omega arith), i)
    in_bank_lem false true p q =
        let z : o % 8 ≡ 4 = eqb-true _ _ q in
        let y : o % 4 ≡ 0 = omega arith in
        let i : 2 * ((o - 0x240) / 8) + 1 ≡ (o - 0x240) / 4 = omega arith in
        rw (from-banks o h, lt-ltb o 0x2B0 l, le-ltb o 0x240 h, lt-leb 0x2B0 o l, p, q, y, lt-ltb ((o - 0x240) / 8) 14 (omega arith), i)
    in_bank_lem false false p q =
        rw (from-banks o h, lt-ltb o 0x2B0 l, le-ltb o 0x240 h, lt-leb 0x2B0 o l, p, q, ne_eqb (o % 4) 0 (λ e. between e (eqb-false _ _ p) (eqb-false _ _ q)))
      where
        between : o % 4 ≡ 0 → (o % 8 ≡ 0 → ⊥) → (o % 8 ≡ 4 → ⊥) → ⊥
        between e x y = omega arith

  pub other_offset : NoneOf named o → read_at o c v ≡ bank_read o v
  other_offset n = side (ltb o 0x240) (ltb o 0x2B0) refl refl
    where
      side : (a b : Bool) → ltb o 0x240 ≡ a → ltb o 0x2B0 ≡ b → read_at o c v ≡ bank_read o v
      side true b p q = below (ltb-true _ _ p) n
      side false true p q = in_bank_lem (ltb-false _ _ p) (ltb-true _ _ q) _ _ refl refl
      side false false p q = past (ltb-false _ _ q)
