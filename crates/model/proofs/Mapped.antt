-- The decoding of offsets is the register map.
use mathlib.Core.Bool.{Bool, true, false, not, ◌&&◌, beq, true≢false, and-false, and-true}
use mathlib.Core.Path.{◌≡◌, refl}
use Prim.Native.Nat.{ℕ, ◌+◌, ◌*◌, ◌-◌, ◌/◌, ◌%◌, ◌<◌, ◌≤◌}
use native.Mathlib.Omega.{arith}
use lib.Dec.{eqb, ltb}
use borrow.Author.Tests.{eqb-true, eqb-false, ltb-true, ltb-false, eq-eqb, ne_eqb, lt-ltb, le-ltb, le-leb, lt-leb}
use Rattle.base.specs.Base.{pick}
use Rattle.model.specs.Banks.{bank}
use Rattle.model.specs.Registers.{register_at, control_register, mailbox_register, output_register, block_register, bank_register, filter_register, bank_count, is_absent}
use Rattle.model.specs.Codes.{offset_of, in_map, IsPresent, Map}
use Rattle.model.specs.declared.Mailbox.TheVariants.{M0, M1, M2}
use Rattle.model.specs.declared.Fifo.TheVariants.{F0, F1}
use Rattle.model.specs.declared.Bank.{Bank}
use Rattle.model.specs.declared.Register.{Register}
use Rattle.model.specs.declared.Register.TheVariants.{Mcr, Msr, Tsr, Rfr, Ier, Esr, Btr, Ti, Tdt, Tdl, Tdh, Ri, Rdt, Rdl, Rdh, Fmr, Fm1r, Fs1r, Ffa1r, Fa1r, R1, R2, Absent}
use Rattle.base.proofs.Choices.{Is, imp, imp_Is, and_l, and_r, beq_eq, not-Is}
use Rattle.model.proofs.Bounded.{all_below, each_below}

-- below the banks: computed for each offset
abbrev agrees : ℕ → Bool
agrees o = beq (is_absent (register_at o)) (not (in_map bank_count o)) && imp (not (is_absent (register_at o))) (eqb (offset_of (register_at o)) o)

below_banks : Is (all_below agrees 0x240)
unfolding all_below register_at control_register block_register mailbox_register output_register filter_register bank_register
below_banks = refl

-- the banks: by the place in a bank's block
from-banks : (o : ℕ) → 0x240 ≤ o → register_at o ≡ pick (ltb o (0x240 + 8 * bank_count)) (bank_register (bank ((o - 0x240) / 8)) (o % 8)) Absent
unfolding register_at filter_register
from-banks o h =
    simp (
      le-ltb o 0x20 (omega arith),
      le-ltb o 0x200 (omega arith),
      ne_eqb o 0x200 (λ e. omega arith),
      ne_eqb o 0x204 (λ e. omega arith),
      ne_eqb o 0x20C (λ e. omega arith),
      ne_eqb o 0x214 (λ e. omega arith),
      ne_eqb o 0x21C (λ e. omega arith),
      le-leb 0x240 o h,
    )

in_banks_lem : (o : ℕ) → 0x240 ≤ o → in_map bank_count o ≡ eqb (o % 4) 0 && ltb o (0x240 + 8 * bank_count)
in_banks_lem o h =
    simp (
      lt-leb o 0x01C (omega arith),
      lt-leb o 0x1CC (omega arith),
      le-leb 0x180 o (omega arith),
      ne_eqb o 0x200 (λ e. omega arith),
      ne_eqb o 0x204 (λ e. omega arith),
      ne_eqb o 0x20C (λ e. omega arith),
      ne_eqb o 0x214 (λ e. omega arith),
      ne_eqb o 0x21C (λ e. omega arith),
      le-leb 0x240 o h,
    )

-- a bank's two words are at bytes 0 and 4 of its block of 8
module _ (o : ℕ) (from : 0x240 ≤ o) where
  abbrev word : Register
  word = bank_register (bank ((o - 0x240) / 8)) (o % 8)

  record Word : Type 0 where
    absent : is_absent word ≡ not (eqb (o % 4) 0)
    only : is_absent word ≡ false → offset_of word ≡ o

  bank_word_lem : Word
  unfolding bank_register
  bank_word_lem = first (eqb (o % 8) 0) (eqb (o % 8) 4) refl refl
    where
      first : (a b : Bool) → eqb (o % 8) 0 ≡ a → eqb (o % 8) 4 ≡ b → Word
      first true b p q =
          let z : o % 8 ≡ 0 = eqb-true _ _ p in
          record { absent = rw (p, eq-eqb (o % 4) 0 (omega arith)); only = λ _. rw p (omega arith) }
      first false true p q =
          let z : o % 8 ≡ 4 = eqb-true _ _ q in
          record { absent = rw (p, q, eq-eqb (o % 4) 0 (omega arith)); only = λ _. rw (p, q) (omega arith) }
      first false false p q =
          record { absent = rw (p, q, ne_eqb (o % 4) 0 (λ e. other e (eqb-false _ _ p) (eqb-false _ _ q))); only = rw (p, q) (λ e. absurd (true≢false e)) }
        where
          other : o % 4 ≡ 0 → (o % 8 ≡ 0 → ⊥) → (o % 8 ≡ 4 → ⊥) → ⊥
          other e a b = omega arith

  banks-absent : (b : Bool) → ltb o (0x240 + 8 * bank_count) ≡ b → is_absent (register_at o) ≡ not (in_map bank_count o)
  banks-absent true e = rw (from-banks o from, in_banks_lem o from, e, and-true (eqb (o % 4) 0)) bank_word_lem.absent
  banks-absent false e = rw (from-banks o from, in_banks_lem o from, e, and-false (eqb (o % 4) 0))

  banks-only : (b : Bool) → ltb o (0x240 + 8 * bank_count) ≡ b → is_absent (register_at o) ≡ false → offset_of (register_at o) ≡ o
  banks-only true e = rw (from-banks o from, e) bank_word_lem.only
  banks-only false e = rw (from-banks o from, e) (λ h. absurd (true≢false h))

-- each bank's words are found where they are said to be
found-r1 : (b : Bank) → Is (ltb b.0 bank_count) → register_at (0x240 + 8 * b.0) ≡ R1 b
unfolding bank_register
found-r1 b h =
    let l : b.0 < 14 = ltb-true _ _ h in
    let z : (0x240 + 8 * b.0) % 8 ≡ 0 = omega arith in
    let i : (0x240 + 8 * b.0 - 0x240) / 8 ≡ b.0 = omega arith in
    rw (from-banks (0x240 + 8 * b.0) (omega arith), lt-ltb (0x240 + 8 * b.0) (0x240 + 8 * bank_count) (omega arith), z, i)

found-r2 : (b : Bank) → Is (ltb b.0 bank_count) → register_at (0x244 + 8 * b.0) ≡ R2 b
unfolding bank_register
found-r2 b h =
    let l : b.0 < 14 = ltb-true _ _ h in
    let z : (0x244 + 8 * b.0) % 8 ≡ 4 = omega arith in
    let i : (0x244 + 8 * b.0 - 0x240) / 8 ≡ b.0 = omega arith in
    rw (from-banks (0x244 + 8 * b.0) (omega arith), lt-ltb (0x244 + 8 * b.0) (0x240 + 8 * bank_count) (omega arith), z, i)

found : (r : Register) → IsPresent r → register_at (offset_of r) ≡ r
unfolding register_at control_register block_register mailbox_register output_register filter_register
found Mcr h = refl
found Msr h = refl
found Tsr h = refl
found (Rfr F0) h = refl
found (Rfr F1) h = refl
found Ier h = refl
found Esr h = refl
found Btr h = refl
found (Ti M0) h = refl
found (Ti M1) h = refl
found (Ti M2) h = refl
found (Tdt M0) h = refl
found (Tdt M1) h = refl
found (Tdt M2) h = refl
found (Tdl M0) h = refl
found (Tdl M1) h = refl
found (Tdl M2) h = refl
found (Tdh M0) h = refl
found (Tdh M1) h = refl
found (Tdh M2) h = refl
found (Ri F0) h = refl
found (Ri F1) h = refl
found (Rdt F0) h = refl
found (Rdt F1) h = refl
found (Rdl F0) h = refl
found (Rdl F1) h = refl
found (Rdh F0) h = refl
found (Rdh F1) h = refl
found Fmr h = refl
found Fm1r h = refl
found Fs1r h = refl
found Ffa1r h = refl
found Fa1r h = refl
found (R1 b) h = found-r1 b h
found (R2 b) h = found-r2 b h
found Absent h = absurd (true≢false h)

low : (o : ℕ) → o < 0x240 → Is (agrees o)
low o h = each_below agrees 0x240 below_banks o h

absent : (o : ℕ) (b : Bool) → ltb o 0x240 ≡ b → is_absent (register_at o) ≡ not (in_map bank_count o)
absent o true e = beq_eq _ _ (and_l _ (imp (not (is_absent (register_at o))) (eqb (offset_of (register_at o)) o)) (low o (ltb-true _ _ e)))
absent o false e = banks-absent o (ltb-false _ _ e) _ refl

only : (o : ℕ) (b : Bool) → ltb o 0x240 ≡ b → is_absent (register_at o) ≡ false → offset_of (register_at o) ≡ o
only o true e h = eqb-true _ _ (imp_Is (and_r (beq (is_absent (register_at o)) (not (in_map bank_count o))) _ (low o (ltb-true _ _ e))) (not-Is h))
only o false e h = banks-only o (ltb-false _ _ e) _ refl h

pub map : Map
map = record { absent = λ o. absent o _ refl; found = found; only = λ o h. only o _ refl h }
