-- What the registers show of the banks, and that their words read back as they were written.
use mathlib.Core.Bool.{Bool, true, false, true≢false}
use mathlib.Core.List.{List}
use mathlib.Core.Logic.{◌↔◌}
use mathlib.Core.Path.{◌≡◌, refl, sym, ap, ◌∙◌}
use Prim.Native.Nat.{ℕ, ◌+◌, ◌*◌, ◌/◌, ◌%◌, ◌^◌, ◌<◌}
use native.Mathlib.Nat.{add-zero}
use native.Mathlib.Omega.{arith}
use borrow.Author.Tests.{lt-ltb, ltb-true, eq-eqb, eqb-true, eqb-false}
use lib.Dec.{eqb, ltb}
use lib.ListN.{length, get_or, set}
use lib.Seq.{get_or-set_same, get_or-set_other}
use Rattle.base.specs.Base.{bit}
use Rattle.model.specs.Banks.{bank, class_by, class_of, belongs}
use Rattle.model.specs.Registers.{register_at, filter_register, is_absent, bank_count, bank_word, with_bank_word, banks_written, read_word}
use Rattle.model.specs.Step.{step, answered, refusal, word_of, banks_after, banks_applied}
use Rattle.model.specs.Codes.{offset_of, reads}
use Rattle.model.specs.Filtering.{scale_bit, mode_bit, BankShown, BankWord, word_r1, word_r2, BankWords}
use Rattle.model.specs.ReadBack.{sets}
use Rattle.model.specs.Shown.{fifo_number}
use Rattle.model.specs.declared.Bank.{Bank}
use Rattle.model.specs.declared.Fifo.{Fifo}
use Rattle.model.specs.declared.Fifo.TheVariants.{F0, F1}
use Rattle.model.specs.declared.Controller.{Controller}
use Rattle.model.specs.declared.Register.{Register}
use Rattle.model.specs.declared.Register.TheVariants.{Mcr, Msr, Tsr, Rfr, Ier, Esr, Btr, Ti, Tdt, Tdl, Tdh, Ri, Rdt, Rdl, Rdh, Fmr, Fm1r, Fs1r, Ffa1r, Fa1r, R1, R2, Absent}
use Rattle.model.specs.declared.Step as steps
use Rattle.model.specs.declared.Step.TheVariants.{Reset, Read, Write, Idle, BitTimes, Activity, Start, Outcome, Receive, ReceiveError}
use Rattle.base.proofs.Choices.{Is-not, pick_cases}
use Rattle.model.proofs.Mapped.{map}
use Rattle.model.proofs.RegisterAccess.{elsewhere}

-- ---- reads

found : (r : Register) → BankWord r → register_at (offset_of r) ≡ r
found r (word_r1 b h) = map.found (R1 b) (lt-ltb b.0 bank_count h)
found r (word_r2 b h) = map.found (R2 b) (lt-ltb b.0 bank_count h)

present : (r : Register) → BankWord r → is_absent r ≡ false
present r (word_r1 b h) = refl
present r (word_r2 b h) = refl

-- where a bank's word stands among all
abbrev place : (r : Register) → BankWord r → ℕ
place r (word_r1 b h) = 2 * b.0 + 0
place r (word_r2 b h) = 2 * b.0 + 1

abbrev stored : (r : Register) → BankWord r → List ℕ → ℕ
stored r p v = get_or v (place r p) 0

bank_read_lem : (z : Controller) (r : Register) (p : BankWord r) → reads z r ≡ stored r p z.banks
unfolding step answered refusal word_of read_word bank_word
bank_read_lem z r (word_r1 b h) = rw (found (R1 b) (word_r1 b h), lt-ltb b.0 bank_count h)
bank_read_lem z r (word_r2 b h) = rw (found (R2 b) (word_r2 b h), lt-ltb b.0 bank_count h)

record FilterRead (z : Controller) : Type 0 where
  mode : reads z Fm1r ≡ z.core.filters.mode
  scale : reads z Fs1r ≡ z.core.filters.scale
  assignment : reads z Ffa1r ≡ z.core.filters.assignment
  activation : reads z Fa1r ≡ z.core.filters.activation

filter-read : (z : Controller) → FilterRead z
unfolding step answered refusal word_of register_at filter_register read_word
filter-read z = record { mode = refl; scale = refl; assignment = refl; activation = refl }

scale_of : (s m : Bool) → scale_bit (class_by s m) ≡ s
scale_of true true = refl
scale_of true false = refl
scale_of false true = refl
scale_of false false = refl

mode_of : (s m : Bool) → mode_bit (class_by s m) ≡ m
mode_of true true = refl
mode_of true false = refl
mode_of false true = refl
mode_of false false = refl

fifo_of_lem : (f : Fifo) (z : Controller) (b : Bank) → (belongs f z.core.filters b ≡ true) ↔ (z.core.filters.assignment / 2 ^ b.0 % 2 ≡ fifo_number f)
fifo_of_lem F1 z b = (eqb-true _ _, eq-eqb _ _)
fifo_of_lem F0 z b = (λ e. clear (eqb-false _ _ (Is-not _ e)), λ e. rw e)
  where
    clear : (z.core.filters.assignment / 2 ^ b.0 % 2 ≡ 1 → ⊥) → z.core.filters.assignment / 2 ^ b.0 % 2 ≡ 0
    clear q = omega arith

pub bank-shown : (z : Controller) (b : Bank) → BankShown z b
unfolding class_of
bank-shown z b =
    let r = filter-read z in
    record {
      active = rw r.activation;
      fifo = λ f. rw r.assignment (fifo_of_lem f z b);
      scale = rw r.scale (scale_of (bit b.0 z.core.filters.scale) (bit b.0 z.core.filters.mode));
      mode = rw r.mode (mode_of (bit b.0 z.core.filters.scale) (bit b.0 z.core.filters.mode));
      r1 = λ h. sym (bank_read_lem z (R1 b) (word_r1 b h) ∙ rw (add-zero (2 * b.0)));
      r2 = λ h. sym (bank_read_lem z (R2 b) (word_r2 b h));
    }

-- ---- writes

place_below : (r : Register) (p : BankWord r) → place r p < 2 * bank_count
place_below r (word_r1 b h) = omega arith
place_below r (word_r2 b h) = omega arith

-- words at the same place are the same
place_injective : (q r : Register) (o : BankWord q) (p : BankWord r) → place q o ≡ place r p → q ≡ r
place_injective q r (word_r1 a i) (word_r1 b h) e = let s : a.0 ≡ b.0 = omega arith in ap (λ (x : ℕ). R1 (bank x)) s
place_injective q r (word_r1 a i) (word_r2 b h) e = absurd (omega arith)
place_injective q r (word_r2 a i) (word_r1 b h) e = absurd (omega arith)
place_injective q r (word_r2 a i) (word_r2 b h) e = let s : a.0 ≡ b.0 = omega arith in ap (λ (x : ℕ). R2 (bank x)) s

is_set : (q : Register) (o : BankWord q) (v : List ℕ) (w : ℕ) → banks_written q v w ≡ set v (place q o) w
unfolding banks_written with_bank_word
is_set q (word_r1 b h) v w = rw (lt-ltb b.0 bank_count h)
is_set q (word_r2 b h) v w = rw (lt-ltb b.0 bank_count h)

module _ (r : Register) (p : BankWord r) (v : List ℕ) (w : ℕ) where
  read_back : length v ≡ 2 * bank_count → stored r p (banks_written r v w) ≡ w
  read_back l =
      ap (stored r p) (is_set r p v w)
      ∙ get_or-set_same v (place r p) w 0 (omega (arith, place_below r p))

  other-set : (q : Register) → BankWord q → (q ≡ r → ⊥) → stored r p (banks_written q v w) ≡ stored r p v
  other-set q o n =
      ap (stored r p) (is_set q o v w)
      ∙ get_or-set_other v (place q o) (place r p) w 0 (λ e. n (place_injective q r o p (sym e)))

  -- a bank that the board does not have keeps all words
  outside : (q : Register) (i : ℕ) (b : Bank) → banks_written q v w ≡ with_bank_word v b i w → (b.0 < bank_count → BankWord q) → (q ≡ r → ⊥)
      → stored r p (banks_written q v w) ≡ stored r p v
  unfolding with_bank_word
  outside q i b e o n = go (ltb b.0 bank_count) refl
    where
      go : (t : Bool) → ltb b.0 bank_count ≡ t → stored r p (banks_written q v w) ≡ stored r p v
      go true h = other-set q (o (ltb-true _ _ h)) n
      go false h = let same : banks_written q v w ≡ v = e ∙ rw h in ap (stored r p) same

  not_written : (q : Register) → (q ≡ r → ⊥) → stored r p (banks_written q v w) ≡ stored r p v
  unfolding banks_written
  not_written Mcr n = refl
  not_written Msr n = refl
  not_written Tsr n = refl
  not_written (Rfr f) n = refl
  not_written Ier n = refl
  not_written Esr n = refl
  not_written Btr n = refl
  not_written (Ti m) n = refl
  not_written (Tdt m) n = refl
  not_written (Tdl m) n = refl
  not_written (Tdh m) n = refl
  not_written (Ri f) n = refl
  not_written (Rdt f) n = refl
  not_written (Rdl f) n = refl
  not_written (Rdh f) n = refl
  not_written Fmr n = refl
  not_written Fm1r n = refl
  not_written Fs1r n = refl
  not_written Ffa1r n = refl
  not_written Fa1r n = refl
  not_written Absent n = refl
  not_written (R1 b) n = outside (R1 b) 0 b refl (word_r1 b) n
  not_written (R2 b) n = outside (R2 b) 1 b refl (word_r2 b) n

module _ (z : Controller) where
  done : (r : Register) (w : ℕ) → BankWord r → (step z (Write (offset_of r) w)).code ≡ 0
      → (step z (Write (offset_of r) w)).controller.banks ≡ banks_written r z.banks w
  unfolding step answered banks_after banks_applied refusal
  done r w p h = rw (eq-eqb _ 0 h, found r p)

  module _ (r : Register) (p : BankWord r) where
    applied-keeps : (s : steps.Step) → sets s r ≡ false → stored r p (banks_applied z.banks s) ≡ stored r p z.banks
    unfolding banks_applied
    applied-keeps Reset n = absurd (true≢false n)
    applied-keeps (Read o) n = refl
    applied-keeps (Write o w) n = not_written r p z.banks w (register_at o) (λ e. elsewhere o r e (present r p) n)
    applied-keeps Idle n = refl
    applied-keeps (BitTimes k) n = refl
    applied-keeps Activity n = refl
    applied-keeps Start n = refl
    applied-keeps (Outcome k) n = refl
    applied-keeps (Receive x) n = refl
    applied-keeps (ReceiveError k m) n = refl

    step_keeps : (s : steps.Step) → sets s r ≡ false → stored r p (step z s).controller.banks ≡ stored r p z.banks
    unfolding step answered banks_after
    step_keeps s n =
        pick_cases (λ (u : List ℕ). stored r p u ≡ stored r p z.banks) (eqb (refusal z.core s) 0) (banks_applied z.banks s) z.banks
        (λ _. applied-keeps s n) (λ _. refl)

-- every controller that can be reached has two words for each bank (`InRange`)
pub bank_words_lem : (z : Controller) → length z.banks ≡ 2 * bank_count → BankWords z
bank_words_lem z l = record {
  written = λ r w p h. bank_read_lem _ r p ∙ (ap (stored r p) (done z r w p h) ∙ read_back r p z.banks w l);
  kept = λ r s p n. bank_read_lem _ r p ∙ (step_keeps z r p s n ∙ sym (bank_read_lem z r p));
}
