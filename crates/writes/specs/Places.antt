-- The words of the banks by their place, R1 and R2 of each bank in turn. Document 01: "What is modelled", the register map.
use Rattle.std.specs.Prelude.{Bool, true, false, List, ◌≡◌, refl, ℕ, ◌+◌, ◌*◌, ltb, set}
use Rattle.base.specs.Base.{pick}
use Rattle.model.specs.Registers.{bank_count, reset, with_bank_word, banks_written}
use Rattle.model.specs.declared.Bank.{Bank}
use Rattle.model.specs.declared.Register.{Register}
use Rattle.model.specs.declared.Register.TheVariants.{Mcr, Msr, Tsr, Rfr, Ier, Esr, Btr, Ti, Tdt, Tdl, Tdh, Ri, Rdt, Rdl, Rdh, Fmr, Fm1r, Fs1r, Ffa1r, Fa1r, R1, R2, Absent}
use Rattle.writes.specs.declared.BankWrite.{BankWrite}
use Rattle.writes.specs.declared.BankWrite.TheVariants.{Nothing, Word, Clear}

-- the word of a bank that a write stores, R1 (i = 0) or R2 (i = 1)
unfoldable pub bank_word : Bank → ℕ → ℕ → BankWrite
bank_word b i w = pick (ltb b.0 bank_count) (Word (2 * b.0 + i) w) Nothing

-- what a write to a register does to the words of the banks
unfoldable pub bank_write : Register → ℕ → BankWrite
bank_write Mcr w = Nothing
bank_write Msr w = Nothing
bank_write Tsr w = Nothing
bank_write (Rfr f) w = Nothing
bank_write Ier w = Nothing
bank_write Esr w = Nothing
bank_write Btr w = Nothing
bank_write (Ti m) w = Nothing
bank_write (Tdt m) w = Nothing
bank_write (Tdl m) w = Nothing
bank_write (Tdh m) w = Nothing
bank_write (Ri f) w = Nothing
bank_write (Rdt f) w = Nothing
bank_write (Rdl f) w = Nothing
bank_write (Rdh f) w = Nothing
bank_write Fmr w = Nothing
bank_write Fm1r w = Nothing
bank_write Fs1r w = Nothing
bank_write Ffa1r w = Nothing
bank_write Fa1r w = Nothing
bank_write (R1 b) w = bank_word b 0 w
bank_write (R2 b) w = bank_word b 1 w
bank_write Absent w = Nothing

abbrev pub is_nothing : BankWrite → Bool
is_nothing Nothing = true
is_nothing (Word p w) = false
is_nothing Clear = false

-- the words afterwards
unfoldable pub changed : List ℕ → BankWrite → List ℕ
changed v Nothing = v
changed v (Word p w) = set v p w
changed v Clear = reset.banks

-- ---- what a write does to the words

pub changed-nothing : (v : List ℕ) (x : BankWrite) → is_nothing x ≡ true → changed v x ≡ v
unfolding changed
changed-nothing v Nothing h = refl
changed-nothing v (Word p w) h = cc
changed-nothing v Clear h = cc

-- a hardware reset clears them all
pub changed-all : (v : List ℕ) → changed v Clear ≡ reset.banks
unfolding changed
changed-all v = refl

-- t: this board has the bank
changed_in : (v : List ℕ) (b : Bank) (i w : ℕ) (t : Bool) → ltb b.0 bank_count ≡ t → changed v (bank_word b i w) ≡ with_bank_word v b i w
unfolding changed bank_word with_bank_word
changed_in v b i w true e = simp e
changed_in v b i w false e = simp e

-- the words are those that the model writes
pub changed_by_write : (x : Register) (v : List ℕ) (w : ℕ) → changed v (bank_write x w) ≡ banks_written x v w
unfolding bank_write banks_written changed
changed_by_write Mcr v w = refl
changed_by_write Msr v w = refl
changed_by_write Tsr v w = refl
changed_by_write (Rfr f) v w = refl
changed_by_write Ier v w = refl
changed_by_write Esr v w = refl
changed_by_write Btr v w = refl
changed_by_write (Ti m) v w = refl
changed_by_write (Tdt m) v w = refl
changed_by_write (Tdl m) v w = refl
changed_by_write (Tdh m) v w = refl
changed_by_write (Ri f) v w = refl
changed_by_write (Rdt f) v w = refl
changed_by_write (Rdl f) v w = refl
changed_by_write (Rdh f) v w = refl
changed_by_write Fmr v w = refl
changed_by_write Fm1r v w = refl
changed_by_write Fs1r v w = refl
changed_by_write Ffa1r v w = refl
changed_by_write Fa1r v w = refl
changed_by_write (R1 b) v w = changed_in v b 0 w _ refl
changed_by_write (R2 b) v w = changed_in v b 1 w _ refl
changed_by_write Absent v w = refl
