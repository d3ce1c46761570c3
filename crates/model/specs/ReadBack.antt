-- What was written to a register reads back within its writable bits, and only a write to it, or a reset, changes it.
-- Document 01: "Register map" (hardware reset, writable bits). A register is meant by its offset.
use Rattle.std.specs.Prelude.{Bool, false, ◌&&◌, ◌||◌, List, [], ◌∷◌, ◌≡◌, ℕ, ◌+◌, eqb}
use Rattle.base.specs.Base.{bit, bits}
use Rattle.model.specs.Shown.{shown, Done, next_of, writes, is_hardware_reset}
use Rattle.model.specs.Codes.{offset_of, reads}
use Rattle.model.specs.declared.Controller.{Controller}
use Rattle.model.specs.declared.Register.{Register}
use Rattle.model.specs.declared.Register.TheVariants.{Mcr, Msr, Tsr, Ier, Btr, Fmr, Fm1r, Fs1r, Ffa1r, Fa1r}
use Rattle.model.specs.declared.Step as steps
use Rattle.model.specs.declared.Step.TheVariants.{Reset, Write}

-- ---- accesses

-- a write to the register is accepted, and the controller after it
abbrev pub Accepts : Controller → Register → ℕ → Type 0
Accepts z r w = Done z (Write (offset_of r) w)

abbrev pub after_write : Controller → Register → ℕ → Controller
after_write z r w = next_of z (Write (offset_of r) w)

-- x has the bits of w that the mask has, and no others
abbrev pub Within : ℕ → ℕ → ℕ → Type 0
Within mask w x = (i : ℕ) → bit i x ≡ bit i mask && bit i w

-- ---- "Writable bits: MCR 0x000100FF, IER 0x00038F7F, BTR 0xC37F03FF, .. filter words 0x3FFF, FMR bit 0. Other bits are ignored."

pub record ReadBack (z : Controller) (w : ℕ) : Type 0 where
  pub mcr : bit 15 w ≡ false → Within 0x000100FF w (reads (after_write z Mcr w) Mcr)
  pub ier : Within 0x00038F7F w (reads (after_write z Ier w) Ier)
  pub btr : Accepts z Btr w → Within 0xC37F03FF w (reads (after_write z Btr w) Btr)
  -- the other bits of FMR keep their reset value
  pub fmr : reads (after_write z Fmr w) Fmr ≡ 0x2A1C0E00 + bits 0 1 w
  pub fm1r : Accepts z Fm1r w → Within 0x3FFF w (reads (after_write z Fm1r w) Fm1r)
  pub fs1r : Accepts z Fs1r w → Within 0x3FFF w (reads (after_write z Fs1r w) Fs1r)
  pub ffa1r : Accepts z Ffa1r w → Within 0x3FFF w (reads (after_write z Ffa1r w) Ffa1r)
  pub fa1r : Within 0x3FFF w (reads (after_write z Fa1r w) Fa1r)

-- ---- what changes such a register

-- the step is a hardware reset or a write to the register
abbrev pub sets : steps.Step → Register → Bool
sets s r = is_hardware_reset s || writes (λ o w. eqb o (offset_of r)) s

-- the register reads after the step as it did before
abbrev pub Stays : Controller → steps.Step → Register → Type 0
Stays z s r = reads (next_of z s) r ≡ reads z r

-- no other step changes one of these, but that activity may clear SLEEP, bit 1 of MCR
pub record OnlyWrites (z : Controller) (s : steps.Step) : Type 0 where
  pub mcr : sets s Mcr ≡ false → (i : ℕ) → eqb i 1 ≡ false → bit i (reads (next_of z s) Mcr) ≡ bit i (reads z Mcr)
  pub ier : sets s Ier ≡ false → Stays z s Ier
  pub btr : sets s Btr ≡ false → Stays z s Btr
  pub fmr : sets s Fmr ≡ false → Stays z s Fmr
  pub fm1r : sets s Fm1r ≡ false → Stays z s Fm1r
  pub fs1r : sets s Fs1r ≡ false → Stays z s Fs1r
  pub ffa1r : sets s Ffa1r ≡ false → Stays z s Ffa1r
  pub fa1r : sets s Fa1r ≡ false → Stays z s Fa1r

-- ---- "Hardware reset: MCR 0x00010002, MSR 0x00000C02, TSR 0x1C000000, BTR 0x01230000, FMR 0x2A1C0E01, all else 0"

abbrev pub has : List ℕ → ℕ → Bool
has [] n = false
has (x ∷ l) n = eqb x n || has l n

abbrev pub after_reset : Controller → ℕ → ℕ
after_reset z o = shown (next_of z Reset) o

pub record ResetWords (z : Controller) : Type 0 where
  pub mcr : after_reset z (offset_of Mcr) ≡ 0x00010002
  pub msr : after_reset z (offset_of Msr) ≡ 0x00000C02
  pub tsr : after_reset z (offset_of Tsr) ≡ 0x1C000000
  pub btr : after_reset z (offset_of Btr) ≡ 0x01230000
  pub fmr : after_reset z (offset_of Fmr) ≡ 0x2A1C0E01
  pub others : (o : ℕ) → has (0x000 ∷ 0x004 ∷ 0x008 ∷ 0x01C ∷ 0x200 ∷ []) o ≡ false → after_reset z o ≡ 0
