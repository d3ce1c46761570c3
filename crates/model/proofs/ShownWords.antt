-- What each register read shows, and the bits of MSR, RFxR and ESR. Those of TSR are in StatusWord.
use mathlib.Core.Bool.{Bool, not}
use mathlib.Core.Path.{◌≡◌, refl, ap, ◌∙◌}
use Prim.Native.Nat.{ℕ, ◌+◌, ◌*◌, ◌/◌, ◌%◌, ◌^◌, ◌≤◌, ◌<◌}
use native.Mathlib.Omega.{arith}
use lib.Dec.{eqb}
use Rattle.base.specs.Base.{bit, bits, one}
use Rattle.model.specs.Queue.{holds}
use Rattle.model.specs.Mailboxes.{at, ti_word}
use Rattle.model.specs.Mailboxes as mailboxes
use Rattle.model.specs.Reception.{rfr_word, output}
use Rattle.model.specs.Control.{txfp, is_sleep, is_initialization, mode_bits, msr_word, esr_word, ewgf, epvf, boff}
use Rattle.model.specs.Registers.{register_at, control_register, block_register, mailbox_register, output_register, filter_register, read_word, fifo_of, is_free}
use Rattle.model.specs.Step.{step, answered, refusal, word_of}
use Rattle.model.specs.Shown.{mcr, msr, tsr, rfr, ier, esr, btr, fmr, fm1r, fs1r, ffa1r, fa1r, ri, rdt, rdl, rdh, ti, tdt, tdl, tdh}
use Rattle.model.specs.declared.Mailbox.{Mailbox}
use Rattle.model.specs.declared.Fifo.{Fifo}
use Rattle.model.specs.declared.Fifo.TheVariants.{F0, F1}
use Rattle.model.specs.declared.Mode.{Mode}
use Rattle.model.specs.declared.Mode.TheVariants.{Sleep, Initialization, Normal}
use Rattle.model.specs.declared.Control.{Control}
use Rattle.model.specs.declared.Errors.{Errors}
use Rattle.model.specs.declared.FifoState.{FifoState}
use Rattle.model.specs.declared.Mailbox.TheVariants.{M0, M1, M2}
use Rattle.model.specs.declared.Controller.{Controller}
use Rattle.base.proofs.Choices.{one-le, one_bit}
use Rattle.model.proofs.Masks.{field}

-- ---- words

pub mcr-shown : (z : Controller) → mcr z ≡ z.core.control.mcr
unfolding step answered refusal word_of register_at control_register read_word
mcr-shown z = refl

pub msr-shown : (z : Controller) → msr z ≡ msr_word z.core.control (is_free z.core)
unfolding step answered refusal word_of register_at control_register read_word
msr-shown z = refl

pub tsr-shown : (z : Controller) → tsr z ≡ mailboxes.tsr (txfp z.core.control) z.core.transmit
unfolding step answered refusal word_of register_at control_register read_word
tsr-shown z = refl

pub rfr-shown : (f : Fifo) (z : Controller) → rfr f z ≡ rfr_word (fifo_of f z.core)
unfolding step answered refusal word_of register_at control_register read_word
rfr-shown F0 z = refl
rfr-shown F1 z = refl

pub ier-shown : (z : Controller) → ier z ≡ z.core.control.ier
unfolding step answered refusal word_of register_at control_register read_word
ier-shown z = refl

pub esr-shown : (z : Controller) → esr z ≡ esr_word z.core.errors
unfolding step answered refusal word_of register_at control_register read_word
esr-shown z = refl

pub btr-shown : (z : Controller) → btr z ≡ z.core.control.btr
unfolding step answered refusal word_of register_at control_register read_word
btr-shown z = refl

pub fmr-shown : (z : Controller) → fmr z ≡ 0x2A1C0E00 + one z.core.filters.finit
unfolding step answered refusal word_of register_at filter_register read_word
fmr-shown z = refl

pub fm1r-shown : (z : Controller) → fm1r z ≡ z.core.filters.mode
unfolding step answered refusal word_of register_at filter_register read_word
fm1r-shown z = refl

pub fs1r-shown : (z : Controller) → fs1r z ≡ z.core.filters.scale
unfolding step answered refusal word_of register_at filter_register read_word
fs1r-shown z = refl

pub ffa1r-shown : (z : Controller) → ffa1r z ≡ z.core.filters.assignment
unfolding step answered refusal word_of register_at filter_register read_word
ffa1r-shown z = refl

pub fa1r-shown : (z : Controller) → fa1r z ≡ z.core.filters.activation
unfolding step answered refusal word_of register_at filter_register read_word
fa1r-shown z = refl

pub ri-shown : (f : Fifo) (z : Controller) → ri f z ≡ (output (fifo_of f z.core)).ri
unfolding step answered refusal word_of register_at block_register output_register read_word
ri-shown F0 z = refl
ri-shown F1 z = refl

pub rdt-shown : (f : Fifo) (z : Controller) → rdt f z ≡ (output (fifo_of f z.core)).rdt
unfolding step answered refusal word_of register_at block_register output_register read_word
rdt-shown F0 z = refl
rdt-shown F1 z = refl

pub rdl-shown : (f : Fifo) (z : Controller) → rdl f z ≡ (output (fifo_of f z.core)).rdl
unfolding step answered refusal word_of register_at block_register output_register read_word
rdl-shown F0 z = refl
rdl-shown F1 z = refl

pub rdh-shown : (f : Fifo) (z : Controller) → rdh f z ≡ (output (fifo_of f z.core)).rdh
unfolding step answered refusal word_of register_at block_register output_register read_word
rdh-shown F0 z = refl
rdh-shown F1 z = refl

pub ti-shown : (m : Mailbox) (z : Controller) → ti m z ≡ (at z.core.transmit.mailboxes m).ti / 2 * 2 + one (holds z.core.transmit.queue.order m)
unfolding step answered refusal word_of register_at block_register mailbox_register read_word ti_word
ti-shown M0 z = refl
ti-shown M1 z = refl
ti-shown M2 z = refl

pub tdt-shown : (m : Mailbox) (z : Controller) → tdt m z ≡ (at z.core.transmit.mailboxes m).tdt
unfolding step answered refusal word_of register_at block_register mailbox_register read_word
tdt-shown M0 z = refl
tdt-shown M1 z = refl
tdt-shown M2 z = refl

pub tdl-shown : (m : Mailbox) (z : Controller) → tdl m z ≡ (at z.core.transmit.mailboxes m).tdl
unfolding step answered refusal word_of register_at block_register mailbox_register read_word
tdl-shown M0 z = refl
tdl-shown M1 z = refl
tdl-shown M2 z = refl

pub tdh-shown : (m : Mailbox) (z : Controller) → tdh m z ≡ (at z.core.transmit.mailboxes m).tdh
unfolding step answered refusal word_of register_at block_register mailbox_register read_word
tdh-shown M0 z = refl
tdh-shown M1 z = refl
tdh-shown M2 z = refl

-- ---- a flag b in a sum: c below it, a above

pub flag-bit : (i n a c : ℕ) (b : Bool) → n ≡ (a * 2 + one b) * 2 ^ i + c → c < 2 ^ i → bit i n ≡ b
flag-bit i n a c b e l = let h : one b < 2 = omega (arith, one-le b) in one_bit (n / 2 ^ i % 2) b (field (2 ^ i) 2 n a (one b) c e l h)

-- ---- MSR

module _ (m a b c d : ℕ) where
  abbrev sum : ℕ
  sum = m + a * 4 + b * 8 + c * 16 + d * 256 + 0xC00

  sum_0 : sum / 2 ^ 0 % 2 ≡ m % 2
  sum_0 = omega arith

  sum_1 : sum / 2 ^ 1 % 2 ≡ m / 2 % 2
  sum_1 = omega arith

mode-inak : (m : Mode) → eqb (mode_bits m % 2) 1 ≡ is_initialization m
mode-inak Normal = refl
mode-inak Initialization = refl
mode-inak Sleep = refl

mode-slak : (m : Mode) → eqb (mode_bits m / 2 % 2) 1 ≡ is_sleep m
mode-slak Normal = refl
mode-slak Initialization = refl
mode-slak Sleep = refl

module _ (k : Control) (free : Bool) where
  abbrev e : ℕ
  e = one k.erri

  abbrev w : ℕ
  w = one k.wkui

  abbrev s : ℕ
  s = one k.slaki

  abbrev t : ℕ
  t = one (not free)

  pub mode_bits_small : mode_bits k.mode < 3
  mode_bits_small = go k.mode
    where
      go : (m : Mode) → mode_bits m < 3
      go Normal = omega arith
      go Initialization = omega arith
      go Sleep = omega arith

  -- the two bits of the mode, as a number and one by one
  pub msr-mode : bits 0 2 (msr_word k free) ≡ mode_bits k.mode
  unfolding msr_word
  msr-mode = omega (arith, mode_bits_small)

  pub msr-inak : bit 0 (msr_word k free) ≡ is_initialization k.mode
  unfolding msr_word
  msr-inak = ap (λ (x : ℕ). eqb x 1) (sum_0 (mode_bits k.mode) e w s t) ∙ mode-inak k.mode

  pub msr-slak : bit 1 (msr_word k free) ≡ is_sleep k.mode
  unfolding msr_word
  msr-slak = ap (λ (x : ℕ). eqb x 1) (sum_1 (mode_bits k.mode) e w s t) ∙ mode-slak k.mode

  pub msr-erri : bit 2 (msr_word k free) ≡ k.erri
  unfolding msr_word
  msr-erri = flag-bit 2 (msr_word k free) (w + s * 2 + t * 32 + 0x180) (mode_bits k.mode) k.erri (omega arith) (omega (arith, mode_bits_small))

  pub msr-wkui : bit 3 (msr_word k free) ≡ k.wkui
  unfolding msr_word
  msr-wkui = flag-bit 3 (msr_word k free) (s + t * 16 + 0xC0) (mode_bits k.mode + e * 4) k.wkui (omega arith) (omega (arith, mode_bits_small, one-le k.erri))

  pub msr-slaki : bit 4 (msr_word k free) ≡ k.slaki
  unfolding msr_word
  msr-slaki = flag-bit 4 (msr_word k free) (t * 8 + 0x60) (mode_bits k.mode + e * 4 + w * 8) k.slaki (omega arith) (omega (arith, mode_bits_small, one-le k.erri, one-le k.wkui))

  below_txm : mode_bits k.mode + e * 4 + w * 8 + s * 16 < 32
  below_txm = omega (arith, mode_bits_small, one-le k.erri, one-le k.wkui, one-le k.slaki)

  pub msr-txm : bit 8 (msr_word k free) ≡ not free
  unfolding msr_word
  msr-txm = flag-bit 8 (msr_word k free) 6 (mode_bits k.mode + e * 4 + w * 8 + s * 16) (not free) (omega arith) (omega (arith, below_txm))

  -- RXM reads 0, SAMP and RX read 1, and there is nothing else
  pub msr-rest : (bits 5 3 (msr_word k free) ≡ 0) × (msr_word k free / 2 ^ 9 ≡ 6)
  unfolding msr_word
  msr-rest = (omega (arith, below_txm, one-le (not free)), omega (arith, below_txm, one-le (not free)))

-- ---- RFxR

module _ (q : FifoState) where
  pub rfr-fmp : q.count ≤ 3 → bits 0 2 (rfr_word q) ≡ q.count
  unfolding rfr_word
  rfr-fmp l = omega arith

  pub rfr-full : q.count ≤ 3 → bit 3 (rfr_word q) ≡ q.full
  unfolding rfr_word
  rfr-full l = flag-bit 3 (rfr_word q) (one q.fovr) q.count q.full (omega arith) (omega arith)

  pub rfr-fovr : q.count ≤ 3 → bit 4 (rfr_word q) ≡ q.fovr
  unfolding rfr_word
  rfr-fovr l = flag-bit 4 (rfr_word q) 0 (q.count + one q.full * 8) q.fovr (omega arith) (omega (arith, one-le q.full))

-- ---- ESR

module _ (x : Errors) where
  pub esr-ewgf : bit 0 (esr_word x) ≡ ewgf x
  unfolding esr_word
  esr-ewgf = flag-bit 0 (esr_word x) (one (epvf x) + one (boff x) * 2 + x.lec * 8 + x.tec % 256 * 2 ^ 15 + x.rec * 2 ^ 23) 0 (ewgf x) (omega arith) (omega arith)

  pub esr-epvf : bit 1 (esr_word x) ≡ epvf x
  unfolding esr_word
  esr-epvf = flag-bit 1 (esr_word x) (one (boff x) + x.lec * 4 + x.tec % 256 * 2 ^ 14 + x.rec * 2 ^ 22) (one (ewgf x)) (epvf x) (omega arith) (omega (arith, one-le (ewgf x)))

  pub esr-boff : bit 2 (esr_word x) ≡ boff x
  unfolding esr_word
  esr-boff = flag-bit 2 (esr_word x) (x.lec * 2 + x.tec % 256 * 2 ^ 13 + x.rec * 2 ^ 21) (one (ewgf x) + one (epvf x) * 2) (boff x) (omega arith) (omega (arith, one-le (ewgf x), one-le (epvf x)))

  below_lec : one (ewgf x) + one (epvf x) * 2 + one (boff x) * 4 < 16
  below_lec = omega (arith, one-le (ewgf x), one-le (epvf x), one-le (boff x))

  pub esr-lec : x.lec ≤ 7 → bits 4 3 (esr_word x) ≡ x.lec
  unfolding esr_word
  esr-lec l = field 16 8 _ (x.tec % 256 * 2 ^ 9 + x.rec * 2 ^ 17) x.lec (one (ewgf x) + one (epvf x) * 2 + one (boff x) * 4) (omega arith) below_lec (omega arith)

  pub esr-tec : x.lec ≤ 7 → bits 16 8 (esr_word x) ≡ x.tec % 256
  unfolding esr_word
  esr-tec l = field (2 ^ 16) 256 _ x.rec (x.tec % 256) (one (ewgf x) + one (epvf x) * 2 + one (boff x) * 4 + x.lec * 16) (omega arith) (omega (arith, below_lec)) (omega arith)

  pub esr-rec : x.lec ≤ 7 → x.rec ≤ 255 → bits 24 8 (esr_word x) ≡ x.rec
  unfolding esr_word
  esr-rec l r = field (2 ^ 24) 256 _ 0 x.rec (one (ewgf x) + one (epvf x) * 2 + one (boff x) * 4 + x.lec * 16 + x.tec % 256 * 2 ^ 16) (omega arith) (omega (arith, below_lec)) (omega arith)
