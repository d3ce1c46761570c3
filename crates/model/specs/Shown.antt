-- What register reads show of a controller, and the words in which the laws of single steps are said.
-- Document 01: "Register map", "Bench script" (tags). Bit places are those of 000.
use Rattle.std.specs.Prelude.{Bool, false, not, ◌&&◌, ◌||◌, ◌≡◌, ℕ, ◌+◌, ◌*◌, eqb, leb}
use Rattle.base.specs.Base.{pick, bit, bits}
use Rattle.model.specs.Queue.{number}
use Rattle.model.specs.Step.{step}
use Rattle.model.specs.Script.{step_tag}
use Rattle.model.specs.declared.Mailbox.{Mailbox}
use Rattle.model.specs.declared.Fifo.{Fifo}
use Rattle.model.specs.declared.Fifo.TheVariants.{F0, F1}
use Rattle.model.specs.declared.Bank.{Bank}
use Rattle.model.specs.declared.Controller.{Controller}
use Rattle.model.specs.declared.Step as steps
use Rattle.model.specs.declared.Step.TheVariants.{Reset, Read, Write, Idle, BitTimes, Activity, Start, Outcome, Receive, ReceiveError}

-- ---- words

abbrev pub fifo_number : Fifo → ℕ
fifo_number F0 = 0
fifo_number F1 = 1

-- the word that a read of the register at an offset gives
abbrev pub shown : Controller → ℕ → ℕ
shown z o = (step z (Read o)).word

abbrev pub mcr : Controller → ℕ
mcr z = shown z 0x000

abbrev pub msr : Controller → ℕ
msr z = shown z 0x004

abbrev pub tsr : Controller → ℕ
tsr z = shown z 0x008

abbrev pub rfr : Fifo → Controller → ℕ
rfr f z = shown z (0x00C + 4 * fifo_number f)

abbrev pub ier : Controller → ℕ
ier z = shown z 0x014

abbrev pub esr : Controller → ℕ
esr z = shown z 0x018

abbrev pub btr : Controller → ℕ
btr z = shown z 0x01C

abbrev pub fmr : Controller → ℕ
fmr z = shown z 0x200

abbrev pub fm1r : Controller → ℕ
fm1r z = shown z 0x204

abbrev pub fs1r : Controller → ℕ
fs1r z = shown z 0x20C

abbrev pub ffa1r : Controller → ℕ
ffa1r z = shown z 0x214

abbrev pub fa1r : Controller → ℕ
fa1r z = shown z 0x21C

-- a FIFO's output: RI, RDT, RDL, RDH
abbrev pub ri : Fifo → Controller → ℕ
ri f z = shown z (0x1B0 + 0x10 * fifo_number f)

abbrev pub rdt : Fifo → Controller → ℕ
rdt f z = shown z (0x1B4 + 0x10 * fifo_number f)

abbrev pub rdl : Fifo → Controller → ℕ
rdl f z = shown z (0x1B8 + 0x10 * fifo_number f)

abbrev pub rdh : Fifo → Controller → ℕ
rdh f z = shown z (0x1BC + 0x10 * fifo_number f)

-- a mailbox: TI, TDT, TDL, TDH
abbrev pub ti : Mailbox → Controller → ℕ
ti m z = shown z (0x180 + 0x10 * number m)

abbrev pub tdt : Mailbox → Controller → ℕ
tdt m z = shown z (0x184 + 0x10 * number m)

abbrev pub tdl : Mailbox → Controller → ℕ
tdl m z = shown z (0x188 + 0x10 * number m)

abbrev pub tdh : Mailbox → Controller → ℕ
tdh m z = shown z (0x18C + 0x10 * number m)

-- ---- bits

-- MCR
abbrev pub inrq : Controller → Bool
inrq z = bit 0 (mcr z)

abbrev pub sleep : Controller → Bool
sleep z = bit 1 (mcr z)

abbrev pub txfp : Controller → Bool
txfp z = bit 2 (mcr z)

abbrev pub rflm : Controller → Bool
rflm z = bit 3 (mcr z)

abbrev pub nart : Controller → Bool
nart z = bit 4 (mcr z)

abbrev pub awum : Controller → Bool
awum z = bit 5 (mcr z)

abbrev pub abom : Controller → Bool
abom z = bit 6 (mcr z)

abbrev pub ttcm : Controller → Bool
ttcm z = bit 7 (mcr z)

-- MSR
abbrev pub inak : Controller → Bool
inak z = bit 0 (msr z)

abbrev pub slak : Controller → Bool
slak z = bit 1 (msr z)

abbrev pub erri : Controller → Bool
erri z = bit 2 (msr z)

abbrev pub wkui : Controller → Bool
wkui z = bit 3 (msr z)

abbrev pub slaki : Controller → Bool
slaki z = bit 4 (msr z)

abbrev pub txm : Controller → Bool
txm z = bit 8 (msr z)

-- INAK and SLAK: 0 Normal, 1 Initialization, 2 Sleep
abbrev pub mode : Controller → ℕ
mode z = bits 0 2 (msr z)

-- INAK=0 and SLAK=0
abbrev pub in_normal : Controller → Bool
in_normal z = not (inak z) && not (slak z)

-- TSR: bit k of the byte of mailbox m
abbrev pub status_bit : ℕ → Mailbox → Controller → Bool
status_bit k m z = bit (8 * number m + k) (tsr z)

abbrev pub rqcp : Mailbox → Controller → Bool
rqcp = status_bit 0

abbrev pub txok : Mailbox → Controller → Bool
txok = status_bit 1

abbrev pub alst : Mailbox → Controller → Bool
alst = status_bit 2

abbrev pub terr : Mailbox → Controller → Bool
terr = status_bit 3

abbrev pub abrq : Mailbox → Controller → Bool
abrq = status_bit 7

-- TSR: CODE, and TME and LOW of mailbox m
abbrev pub code : Controller → ℕ
code z = bits 24 2 (tsr z)

abbrev pub tme : Mailbox → Controller → Bool
tme m z = bit (26 + number m) (tsr z)

abbrev pub low : Mailbox → Controller → Bool
low m z = bit (29 + number m) (tsr z)

-- RFxR
abbrev pub fmp : Fifo → Controller → ℕ
fmp f z = bits 0 2 (rfr f z)

abbrev pub full : Fifo → Controller → Bool
full f z = bit 3 (rfr f z)

abbrev pub fovr : Fifo → Controller → Bool
fovr f z = bit 4 (rfr f z)

-- IER
abbrev pub tmeie : Controller → Bool
tmeie z = bit 0 (ier z)

abbrev pub ewgie : Controller → Bool
ewgie z = bit 8 (ier z)

abbrev pub epvie : Controller → Bool
epvie z = bit 9 (ier z)

abbrev pub bofie : Controller → Bool
bofie z = bit 10 (ier z)

abbrev pub lecie : Controller → Bool
lecie z = bit 11 (ier z)

abbrev pub errie : Controller → Bool
errie z = bit 15 (ier z)

abbrev pub wkuie : Controller → Bool
wkuie z = bit 16 (ier z)

abbrev pub slkie : Controller → Bool
slkie z = bit 17 (ier z)

-- ESR
abbrev pub ewgf : Controller → Bool
ewgf z = bit 0 (esr z)

abbrev pub epvf : Controller → Bool
epvf z = bit 1 (esr z)

abbrev pub boff : Controller → Bool
boff z = bit 2 (esr z)

abbrev pub lec : Controller → ℕ
lec z = bits 4 3 (esr z)

abbrev pub rec : Controller → ℕ
rec z = bits 24 8 (esr z)

-- BTR
abbrev pub lbkm : Controller → Bool
lbkm z = bit 30 (btr z)

abbrev pub silm : Controller → Bool
silm z = bit 31 (btr z)

-- FMR
abbrev pub finit : Controller → Bool
finit z = bit 0 (fmr z)

-- FA1R: the bank is active
abbrev pub fact : Bank → Controller → Bool
fact b z = bit b.0 (fa1r z)

-- ---- two numbers that no register shows whole

-- TEC has nine bits, and ESR shows the low eight
abbrev pub tec : Controller → ℕ
tec z = z.core.errors.tec

-- TIME of the next frame that is received or started
abbrev pub timer : Controller → ℕ
timer z = z.core.control.timer

-- ---- steps

-- the step is accepted: code 0
abbrev pub Done : Controller → steps.Step → Type 0
Done z s = (step z s).code ≡ 0

abbrev pub is_done : Controller → steps.Step → Bool
is_done z s = eqb (step z s).code 0

-- the controller after the step
abbrev pub next_of : Controller → steps.Step → Controller
next_of z s = (step z s).controller

-- the step is a write whose offset and word meet p
abbrev pub writes : (ℕ → ℕ → Bool) → steps.Step → Bool
writes p Reset = false
writes p (Read o) = false
writes p (Write o w) = p o w
writes p Idle = false
writes p (BitTimes n) = false
writes p Activity = false
writes p Start = false
writes p (Outcome r) = false
writes p (Receive x) = false
writes p (ReceiveError k n) = false

-- the step writes 1 to bit i of the register at offset o
abbrev pub writes_one : ℕ → ℕ → steps.Step → Bool
writes_one o i = writes (λ p w. eqb p o && bit i w)

-- which step it is, by the tag of its record ("Bench script")
abbrev pub is_hardware_reset : steps.Step → Bool
is_hardware_reset s = eqb (step_tag s) 0x01

abbrev pub is_read : steps.Step → Bool
is_read s = eqb (step_tag s) 0x02

abbrev pub is_idle : steps.Step → Bool
is_idle s = eqb (step_tag s) 0x04

abbrev pub is_activity : steps.Step → Bool
is_activity s = eqb (step_tag s) 0x06

abbrev pub is_start : steps.Step → Bool
is_start s = eqb (step_tag s) 0x07

abbrev pub is_outcome : steps.Step → Bool
is_outcome s = eqb (step_tag s) 0x08

-- what the result of an own end says: an error, 1 to 6 or 8 (02, Q-4); and the code that it has in LEC
abbrev pub is_error_result : ℕ → Bool
is_error_result r = (leb 1 r && leb r 6) || eqb r 8

abbrev pub result_code : ℕ → ℕ
result_code r = pick (eqb r 8) 3 r

-- the bit times that the step says
abbrev pub bit_times : steps.Step → ℕ
bit_times Reset = 0
bit_times (Read o) = 0
bit_times (Write o w) = 0
bit_times Idle = 0
bit_times (BitTimes n) = n
bit_times Activity = 0
bit_times Start = 0
bit_times (Outcome r) = 0
bit_times (Receive x) = 0
bit_times (ReceiveError k n) = 0

-- a reset of either kind: a hardware reset, or MCR written with bit 15 set
abbrev pub resets : steps.Step → Bool
resets s = is_hardware_reset s || writes_one 0x000 15 s
