-- Modes, error counters, the timer, and the registers MCR, MSR, IER, BTR, ESR.
-- Document 01: "Register map", "Modes", "Bus events".
use Rattle.std.specs.Prelude.{Bool, true, false, not, ◌&&◌, ◌||◌, ℕ, ◌+◌, ◌*◌, ◌-◌, ◌%◌, ◌^◌, eqb, ltb, leb}
use Rattle.base.specs.Base.{pick, bit, bits, one}
use Rattle.model.specs.declared.Mode.{Mode}
use Rattle.model.specs.declared.Mode.TheVariants.{Sleep, Initialization, Normal}
use Rattle.model.specs.declared.Control.{Control}
use Rattle.model.specs.declared.Errors.{Errors}

-- ---- bits by name

abbrev pub inrq : Control → Bool
inrq k = bit 0 k.mcr

abbrev pub sleep : Control → Bool
sleep k = bit 1 k.mcr

abbrev pub txfp : Control → Bool
txfp k = bit 2 k.mcr

abbrev pub rflm : Control → Bool
rflm k = bit 3 k.mcr

abbrev pub nart : Control → Bool
nart k = bit 4 k.mcr

abbrev pub awum : Control → Bool
awum k = bit 5 k.mcr

abbrev pub abom : Control → Bool
abom k = bit 6 k.mcr

abbrev pub ttcm : Control → Bool
ttcm k = bit 7 k.mcr

abbrev pub lbkm : Control → Bool
lbkm k = bit 30 k.btr

abbrev pub silm : Control → Bool
silm k = bit 31 k.btr

abbrev pub is_sleep : Mode → Bool
is_sleep Sleep = true
is_sleep Initialization = false
is_sleep Normal = false

abbrev pub is_initialization : Mode → Bool
is_initialization Sleep = false
is_initialization Initialization = true
is_initialization Normal = false

abbrev pub is_normal : Mode → Bool
is_normal Sleep = false
is_normal Initialization = false
is_normal Normal = true

-- the mode as MSR shows it: INAK and SLAK
abbrev pub mode_bits : Mode → ℕ
mode_bits Normal = 0
mode_bits Initialization = 1
mode_bits Sleep = 2

-- ---- error state ("Bus events", last paragraph)

abbrev pub ewgf : Errors → Bool
ewgf e = leb 96 e.tec || leb 96 e.rec

abbrev pub epvf : Errors → Bool
epvf e = ltb 127 e.tec || ltb 127 e.rec

abbrev pub boff : Errors → Bool
boff e = ltb 255 e.tec

-- ---- "Modes"

-- after an accepted step with no own frame on the wire; both bits set: stay; both clear: only an idle event leads to Normal
unfoldable pub mode_next : Mode → Bool → Bool → Mode
mode_next Normal init slp = pick (init && not slp) Initialization (pick (slp && not init) Sleep Normal)
mode_next Initialization init slp = pick (slp && not init) Sleep Initialization
mode_next Sleep init slp = pick (init && not slp) Initialization Sleep

-- into a mode; off: in bus-off. Entering Sleep sets SLAKI if SLKIE, leaving it clears SLAKI;
-- entering Initialization zeroes the recovery count, and in bus-off lets the recovery begin
unfoldable pub entered : Control → Mode → Bool → Control
entered k m off = record {
  mcr = k.mcr;
  ier = k.ier;
  btr = k.btr;
  timer = k.timer;
  mode = m;
  recovery = pick (is_initialization m && not (is_initialization k.mode)) 0 k.recovery;
  reinitialized = k.reinitialized || (is_initialization m && not (is_initialization k.mode) && off);
  erri = k.erri;
  wkui = k.wkui;
  slaki = pick (is_sleep m) (k.slaki || (not (is_sleep k.mode) && bit 17 k.ier)) (k.slaki && not (is_sleep k.mode));
}

-- free: no own frame on the wire
unfoldable pub settled : Control → Bool → Bool → Control
settled k free off = pick free (entered k (mode_next k.mode (inrq k) (sleep k)) off) k

-- ---- hardware reset and master reset ("Register map")

unfoldable pub control_reset : Control
control_reset = record {
  mcr = 0x00010002;
  ier = 0;
  btr = 0x01230000;
  timer = 0;
  mode = Sleep;
  recovery = 0;
  reinitialized = false;
  erri = false;
  wkui = false;
  slaki = false;
}

-- MCR with bit 15 set: IER, BTR and the fact that Initialization was entered since bus-off stay
unfoldable pub master_reset : Control → Control
master_reset k = record {
  mcr = 0x00010002;
  ier = k.ier;
  btr = k.btr;
  timer = 0;
  mode = Sleep;
  recovery = 0;
  reinitialized = k.reinitialized;
  erri = false;
  wkui = false;
  slaki = false;
}

-- ---- register writes: the bits 0x000100FF, 0x00038F7F, 0xC37F03FF

abbrev pub mcr_masked : ℕ → ℕ
mcr_masked w = bits 16 1 w * 65536 + w % 256

abbrev pub ier_masked : ℕ → ℕ
ier_masked w = bits 15 3 w * 32768 + bits 8 4 w * 256 + w % 128

abbrev pub btr_masked : ℕ → ℕ
btr_masked w = bits 30 2 w * 2 ^ 30 + bits 24 2 w * 2 ^ 24 + bits 16 7 w * 65536 + w % 1024

abbrev pub with_words : Control → ℕ → ℕ → ℕ → ℕ → Control
with_words k m i b t = record { mcr = m; ier = i; btr = b; timer = t; mode = k.mode; recovery = k.recovery; reinitialized = k.reinitialized; erri = k.erri; wkui = k.wkui; slaki = k.slaki }

abbrev pub with_flags : Control → Bool → Bool → Bool → Control
with_flags k e w s = record { mcr = k.mcr; ier = k.ier; btr = k.btr; timer = k.timer; mode = k.mode; recovery = k.recovery; reinitialized = k.reinitialized; erri = e; wkui = w; slaki = s }

-- while TTCM=0 the timer is 0
unfoldable pub mcr_written : Control → ℕ → Control
mcr_written k w = with_words k (mcr_masked w) k.ier k.btr (pick (bit 7 w) k.timer 0)

unfoldable pub msr_written : Control → ℕ → Control
msr_written k w = with_flags k (k.erri && not (bit 2 w)) (k.wkui && not (bit 3 w)) (k.slaki && not (bit 4 w))

unfoldable pub ier_written : Control → ℕ → Control
ier_written k w = with_words k k.mcr (ier_masked w) k.btr k.timer

unfoldable pub btr_written : Control → ℕ → Control
btr_written k w = with_words k k.mcr k.ier (btr_masked w) k.timer

-- LEC becomes 7 if the bits written are 7, else it stays
unfoldable pub esr_written : Errors → ℕ → Errors
esr_written e w = record { tec = e.tec; rec = e.rec; lec = pick (eqb (bits 4 3 w) 7) 7 e.lec }

-- ---- register reads

-- INAK, SLAK, ERRI, WKUI, SLAKI; TXM with an own frame on the wire; RX and SAMP read 1
unfoldable pub msr_word : Control → Bool → ℕ
msr_word k free =
    mode_bits k.mode + one k.erri * 4 + one k.wkui * 8 + one k.slaki * 16 + one (not free) * 256 + 0xC00

-- EWGF, EPVF, BOFF, LEC, the low byte of TEC, REC
unfoldable pub esr_word : Errors → ℕ
esr_word e = one (ewgf e) + one (epvf e) * 2 + one (boff e) * 4 + e.lec * 16 + e.tec % 256 * 2 ^ 16 + e.rec * 2 ^ 24

-- ERRIE, WKUIE, SLKIE with their flags
unfoldable pub status_line : Control → Bool
status_line k = (bit 15 k.ier && k.erri) || (bit 16 k.ier && k.wkui) || (bit 17 k.ier && k.slaki)

-- ---- "Bus events"

abbrev pub less_one : ℕ → ℕ
less_one n = n - 1

-- idle: it counts in bus-off and Normal, with ABOM=1 or Initialization entered since bus-off; the 128th ends bus-off
unfoldable pub idle_counts : Control → Errors → Bool
idle_counts k e = boff e && is_normal k.mode && (abom k || k.reinitialized)

unfoldable pub recovers : Control → Errors → Bool
recovers k e = idle_counts k e && leb 127 k.recovery

unfoldable pub counted : Control → Errors → Control
counted k e = record {
  mcr = k.mcr;
  ier = k.ier;
  btr = k.btr;
  timer = k.timer;
  mode = k.mode;
  recovery = pick (recovers k e) 0 (pick (idle_counts k e) ((k.recovery + 1) % 2 ^ 8) k.recovery);
  reinitialized = k.reinitialized && not (recovers k e);
  erri = k.erri;
  wkui = k.wkui;
  slaki = k.slaki;
}

-- Sleep or Initialization with both request bits clear goes to Normal
unfoldable pub idle_mode : Mode → ℕ → Mode
idle_mode m mcr = pick (eqb (mcr % 4) 0) Normal m

unfoldable pub idled : Control → Errors → Control
idled k e = entered (counted k e) (idle_mode k.mode k.mcr) (boff e)

unfoldable pub idle_errors : Control → Errors → Errors
idle_errors k e = record { tec = pick (recovers k e) 0 e.tec; rec = pick (recovers k e) 0 e.rec; lec = e.lec }

-- bit times: in Normal with TTCM=1 the timer adds n; after 65535 it reads 0
unfoldable pub ticked : Control → ℕ → Control
ticked k n = with_words k k.mcr k.ier k.btr (pick (is_normal k.mode && ttcm k) ((k.timer + n) % 65536) k.timer)

-- activity: WKUI=1; AWUM=1 clears SLEEP
abbrev pub sleep_cleared : ℕ → ℕ
sleep_cleared mcr = pick (bit 1 mcr) (mcr - 2) mcr

unfoldable pub woken : Control → Control
woken k = with_flags (with_words k (pick (awum k) (sleep_cleared k.mcr) k.mcr) k.ier k.btr k.timer) k.erri true k.slaki

-- own end: good, TEC one less if not 0 and LEC=0; lost, neither; error, TEC plus 8 and LEC its code. 02, Q-4: 8 is an error that
-- leaves TEC, with the code of 3. TEC is at most 263 in any state that is reached, so that the remainder changes nothing
unfoldable pub outcome_errors : Errors → ℕ → Errors
outcome_errors e r =
    pick (eqb r 0) (record { tec = less_one e.tec; rec = e.rec; lec = 0 })
    (pick (eqb r 7) e
    (pick (eqb r 8) (record { tec = e.tec; rec = e.rec; lec = 3 })
    (record { tec = (e.tec + 8) % 65536; rec = e.rec; lec = r })))

-- a frame from the bus: REC above 128 becomes 120, else one less if not 0; LEC=0
unfoldable pub received_errors : Errors → Errors
received_errors e = record { tec = e.tec; rec = pick (ltb 128 e.rec) 120 (less_one e.rec); lec = 0 }

-- a receive error: REC plus the step, at most 255
unfoldable pub rec_plus : ℕ → ℕ → ℕ
rec_plus x n = pick (ltb (255 - n) x) 255 (x + n)

unfoldable pub receive_error_counters : Errors → ℕ → ℕ → Errors
receive_error_counters e k n = record { tec = e.tec; rec = rec_plus e.rec n; lec = k }

-- the counters go from e to d; coded: the event puts 1 to 6 in LEC. ERRI is set when EWGF, EPVF or BOFF rises with its
-- enable set, or with LECIE by the code; bus-off zeroes the recovery count, and Initialization was not entered since
unfoldable pub errors_changed : Control → Errors → Errors → Bool → Control
errors_changed k e d coded = record {
  mcr = k.mcr;
  ier = k.ier;
  btr = k.btr;
  timer = k.timer;
  mode = k.mode;
  recovery = pick (boff d) 0 k.recovery;
  reinitialized = k.reinitialized && not (boff d);
  erri = k.erri
      || (bit 8 k.ier && ewgf d && not (ewgf e))
      || (bit 9 k.ier && epvf d && not (epvf e))
      || (bit 10 k.ier && boff d && not (boff e))
      || (bit 11 k.ier && coded);
  wkui = k.wkui;
  slaki = k.slaki;
}
