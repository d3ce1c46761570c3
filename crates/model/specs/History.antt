-- What a FIFO holds, the timer and TIME, the error counters and the recovery count, worked out from the history of steps: from the
-- steps, their codes, a start's word and what registers read before and after a step. No field of the state goes in.
-- Document 01: "How far each contract reaches" (FMP, TEC and idle counts are tied to stored frames and events).
use Rattle.std.specs.Prelude.{Bool, false, not, ◌&&◌, ◌||◌, List, [], ◌∷◌, ◌++◌, ◌≡◌, ℕ, zero, suc, ◌+◌, ◌-◌, ◌*◌, ◌/◌, ◌%◌, eqb, ltb, length, take, Option, Some, None}
use Rattle.base.specs.Base.{pick, bit, bits}
use Rattle.model.specs.Queue.{number}
use Rattle.model.specs.Mailboxes.{sent_identifier}
use Rattle.model.specs.Search.{acceptance}
use Rattle.model.specs.Reception.{stored_frame}
use Rattle.model.specs.Registers.{bank_count}
use Rattle.model.specs.Step.{step}
use Rattle.model.specs.Requests.{Requests, none_yet, next, event, entry, after}
use Rattle.model.specs.Shown.{shown, esr, fm1r, fs1r, ffa1r, fa1r, ri, rdt, rdl, rdh, ti, tdt, tdl, tdh, rflm, abom, ttcm, inak, in_normal, fmp, boff, lec, rec, lbkm, finit, tec, timer, is_done, next_of, result_code, bit_times, resets, fifo_number}
use Rattle.model.specs.declared.Mailbox.{Mailbox}
use Rattle.model.specs.declared.Fifo.{Fifo}
use Rattle.model.specs.declared.StoredFrame.{StoredFrame}
use Rattle.model.specs.declared.Frame.{Frame}
use Rattle.model.specs.declared.Filters.{Filters}
use Rattle.model.specs.declared.Controller.{Controller}
use Rattle.model.specs.declared.Step as steps
use Rattle.model.specs.declared.Step.TheVariants.{Reset, Read, Write, Idle, BitTimes, Activity, Start, Outcome, Receive, ReceiveError}
use Rattle.model.specs.declared.FilterNumber.{FilterNumber}

-- the words of n registers from an offset on
unfoldable pub words_from : Controller → ℕ → ℕ → List ℕ
words_from z o zero = []
words_from z o (suc n) = shown z o ∷ words_from z (o + 4) n

-- ---- the timer

-- in Normal with TTCM=1 it adds the bit times; after 65535 it reads 0; while TTCM=0 it is 0
abbrev pub timer_next : ℕ → Controller → steps.Step → ℕ
timer_next t z s = pick (ttcm (next_of z s)) (pick (is_done z s && in_normal z) ((t + bit_times s) % 65536) t) 0

unfoldable pub timer_from : ℕ → Controller → List steps.Step → ℕ
timer_from t z [] = t
timer_from t z (s ∷ l) = timer_from (timer_next t z s) (next_of z s) l

-- ---- the TIME of a mailbox: what TDT was written with, and from a start on the timer; a start's word is the mailbox

-- t: the timer
abbrev pub time_after : Mailbox → ℕ → ℕ → steps.Step → ℕ → ℕ
time_after m x t Reset word = 0
time_after m x t (Read o) word = x
time_after m x t (Write o w) word = pick (eqb o (0x184 + 0x10 * number m)) (bits 16 16 w) x
time_after m x t Idle word = x
time_after m x t (BitTimes n) word = x
time_after m x t Activity word = x
time_after m x t Start word = pick (eqb word (number m)) t x
time_after m x t (Outcome r) word = x
time_after m x t (Receive y) word = x
time_after m x t (ReceiveError k n) word = x

abbrev pub time_next : Mailbox → ℕ → ℕ → Controller → steps.Step → ℕ
time_next m x t z s = pick (is_done z s) (time_after m x t s (step z s).word) x

unfoldable pub time_from : Mailbox → ℕ → ℕ → Controller → List steps.Step → ℕ
time_from m x t z [] = x
time_from m x t z (s ∷ l) = time_from m (time_next m x t z s) (timer_next t z s) (next_of z s) l

-- ---- the frames that wait in a FIFO

-- where the filters send a frame with this identifier word: FM1R, FS1R, FFA1R, FA1R, FINIT, and R1 and R2 of each bank as they read
abbrev pub filters_shown : Controller → Filters
filters_shown z = record { mode = fm1r z; scale = fs1r z; assignment = ffa1r z; activation = fa1r z; finit = finit z }

abbrev pub filtered : Controller → ℕ → Option (Fifo × FilterNumber)
filtered z w = acceptance bank_count (filters_shown z) (words_from z 0x240 (2 * bank_count)) w

-- what mailbox m sends: TI without TXRQ, TDT, TDL, TDH
abbrev pub frame_in : Controller → Mailbox → Frame
frame_in z m = record {
  identifier = sent_identifier (ti m z / 2 * 2);
  low = tdl m z;
  high = tdh m z;
  length = bits 0 4 (tdt m z);
}

-- what an accepted step means to a FIFO; an arriving frame comes with RFLM
pub data Traffic : Type 0 where
  none : Traffic
  empties : Traffic
  releases : Traffic
  arrives : StoredFrame → Bool → Traffic

abbrev pub same_fifo : Fifo → Fifo → Bool
same_fifo f g = eqb (fifo_number f) (fifo_number g)

-- a frame arrives where the filters send it, and nowhere else
abbrev pub arrival : Fifo → Option (Fifo × FilterNumber) → Frame → ℕ → Bool → Traffic
arrival f (Some (g, n)) x time locked = pick (same_fifo f g) (arrives (stored_frame x n time) locked) none
arrival f None x time locked = none

-- MCR with bit 15 set; RFxR with RFOM
abbrev pub write_traffic : Fifo → ℕ → ℕ → Traffic
write_traffic f o w = pick (resets (Write o w)) empties (pick (eqb o (0x00C + 4 * fifo_number f) && bit 5 w) releases none)

-- a good end with LBKM=1 and FINIT=0: the frame of the mailbox on the wire arrives, with the mailbox's TIME
abbrev pub end_traffic : Fifo → Option Mailbox → Controller → ℕ → Traffic
end_traffic f None z r = none
end_traffic f (Some m) z r =
    pick (eqb r 0 && lbkm z && not (finit z))
    (arrival f (filtered z (frame_in z m).identifier) (frame_in z m) (tdt m z / 65536) (rflm z))
    none

-- t: the timer; v: the mailbox on the wire
abbrev pub step_traffic : Fifo → ℕ → Option Mailbox → Controller → steps.Step → Traffic
step_traffic f t v z Reset = empties
step_traffic f t v z (Read o) = none
step_traffic f t v z (Write o w) = write_traffic f o w
step_traffic f t v z Idle = none
step_traffic f t v z (BitTimes n) = none
step_traffic f t v z Activity = none
step_traffic f t v z Start = none
step_traffic f t v z (Outcome r) = end_traffic f v z r
step_traffic f t v z (Receive x) = arrival f (filtered z x.identifier) x t (rflm z)
step_traffic f t v z (ReceiveError k n) = none

abbrev pub traffic : Fifo → ℕ → Option Mailbox → Controller → steps.Step → Traffic
traffic f t v z s = pick (is_done z s) (step_traffic f t v z s) none

-- a release drops the oldest; a fourth frame replaces the newest, or is dropped with RFLM=1
abbrev pub without_oldest : List StoredFrame → List StoredFrame
without_oldest [] = []
without_oldest (x ∷ l) = l

abbrev pub waiting_next : List StoredFrame → Traffic → List StoredFrame
waiting_next l none = l
waiting_next l empties = []
waiting_next l releases = without_oldest l
waiting_next l (arrives x locked) = pick (ltb (length l) 3) (l ++ x ∷ []) (pick locked l (take 2 l ++ x ∷ []))

-- the frames that wait after a list of steps, the oldest first; before it the frames l wait, the timer is t, and b is what the
-- observer of the requests knows: the mailbox on the wire
unfoldable pub waiting_from : Fifo → List StoredFrame → ℕ → Requests → Controller → List steps.Step → List StoredFrame
waiting_from f l t b z [] = l
waiting_from f l t b z (s ∷ r) =
    waiting_from f (waiting_next l (traffic f t b.transmitting z s)) (timer_next t z s) (next b (event (entry s (step z s)))) (next_of z s) r

-- what the output shows: the oldest frame, zeros where none waits
abbrev pub oldest_frame : List StoredFrame → StoredFrame
oldest_frame [] = record { ri = 0; rdt = 0; rdl = 0; rdh = 0 }
oldest_frame (x ∷ l) = x

-- ---- the error counters and the recovery count

-- tec: TEC, also above 255; idles: the idle events that have counted; reinitialized: Initialization entered since bus-off
pub record ErrorCounts : Type 0 where
  pub tec : ℕ
  pub rec : ℕ
  pub lec : ℕ
  pub idles : ℕ
  pub reinitialized : Bool

abbrev pub no_errors : ErrorCounts
no_errors = record { tec = 0; rec = 0; lec = 0; idles = 0; reinitialized = false }

-- BOFF: TEC above 255
abbrev pub is_bus_off : ErrorCounts → Bool
is_bus_off a = ltb 255 a.tec

-- what the counting sees of a step beside the step itself
pub record Seen : Type 0 where
  -- its code is 0
  pub done : Bool
  -- before it MCR has ABOM=1, and MSR has INAK=0 and SLAK=0
  pub abom : Bool
  pub normal : Bool
  -- INAK=0 before it, INAK=1 after it
  pub enters : Bool

abbrev pub seen : Controller → steps.Step → Seen
seen z s = record {
  done = is_done z s;
  abom = abom z;
  normal = in_normal z;
  enters = not (inak z) && inak (next_of z s);
}

-- TEC becomes t
abbrev pub starts_bus_off : ErrorCounts → ℕ → Bool
starts_bus_off a t = not (is_bus_off a) && ltb 255 t

-- TEC, REC and LEC become t, r and l. Bus-off zeroes the count, and Initialization has not been entered since
abbrev pub counters_become : ErrorCounts → ℕ → ℕ → ℕ → ErrorCounts
counters_become a t r l = record {
  tec = t;
  rec = r;
  lec = l;
  idles = pick (starts_bus_off a t) 0 a.idles;
  reinitialized = a.reinitialized && not (starts_bus_off a t);
}

-- MCR with bit 15 set: recovery count 0, the rest stays, also whether Initialization was entered. ESR: LEC becomes 7 if the bits written are 7
abbrev pub write_counted : ErrorCounts → ℕ → ℕ → ErrorCounts
write_counted a o w = record {
  tec = a.tec;
  rec = a.rec;
  lec = pick (eqb o 0x018 && eqb (bits 4 3 w) 7) 7 a.lec;
  idles = pick (resets (Write o w)) 0 a.idles;
  reinitialized = a.reinitialized;
}

-- in bus-off and Normal, with ABOM=1 or Initialization entered since bus-off, an idle event counts one; at 128 the count, TEC and REC become 0
abbrev pub is_counted : ErrorCounts → Seen → Bool
is_counted a v = is_bus_off a && v.normal && (v.abom || a.reinitialized)

abbrev pub is_last : ErrorCounts → Seen → Bool
is_last a v = is_counted a v && eqb (a.idles + 1) 128

abbrev pub idle_counted : ErrorCounts → Seen → ErrorCounts
idle_counted a v = record {
  tec = pick (is_last a v) 0 a.tec;
  rec = pick (is_last a v) 0 a.rec;
  lec = a.lec;
  idles = pick (is_last a v) 0 (pick (is_counted a v) (a.idles + 1) a.idles);
  reinitialized = a.reinitialized && not (is_last a v);
}

-- good: TEC one less if not 0, LEC=0; lost (7): neither; error: TEC plus 8, but not with 8 (02, Q-4), and LEC its code
abbrev pub end_counted : ErrorCounts → ℕ → ErrorCounts
end_counted a r =
    counters_become a (pick (eqb r 0) (a.tec - 1) (pick (eqb r 7 || eqb r 8) a.tec (a.tec + 8))) a.rec (pick (eqb r 7) a.lec (result_code r))

-- an accepted step, before the mode rule
abbrev pub step_counted : ErrorCounts → Seen → steps.Step → ErrorCounts
step_counted a v Reset = no_errors
step_counted a v (Read o) = a
step_counted a v (Write o w) = write_counted a o w
step_counted a v Idle = idle_counted a v
step_counted a v (BitTimes n) = a
step_counted a v Activity = a
step_counted a v Start = a
step_counted a v (Outcome r) = end_counted a r
step_counted a v (Receive x) = counters_become a a.tec (pick (ltb 128 a.rec) 120 (a.rec - 1)) 0
step_counted a v (ReceiveError k n) = counters_become a a.tec (pick (ltb 255 (a.rec + n)) 255 (a.rec + n)) k

-- entering Initialization zeroes the count, and in bus-off lets the recovery begin, also in the very step that makes it bus-off
abbrev pub initialization_entered : Bool → ErrorCounts → ErrorCounts
initialization_entered b a = record {
  tec = a.tec;
  rec = a.rec;
  lec = a.lec;
  idles = pick b 0 a.idles;
  reinitialized = a.reinitialized || (b && is_bus_off a);
}

abbrev pub counts_next : ErrorCounts → Seen → steps.Step → ErrorCounts
counts_next a v s = initialization_entered v.enters (pick v.done (step_counted a v s) a)

unfoldable pub counts_from : ErrorCounts → Controller → List steps.Step → ErrorCounts
counts_from a z [] = a
counts_from a z (s ∷ l) = counts_from (counts_next a (seen z s) s) (next_of z s) l

-- ---- the tie: counted from nothing, for every list of steps from hardware reset whose numbers fit their widths (`StepsRange`)

abbrev pub frames : Fifo → Controller → List steps.Step → List StoredFrame
frames f z l = waiting_from f [] 0 none_yet z l

abbrev pub time_at : Mailbox → Controller → List steps.Step → ℕ
time_at m z l = time_from m 0 0 z l

abbrev pub timer_at : Controller → List steps.Step → ℕ
timer_at z l = timer_from 0 z l

abbrev pub error_counts : Controller → List steps.Step → ErrorCounts
error_counts z l = counts_from no_errors z l

pub record Tied (z : Controller) (l : List steps.Step) : Type 0 where
  -- FMP is the number of frames that wait, and the output is the oldest
  pub fmp : (f : Fifo) → fmp f (after z l) ≡ length (frames f z l)
  pub ri : (f : Fifo) → ri f (after z l) ≡ (oldest_frame (frames f z l)).ri
  pub rdt : (f : Fifo) → rdt f (after z l) ≡ (oldest_frame (frames f z l)).rdt
  pub rdl : (f : Fifo) → rdl f (after z l) ≡ (oldest_frame (frames f z l)).rdl
  pub rdh : (f : Fifo) → rdh f (after z l) ≡ (oldest_frame (frames f z l)).rdh
  -- TIME in TDT is what was written, or the timer at the last start
  pub time : (m : Mailbox) → bits 16 16 (tdt m (after z l)) ≡ time_at m z l
  -- in ESR: the low byte of TEC, BOFF, REC and LEC are what the events say
  pub tec_field : bits 16 8 (esr (after z l)) ≡ (error_counts z l).tec % 256
  pub boff : boff (after z l) ≡ is_bus_off (error_counts z l)
  pub rec : rec (after z l) ≡ (error_counts z l).rec
  pub lec : lec (after z l) ≡ (error_counts z l).lec
  -- so is what no register shows: TEC above 255, the recovery count, whether Initialization was entered since bus-off, the timer
  pub tec : tec (after z l) ≡ (error_counts z l).tec
  pub recovery : (after z l).core.control.recovery ≡ (error_counts z l).idles
  pub reinitialized : (after z l).core.control.reinitialized ≡ (error_counts z l).reinitialized
  pub timer : timer (after z l) ≡ timer_at z l
