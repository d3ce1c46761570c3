-- A node alone on its bus: nobody acknowledges its frames, and it tries again and again. Document 02, Q-4.
use Rattle.std.specs.Prelude.{Bool, true, false, not, ◌&&◌, ◌||◌, List, [], ◌∷◌, ◌++◌, ◌≡◌, ℕ, zero, suc, ◌+◌, ◌*◌, ◌≤◌, eqb}
use Rattle.base.specs.Base.{one}
use Rattle.model.specs.Registers.{reset}
use Rattle.model.specs.Requests.{Entry, entries, after}
use Rattle.model.specs.Fairness.{every}
use Rattle.model.specs.Shown.{tme, txok, terr, epvf, boff, lec, tec, is_done, Done, next_of, is_hardware_reset, is_outcome}
use Rattle.model.specs.declared.Mailbox.TheVariants.{M0}
use Rattle.model.specs.declared.Controller.{Controller}
use Rattle.model.specs.declared.Step as steps
use Rattle.model.specs.declared.Step.TheVariants.{Reset, Read, Write, Idle, BitTimes, Activity, Start, Outcome, Receive, ReceiveError}

-- ---- how the own frames of a list of steps end

-- the step is no own end, or one whose result p takes
abbrev pub ends_by : (ℕ → Bool) → steps.Step → Bool
ends_by p Reset = true
ends_by p (Read o) = true
ends_by p (Write o w) = true
ends_by p Idle = true
ends_by p (BitTimes n) = true
ends_by p Activity = true
ends_by p Start = true
ends_by p (Outcome r) = p r
ends_by p (Receive x) = true
ends_by p (ReceiveError k n) = true

-- every own end that is accepted has a result that p takes, p going by the controller before it
unfoldable pub all_end_by : (Controller → ℕ → Bool) → Controller → List steps.Step → Bool
all_end_by p z [] = true
all_end_by p z (s ∷ l) = (not (is_done z s) || ends_by (p z) s) && all_end_by p (next_of z s) l

-- how many own ends are accepted
unfoldable pub tries : Controller → List steps.Step → ℕ
tries z [] = 0
tries z (s ∷ l) = one (is_done z s && is_outcome s) + tries (next_of z s) l

-- ---- as CAN 2.0 has it

-- no acknowledgment: 3 while error active (EPVF=0), 8 while error passive (EPVF=1). 0: another node is there and acknowledges
abbrev pub lone_result : Controller → ℕ → Bool
lone_result z r = eqb r 0 || (eqb r 3 && not (epvf z)) || (eqb r 8 && epvf z)

-- TEC is at most 135, so that the node isn't bus-off, however often it has tried. After every such list, so after each step of one:
-- its beginnings are such lists too
pub record StaysOn (z : Controller) (l : List steps.Step) : Type 0 where
  pub counter : tec (after z l) ≤ 135
  pub on : boff (after z l) ≡ false

-- ---- as 01 has it: result 3 alone

-- every own end is 3
abbrev pub ack_result : Controller → ℕ → Bool
ack_result z r = eqb r 3

-- MCR with bit 15 set may come: it leaves TEC
abbrev pub no_hardware_reset : List steps.Step → Bool
no_hardware_reset l = every (λ (s : steps.Step). not (is_hardware_reset s)) l

-- from TEC 0 each of 31 tries adds 8, and with the 32nd the node is bus-off
pub record GoesOff (z : Controller) (l : List steps.Step) : Type 0 where
  pub counter : tries z l ≤ 31 → tec (after z l) ≡ 8 * tries z l
  pub on : tries z l ≤ 31 → boff (after z l) ≡ false
  pub off : tries z l ≡ 31 → Done (after z l) (Outcome 3) → boff (next_of (after z l) (Outcome 3)) ≡ true

-- ---- both, of every list of steps from every controller

pub record LoneNode (z : Controller) (l : List steps.Step) : Type 0 where
  -- from TEC at most 127, and from up to 135 too
  pub stays : tec z ≤ 135 → all_end_by lone_result z l ≡ true → StaysOn z l
  pub goes : tec z ≡ 0 → all_end_by ack_result z l ≡ true → no_hardware_reset l ≡ true → GoesOff z l

-- ---- from hardware reset: there are such lists, and the numbers are reached

-- a start and the end of its frame, n times
unfoldable pub tried : ℕ → ℕ → List steps.Step
tried zero r = []
tried (suc n) r = Start ∷ Outcome r ∷ tried n r

-- to Normal, and mailbox 0 asks
abbrev pub asked : List steps.Step
asked = Write 0x000 0 ∷ Idle ∷ Write 0x180 1 ∷ []

abbrev pub all_done : List steps.Step → Bool
all_done l = every (λ (e : Entry). eqb e.code 0) (entries reset l)

-- 16 tries until the node is error passive, and n more
abbrev pub alone : ℕ → List steps.Step
alone n = asked ++ tried 16 3 ++ tried n 8

-- then another node comes and acknowledges
abbrev pub heard : ℕ → List steps.Step
heard n = alone n ++ tried 1 0

-- for every n: the list is one of a lone node, and all of it is accepted. The node is error passive and on, and its request waits; once
-- it is heard, its frame is sent, and it is error active again
pub record Alone (n : ℕ) : Type 0 where
  pub lone : all_end_by lone_result reset (heard n) ≡ true
  pub accepted : all_done (heard n) ≡ true
  pub counter : tec (after reset (alone n)) ≡ 128
  pub passive : epvf (after reset (alone n)) ≡ true
  pub on : boff (after reset (alone n)) ≡ false
  pub last : lec (after reset (alone n)) ≡ 3
  pub failed : terr M0 (after reset (alone n)) ≡ true
  pub waits : tme M0 (after reset (alone n)) ≡ false
  pub counter_heard : tec (after reset (heard n)) ≡ 127
  pub active : epvf (after reset (heard n)) ≡ false
  pub sent : txok M0 (after reset (heard n)) ≡ true

-- heard once, then alone again: from TEC 127 one more try, and TEC is 135
abbrev pub again : List steps.Step
again = heard 0 ++ Write 0x180 1 ∷ tried 1 3

pub record Most : Type 0 where
  pub lone : all_end_by lone_result reset again ≡ true
  pub accepted : all_done again ≡ true
  pub counter : tec (after reset again) ≡ 135

-- by 3 alone, n tries
abbrev pub unheard : ℕ → List steps.Step
unheard n = asked ++ tried n 3

-- after 31 tries on, after 32 bus-off
pub record BusOff : Type 0 where
  pub acks : all_end_by ack_result reset (unheard 32) ≡ true
  pub accepted : all_done (unheard 32) ≡ true
  pub on : boff (after reset (unheard 31)) ≡ false
  pub off : boff (after reset (unheard 32)) ≡ true
