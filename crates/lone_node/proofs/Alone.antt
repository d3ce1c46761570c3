-- The lists from hardware reset: the first try is computed, and each one after it leads to the same controller but for TEC.
use mathlib.Core.Bool.{Bool, true, false, not, ◌&&◌, ◌||◌, false≢true}
use mathlib.Core.Path.{◌≡◌, refl, ap, ◌∙◌}
use mathlib.Core.List.{List, [], ◌∷◌, ◌++◌}
use Prim.Native.Nat.{ℕ, zero, suc, ◌+◌, ◌*◌, ◌%◌, ◌≤◌}
use native.Mathlib.Omega.{arith}
use lib.Dec.{eqb}
use borrow.Author.Tests.{le-ltb}
use Rattle.model.specs.Control as control
use Rattle.model.specs.Registers.{reset}
use Rattle.model.specs.Step.{step}
use Rattle.model.specs.Requests.{Entry, entry, entries, after}
use Rattle.model.specs.Fairness.{every}
use Rattle.model.specs.Shown.{tme, txok, terr, epvf, boff, lec, tec, is_done, next_of}
use Rattle.model.specs.declared.Mailbox.TheVariants.{M0}
use Rattle.model.specs.declared.Controller.{Controller}
use Rattle.model.specs.declared.Step as steps
use Rattle.model.specs.declared.Step.TheVariants.{Write, Start, Outcome}
use Rattle.base.proofs.Choices.{Is, and_l, and_r, and_both}
use Rattle.model.proofs.Computed.{everything}
use Rattle.model.proofs.ReadFields.{epvf-read}
use Rattle.lone_node.specs.LoneNode.{ends_by, all_end_by, lone_result, ack_result, tried, asked, alone, heard, Alone, again, Most, unheard, BusOff}

-- ---- a list in two parts

abbrev is_good : Entry → Bool
is_good e = eqb e.code 0

-- every step of l is accepted, the results of its own ends are such as p takes, and it leads from x to y
record Leads (p : Controller → ℕ → Bool) (x : Controller) (l : List steps.Step) (y : Controller) : Type 0 where
  good : every is_good (entries x l) ≡ true
  ends : all_end_by p x l ≡ true
  there : after x l ≡ y

leads_on : (p : Controller → ℕ → Bool) (x : Controller) (l r : List steps.Step) (y z : Controller) → Leads p x l y → Leads p y r z → Leads p x (l ++ r) z
unfolding every entries all_end_by after
leads_on p x [] r y z a b = rw a.there b
leads_on p x (s ∷ l) r y z a b =
    let g : Bool = is_good (entry s (step x s)) in
    let e : Bool = not (is_done x s) || ends_by (p x) s in
    let c : Leads p (next_of x s) (l ++ r) z =
    leads_on p (next_of x s) l r y z
    (record { good = and_r g (every is_good (entries (next_of x s) l)) a.good; ends = and_r e (all_end_by p (next_of x s) l) a.ends; there = a.there }) b in
    record {
      good = and_both _ _ (and_l g (every is_good (entries (next_of x s) l)) a.good) c.good;
      ends = and_both _ _ (and_l e (all_end_by p (next_of x s) l) a.ends) c.ends;
      there = c.there;
    }

no_more : (p : Controller → ℕ → Bool) (z : Controller) → Leads p z [] z
unfolding every entries all_end_by after
no_more p z = record { good = refl; ends = refl; there = refl }

-- ---- tries

-- after the first one
abbrev first : Controller
first = after reset (asked ++ tried 1 3)

-- the same with so much in TEC
abbrev failing : ℕ → Controller
failing t = record {
  core = record {
    control = first.core.control;
    errors = record { tec = t; rec = 0; lec = 3 };
    transmit = first.core.transmit;
    fifo0 = first.core.fifo0;
    fifo1 = first.core.fifo1;
    filters = first.core.filters;
  };
  banks = first.banks;
}

-- its frame is on the wire
abbrev sending : ℕ → Controller
sending t = next_of (failing t) Start

-- the first one, by 3
begun : (p : Controller → ℕ → Bool) → Is (p (after reset (asked ++ Start ∷ [])) 3) → Leads p reset (asked ++ tried 1 3) (failing 8)
unfolding tried every entries all_end_by after everything
begun p q = record { good = refl; ends = and_both _ true q refl; there = refl }

-- a try by 3 is accepted while TEC is below 248
try_good : (t : ℕ) → t ≤ 247 → every is_good (entries (failing t) (tried 1 3)) ≡ true
unfolding tried every entries after everything
try_good t h = rw (le-ltb 255 t (omega arith))

try_there : (t : ℕ) → t ≤ 247 → after (failing t) (tried 1 3) ≡ failing (t + 8)
unfolding tried after everything
try_there t h = let n : (t + 8) % 65536 ≡ t + 8 = omega arith in rw (le-ltb 255 t (omega arith), n, le-ltb 255 (t + 8) (omega arith))

-- what a start and an own end ask of the result
one_end : (a b c : Bool) → Is c → ((not a || true) && ((not b || c) && true)) ≡ true
one_end true true true h = refl
one_end true false true h = refl
one_end false true true h = refl
one_end false false true h = refl
one_end true b false h = absurd (false≢true h)
one_end false b false h = absurd (false≢true h)

try_ends : (p : Controller → ℕ → Bool) (t : ℕ) → Is (p (sending t) 3) → all_end_by p (failing t) (tried 1 3) ≡ true
unfolding tried all_end_by
try_ends p t q = one_end (is_done (failing t) Start) (is_done (sending t) (Outcome 3)) (p (sending t) 3) q

-- n tries by 3, each with TEC below 248
more : (p : Controller → ℕ → Bool) (n t : ℕ) → t + 8 * n ≤ 255 → ((k : ℕ) → k + 8 ≤ t + 8 * n → Is (p (sending k) 3))
    → Leads p (failing t) (tried n 3) (failing (t + 8 * n))
unfolding tried
more p zero t h q = let e : t + 8 * 0 ≡ t = omega arith in rw e (no_more p (failing t))
more p (suc n) t h q =
    let e : t + 8 * suc n ≡ t + 8 + 8 * n = omega arith in
    let a : Leads p (failing t) (tried 1 3) (failing (t + 8)) =
    record { good = try_good t (omega arith); ends = try_ends p t (q t (omega arith)); there = try_there t (omega arith) } in
    let b : Leads p (failing (t + 8)) (tried n 3) (failing (t + 8 + 8 * n)) = more p n (t + 8) (omega arith) (λ k l. q k (omega arith)) in
    rw e (leads_on p (failing t) (tried 1 3) (tried n 3) (failing (t + 8)) (failing (t + 8 + 8 * n)) a b)

-- ---- a lone node

start-active : (t : ℕ) → t ≤ 127 → control.epvf (sending t).core.errors ≡ false
unfolding tried after everything
start-active t h = rw (le-ltb 255 t (omega arith), le-ltb 127 t h)

-- 3 is its result while TEC is at most 127
three : (t : ℕ) → t ≤ 127 → Is (lone_result (sending t) 3)
three t h = let e : epvf (sending t) ≡ false = epvf-read (sending t) ∙ start-active t h in rw e

first_three : Is (lone_result (after reset (asked ++ Start ∷ [])) 3)
unfolding after everything
first_three = refl

sixteen : Leads lone_result reset (asked ++ tried 16 3) (failing 128)
unfolding tried
sixteen =
    leads_on lone_result reset (asked ++ tried 1 3) (tried 15 3) (failing 8) (failing 128) (begun lone_result first_three)
    (more lone_result 15 8 (omega arith) (λ k l. three k (omega arith)))

-- 8 at TEC 128
once : Leads lone_result (failing 128) (tried 1 8) (failing 128)
unfolding tried every entries all_end_by after everything
once = record { good = refl; ends = refl; there = refl }

waits-on : (n : ℕ) → Leads lone_result (failing 128) (tried n 8) (failing 128)
unfolding tried
waits-on zero = no_more lone_result (failing 128)
waits-on (suc n) = leads_on lone_result (failing 128) (tried 1 8) (tried n 8) (failing 128) (failing 128) once (waits-on n)

all-alone : (n : ℕ) → Leads lone_result reset (alone n) (failing 128)
unfolding tried
all-alone n = leads_on lone_result reset (asked ++ tried 16 3) (tried n 8) (failing 128) (failing 128) sixteen (waits-on n)

-- ---- another node acknowledges

abbrev sent : Controller
sent = after (failing 128) (tried 1 0)

acknowledged : Leads lone_result (failing 128) (tried 1 0) sent
unfolding tried every entries all_end_by after everything
acknowledged = record { good = refl; ends = refl; there = refl }

all-heard : (n : ℕ) → Leads lone_result reset (heard n) sent
all-heard n = leads_on lone_result reset (alone n) (tried 1 0) (failing 128) sent (all-alone n) acknowledged

pub alone_at : (n : ℕ) → Alone n
unfolding tried after everything
alone_at n =
    let a : after reset (alone n) ≡ failing 128 = (all-alone n).there in
    let h : after reset (heard n) ≡ sent = (all-heard n).there in
    record {
      lone = (all-heard n).ends;
      accepted = (all-heard n).good;
      counter = ap tec a;
      passive = ap epvf a;
      on = ap boff a;
      last = ap lec a;
      failed = ap (terr M0) a;
      waits = ap (tme M0) a;
      counter_heard = ap tec h;
      active = ap epvf h;
      sent = ap (txok M0) h;
    }

-- alone again

abbrev once_more : List steps.Step
once_more = Write 0x180 1 ∷ tried 1 3

once-more-alone : Leads lone_result sent once_more (after sent once_more)
unfolding tried every entries all_end_by after everything
once-more-alone = record { good = refl; ends = refl; there = refl }

to_135 : Leads lone_result reset again (after sent once_more)
to_135 = leads_on lone_result reset (heard 0) once_more sent (after sent once_more) (all-heard 0) once-more-alone

pub most : Most
unfolding tried after everything
most = record { lone = to_135.ends; accepted = to_135.good; counter = ap tec to_135.there }

-- ---- by 3 alone

thirty_one : Leads ack_result reset (unheard 31) (failing 248)
unfolding tried
thirty_one =
    leads_on ack_result reset (asked ++ tried 1 3) (tried 30 3) (failing 8) (failing 248) (begun ack_result refl)
    (more ack_result 30 8 (omega arith) (λ k l. refl))

the_last : Leads ack_result (failing 248) (tried 1 3) (after (failing 248) (tried 1 3))
unfolding tried every entries all_end_by after everything
the_last = record { good = refl; ends = refl; there = refl }

thirty_two : Leads ack_result reset (unheard 32) (after (failing 248) (tried 1 3))
unfolding tried
thirty_two = leads_on ack_result reset (unheard 31) (tried 1 3) (failing 248) (after (failing 248) (tried 1 3)) thirty_one the_last

pub bus_off_lem : BusOff
unfolding tried after everything
bus_off_lem = record { acks = thirty_two.ends; accepted = thirty_two.good; on = ap boff thirty_one.there; off = ap boff thirty_two.there }
