-- TEC through a list of steps, as long as the node is on.
use mathlib.Core.Bool.{Bool, true, false, not, ◌&&◌, ◌||◌, false≢true}
use mathlib.Core.Path.{◌≡◌, refl, sym, ap, subst, ◌∙◌}
use mathlib.Core.List.{List, [], ◌∷◌}
use Prim.Native.Nat.{ℕ, ◌+◌, ◌-◌, ◌*◌, ◌≤◌}
use native.Mathlib.Omega.{arith}
use lib.Dec.{eqb, ltb}
use borrow.Author.Tests.{eqb-true, eq-eqb, ltb-false, le-ltb, lt-ltb}
use Rattle.base.specs.Base.{pick, one}
use Rattle.model.specs.Control.{boff, idle_errors, received_errors, receive_error_counters, recovers, idle_counts}
use Rattle.model.specs.Registers.{reset}
use Rattle.model.specs.Step.{refusal, applied}
use Rattle.model.specs.Requests.{after}
use Rattle.model.specs.Fairness.{every}
use Rattle.model.specs.Shown.{epvf, tec, is_done, Done, next_of, is_hardware_reset, is_outcome}
use Rattle.model.specs.Shown as read
use Rattle.model.specs.declared.Controller.{Controller}
use Rattle.model.specs.declared.Core.{Core}
use Rattle.model.specs.declared.Errors.{Errors}
use Rattle.model.specs.declared.Step as steps
use Rattle.model.specs.declared.Step.TheVariants.{Reset, Read, Write, Idle, BitTimes, Activity, Start, Outcome, Receive, ReceiveError}
use Rattle.base.proofs.Choices.{Is, and_l, and_r, or_l}
use Rattle.model.proofs.Coded.{refused}
use Rattle.model.proofs.DoneSteps.{accepted}
use Rattle.model.proofs.ErrorRules.{start-errors, end_sender, end_errors, outcome_tec, esr_written-tec, done-errors}
use Rattle.model.proofs.ReadFields.{epvf-read, boff-read}
use Rattle.model.proofs.WriteTargets.{errors-written}
use Rattle.lone_node.specs.LoneNode.{ends_by, all_end_by, tries, lone_result, ack_result, no_hardware_reset, GoesOff, LoneNode}

-- ---- a step

-- n before the step
abbrev tec_after : steps.Step → ℕ → ℕ
tec_after Reset n = 0
tec_after (Read o) n = n
tec_after (Write o w) n = n
tec_after Idle n = n
tec_after (BitTimes t) n = n
tec_after Activity n = n
tec_after Start n = n
tec_after (Outcome r) n = pick (eqb r 0) (n - 1) (pick (eqb r 7 || eqb r 8) n (n + 8))
tec_after (Receive x) n = n
tec_after (ReceiveError k t) n = n

-- an idle event leaves the counters of a node that is on
idle-tec : (c : Core) → boff c.errors ≡ false → (idle_errors c.control c.errors).tec ≡ c.errors.tec
unfolding idle_errors recovers idle_counts
idle-tec c on = rw on

applied-tec : (c : Core) (v : List ℕ) (s : steps.Step) → c.errors.tec ≤ 255 → eqb (refusal c s) 0 ≡ true → (applied c v s).errors.tec ≡ tec_after s c.errors.tec
unfolding applied reset received_errors receive_error_counters
applied-tec c v Reset t h = refl
applied-tec c v (Read o) t h = refl
applied-tec c v (Write o w) t h = rw (errors-written o c w) (esr_written-tec (eqb o 0x018) c.errors w)
applied-tec c v Idle t h = idle-tec c (le-ltb 255 c.errors.tec t)
applied-tec c v (BitTimes n) t h = refl
applied-tec c v Activity t h = refl
applied-tec c v Start t h = rw (start-errors _ c)
applied-tec c v (Outcome r) t h =
    ap (λ (e : Errors). e.tec) (end_errors c.transmit.queue.transmitting c v r (end_sender c r h).0) ∙ outcome_tec c.errors r (omega arith)
applied-tec c v (Receive x) t h = refl
applied-tec c v (ReceiveError k n) t h = refl

done-tec : (z : Controller) (s : steps.Step) → tec z ≤ 255 → Done z s → tec (next_of z s) ≡ tec_after s (tec z)
done-tec z s t h = ap (λ (e : Errors). e.tec) (done-errors z s h) ∙ applied-tec z.core z.banks s t (accepted z s h)

-- of a step by whether it is accepted; one that is refused leaves the controller
by_code : (P : Controller → Type 0) (z : Controller) (s : steps.Step) → (Done z s → P (next_of z s)) → P z → P (next_of z s)
by_code P z s done left = go (is_done z s) refl
  where
    go : (b : Bool) → is_done z s ≡ b → P (next_of z s)
    go true h = done (eqb-true _ _ h)
    go false h = subst P (sym (refused z s h).kept) left

-- ---- as CAN 2.0 has it

-- eight: the result is 8; three: it is 3; passive: EPVF=1
lone_end : (z : Controller) (r : ℕ) → tec z ≤ 135 → Is (lone_result z r) → tec_after (Outcome r) (tec z) ≤ 135
lone_end z r t h = go (eqb r 0) (eqb r 7) (eqb r 8) (eqb r 3) (epvf z) refl refl refl refl refl h
  where
    go : (good lost eight three passive : Bool) → eqb r 0 ≡ good → eqb r 7 ≡ lost → eqb r 8 ≡ eight → eqb r 3 ≡ three → epvf z ≡ passive
        → Is (good || (three && not passive) || (eight && passive))
        → pick good (tec z - 1) (pick (lost || eight) (tec z) (tec z + 8)) ≤ 135
    go true lost eight three passive g o e u p k = omega arith
    go false true eight three passive g o e u p k = t
    go false false true three passive g o e u p k = t
    go false false false true false g o e u p k =
        let n : tec z ≤ 127 = ltb-false _ _ (or_l (ltb 127 (tec z)) (ltb 127 z.core.errors.rec) (sym (epvf-read z) ∙ p)) in omega arith
    go false false false true true g o e u p k = absurd (false≢true k)
    go false false false false passive g o e u p k = absurd (false≢true k)

-- a step that is accepted
lone-step : (z : Controller) (s : steps.Step) → tec z ≤ 135 → Is (ends_by (lone_result z) s) → tec_after s (tec z) ≤ 135
lone-step z Reset t h = omega arith
lone-step z (Read o) t h = t
lone-step z (Write o w) t h = t
lone-step z Idle t h = t
lone-step z (BitTimes n) t h = t
lone-step z Activity t h = t
lone-step z Start t h = t
lone-step z (Outcome r) t h = lone_end z r t h
lone-step z (Receive x) t h = t
lone-step z (ReceiveError k n) t h = t

-- what is asked of an own end holds of one that is accepted
of_done : (z : Controller) (s : steps.Step) (b : Bool) → Is (not (is_done z s) || b) → Done z s → Is b
of_done z s b h d = let e : is_done z s ≡ true = eq-eqb _ _ d in (rw e at h)

stays : (z : Controller) (l : List steps.Step) → tec z ≤ 135 → Is (all_end_by lone_result z l) → tec (after z l) ≤ 135
unfolding all_end_by after
stays z [] t h = t
stays z (s ∷ l) t h =
    let own : Bool = not (is_done z s) || ends_by (lone_result z) s in
    let on : Is own = and_l own (all_end_by lone_result (next_of z s) l) h in
    let a : tec z ≤ 255 = omega arith in
    let b : Done z s → tec (next_of z s) ≤ 135 = λ d. let n : tec_after s (tec z) ≤ 135 = lone-step z s t (of_done z s _ on d) in rw (done-tec z s a d) n in
    stays (next_of z s) l (by_code (λ y. tec y ≤ 135) z s b t) (and_r own (all_end_by lone_result (next_of z s) l) h)

on_up_to : (z : Controller) → tec z ≤ 255 → read.boff z ≡ false
on_up_to z t = boff-read z ∙ le-ltb 255 (tec z) t

-- ---- as 01 has it

-- TEC after an accepted step that is no reset, an own end of it being 3
ack-step : (s : steps.Step) (n : ℕ) → Is (ends_by (λ r. eqb r 3) s) → Is (not (is_hardware_reset s)) → tec_after s n ≡ n + 8 * one (is_outcome s)
ack-step Reset n h k = absurd (false≢true k)
ack-step (Read o) n h k = omega arith
ack-step (Write o w) n h k = omega arith
ack-step Idle n h k = omega arith
ack-step (BitTimes t) n h k = omega arith
ack-step Activity n h k = omega arith
ack-step Start n h k = omega arith
ack-step (Outcome r) n h k = let x : r ≡ 3 = eqb-true _ _ h in rw x
ack-step (Receive x) n h k = omega arith
ack-step (ReceiveError e t) n h k = omega arith

-- the same of any step
ack-next : (z : Controller) (s : steps.Step) → tec z ≤ 255 → Is (not (is_done z s) || ends_by (ack_result z) s) → Is (not (is_hardware_reset s))
    → tec (next_of z s) ≡ tec z + 8 * one (is_done z s && is_outcome s)
ack-next z s t h k = go (is_done z s) refl
  where
    go : (b : Bool) → is_done z s ≡ b → tec (next_of z s) ≡ tec z + 8 * one (b && is_outcome s)
    go true e = let d : Done z s = eqb-true _ _ e in done-tec z s t d ∙ ack-step s (tec z) (of_done z s _ h d) k
    go false e = ap (λ (y : Controller). tec y) (refused z s e).kept ∙ omega arith

counts : (z : Controller) (l : List steps.Step) → tec z + 8 * tries z l ≤ 255 → Is (all_end_by ack_result z l) → Is (no_hardware_reset l) → tec (after z l) ≡ tec z + 8 * tries z l
unfolding all_end_by after tries every
counts z [] t h k = omega arith
counts z (s ∷ l) t h k =
    let own : Bool = not (is_done z s) || ends_by (ack_result z) s in
    let more : ℕ = one (is_done z s && is_outcome s) in
    let n : tec (next_of z s) ≡ tec z + 8 * more = ack-next z s (omega arith) (and_l own (all_end_by ack_result (next_of z s) l) h) (and_l (not (is_hardware_reset s)) (no_hardware_reset l) k) in
    let r : tec (after (next_of z s) l) ≡ tec (next_of z s) + 8 * tries (next_of z s) l =
    counts (next_of z s) l (omega arith) (and_r own (all_end_by ack_result (next_of z s) l) h) (and_r (not (is_hardware_reset s)) (no_hardware_reset l) k) in
    omega arith

goes-off : (z : Controller) (l : List steps.Step) → tec z ≡ 0 → Is (all_end_by ack_result z l) → Is (no_hardware_reset l) → GoesOff z l
goes-off z l t h k = record {
  counter = counted;
  on = λ n. let c = counted n in on_up_to (after z l) (omega arith);
  off = λ n d.
      let c : tec (after z l) ≡ 8 * tries z l = counted (omega arith) in
      let e : tec (next_of (after z l) (Outcome 3)) ≡ tec (after z l) + 8 = done-tec (after z l) (Outcome 3) (omega arith) d in
      boff-read (next_of (after z l) (Outcome 3)) ∙ lt-ltb 255 (tec (next_of (after z l) (Outcome 3))) (omega arith);
}
  where
    counted : tries z l ≤ 31 → tec (after z l) ≡ 8 * tries z l
    counted n = let c : tec (after z l) ≡ tec z + 8 * tries z l = counts z l (omega arith) h k in omega arith

pub lone_node : (z : Controller) (l : List steps.Step) → LoneNode z l
lone_node z l = record {
  stays = λ t h. let c : tec (after z l) ≤ 135 = stays z l t h in record { counter = c; on = on_up_to (after z l) (omega arith) };
  goes = goes-off z l;
}
