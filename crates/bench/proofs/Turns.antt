-- The turns of the bench loop: what holds of the controller, the progress and the reply space before each, and how a record carries it on.
use mathlib.Core.Bool.{Bool, true, false, not}
use mathlib.Core.Path.{◌≡◌, refl, sym, ap, ◌∙◌}
use mathlib.Core.List.{List}
use Prim.Native.Nat.{ℕ, suc, ◌+◌, ◌-◌, ◌≤◌, ◌<◌, ◌^◌}
use native.Mathlib.Omega.{arith}
use lib.ListN.{length, take, drop}
use Rattle.base.specs.Base.{pick, one}
use Rattle.model.specs.Script.{record_at, reply_of, overwritten, stops, replay}
use Rattle.model.specs.Script as scripts
use Rattle.model.specs.declared.Controller.{Controller}
use Rattle.model.specs.declared.Replayed.{Replayed}
use Rattle.bench.proofs.Rounds.{reply_bytes_lem, answered-bytes, after, Going, going-begun, more, bytes_fit, further, place-within, going_on, last_round, result}
use Rattle.bench.specs.declared.Progress.{Progress}
use Rattle.script.specs.declared.Recorded.{Recorded}
use Rattle.bench.specs.Lent.{recorded_of, placed, record_in, reply_bytes, begun, progressed, is_over, finished}
use Rattle.bench.proofs.Placed.{part_length, placed-part}

module _ (z : Controller) (s : List ℕ) (space : List ℕ) where
  -- the replay goes on, or it is over
  abbrev pub Turned : Bool → List ℕ → Controller → Progress → Type 0
  Turned true now state p = Going z s space now state p.last.place p.records p.written
  Turned false now state p = (finished state p ≡ (replay z s (length space)).result) × (now ≡ overwritten (replay z s (length space)).replies space)

  -- how much is left to do
  abbrev pub left : Bool → ℕ → ℕ
  left b p = pick b (suc (length s - p)) 0

  pub turned-begun : Turned true space z begun
  turned-begun = going-begun z s space

  module _ (now : List ℕ) (state : Controller) (p : Progress) (g : Turned true now state p) (r : Replayed) (e : r ≡ record_in state s p.last.place now p.written) where
    within : p.written ≤ length now
    within = omega (arith, g.fits, g.same)

    read : r ≡ record_at state s p.last.place (length (take (length now - p.written) (drop p.written now)))
    read = e ∙ ap (record_at state s p.last.place) (sym (part_length p.written now within))

    -- the sums that the next progress asks for
    pub records-fit : length s < 2 ^ 64 → p.records + 1 < 2 ^ 64
    records-fit h = omega (arith, g.enough, g.within)

    pub written-fit : length space < 2 ^ 64 → p.written + reply_bytes r.ended r.code < 2 ^ 64
    written-fit h = rw (← (reply_bytes_lem r)) (omega (arith, bytes_fit z s space now state p.last.place p.records p.written g r read))

    module _ (now' : List ℕ) (f : now' ≡ placed p.written (reply_of r) now) (l : length now' ≡ length now) where
      replies : now' ≡ overwritten (after z s space (suc p.records)).replies space
      replies = f ∙ sym (placed-part p.written now within (reply_of r) _ refl) ∙ more z s space now state p.last.place p.records p.written g r read _ refl

      by_stop : (b : Bool) → stops r.ended r.code ≡ b → Turned (not b) now' r.controller (progressed p (recorded_of r))
      by_stop true h =
          let k : p.records + one (not (stops r.ended r.code)) ≡ p.records = rw h (omega arith) in (
            rw k (result z s space now state p.last.place p.records p.written g r read h _ refl),
            replies ∙ ap (λ (x : scripts.Progress). overwritten x.replies space) (sym (last_round z s space now state p.last.place p.records p.written g r read h)),
          )
      by_stop false h =
          let b : reply_bytes r.ended r.code ≡ 9 = sym (reply_bytes_lem r) ∙ answered-bytes r h in
          rw (h, b) (going_on z s space now state p.last.place p.records p.written g r read h now' replies (l ∙ g.same))

      pub turned : (a : Recorded) (c : Controller) (q : Progress) → a ≡ recorded_of r → c ≡ r.controller → q ≡ progressed p a → Turned (not (is_over q)) now' c q
      turned a c q ea ec eq = rw (eq, ea, ec) (by_stop (stops r.ended r.code) refl)

    nearer_by : (b : Bool) → stops r.ended r.code ≡ b → left (not b) r.place < left true p.last.place
    nearer_by true h = omega arith
    nearer_by false h =
        omega (arith, further z s space now state p.last.place p.records p.written g r read h, place-within z s space now state p.last.place p.records p.written g r read h)

    pub nearer : (a : Recorded) (q : Progress) → a ≡ recorded_of r → q ≡ progressed p a → left (not (is_over q)) q.last.place < left true p.last.place
    nearer a q ea eq = rw (eq, ea) (nearer_by (stops r.ended r.code) refl)
