-- A block is refused exactly when no state within the ranges saves to its bytes.
use Rattle.std.proofs.Common.{Option}
use mathlib.Core.Bool.{Bool, true, false, ◌&&◌, false≢true}
use mathlib.Core.List.{List}
use mathlib.Core.Path.{◌≡◌, refl, sym, subst, ap, ◌∙◌}
use Prim.Native.Nat.{ℕ}
use native.Mathlib.Omega.{arith}
use lib.Dec.{eqb}
use lib.ListN.{length}
use borrow.Author.Tests.{eq-eqb, eqb-true}
use Rattle.base.specs.Base.{pick}
use Rattle.base.proofs.Choices.{Is, and_l, and_r, and_both}
use Rattle.model.specs.Reachable.{InRange, carried}
use Rattle.model.specs.Records.{Bytes}
use Rattle.model.specs.declared.Core.{Core}
use Rattle.model.specs.declared.Controller.{Controller}
use Rattle.model.proofs.FromAnywhere.{from-state}
use Rattle.model.proofs.StatusWord.{flags-shown}
use Rattle.ranges.specs.Ranges.{in_range}
use Rattle.ranges.proofs.Ranged.{range_in, range_out}
use Rattle.block.specs.Block.{block_length, saved, core_at, decoded, canonical}
use Rattle.block.specs.Loading.{right_length, accepts, load_code, loaded, Saves, Exact, SavedLoads, WaitingOrder, FromBlock, Blocks}
use Rattle.block.proofs.Lengths.{saved-length}
use Rattle.block.proofs.Round.{core-saved, decoded-saved}
use Rattle.block.proofs.Formed.{saved-decoded, canonical-saved}
use Rattle.block.proofs.Widths.{widths}
use Rattle.model.specs.declared.Mailbox.{Mailbox}

-- the bytes of a state in range are accepted
saved-accepted : (z : Controller) → InRange z → Is (accepts (saved z))
unfolding accepts right_length
saved-accepted z r =
    and_both _ _ (eq-eqb (length (saved z)) block_length (saved-length z r.bank_words))
    (and_both _ _ (canonical-saved z) (subst (λ (c : Core). Is (in_range c)) (sym (core-saved z r)) (range_in z r)))

module _ (b : List ℕ) (h : Is (accepts b)) where
  pub accepted-length : length b ≡ block_length
  unfolding accepts right_length
  accepted-length = eqb-true _ _ (and_l (eqb (length b) block_length) _ h)

  accepted-form : Is (canonical b && in_range (core_at b))
  unfolding accepts
  accepted-form = and_r (right_length b) _ h

  -- an accepted block is what saving the state in it gives
  pub saved-again : Bytes b → saved (decoded b) ≡ b
  saved-again bytes = saved-decoded b bytes accepted-length (and_l (canonical b) _ accepted-form)

  pub accepted-range : Bytes b → InRange (decoded b)
  unfolding decoded
  accepted-range bytes = range_out (decoded b) (widths b bytes) (and_r (canonical b) _ accepted-form)

loads-one : (b : List ℕ) → Bytes b → Is (accepts b) → Saves b
loads-one b bytes h = record { state = decoded b; ranges = accepted-range b h bytes; bytes = saved-again b h bytes }

saves-one : (b : List ℕ) → Saves b → Is (accepts b)
saves-one b s = subst (λ (x : List ℕ). Is (accepts x)) s.bytes (saved-accepted s.state s.ranges)

-- ---- the code says whether a block is accepted

pub code-zero : (t : Bool) → ◌≡◌ {A = ℕ} (pick t 0 10) 0 → Is t
code-zero true e = refl
code-zero false e = absurd (omega arith)

code_ten : (t : Bool) → ◌≡◌ {A = ℕ} (pick t 0 10) 10 → t ≡ false
code_ten true e = absurd (omega arith)
code_ten false e = refl

not-one : (t : Bool) → (Is t → ⊥) → t ≡ false
not-one true h = absurd (h refl)
not-one false h = refl

pub loaded-one : (b : List ℕ) → Is (accepts b) → loaded b ≡ decoded b
unfolding loaded
loaded-one b h = rw h

exact : (b : List ℕ) → Bytes b → Exact b
unfolding load_code
exact b bytes = record {
  refused = λ e s. absurd (false≢true (sym (code_ten (accepts b) e) ∙ saves-one b s));
  only = λ h. rw (not-one (accepts b) (λ t. h (loads-one b bytes t)));
  accepted = λ e. loads-one b bytes (code-zero (accepts b) e);
  saves = λ s. rw (saves-one b s);
  back = λ s. loaded-one b (saves-one b s) ∙ ap decoded (sym s.bytes) ∙ decoded-saved s.state s.ranges;
}

pub saved-loads : (z : Controller) → SavedLoads z
unfolding load_code
saved-loads z = record {
  size = λ r. saved-length z r.bank_words;
  code = λ r. rw (saved-accepted z r);
  back = λ r. loaded-one (saved z) (saved-accepted z r) ∙ decoded-saved z r;
}

waiting_order : (z : Controller) → WaitingOrder z
waiting_order z = record {
  names = λ m. (flags-shown z m).tme;
  once = λ r. r.core.transmit.queue.once;
  wire = λ r m e. subst (λ (s : Option Mailbox). Is (carried s z.core.transmit.queue.order)) e r.core.transmit.queue.carries;
  normal = λ r. r.core.wire.normal;
  on = λ r. r.core.wire.on;
}

from_block : (b : List ℕ) → Bytes b → Is (accepts b) → FromBlock b
from_block b bytes h = record {
  same = ap saved (loaded-one b h) ∙ saved-again b h bytes;
  ranges = subst InRange (sym (loaded-one b h)) (accepted-range b h bytes);
  order = waiting_order (loaded b);
  demand = λ l. from-state (loaded b) l;
}

-- the promises
pub blocks : (b : List ℕ) → Blocks b
unfolding load_code
blocks b = record { exact = exact b; from = λ bytes e. from_block b bytes (code-zero (accepts b) e) }
