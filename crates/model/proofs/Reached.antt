-- Every state that steps reach from hardware reset is in range.
use mathlib.Core.Bool.{Bool, true, false≢true}
use mathlib.Core.List.{List, [], ◌∷◌}
use mathlib.Core.Path.{◌≡◌, refl, ◌∙◌}
use Prim.Native.Nat.{ℕ, zero, suc, ◌*◌, ◌<◌}
use native.Mathlib.Omega.{arith}
use lib.Dec.{eqb, ltb}
use lib.ListN.{length, replicate}
use Rattle.model.specs.Search.{acceptance}
use Rattle.model.specs.Reception.{malformed, fmi_of}
use Rattle.model.specs.Control.{mode_next, control_reset}
use Rattle.model.specs.Registers.{bank_count, is_free, register_at, reset}
use Rattle.model.specs.Step.{may_start, may_end, may_receive, receive_error_in_range, refusal, applied, banks_applied, core_after, banks_after, answered, step}
use Rattle.model.specs.Requests.{after}
use Rattle.model.specs.Mailboxes.{at}
use Rattle.model.specs.Reachable.{MailboxRange, Words, CoreRange, Followed, InRange, StepRange, StepsRange}
use Rattle.model.specs.declared.Mailbox.{Mailbox}
use Rattle.model.specs.declared.Mailbox.TheVariants.{M0, M1, M2}
use Rattle.model.specs.declared.Filters.{Filters}
use Rattle.model.specs.declared.Core.{Core}
use Rattle.model.specs.declared.Controller.{Controller}
use Rattle.model.specs.declared.Step.{Step}
use Rattle.model.specs.declared.Step.TheVariants.{Reset, Read, Write, Idle, BitTimes, Activity, Start, Outcome, Receive, ReceiveError}
use Rattle.base.proofs.Choices.{pick_cases, refused_if, refused_unless}
use Rattle.model.proofs.QueueRanges.{no_requests-range}
use Rattle.model.proofs.MailboxRanges.{empty_mailbox-range}
use Rattle.model.proofs.FilterNumbers.{fmi_small}
use Rattle.model.proofs.FifoRanges.{empty_fifo-range, fmi_of-range}
use Rattle.model.proofs.CoreRanges.{free_wire-range}
use Rattle.model.proofs.WriteRanges.{written-range, banks_written-length, banks_written-words}
use Rattle.model.proofs.EventRanges.{settled-core-range, settled-followed, idle-range, bit_times-range, activity-range, start-range, receive_range, receive_error-range, end_range}

-- ---- hardware reset

reset-core-range : CoreRange reset.core
unfolding reset control_reset
reset-core-range = record {
  control = record { mcr = refl; ier = refl; btr = refl; timer = omega arith; stopped = λ _. refl; recovery = omega arith; slaki = λ _. refl };
  errors = record { tec = omega arith; rec = omega arith; lec = omega arith };
  recovery = record { count = λ _. refl; reinitialized = λ _. refl; fresh = λ _. refl; begins = λ h _. absurd (false≢true h) };
  wire = free_wire-range reset.core refl;
  transmit = record { queue = no_requests-range; mailboxes = empty; pending = λ m h. absurd (false≢true h) };
  fifo0 = empty_fifo-range;
  fifo1 = empty_fifo-range;
  filters = record { mode = refl; scale = refl; assignment = refl; activation = refl };
}
  where
    empty : (m : Mailbox) → MailboxRange (at reset.core.transmit.mailboxes m)
    empty M0 = empty_mailbox-range
    empty M1 = empty_mailbox-range
    empty M2 = empty_mailbox-range

zero-words : (n : ℕ) → Words (replicate n 0)
zero-words zero = tt
zero-words (suc n) = (omega arith, zero-words n)

pub reset-in_range : InRange reset
unfolding reset control_reset mode_next
reset-in_range = record { core = reset-core-range; mode = λ _. refl; bank_words = refl; banks = zero-words 28 }

-- ---- one step

banks-length : (v : List ℕ) (s : Step) → length v ≡ 2 * bank_count → length (banks_applied v s) ≡ 2 * bank_count
unfolding banks_applied reset
banks-length v Reset n = refl
banks-length v (Read o) n = n
banks-length v (Write o w) n = banks_written-length (register_at o) v w ∙ n
banks-length v Idle n = n
banks-length v (BitTimes t) n = n
banks-length v Activity n = n
banks-length v Start n = n
banks-length v (Outcome r) n = n
banks-length v (Receive x) n = n
banks-length v (ReceiveError e t) n = n

banks-words : (v : List ℕ) (s : Step) → Words v → StepRange s → Words (banks_applied v s)
unfolding banks_applied
banks-words v Reset r l = reset-in_range.banks
banks-words v (Read o) r l = r
banks-words v (Write o w) r l = banks_written-words (register_at o) v w r l
banks-words v Idle r l = r
banks-words v (BitTimes t) r l = r
banks-words v Activity r l = r
banks-words v Start r l = r
banks-words v (Outcome n) r l = r
banks-words v (Receive x) r l = r
banks-words v (ReceiveError e t) r l = r

fmi-range : (g : Filters) (v : List ℕ) (w : ℕ) → (fmi_of (acceptance bank_count g v w)).0 < 4 * bank_count
fmi-range g v w = fmi_of-range (acceptance bank_count g v w) (fmi_small bank_count g v w)

applied-range : (c : Core) (v : List ℕ) (s : Step) → CoreRange c → StepRange s → eqb (refusal c s) 0 ≡ true → CoreRange (applied c v s)
unfolding applied refusal
applied-range c v Reset r l h = reset-core-range
applied-range c v (Read o) r l h = r
applied-range c v (Write o w) r l h = written-range (register_at o) c w r l h
applied-range c v Idle r l h = idle-range c r (refused_unless (is_free c) 0 4 refl h).0
applied-range c v (BitTimes n) r l h = bit_times-range c r n
applied-range c v Activity r l h = activity-range c r
applied-range c v Start r l h = start-range c r (refused_unless (may_start c) 0 4 refl h).0
applied-range c v (Outcome n) r l h =
    let k = refused_if (ltb 8 n) 5 _ refl h in
    end_range c r v n (fmi-range c.filters v) k.0 (refused_unless (may_end c n) 0 4 refl k.1).0
applied-range c v (Receive x) r l h =
    let k = refused_if (malformed x) 5 _ refl h in
    receive_range c r _ x (fmi-range c.filters v x.identifier) l.0 l.1 l.2 k.0 (refused_unless (may_receive c) 0 4 refl k.1).0
applied-range c v (ReceiveError e n) r l h =
    let k = refused_unless (receive_error_in_range e n) _ 5 refl h in
    receive_error-range c r e n k.0 (refused_unless (may_receive c) 0 4 refl k.1).0

pub step-in_range : (z : Controller) (s : Step) → InRange z → StepRange s → InRange (step z s).controller
unfolding step answered core_after banks_after
step-in_range z s r l =
    let done : Bool = eqb (refusal z.core s) 0 in
    record {
      core = pick_cases CoreRange done _ _ (λ h. settled-core-range _ (applied-range z.core z.banks s r.core l h)) (λ _. r.core);
      mode = pick_cases Followed done _ _ (λ _. settled-followed _) (λ _. r.mode);
      bank_words = pick_cases (λ (v : List ℕ). length v ≡ 2 * bank_count) done _ _ (λ _. banks-length z.banks s r.bank_words) (λ _. r.bank_words);
      banks = pick_cases Words done _ _ (λ _. banks-words z.banks s r.banks l) (λ _. r.banks);
    }

-- ---- any list of steps

pub after-in_range : (z : Controller) (l : List Step) → InRange z → StepsRange l → InRange (after z l)
unfolding after
after-in_range z [] r h = r
after-in_range z (s ∷ l) r h = after-in_range (step z s).controller l (step-in_range z s r h.0) h.1

pub reachable : (l : List Step) → StepsRange l → InRange (after reset l)
reachable l h = after-in_range reset l reset-in_range h
