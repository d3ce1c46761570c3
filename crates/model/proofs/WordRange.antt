-- Every word that a step answers, from a state in range, fits 32 bits.
use mathlib.Core.Bool.{Bool, not}
use mathlib.Core.List.{List, [], ◌∷◌}
use Prim.Native.Nat.{ℕ, zero, suc, ◌+◌, ◌*◌, ◌^◌, ◌<◌}
use native.Mathlib.Omega.{arith}
use lib.Dec.{eqb, ltb}
use lib.ListN.{get_or}
use Rattle.model.specs.Queue.{holds}
use Rattle.model.specs.Mailboxes.{ti_word, first_of}
use Rattle.model.specs.Reception.{output, rfr_word, no_frame}
use Rattle.model.specs.Control.{txfp, ewgf, epvf, boff, msr_word, esr_word}
use Rattle.model.specs.Registers.{register_at, bank_count, bank_word, fifo_of, is_free, read_word}
use Rattle.model.specs.Step.{word_of, refusal, answered, step}
use Rattle.model.specs.Reachable.{Words, FifoRange, ErrorRange, CoreRange, InRange}
use Rattle.model.specs.declared.Bank.{Bank}
use Rattle.model.specs.declared.Control.{Control}
use Rattle.model.specs.declared.Errors.{Errors}
use Rattle.model.specs.declared.StoredFrame.{StoredFrame}
use Rattle.model.specs.declared.FifoState.{FifoState}
use Rattle.model.specs.declared.Core.{Core}
use Rattle.model.specs.declared.Controller.{Controller}
use Rattle.model.specs.declared.Register.{Register}
use Rattle.model.specs.declared.Register.TheVariants.{Mcr, Msr, Tsr, Rfr, Ier, Esr, Btr, Ti, Tdt, Tdl, Tdh, Ri, Rdt, Rdl, Rdh, Fmr, Fm1r, Fs1r, Ffa1r, Fa1r, R1, R2, Absent}
use Rattle.model.specs.declared.Step as steps
use Rattle.model.specs.declared.Step.TheVariants.{Reset, Read, Write, Idle, BitTimes, Activity, Start, Outcome, Receive, ReceiveError}
use Rattle.base.proofs.Choices.{one-le, pick_cases}
use Rattle.model.proofs.CoreRanges.{fifo_of-range}
use Rattle.model.proofs.ShownWords.{mode_bits_small}
use Rattle.model.proofs.StatusWord.{sender_small, status_small}
use Rattle.model.proofs.FifoRules.{output-words}

-- ---- words made of fields

msr_small : (k : Control) (free : Bool) → msr_word k free < 2 ^ 32
unfolding msr_word
msr_small k free = omega (arith, mode_bits_small k free, one-le k.erri, one-le k.wkui, one-le k.slaki, one-le (not free))

esr_small : (e : Errors) → ErrorRange e → esr_word e < 2 ^ 32
unfolding esr_word
esr_small e r = omega (arith, one-le (ewgf e), one-le (epvf e), one-le (boff e), r.lec, r.rec)

rfr_small : (q : FifoState) → FifoRange q → rfr_word q < 2 ^ 32
unfolding rfr_word
rfr_small q r = omega (arith, one-le q.full, one-le q.fovr, r.count)

ri_small : (q : FifoState) → FifoRange q → (output q).ri < 2 ^ 32
unfolding output
ri_small q r = pick_cases (λ (x : StoredFrame). x.ri < 2 ^ 32) (eqb q.count 0) no_frame q.first (λ _. omega arith) (λ _. r.first.ri.word)

word_at : (v : List ℕ) (i : ℕ) → Words v → get_or v i 0 < 2 ^ 32
word_at [] i r = omega arith
word_at (w ∷ v) zero r = r.0
word_at (w ∷ v) (suc i) r = word_at v i r.1

bank_small : (v : List ℕ) (b : Bank) (i : ℕ) → Words v → bank_word v b i < 2 ^ 32
unfolding bank_word
bank_small v b i r = pick_cases (λ (w : ℕ). w < 2 ^ 32) (ltb b.0 bank_count) (get_or v (2 * b.0 + i) 0) 0 (λ _. word_at v (2 * b.0 + i) r) (λ _. omega arith)

-- ---- registers

read_small : (g : Register) (c : Core) (v : List ℕ) → CoreRange c → Words v → read_word g c v < 2 ^ 32
unfolding read_word ti_word
read_small Mcr c v r k = omega (arith, r.control.mcr)
read_small Msr c v r k = msr_small c.control (is_free c)
read_small Tsr c v r k = status_small (txfp c.control) c.transmit
read_small (Rfr f) c v r k = rfr_small (fifo_of f c) (fifo_of-range c r f)
read_small Ier c v r k = omega (arith, r.control.ier)
read_small Esr c v r k = esr_small c.errors r.errors
read_small Btr c v r k = omega (arith, r.control.btr)
read_small (Ti m) c v r k = omega (arith, (r.transmit.mailboxes m).ti, one-le (holds c.transmit.queue.order m))
read_small (Tdt m) c v r k = omega (arith, (r.transmit.mailboxes m).tdt)
read_small (Tdl m) c v r k = (r.transmit.mailboxes m).tdl
read_small (Tdh m) c v r k = (r.transmit.mailboxes m).tdh
read_small (Ri f) c v r k = ri_small (fifo_of f c) (fifo_of-range c r f)
read_small (Rdt f) c v r k = (output-words (fifo_of f c) (fifo_of-range c r f)).0
read_small (Rdl f) c v r k = (output-words (fifo_of f c) (fifo_of-range c r f)).1
read_small (Rdh f) c v r k = (output-words (fifo_of f c) (fifo_of-range c r f)).2
read_small Fmr c v r k = omega (arith, one-le c.filters.finit)
read_small Fm1r c v r k = omega (arith, r.filters.mode)
read_small Fs1r c v r k = omega (arith, r.filters.scale)
read_small Ffa1r c v r k = omega (arith, r.filters.assignment)
read_small Fa1r c v r k = omega (arith, r.filters.activation)
read_small (R1 b) c v r k = bank_small v b 0 k
read_small (R2 b) c v r k = bank_small v b 1 k
read_small Absent c v r k = omega arith

-- ---- steps

answer_small : (c : Core) (v : List ℕ) (e : steps.Step) → CoreRange c → Words v → word_of c v e < 2 ^ 32
unfolding word_of
answer_small c v Reset r k = omega arith
answer_small c v (Read o) r k = read_small (register_at o) c v r k
answer_small c v (Write o w) r k = omega arith
answer_small c v Idle r k = omega arith
answer_small c v (BitTimes n) r k = omega arith
answer_small c v Activity r k = omega arith
answer_small c v Start r k = omega (arith, sender_small (first_of (txfp c.control) c.transmit))
answer_small c v (Outcome n) r k = omega arith
answer_small c v (Receive x) r k = omega arith
answer_small c v (ReceiveError n m) r k = omega arith

pub word_small : (z : Controller) (e : steps.Step) → InRange z → (step z e).word < 2 ^ 32
unfolding step answered
word_small z e r =
    pick_cases (λ (w : ℕ). w < 2 ^ 32) (eqb (refusal z.core e) 0) (word_of z.core z.banks e) 0 (λ _. answer_small z.core z.banks e r.core r.banks) (λ _. omega arith)
