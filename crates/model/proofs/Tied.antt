-- FMP, TEC, REC, LEC, the recovery count and the timer are what the history says, for every list of steps.
use mathlib.Core.Path.{◌≡◌, refl, ap, ◌∙◌}
use mathlib.Core.List.{List}
use Prim.Native.Nat.{ℕ, ◌%◌}
use lib.Dec.{ltb}
use Rattle.base.specs.Base.{bit, bits}
use Rattle.model.specs.Reception.{output}
use Rattle.model.specs.Control.{control_reset}
use Rattle.model.specs.Registers.{reset, fifo_of}
use Rattle.model.specs.Requests.{after}
use Rattle.model.specs.Reachable.{InRange, StepsRange}
use Rattle.model.specs.History.{ErrorCounts, counts_from, frames, error_counts, timer_from, oldest_frame, Tied}
use Rattle.model.specs.declared.Fifo.{Fifo}
use Rattle.model.specs.declared.StoredFrame.{StoredFrame}
use Rattle.model.specs.declared.Controller.{Controller}
use Rattle.model.specs.declared.Step as steps
use Rattle.model.proofs.Reached.{reset-in_range, reachable}
use Rattle.model.proofs.BusErrors.{stored}
use Rattle.model.proofs.Arrivals.{fmp-read, output-read}
use Rattle.model.proofs.Waiting.{holds-reset}
use Rattle.model.proofs.Timing.{run-timer}
use Rattle.model.proofs.MailboxTimes.{time-read}
use Rattle.model.proofs.ErrorCounting.{run-counts, reset-counts}
use Rattle.model.proofs.ShownWords.{rfr-shown, esr-shown, ri-shown, rdt-shown, rdl-shown, rdh-shown, esr-tec, esr-boff, esr-rec, esr-lec}

reset-timer : reset.core.control.timer ≡ 0
unfolding reset control_reset
reset-timer = refl

pub tied : (l : List steps.Step) → StepsRange l → Tied reset l
tied l h =
    let z : Controller = after reset l in
    let i : InRange z = reachable l h in
    let c : stored z ≡ error_counts reset l = run-counts l reset reset-in_range h ∙ ap (λ (a : ErrorCounts). counts_from a reset l) reset-counts in
    let t : z.core.errors.tec ≡ (error_counts reset l).tec = ap (λ (a : ErrorCounts). a.tec) c in
    let o : (f : Fifo) → output (fifo_of f z.core) ≡ oldest_frame (frames f reset l) = λ f. output-read (fifo_of f z.core) (frames f reset l) (holds-reset f l h) in
    let e = z.core.errors in
    record {
      fmp = λ f. ap (λ (w : ℕ). bits 0 2 w) (rfr-shown f z) ∙ fmp-read (fifo_of f z.core) (frames f reset l) (holds-reset f l h);
      ri = λ f. ri-shown f z ∙ ap (λ (x : StoredFrame). x.ri) (o f);
      rdt = λ f. rdt-shown f z ∙ ap (λ (x : StoredFrame). x.rdt) (o f);
      rdl = λ f. rdl-shown f z ∙ ap (λ (x : StoredFrame). x.rdl) (o f);
      rdh = λ f. rdh-shown f z ∙ ap (λ (x : StoredFrame). x.rdh) (o f);
      time = λ m. time-read m l h;
      tec_field = ap (λ (w : ℕ). bits 16 8 w) (esr-shown z) ∙ (esr-tec e i.core.errors.lec ∙ ap (λ (n : ℕ). n % 256) t);
      boff = ap (λ (w : ℕ). bit 2 w) (esr-shown z) ∙ (esr-boff e ∙ ap (λ (n : ℕ). ltb 255 n) t);
      rec = ap (λ (w : ℕ). bits 24 8 w) (esr-shown z) ∙ (esr-rec e i.core.errors.lec i.core.errors.rec ∙ ap (λ (a : ErrorCounts). a.rec) c);
      lec = ap (λ (w : ℕ). bits 4 3 w) (esr-shown z) ∙ (esr-lec e i.core.errors.lec ∙ ap (λ (a : ErrorCounts). a.lec) c);
      tec = t;
      recovery = ap (λ (a : ErrorCounts). a.idles) c;
      reinitialized = ap (λ (a : ErrorCounts). a.reinitialized) c;
      timer = run-timer l reset reset-in_range h ∙ ap (λ (t : ℕ). timer_from t reset l) reset-timer;
    }
