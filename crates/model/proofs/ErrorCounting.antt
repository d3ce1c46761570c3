-- TEC, REC, LEC, the recovery count, and whether Initialization was entered since bus-off are what the events say.
use mathlib.Core.Path.{◌≡◌, refl, sym, ap, ◌∙◌}
use mathlib.Core.List.{List, [], ◌∷◌}
use Rattle.model.specs.Control.{control_reset}
use Rattle.model.specs.Registers.{reset}
use Rattle.model.specs.Step.{step}
use Rattle.model.specs.Requests.{after}
use Rattle.model.specs.Reachable.{InRange, StepsRange}
use Rattle.model.specs.History.{ErrorCounts, no_errors, Seen, seen, counts_next, counts_from}
use Rattle.model.specs.declared.Controller.{Controller}
use Rattle.model.specs.declared.Step as steps
use Rattle.model.proofs.Reached.{step-in_range}
use Rattle.model.proofs.BusErrors.{stored, known_of, known-counts}
use Rattle.model.proofs.HistoryReads.{code_is}
use Rattle.model.proofs.ShownWords.{mcr-shown}
use Rattle.model.proofs.ReadFields.{inak-read, normal-read}

seen-known : (z : Controller) (s : steps.Step) → seen z s ≡ known_of z s
seen-known z s = rw (code_is z s, mcr-shown z, normal-read z, inak-read z, inak-read (step z s).controller)

-- the counts that are stored go on as the events say
pub step_counts : (z : Controller) (s : steps.Step) → InRange z → stored (step z s).controller ≡ counts_next (stored z) (seen z s) s
step_counts z s i = known-counts z s i ∙ ap (λ (v : Seen). counts_next (stored z) v s) (sym (seen-known z s))

pub run-counts : (l : List steps.Step) (z : Controller) → InRange z → StepsRange l → stored (after z l) ≡ counts_from (stored z) z l
unfolding after counts_from
run-counts [] z i h = refl
run-counts (s ∷ l) z i h =
    run-counts l (step z s).controller (step-in_range z s i h.0) h.1
    ∙ ap (λ (a : ErrorCounts). counts_from a (step z s).controller l) (step_counts z s i)

pub reset-counts : stored reset ≡ no_errors
unfolding reset control_reset
reset-counts = refl
