-- The next controller of a step and of a record, from what the by-value functions give.
use Rattle.std.proofs.Common.{◌≡◌, ℕ, ◌-◌, List, length, ap, ◌∙◌}
use Rattle.model.specs.Replies.{answer_of}
use Rattle.model.specs.Script.{reply_of}
use Rattle.model.specs.declared.Controller.{Controller}
use Rattle.model.specs.declared.Replayed.{Replayed}
use Rattle.model.specs.declared.Step.{Step}
use Rattle.model.specs.declared.Stepped.{Stepped}
use Rattle.controller.specs.After as after
use Rattle.controller.specs.declared.CoreStepped.{CoreStepped}
use Rattle.script.specs.OneWay as way
use Rattle.script.specs.declared.CoreReplayed.{CoreReplayed}
use Rattle.bench.specs.Lent.{Taken, RecordTaken, core_record_in, placed, record_in, recorded_of, next_controller}

pub step-taken : (z : Controller) (e : Step) (s : CoreStepped) (z' : Controller)
    → s ≡ after.core_step z.core z.banks e → z' ≡ next_controller z s.core s.banks
    → Taken z e s.answer z'
step-taken z e s z' h k =
    let w = ap (after.whole z) h ∙ after.whole-step z e in (ap answer_of w, k ∙ ap (λ (x : Stepped). x.controller) w)

pub record-taken : (z : Controller) (t : List ℕ) (p : ℕ) (space : List ℕ) (w : ℕ) (s : CoreReplayed) (z' : Controller) (space' : List ℕ)
    → s ≡ core_record_in z t p space w → z' ≡ next_controller z s.core s.banks → space' ≡ placed w (reply_of (way.whole z s)) space
    → RecordTaken (record_in z t p space w) w space s.recorded z' space'
record-taken z t p space w s z' space' h k g =
    let e = ap (way.whole z) h ∙ way.whole-record z t p (length space - w) in
    (ap recorded_of e, (k ∙ ap (λ (x : Replayed). x.controller) e, g ∙ ap (λ (x : Replayed). placed w (reply_of x) space) e))
