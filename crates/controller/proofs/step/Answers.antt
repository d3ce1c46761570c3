-- The core's part is `core_step`'s; the words of the banks by what the step does to them, or as they were where it does nothing.
use Rattle.std.proofs.Common.{ap, ◌∙◌, sym}
use Rattle.writes.specs.Places.{changed-nothing}
use Rattle.controller.specs.After.{whole, whole-step}
use Rattle.controller.specs.declared.CoreStepped.{CoreStepped}
use Rattle.controller.proofs.step.Goals as goal

pub returns-then-not-is_nothing : goal.returns-then-not-is_nothing
returns-then-not-is_nothing c =
    simp c.banks_after-controller.ensures (ap (λ (s : CoreStepped). whole c.args.z s) (rw c.core.ensures at c.core_step-s.ensures) ∙ whole-step c.args.z c.args.e)

pub returns-else-not-is_nothing : goal.returns-else-not-is_nothing
returns-else-not-is_nothing c =
    let kept = changed-nothing c.args.z.banks c.core_step-s.result.banks (sym c.is_nothing.ensures ∙ c.if-not-is_nothing.false) in
    rw kept at (ap (λ (s : CoreStepped). whole c.args.z s) (rw c.core.ensures at c.core_step-s.ensures) ∙ whole-step c.args.z c.args.e)
