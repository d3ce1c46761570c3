-- A refusal at each test, or the core.
use mathlib.Core.Path.{sym, ap, ◌∙◌}
use Rattle.block.specs.Block.{core_at, canonical}
use Rattle.block_load.proofs.Loads.{short, unformed, unranged, gives_none, gives_core, core_or_reset}
use Rattle.block_load.proofs.load_core.Goals as goal

pub returns-in_default : goal.returns-in_default
returns-in_default c =
    let e = gives_none _ (short c.args.b.now c.in_default.ensures.1) in
    record { value = e; or_reset = core_or_reset _ _ e }

pub returns-then-not-canonical : goal.returns-then-not-canonical
returns-then-not-canonical c =
    let same = c.in-Ok.ensures.1.same in
    let e = gives_none _ (unformed c.args.b.now (ap canonical (sym same) ∙ sym c.canonical.ensures ∙ c.if-not-canonical.true)) in
    record { value = e; or_reset = core_or_reset _ _ e }

pub returns-then-not-in_range : goal.returns-then-not-in_range
returns-then-not-in_range c =
    let same = c.in-Ok.ensures.1.same in
    let e = gives_none _ (unranged c.args.b.now _ (c.core_at-core.ensures ∙ ap core_at same) (sym c.in_range.ensures ∙ c.if-not-in_range.true)) in
    record { value = e; or_reset = core_or_reset _ _ e }

pub returns : goal.returns
returns c =
    let same = c.in-Ok.ensures.1.same in
    let e =
    gives_core c.args.b.now _ c.in-Ok.ensures.1.long (ap canonical (sym same) ∙ sym c.canonical.ensures ∙ c.if-not-canonical.false) (c.core_at-core.ensures ∙ ap core_at same)
    (sym c.in_range.ensures ∙ c.if-not-in_range.false)
    in
    record { value = e; or_reset = core_or_reset _ _ e }
