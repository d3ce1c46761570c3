use Rattle.std.proofs.Common.{sym, ap, ◌∙◌, eq-eqb, ne_eqb}
use Rattle.phrases.specs.Names.{said_of, fields_text, is_said}
use Rattle.phrases.specs.Steps.{written_text}
use Rattle.phrases.specs.declared.Said.{Said}
use Rattle.text.proofs.Putting.{behind}
use Rattle.phrases.proofs.written.Goals as goal
use Rattle.phrases.proofs.written.Goals.{else-said-eq0-via-then-said-eq0+else-w-ne0, else-said-eq0-via-else-said-eq0}

pub returns-then-full : goal.returns-then-full
unfolding written_text
returns-then-full c = rw c.if-full.true (behind _ _ _ _ _ c.number.ensures c.fields.ensures)

pub returns-then-w-ne0 : goal.returns-then-w-ne0
unfolding written_text said_of fields_text is_said
returns-then-w-ne0 c =
    let e = c.all_fields-said.ensures in
    rw (c.if-full.false, eq-eqb _ _ (sym (ap (λ (t : Said). t.rest) e) ∙ c.if-said-eq0.true), ne_eqb _ _ c.if-w-ne0.true) (ap (λ (t : Said). t.line) e)

pub returns-else-said-eq0 : goal.returns-else-said-eq0
unfolding written_text said_of is_said
returns-else-said-eq0 c =
    let e = ap (λ (t : Said). t.rest) c.all_fields-said.ensures in
    elim c.else-said-eq0.branch [
      | else-said-eq0-via-then-said-eq0+else-w-ne0 w ↦ rw (c.if-full.false, eq-eqb _ _ (sym e ∙ w.if-said-eq0.true), eq-eqb _ _ w.if-w-ne0.false) c.number-else-said-eq0.ensures
      | else-said-eq0-via-else-said-eq0 w ↦ rw (c.if-full.false, ne_eqb _ _ (λ z. w.if-said-eq0.false (e ∙ z))) c.number-else-said-eq0.ensures
    ]
