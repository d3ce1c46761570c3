-- Each way through a step gives the answer and the block of its definition.
use mathlib.Core.Path.{refl, sym, ◌∙◌}
use borrow.Author.Rules.{rules}
use Rattle.std.proofs.lemmas.Result.{err_from_is_err_and}
use Rattle.base.proofs.Choices.{Is, Not}
use Rattle.model.specs.Shown.{is_read}
use Rattle.capi.proofs.Called.{no_board, not-loaded, not_read, answered, core-saved, banks-saved, refused_leaves, read_leaves, core-written, all_written_lem}
use Rattle.capi.proofs.stepped.Goals as goal
use Rattle.capi.proofs.stepped.Goals.{then-s-ne0-via-then-s-ne0, then-s-ne0-via-else-s-ne0+then-matches, in-Read, in_default, then-not-is_nothing+in_ok-save_banks, else-not-is_nothing}

pub returns-then-board-ne0-clause-answer : goal.returns-then-board-ne0-clause-answer
returns-then-board-ne0-clause-answer c = (no_board c.args.board c.args.b.now c.args.e c.if-board-ne0.true).0

pub returns-then-board-ne0-clause-block : goal.returns-then-board-ne0-clause-block
returns-then-board-ne0-clause-block c = (no_board c.args.board c.args.b.now c.args.e c.if-board-ne0.true).1

pub returns-in_err-core-clause-answer : goal.returns-in_err-core-clause-answer
returns-in_err-core-clause-answer c =
    let p = err_from_is_err_and c.from_residual.result c.from_residual.ensures.1 in
    rw (p.1, p.2) (not-loaded c.args.board c.args.b.now c.args.e _ c.in_err-core.ensures.value).0

pub returns-in_err-core-clause-block : goal.returns-in_err-core-clause-block
returns-in_err-core-clause-block c = (not-loaded c.args.board c.args.b.now c.args.e _ c.in_err-core.ensures.value).1

pub returns-then-s-ne0-clause-answer : goal.returns-then-s-ne0-clause-answer
returns-then-s-ne0-clause-answer c =
    let h = c.if-board-ne0.false in
    let p = c.in_ok-core.ensures.value in
    let q = c.load_banks-banks.ensures in
    let t = c.core_step-s.ensures in
    answered c.args.board c.args.b.now c.args.e h _ p _ q _ t

pub returns-then-s-ne0-clause-block : goal.returns-then-s-ne0-clause-block
returns-then-s-ne0-clause-block c =
    let h = c.if-board-ne0.false in
    let p = c.in_ok-core.ensures.value in
    let q = c.load_banks-banks.ensures in
    let t = c.core_step-s.ensures in
    elim c.then-s-ne0.branch [
      | then-s-ne0-via-then-s-ne0 w ↦ refused_leaves c.args.board c.args.b.now c.args.e h _ p _ q _ t w.if-s-ne0.true
      | then-s-ne0-via-else-s-ne0+then-matches w ↦
          let r : Is (is_read c.args.e) = elim w.match-matches.branch [ in-Read x ↦ rw x.in-Read.is refl | in_default x ↦ cc ] in
          read_leaves c.args.board c.args.b.now c.args.e h _ p _ q _ t r
    ]

pub returns-in_err-save_core-clause-answer : goal.returns-in_err-save_core-clause-answer
returns-in_err-save_core-clause-answer c =
    let h = c.if-board-ne0.false in
    let p = c.in_ok-core.ensures.value in
    let q = c.load_banks-banks.ensures in
    let t = c.core_step-s.ensures in
    absurd (core-saved c.args.board c.args.b.now c.args.e h _ p _ q _ t _ c.in_err-save_core.ensures.code)

pub returns-in_err-save_core-clause-block : goal.returns-in_err-save_core-clause-block
returns-in_err-save_core-clause-block c =
    let h = c.if-board-ne0.false in
    let p = c.in_ok-core.ensures.value in
    let q = c.load_banks-banks.ensures in
    let t = c.core_step-s.ensures in
    absurd (core-saved c.args.board c.args.b.now c.args.e h _ p _ q _ t _ c.in_err-save_core.ensures.code)

pub returns-in_err-save_banks-clause-answer : goal.returns-in_err-save_banks-clause-answer
returns-in_err-save_banks-clause-answer c =
    let h = c.if-board-ne0.false in
    let p = c.in_ok-core.ensures.value in
    let q = c.load_banks-banks.ensures in
    let t = c.core_step-s.ensures in
    absurd (banks-saved c.args.board c.args.b.now c.args.e h _ p _ q _ t _ _ c.save_core.ensures.block c.in_err-save_banks.ensures.code)

pub returns-in_err-save_banks-clause-block : goal.returns-in_err-save_banks-clause-block
returns-in_err-save_banks-clause-block c =
    let h = c.if-board-ne0.false in
    let p = c.in_ok-core.ensures.value in
    let q = c.load_banks-banks.ensures in
    let t = c.core_step-s.ensures in
    absurd (banks-saved c.args.board c.args.b.now c.args.e h _ p _ q _ t _ _ c.save_core.ensures.block c.in_err-save_banks.ensures.code)

pub returns-clause-answer : goal.returns-clause-answer
returns-clause-answer c =
    let h = c.if-board-ne0.false in
    let p = c.in_ok-core.ensures.value in
    let q = c.load_banks-banks.ensures in
    let t = c.core_step-s.ensures in
    answered c.args.board c.args.b.now c.args.e h _ p _ q _ t

pub returns-clause-block : goal.returns-clause-block
returns-clause-block c =
    let h = c.if-board-ne0.false in
    let p = c.in_ok-core.ensures.value in
    let q = c.load_banks-banks.ensures in
    let t = c.core_step-s.ensures in
    let z = c.if-s-ne0.false in
    let n : Not (is_read c.args.e) = elim c.match-matches.branch [ in-Read w ↦ cc | in_default w ↦ not_read c.args.e w.in_default.not-Read ] in
    elim c.if-not-is_nothing.branch [
      | then-not-is_nothing+in_ok-save_banks w ↦
          w.b-is ∙ all_written_lem c.args.board c.args.b.now c.args.e h _ p _ q _ t z n _ _ (sym c.is_nothing.ensures ∙ w.if-not-is_nothing.true) w.banks_after.ensures (search rules) (rw (sym c.save_core.ensures.block) w.save_banks.ensures.block)
      | else-not-is_nothing w ↦
          w.b-is ∙ core-written c.args.board c.args.b.now c.args.e h _ p _ q _ t z n _ (sym c.is_nothing.ensures ∙ w.if-not-is_nothing.false) c.save_core.ensures.block
    ]
