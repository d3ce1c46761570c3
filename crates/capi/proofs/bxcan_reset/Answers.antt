use borrow.Author.Tests.{eq-eqb, ne_eqb}
use Rattle.block.specs.Loading.{save_code, saved_over}
use Rattle.capi.specs.Calls.{is_board, fits, reset_answer, block_reset}
use Rattle.capi.proofs.bxcan_reset.Goals as goal

pub returns-then-board-ne0 : goal.returns-then-board-ne0
unfolding is_board fits reset_answer block_reset
returns-then-board-ne0 c = let e = ne_eqb _ _ c.if-board-ne0.true in (rw e, rw e)

pub returns-in-Ok : goal.returns-in-Ok
unfolding is_board fits reset_answer block_reset save_code saved_over
returns-in-Ok c =
    let e = eq-eqb _ _ c.if-board-ne0.false in
    (rw e c.in-Ok.ensures.code, rw (e, c.save_reset.ensures.block))

pub returns-in-Err : goal.returns-in-Err
unfolding is_board fits reset_answer block_reset save_code saved_over
returns-in-Err c =
    let e = eq-eqb _ _ c.if-board-ne0.false in
    (rw (c.from-in-Err.ensures, c.from.ensures, e) c.in-Err.ensures.code, rw (e, c.save_reset.ensures.block))
