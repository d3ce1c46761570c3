use borrow.Author.Rules.{rules}
use Rattle.block_save.proofs.Over.{over, code-kept, refused_left}
use Rattle.block_save.proofs.save.Goals as goal

pub returns-in_err-save_core-clause-block : goal.returns-in_err-save_core-clause-block
returns-in_err-save_core-clause-block c =
    rw c.save_core.ensures.block (refused_left c.args.b.now c.args.z.core c.args.z _ c.in_err-save_core.ensures.code)

pub returns-clause-code : goal.returns-clause-code
returns-clause-code c =
    rw (c.save_banks.ensures.code, c.save_core.ensures.block) (code-kept c.args.b.now c.args.z.core)

pub returns-clause-block : goal.returns-clause-block
returns-clause-block c =
    rw (c.save_banks.ensures.block, c.save_core.ensures.block) (over c.args.b.now c.args.z (search rules))
