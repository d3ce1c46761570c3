use Rattle.block.proofs.Banks.{banks-whole}
use Rattle.block_save.proofs.put.put_banks.Goals as goal

pub returns : goal.returns
returns c = rw (c.put_words.ensures, c.put.ensures) (banks-whole c.args.v c.args.b.now)
