-- A bank past the last one has the next free number: as if it stood right behind it.
use Rattle.std.proofs.Common.{◌∙◌, arith}
use Rattle.model.specs.Banks.{bank, first_number, banks_below}
use Rattle.model.proofs.Numbering.{banks_below-le}
use Rattle.filter.proofs.BankWords.{banks_below-same}
use Rattle.filter.proofs.first_number.Goals as goal

pub first_number_of-requires : goal.first_number_of-requires
first_number_of-requires c = omega (arith, c.pick-i.ensures, banks_below-le 14 c.args.b)

pub returns : goal.returns
unfolding first_number
returns c =
    let below = banks_below-same (bank (banks_below 14 c.args.b)) (banks_below-le 14 c.args.b) in
    c.first_number_of.ensures.0 ∙ rw (c.pick-i.ensures, below)
