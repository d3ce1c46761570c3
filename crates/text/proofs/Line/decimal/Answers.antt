use Rattle.std.proofs.Common.{ap, ◌∙◌, arith}
use Rattle.text.specs.Lines.{put_all}
use Rattle.text.proofs.Putting.{decimal_digits_lem}
use Rattle.text.proofs.Line.decimal.Goals as goal

pub returns-clause-value : goal.returns-clause-value
returns-clause-value c =
    let d = c.decimal-k.ensures in
    c.put.ensures.value ∙ ap (put_all _) (d.digits ∙ decimal_digits_lem 19 _ _ (omega (arith, c.ranges.n.fits)) d.len)
