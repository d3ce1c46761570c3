-- The walk adds up the widths of FIFO 1's banks, so it knows the first number of the next one; it stops where that is no longer below n.
use Rattle.std.proofs.Common.{arith}
use lib.Count.{count_trailing_zeros}
use Rattle.model.specs.Banks.{bank, class_of}
use Rattle.model.proofs.FirstHit.{width-le}
use Rattle.filter.proofs.LeftBanks.{lowest_set, without_less}
use Rattle.filter.proofs.Numbered.{either, neither, none-low, one-low, all-low, surely_low, rest_in_fifo1, all_in_word, begin_below, begin_whole}
use Rattle.filter.proofs.can_win.Goals as goal

pub returns-then-part-sure-eq0 : goal.returns-then-part-sure-eq0
returns-then-part-sure-eq0 c = λ k m rest fits less. begin_below _ _ _ k m rest fits less _ (surely_low _ _ _ c.if-part-sure-eq0.true)

pub returns-then-g-part : goal.returns-then-g-part
returns-then-g-part c = λ k m rest fits less.
    let both = all_in_word _ _ k _ rest (omega arith) c.if-g-part.true in begin_whole _ _ _ k m rest fits less both.0 both.1

pub loop-number-init : goal.loop-number-init
loop-number-init c = none-low _ _ (omega (arith, c.struct_known-1.given))

pub width_at-number-requires : goal.width_at-number-requires
width_at-number-requires c = (neither 14 (count_trailing_zeros 32 c.loop-number.left) c.args.n c.loop-number.number c.if-i-n.false).0

pub overflow_add-number : goal.overflow_add-number
overflow_add-number c =
    omega (arith, (neither 14 (count_trailing_zeros 32 c.loop-number.left) c.args.n c.loop-number.number c.if-i-n.false).1, c.requires, c.width_at-number.ensures, width-le (class_of c.args.g (bank (count_trailing_zeros 32 c.loop-number.left))))

pub overflow_shl-left : goal.overflow_shl-left
overflow_shl-left c = omega (arith, (neither 14 (count_trailing_zeros 32 c.loop-number.left) c.args.n c.loop-number.number c.if-i-n.false).0)

pub loop-number-smaller : goal.loop-number-smaller
loop-number-smaller c =
    without_less c.loop-number.left _ (omega (arith, (neither 14 (count_trailing_zeros 32 c.loop-number.left) c.args.n c.loop-number.number c.if-i-n.false).0)) (lowest_set c.loop-number.left (omega (arith, (neither 14 (count_trailing_zeros 32 c.loop-number.left) c.args.n c.loop-number.number c.if-i-n.false).0)))

pub loop-number-preserved : goal.loop-number-preserved
loop-number-preserved c =
    rw c.width_at-number.ensures (one-low _ _ _ _ c.loop-number.invariant (neither 14 (count_trailing_zeros 32 c.loop-number.left) c.args.n c.loop-number.number c.if-i-n.false).0 (neither 14 (count_trailing_zeros 32 c.loop-number.left) c.args.n c.loop-number.number c.if-i-n.false).1)

pub returns : goal.returns
returns c = λ k m rest fits less.
    begin_below _ _ _ k m rest fits less _
    (all-low _ _ c.loop-number.left _ c.loop-number.invariant (either 14 _ _ _ c.if-i-n.true) _ (rest_in_fifo1 _ k _ rest))
