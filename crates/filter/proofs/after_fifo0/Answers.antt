-- The banks of FIFO 1 that can win have the filters that are looked at after FIFO 0's match: `can_win-tried`.
use Rattle.std.proofs.Common.{arith}
use Rattle.model.specs.declared.Fifo.TheVariants.{F0}
use Rattle.filter.proofs.After.{can_win-tried, none-can_win, none_left, alone, of_two}
use Rattle.filter.proofs.Winners.{number_at-le, number_small}
use Rattle.filter.proofs.after_fifo0.Goals as goal

pub overflow_mul-x : goal.overflow_mul-x
overflow_mul-x c = omega (arith, c.number_at-n0.ensures, number_at-le c.args.g F0 c.args.b.leading.f0)

pub returns-then-rest-eq0 : goal.returns-then-rest-eq0
returns-then-rest-eq0 c =
    alone _ _ _ _ c.requires.1.0 c.requires.1.1 _ c.number_at-n0.ensures
    (none_left _ _ _ _ c.requires.1.0 c.requires.1.1 c.if-rest-eq0.true)

pub can_win-part-requires : goal.can_win-part-requires
can_win-part-requires c =
    rw c.number_at-n0.ensures (number_small _ _ _ c.requires.1.0.within0 c.requires.1.1)

pub returns-then-part-eq0 : goal.returns-then-part-eq0
returns-then-part-eq0 c =
    let number = c.number_at-n0.ensures in
    let few = number_at-le c.args.g F0 c.args.b.leading.f0 in
    alone _ _ _ _ c.requires.1.0 c.requires.1.1 _ number
    (none-can_win _ _ _ _ c.requires.1.0 c.requires.1.1 _ _ (omega arith) number c.can_win-part.ensures c.if-part-eq0.true)

pub lower-requires : goal.lower-requires
lower-requires c =
    let first = c.number_at-n0.ensures in
    (rw first (number_at-le _ _ _), rw c.number_at-n1.ensures (number_at-le _ _ _))

pub returns : goal.returns
returns c =
    let number = c.number_at-n0.ensures in
    let tries = can_win-tried _ _ _ _ c.requires.1.0 c.requires.1.1 _ _ _ number c.can_win-part.ensures (omega arith) (omega (arith, number, number_at-le c.args.g F0 c.args.b.leading.f0)) in
    rw (c.lower.ensures, c.number_at-n1.ensures)
    (of_two _ _ _ _ c.requires.1.0 c.requires.1.1 _ _ _ _ number tries c.match_of_class-y.ensures)
