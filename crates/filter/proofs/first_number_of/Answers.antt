-- The whole word of the four side by side fits, and so each of its parts; the ones of all four are the sum over the lower banks: `first_number-from-counts`.
use Rattle.std.proofs.Common.{ℕ, ◌-◌, ◌^◌, ◌<◌, sym, ap, ◌∙◌, arith, pow_pos, rules}
use lib.Count.{ones-le}
use Rattle.model.specs.Banks.{filter_number, four_counts}
use Rattle.model.proofs.Digits.{one_shifted}
use Rattle.model.proofs.Numbering.{first_number-from-counts}
use Rattle.filter.proofs.BankWords.{banks_below-same}
use Rattle.filter.proofs.SideBySide.{sides_small, sides_counts}
use Rattle.filter.proofs.first_number_of.Goals as goal

pub overflow_shl-mine : goal.overflow_shl-mine
overflow_shl-mine c = search rules

pub overflow_sub-mine : goal.overflow_sub-mine
overflow_sub-mine c = rw (one_shifted c.args.b.0 (overflow_shl-mine c)) (pow_pos c.args.b.0)

pub overflow_cast-sides : goal.overflow_cast-sides
overflow_cast-sides c = omega (arith, sides_small c.args.b.0 c.own.result c.args.g.mode ((2 ^ 32 - 1) - c.args.g.scale) c.requires)

pub overflow_cast-sides-2 : goal.overflow_cast-sides-2
overflow_cast-sides-2 c = omega (arith, sides_small c.args.b.0 c.own.result c.args.g.mode ((2 ^ 32 - 1) - c.args.g.scale) c.requires)

pub overflow_mul-sides : goal.overflow_mul-sides
overflow_mul-sides c = omega (arith, sides_small c.args.b.0 c.own.result c.args.g.mode ((2 ^ 32 - 1) - c.args.g.scale) c.requires)

pub overflow_add-sides : goal.overflow_add-sides
overflow_add-sides c = omega (arith, sides_small c.args.b.0 c.own.result c.args.g.mode ((2 ^ 32 - 1) - c.args.g.scale) c.requires)

pub overflow_cast-sides-3 : goal.overflow_cast-sides-3
overflow_cast-sides-3 c = omega (arith, sides_small c.args.b.0 c.own.result c.args.g.mode ((2 ^ 32 - 1) - c.args.g.scale) c.requires)

pub overflow_mul-sides-2 : goal.overflow_mul-sides-2
overflow_mul-sides-2 c = omega (arith, sides_small c.args.b.0 c.own.result c.args.g.mode ((2 ^ 32 - 1) - c.args.g.scale) c.requires)

pub overflow_add-sides-2 : goal.overflow_add-sides-2
overflow_add-sides-2 c = omega (arith, sides_small c.args.b.0 c.own.result c.args.g.mode ((2 ^ 32 - 1) - c.args.g.scale) c.requires)

pub overflow_cast-sides-4 : goal.overflow_cast-sides-4
overflow_cast-sides-4 c = omega (arith, sides_small c.args.b.0 c.own.result c.args.g.mode ((2 ^ 32 - 1) - c.args.g.scale) c.requires)

pub overflow_mul-sides-3 : goal.overflow_mul-sides-3
overflow_mul-sides-3 c = omega (arith, sides_small c.args.b.0 c.own.result c.args.g.mode ((2 ^ 32 - 1) - c.args.g.scale) c.requires)

pub overflow_add-sides-3 : goal.overflow_add-sides-3
overflow_add-sides-3 c = omega (arith, sides_small c.args.b.0 c.own.result c.args.g.mode ((2 ^ 32 - 1) - c.args.g.scale) c.requires)

pub overflow_cast-low : goal.overflow_cast-low
overflow_cast-low c = omega (arith, ones-le 56 _ (sides_small c.args.b.0 c.own.result c.args.g.mode ((2 ^ 32 - 1) - c.args.g.scale) c.requires))

pub returns : goal.returns
returns c =
    let g = c.args.g in
    let ha : g.assignment < 2 ^ 32 = omega (arith, c.struct_known-3-1.given) in
    let hs : g.scale < 2 ^ 32 = omega (arith, c.struct_known-3-1.given) in
    let counts = first_number-from-counts g c.args.f ha hs 14 c.args.b (omega arith) in (
      ap filter_number
          (sides_counts c.args.b.0 c.own.result g.mode ((2 ^ 32 - 1) - g.scale) c.requires
          ∙ rw c.own.ensures (sym (counts ∙ ap (λ (i : ℕ). four_counts i g c.args.f) (banks_below-same c.args.b c.requires)))),
      ones-le 56 _ (sides_small c.args.b.0 c.own.result c.args.g.mode ((2 ^ 32 - 1) - c.args.g.scale) c.requires),
    )
