use Rattle.std.proofs.Common.{◌≤◌, arith}
use Rattle.lines.proofs.Places.{near}
use Rattle.lines.proofs.numbers.sense_of.Goals as goal

pub overflow_add-digits : goal.overflow_add-digits
overflow_add-digits c =
    let l : 33 ≤ c.byte_at-first.result = omega arith in
    record { fits = (near c.args.s.now c.args.w.from c.byte_at-first.result c.byte_at-first.ensures l c.well_formed.0.1).two }

pub overflow_add-w : goal.overflow_add-w
overflow_add-w c =
    let l : 33 ≤ c.byte_at-first.result = omega arith in
    record { fits = (near c.args.s.now c.args.w.from c.byte_at-first.result c.byte_at-first.ensures l c.well_formed.0.1).one }
