use Rattle.std.proofs.Common.{◌≤◌, arith}
use Rattle.lines.proofs.Places.{near}
use Rattle.lines.proofs.frames.behind_identifier.Goals as goal

pub overflow_add-place : goal.overflow_add-place
overflow_add-place c =
    let l : 33 ≤ c.byte_at.result = omega arith in
    record { fits = (near c.args.s.now c.args.hash c.byte_at.result c.byte_at.ensures l c.well_formed.0.1).one }

pub overflow_add-place-in-82 : goal.overflow_add-place-in-82
overflow_add-place-in-82 c =
    let l : 33 ≤ c.byte_at.result = omega arith in
    record { fits = (near c.args.s.now c.args.hash c.byte_at.result c.byte_at.ensures l c.well_formed.0.1).second }
