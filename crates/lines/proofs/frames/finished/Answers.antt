use Rattle.std.proofs.Common.{◌≤◌, arith}
use Rattle.lines.proofs.Places.{near}
use Rattle.lines.proofs.frames.finished.Goals as goal

pub overflow_add-end : goal.overflow_add-end
overflow_add-end c =
    let l : 33 ≤ c.byte_at.result = omega arith in
    record { fits = (near c.args.s.now c.args.place c.byte_at.result c.byte_at.ensures l c.well_formed.0.1).second }
