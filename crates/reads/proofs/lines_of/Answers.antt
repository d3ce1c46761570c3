-- The flags of a line side by side under its enable bits; with no interrupt enabled all four lines are down.
use native.Mathlib.Omega.{arith}
use lib.Bits.{and_le_r}
use Rattle.model.specs.Control.{status_line}
use Rattle.model.specs.Reception.{fifo_line}
use Rattle.model.specs.Step.{lines_of, any_rqcp}
use Rattle.reads.proofs.LineMasks.{one-flag, line_up}
use Rattle.base.proofs.Flags.{from_bool_one, from_bool_small}
use Rattle.reads.proofs.lines_of.Goals as goal

pub returns-then-ier-eq0 : goal.returns-then-ier-eq0
unfolding lines_of fifo_line status_line
returns-then-ier-eq0 c = simp c.if-ier-eq0.true

pub overflow_add-sum : goal.overflow_add-sum
overflow_add-sum c = omega (arith, from_bool_small, and_le_r c.args.c.control.ier c.from.result)

pub overflow_add-sum-2 : goal.overflow_add-sum-2
overflow_add-sum-2 c = omega (arith, from_bool_small, and_le_r c.args.c.control.ier c.from.result)

pub overflow_add-sum-3 : goal.overflow_add-sum-3
overflow_add-sum-3 c = omega (arith, from_bool_small, and_le_r c.args.c.control.ier c.from.result)

pub overflow_cast-result : goal.overflow_cast-result
overflow_cast-result c = omega (arith, from_bool_small, and_le_r c.args.c.control.ier c.from.result)

pub returns : goal.returns
unfolding lines_of fifo_line status_line
returns c =
    simp (from_bool_one, c.from-4.ensures, c.fifo_flags-2.ensures, c.from-3.ensures, c.fifo_flags.ensures, c.from-2.ensures, c.flags-status.ensures, c.from.ensures, c.any_rqcp.ensures, one-flag c.args.c.control.ier (any_rqcp c.args.c.transmit), line_up 1, line_up 4, line_up 15)
