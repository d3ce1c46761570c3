-- TSR is made up of the parts of specs/Status.antt.
use mathlib.Core.Bool.{Bool}
use mathlib.Core.Path.{◌≡◌}
use Prim.Native.Nat.{◌+◌, ◌*◌, ◌^◌}
use native.Mathlib.Omega.{arith}
use Rattle.model.specs.Mailboxes.{tsr, code, low, last_of}
use Rattle.model.specs.declared.Transmit.{Transmit}
use Rattle.priority.specs.Status.{as_number, tme_bits, low_bits, code_of, flag_bytes}

pub tsr_parts : (txfp : Bool) (t : Transmit)
    → flag_bytes t.mailboxes t.queue.aborts
    + code_of (tme_bits t.queue.order) (last_of txfp t) * 2 ^ 24
    + as_number (tme_bits t.queue.order) * 2 ^ 26
    + as_number (low_bits t.queue.order (last_of txfp t)) * 2 ^ 29
    ≡ tsr txfp t
unfolding tsr code low as_number tme_bits low_bits code_of flag_bytes
tsr_parts txfp t = omega arith
