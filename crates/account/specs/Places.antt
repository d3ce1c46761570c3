-- The registers by the numbers of their names: MCR 0, MSR 1, TSR 2, RFxR 3, .. in the order of the manual's map, the
-- offsets that no register has 18.
use Rattle.std.specs.Prelude.{ℕ}
use Rattle.model.specs.Queue.{number}
use Rattle.model.specs.Shown.{fifo_number}
use Rattle.model.specs.declared.Register.{Register}
use Rattle.model.specs.declared.Register.TheVariants.{Mcr, Msr, Tsr, Rfr, Ier, Esr, Btr, Ti, Tdt, Tdl, Tdh, Ri, Rdt, Rdl, Rdh, Fmr, Fm1r, Fs1r, Ffa1r, Fa1r, R1, R2, Absent}

-- the number of a register's name, and of its FIFO, mailbox or bank
pub record Place : Type 0 where
  pub kind : ℕ
  pub index : ℕ

abbrev pub place : ℕ → ℕ → Place
place k i = record { kind = k; index = i }

abbrev pub place_of : Register → Place
place_of Mcr = place 0 0
place_of Msr = place 1 0
place_of Tsr = place 2 0
place_of (Rfr f) = place 3 (fifo_number f)
place_of Ier = place 4 0
place_of Esr = place 5 0
place_of Btr = place 6 0
place_of (Ti m) = place 7 (number m)
place_of (Tdt m) = place 8 (number m)
place_of (Tdl m) = place 9 (number m)
place_of (Tdh m) = place 10 (number m)
place_of (Ri f) = place 11 (fifo_number f)
place_of (Rdt f) = place 12 (fifo_number f)
place_of (Rdl f) = place 13 (fifo_number f)
place_of (Rdh f) = place 14 (fifo_number f)
place_of Fmr = place 15 0
place_of (R1 b) = place 16 b.0
place_of (R2 b) = place 17 b.0
place_of Absent = place 18 0
place_of Fm1r = place 19 0
place_of Fs1r = place 20 0
place_of Ffa1r = place 21 0
place_of Fa1r = place 22 0
