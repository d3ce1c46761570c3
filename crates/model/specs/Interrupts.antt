-- The interrupt lines, of what registers show: a line is up exactly when a flag of its list is up with its enable in IER.
-- Document 01: "Bus events" (last paragraph). Bit places are those of 000.
use Rattle.std.specs.Prelude.{not, ◌&&◌, ◌||◌, ◌≡◌, ℕ, ◌+◌, ◌*◌, ◌<◌, eqb}
use Rattle.base.specs.Base.{bit}
use Rattle.model.specs.Step.{step}
use Rattle.model.specs.Shown.{ier, tmeie, errie, wkuie, slkie, erri, wkui, slaki, rqcp, fmp, full, fovr, next_of, fifo_number}
use Rattle.model.specs.declared.Mailbox.TheVariants.{M0, M1, M2}
use Rattle.model.specs.declared.Fifo.{Fifo}
use Rattle.model.specs.declared.Controller.{Controller}
use Rattle.model.specs.declared.Step as steps

-- n holds the lines of the state z
pub record Lines (z : Controller) (n : ℕ) : Type 0 where
  -- TMEIE with RQCP of any mailbox
  pub transmit : bit 0 n ≡ tmeie z && (rqcp M0 z || rqcp M1 z || rqcp M2 z)
  -- FMPIE with FMP not 0, FFIE with FULL, FOVIE with FOVR
  pub fifo : (f : Fifo)
      → bit (1 + fifo_number f) n
      ≡ (bit (1 + 3 * fifo_number f) (ier z) && not (eqb (fmp f z) 0))
      || (bit (2 + 3 * fifo_number f) (ier z) && full f z)
      || (bit (3 + 3 * fifo_number f) (ier z) && fovr f z)
  -- ERRIE with ERRI, WKUIE with WKUI, SLKIE with SLAKI
  pub status : bit 3 n ≡ (errie z && erri z) || (wkuie z && wkui z) || (slkie z && slaki z)
  pub four : n < 16

-- every step, refused or accepted, answers with the lines of the state after it
pub record Interrupts (z : Controller) (s : steps.Step) : Type 0 where
  pub lines : Lines (next_of z s) (step z s).lines
