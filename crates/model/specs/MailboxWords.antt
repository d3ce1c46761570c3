-- The words of a mailbox read back, and what else changes them.
-- Document 01: "Register map" (TI, TDT, TDL, TDH; writable bits), "Bus events" (start).
use Rattle.std.specs.Prelude.{Bool, true, false, not, ◌&&◌, ◌≡◌, ℕ, ◌+◌, eqb}
use Rattle.base.specs.Base.{bit, bits}
use Rattle.model.specs.Queue.{number}
use Rattle.model.specs.Step.{step}
use Rattle.model.specs.Shown.{tme, timer, is_done, next_of, is_start}
use Rattle.model.specs.Codes.{reads}
use Rattle.model.specs.ReadBack.{Accepts, after_write, Within, sets, Stays}
use Rattle.model.specs.Reachable.{InRange}
use Rattle.model.specs.declared.Mailbox.{Mailbox}
use Rattle.model.specs.declared.Controller.{Controller}
use Rattle.model.specs.declared.Register.TheVariants.{Ti, Tdt, Tdl, Tdh}
use Rattle.model.specs.declared.Step as steps

-- an accepted write to a word of mailbox m: "Writable bits: .. TDT 0xFFFF010F", all of TDL and TDH, TI but for TXRQ
pub record MailboxWords (z : Controller) (m : Mailbox) (w : ℕ) : Type 0 where
  pub ti : Accepts z (Ti m) w → (i : ℕ) → bit (1 + i) (reads (after_write z (Ti m) w) (Ti m)) ≡ bit (1 + i) w
  pub tdt : Accepts z (Tdt m) w → Within 0xFFFF010F w (reads (after_write z (Tdt m) w) (Tdt m))
  pub tdl : Accepts z (Tdl m) w → reads (after_write z (Tdl m) w) (Tdl m) ≡ w
  pub tdh : Accepts z (Tdh m) w → reads (after_write z (Tdh m) w) (Tdh m) ≡ w

-- the step is an accepted start of mailbox m: its word is the mailbox's number
abbrev pub starts : Controller → steps.Step → Mailbox → Bool
starts z s m = is_start s && is_done z s && eqb (step z s).word (number m)

-- the words of mailbox m, and what a step does to them
pub record MailboxStays (z : Controller) (s : steps.Step) (m : Mailbox) : Type 0 where
  -- TXRQ reads 1 exactly while the mailbox isn't empty
  pub txrq : bit 0 (reads z (Ti m)) ≡ not (tme m z)
  -- but for TIME, a word changes only by a write to it or by a hardware reset
  pub ti : sets s (Ti m) ≡ false → (i : ℕ) → bit (1 + i) (reads (next_of z s) (Ti m)) ≡ bit (1 + i) (reads z (Ti m))
  pub tdt : sets s (Tdt m) ≡ false → bits 0 16 (reads (next_of z s) (Tdt m)) ≡ bits 0 16 (reads z (Tdt m))
  pub tdl : sets s (Tdl m) ≡ false → Stays z s (Tdl m)
  pub tdh : sets s (Tdh m) ≡ false → Stays z s (Tdh m)
  -- at its start TIME takes the timer; that of no other mailbox changes
  pub time : starts z s m ≡ true → InRange z → bits 16 16 (reads (next_of z s) (Tdt m)) ≡ timer z
  pub not_started : sets s (Tdt m) ≡ false → starts z s m ≡ false → Stays z s (Tdt m)
