-- A core with one part changed stays in range where the part does.
use mathlib.Core.Bool.{true, not, ◌&&◌}
use mathlib.Core.Path.{◌≡◌, sym, ◌∙◌, ap}
use Prim.Native.Nat.{ℕ}
use Rattle.base.specs.Base.{bit}
use Rattle.model.specs.Control.{is_initialization, is_normal}
use Rattle.model.specs.Registers.{with_control, with_errors, with_transmit, with_filters, with_fifo, fifo_of, is_free}
use Rattle.model.specs.Reachable.{ControlRange, ErrorRange, RecoveryRange, TransmitRange, WireRange, FifoRange, FilterRange, CoreRange}
use Rattle.model.specs.declared.Fifo.{Fifo}
use Rattle.model.specs.declared.Fifo.TheVariants.{F0, F1}
use Rattle.model.specs.declared.Control.{Control}
use Rattle.model.specs.declared.Errors.{Errors}
use Rattle.model.specs.declared.Transmit.{Transmit}
use Rattle.model.specs.declared.FifoState.{FifoState}
use Rattle.model.specs.declared.Filters.{Filters}
use Rattle.model.specs.declared.Core.{Core}
use Rattle.base.proofs.Choices.{opposed}

-- with a free wire nothing is asked of mode and errors
pub free_wire-range : (c : Core) → is_free c ≡ true → WireRange c
free_wire-range c free = record { normal = λ busy. opposed free busy; on = λ busy. opposed free busy; heard = λ busy. opposed free busy }

module _ (c : Core) (r : CoreRange c) where
  pub with_errors-range : (k : Control) (e : Errors) → ControlRange k → ErrorRange e → RecoveryRange k e → WireRange (with_errors c k e) → CoreRange (with_errors c k e)
  with_errors-range k e kr er rr wr = record { control = kr; errors = er; recovery = rr; wire = wr; transmit = r.transmit; fifo0 = r.fifo0; fifo1 = r.fifo1; filters = r.filters }

  pub with_transmit-range : (t : Transmit) → TransmitRange t → WireRange (with_transmit c t) → CoreRange (with_transmit c t)
  with_transmit-range t tr wr = record { control = r.control; errors = r.errors; recovery = r.recovery; wire = wr; transmit = tr; fifo0 = r.fifo0; fifo1 = r.fifo1; filters = r.filters }

  pub with_filters-range : (g : Filters) → FilterRange g → CoreRange (with_filters c g)
  with_filters-range g gr = record { control = r.control; errors = r.errors; recovery = r.recovery; wire = record { normal = r.wire.normal; on = r.wire.on; heard = r.wire.heard }; transmit = r.transmit; fifo0 = r.fifo0; fifo1 = r.fifo1; filters = gr }

  pub fifo_of-range : (f : Fifo) → FifoRange (fifo_of f c)
  fifo_of-range F0 = r.fifo0
  fifo_of-range F1 = r.fifo1

  pub with_fifo-range : (f : Fifo) (q : FifoState) → FifoRange q → CoreRange (with_fifo f c q)
  with_fifo-range F0 q qr = record { control = r.control; errors = r.errors; recovery = r.recovery; wire = record { normal = r.wire.normal; on = r.wire.on; heard = r.wire.heard }; transmit = r.transmit; fifo0 = qr; fifo1 = r.fifo1; filters = r.filters }
  with_fifo-range F1 q qr = record { control = r.control; errors = r.errors; recovery = r.recovery; wire = record { normal = r.wire.normal; on = r.wire.on; heard = r.wire.heard }; transmit = r.transmit; fifo0 = r.fifo0; fifo1 = qr; filters = r.filters }

  -- control words change; BTR, the mode and what counts towards recovery do not
  pub with_words-range : (k : Control) → ControlRange k → k.btr ≡ c.control.btr → k.mode ≡ c.control.mode → k.recovery ≡ c.control.recovery → k.reinitialized ≡ c.control.reinitialized
      → CoreRange (with_control c k)
  with_words-range k kr b m n i =
      with_errors-range k c.errors kr r.errors
      (record {
        count = λ on. n ∙ r.recovery.count on;
        reinitialized = λ on. i ∙ r.recovery.reinitialized on;
        fresh = λ h. n ∙ r.recovery.fresh (sym (ap is_initialization m) ∙ h);
        begins = λ h off. i ∙ r.recovery.begins (sym (ap is_initialization m) ∙ h) off;
      })
      (record {
        normal = λ busy. ap is_normal m ∙ r.wire.normal busy;
        on = r.wire.on;
        heard = λ busy. ap (λ (w : ℕ). bit 31 w && not (bit 30 w)) b ∙ r.wire.heard busy;
      })

  -- mailboxes change; the one on the wire does not
  pub same-wire-range : (t : Transmit) → TransmitRange t → t.queue.transmitting ≡ c.transmit.queue.transmitting → CoreRange (with_transmit c t)
  same-wire-range t tr e =
      with_transmit-range t tr
      (record { normal = λ busy. r.wire.normal (rw (← e) busy); on = λ busy. r.wire.on (rw (← e) busy); heard = λ busy. r.wire.heard (rw (← e) busy) })
