use mathlib.Core.Path.{◌≡◌, ap, ◌∙◌}
use borrow.Author.Rules.{rules}
use Prim.Native.Nat.{ℕ}
use lib.ListN.{length, replicate}
use Rattle.model.specs.Control.{control_reset}
use Rattle.model.specs.Registers.{reset}
use Rattle.block.specs.Block.{saved, core_bytes, control_bytes, errors_bytes, transmit_bytes, mailbox_bytes, queue_bytes, fifo_bytes, filters_bytes, banks_bytes, word_bytes}
use Rattle.block_save.specs.Reset.{headers, reset_numbers}
use Rattle.block_save.proofs.reset.put_reset.Goals as goal

pub returns : goal.returns
unfolding headers reset_numbers saved core_bytes control_bytes errors_bytes transmit_bytes mailbox_bytes queue_bytes fifo_bytes filters_bytes banks_bytes word_bytes reset control_reset
returns c =
    let n : length c.args.b.now ≡ 354 = search rules in
    let zeros : c.fill.new.self ≡ replicate 354 0 = c.fill.ensures.after (search rules) ∙ ap (λ (n : ℕ). replicate n 0) n in
    rw (c.put_numbers.ensures, c.put_headers.ensures, zeros)
