-- The numbers of a state that is read from bytes fit the widths of their fields.
use mathlib.Core.List.{List}
use Prim.Native.Nat.{ℕ, zero, suc, ◌+◌, ◌<◌, ◌^◌}
use native.Mathlib.Omega.{arith}
use lib.ListN.{drop}
use lib.Seq.{get_or-drop}
use Rattle.model.specs.Mailboxes.{at}
use Rattle.model.specs.Reachable.{Words}
use Rattle.model.specs.Records.{Bytes}
use Rattle.model.specs.Script.{number16, number32}
use Rattle.model.specs.declared.Mailbox.{Mailbox}
use Rattle.model.specs.declared.Mailbox.TheVariants.{M0, M1, M2}
use Rattle.ranges.specs.Ranges.{MailboxFits, FrameFits, FifoFits, Fits}
use Rattle.block.specs.Block.{control_at, errors_at, mailbox_at, frame_at, fifo_at, words_of, transmit_at, core_at, decoded}
use Rattle.block.proofs.Banks.{words-length}

half_small : (b : List ℕ) → Bytes b → (i : ℕ) → number16 b i < 65536
half_small b bytes i = omega (arith, bytes i, bytes (i + 1))

word_small : (b : List ℕ) → Bytes b → (i : ℕ) → number32 b i < 2 ^ 32
word_small b bytes i = omega (arith, half_small b bytes i, half_small b bytes (i + 2))

dropped : (n : ℕ) (b : List ℕ) → Bytes b → Bytes (drop n b)
dropped n b bytes i = rw (get_or-drop n b i 0) (bytes (n + i))

words_small : (n : ℕ) (b : List ℕ) → Bytes b → Words (words_of n b)
unfolding words_of
words_small zero b bytes = tt
words_small (suc n) b bytes = (word_small b bytes 0, words_small n (drop 4 b) (dropped 4 b bytes))

module _ (b : List ℕ) (bytes : Bytes b) where
  mailbox_small : (i : ℕ) → MailboxFits (mailbox_at b i)
  unfolding mailbox_at
  mailbox_small i = record { ti = word_small b bytes (i + 3); tdl = word_small b bytes (i + 11); tdh = word_small b bytes (i + 15) }

  mailboxes_small : (m : Mailbox) → MailboxFits (at (transmit_at b).mailboxes m)
  unfolding transmit_at
  mailboxes_small M0 = mailbox_small 30
  mailboxes_small M1 = mailbox_small 53
  mailboxes_small M2 = mailbox_small 76

  frame_small : (i : ℕ) → FrameFits (frame_at b i)
  unfolding frame_at
  frame_small i = record { ri = word_small b bytes i; rdt = word_small b bytes (i + 4); rdl = word_small b bytes (i + 8); rdh = word_small b bytes (i + 12) }

  fifo_small : (i : ℕ) → FifoFits (fifo_at b i)
  unfolding fifo_at
  fifo_small i = record { first = frame_small (i + 3); second = frame_small (i + 19); third = frame_small (i + 35) }

  pub widths : Fits (decoded b)
  unfolding decoded core_at control_at errors_at
  widths = record {
    timer = half_small b bytes 15;
    rec = omega (arith, bytes 28);
    mailboxes = mailboxes_small;
    fifo0 = fifo_small 109;
    fifo1 = fifo_small 164;
    bank_words = words-length 28 (drop 242 b);
    banks = words_small 28 (drop 242 b) (dropped 242 b bytes);
  }
