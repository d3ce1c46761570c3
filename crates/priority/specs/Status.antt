-- TSR in parts that look at the order of requests and at the last in priority, and not at all of the transmit side.
-- proofs/StatusParts.antt shows that they make up the model's `tsr`.
use Rattle.std.specs.Prelude.{not, ◌&&◌, ℕ, ◌+◌, ◌*◌, ◌^◌, Option, Bool}
use Rattle.base.specs.Base.{pick, one}
use Rattle.model.specs.Queue.{holds, is_from, sender_number, two_or_more}
use Rattle.model.specs.Mailboxes.{tsr_byte}
use Rattle.model.specs.declared.Mailbox.TheVariants.{M0, M1, M2}
use Rattle.model.specs.declared.RequestOrder.{RequestOrder}
use Rattle.model.specs.declared.Mailbox.{Mailbox}
use Rattle.model.specs.declared.ByMailbox.{ByMailbox}
use Rattle.model.specs.declared.MailboxState.{MailboxState}

-- a bit for each mailbox as a number, mailbox 0 the lowest
unfoldable pub as_number : ByMailbox Bool → ℕ
as_number f = one f.m0 + one f.m1 * 2 + one f.m2 * 4

-- TME
unfoldable pub tme_bits : RequestOrder → ByMailbox Bool
tme_bits o = record { m0 = not (holds o M0); m1 = not (holds o M1); m2 = not (holds o M2) }

-- LOW, where s is the last in priority
unfoldable pub low_bits : RequestOrder → Option Mailbox → ByMailbox Bool
low_bits o s = record { m0 = two_or_more o && is_from s M0; m1 = two_or_more o && is_from s M1; m2 = two_or_more o && is_from s M2 }

-- CODE
unfoldable pub code_of : ByMailbox Bool → Option Mailbox → ℕ
code_of tme s = pick tme.m0 0 (pick tme.m1 1 (pick tme.m2 2 (sender_number s)))

-- a byte of flags for each mailbox
unfoldable pub flag_bytes : ByMailbox MailboxState → ByMailbox Bool → ℕ
flag_bytes b f = tsr_byte b.m0 f.m0 + tsr_byte b.m1 f.m1 * 2 ^ 8 + tsr_byte b.m2 f.m2 * 2 ^ 16
