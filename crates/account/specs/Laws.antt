-- What the numbers of an account promise: a register's number leads back to its offset and is what is told of it, the reason for a refusal belongs to
-- the code that is given and is true, and what is said of a record that can't be read is true.
-- Document 01: "Register map", "Refusal numbers", "Bench script".
use Rattle.std.specs.Prelude.{◌≡◌, Bool, true, false, not, ◌&&◌, ◌||◌, List, [], ◌∷◌, ℕ, ◌+◌, ◌*◌, ◌%◌, eqb, ltb, leb, length, get_or, Err, Option, Some}
use Rattle.base.specs.Base.{bit, bits}
use Rattle.model.specs.Queue.{is_empty, number}
use Rattle.model.specs.Control.{is_sleep, is_normal, epvf, boff, lbkm, silm}
use Rattle.model.specs.Registers.{register_at, is_absent, is_free, write_refusal}
use Rattle.model.specs.Codes.{is_output}
use Rattle.model.specs.Codes as codes
use Rattle.model.specs.Step.{refusal}
use Rattle.model.specs.Script.{reading, is_tag, body_length, number16, byte_at}
use Rattle.account.specs.Accesses as accesses
use Rattle.model.specs.declared.Core.{Core}
use Rattle.model.specs.declared.Frame.{Frame}
use Rattle.model.specs.declared.Refusal.{Refusal}
use Rattle.model.specs.declared.Register.{Register}
use Rattle.model.specs.declared.Step as steps
use Rattle.model.specs.declared.Step.TheVariants.{Reset, Read, Write, Idle, BitTimes, Activity, Start, Outcome, Receive, ReceiveError}
use Rattle.account.specs.declared.reasons.Reason.{Reason}
use Rattle.account.specs.declared.reasons.Reason.TheVariants.{MailboxNotEmpty, BankActive}
use Rattle.account.specs.Places.{place_of}
use Rattle.account.specs.Reasons.{bus_of, number_of, of_step, of_write}
use Rattle.account.specs.Faults.{kind_of, refusal_of, fault_in}

-- ---- registers

-- by the number of a name: the offset of the first register that has it, and how far its registers are apart
abbrev pub first_offsets : List ℕ
first_offsets =
    0x000 ∷ 0x004 ∷ 0x008 ∷ 0x00C ∷ 0x014 ∷ 0x018 ∷ 0x01C
    ∷ 0x180 ∷ 0x184 ∷ 0x188 ∷ 0x18C ∷ 0x1B0 ∷ 0x1B4 ∷ 0x1B8 ∷ 0x1BC
    ∷ 0x200 ∷ 0x240 ∷ 0x244 ∷ 0xFFFF ∷ 0x204 ∷ 0x20C ∷ 0x214 ∷ 0x21C ∷ []

abbrev pub distances : List ℕ
distances = 0 ∷ 0 ∷ 0 ∷ 4 ∷ 0 ∷ 0 ∷ 0 ∷ 16 ∷ 16 ∷ 16 ∷ 16 ∷ 16 ∷ 16 ∷ 16 ∷ 16 ∷ 0 ∷ 8 ∷ 8 ∷ []

-- the number that a reason is told with: its mailbox's or its bank's; any other is told with none, and leaves the given one
abbrev pub told_index : Option Reason → ℕ → ℕ
told_index (Some (MailboxNotEmpty m)) i = number m
told_index (Some (BankActive b)) i = b.0
told_index r i = i

-- a register's number leads back to its offset, and a write to it that is refused is told with that number, whatever the offset
pub record Placed (g : Register) : Type 0 where
  pub offset : get_or first_offsets (place_of g).kind 0 + get_or distances (place_of g).kind 0 * (place_of g).index ≡ codes.offset_of g
  pub told : (o : ℕ) → told_index (of_write g o) (place_of g).index ≡ (place_of g).index

-- ---- reasons

abbrev pub reason_of : Core → steps.Step → ℕ
reason_of c e = number_of (of_step (bus_of c) e (register_at (accesses.offset_of e)))

-- the codes of the reasons 0 to 26
abbrev pub codes_of : List ℕ
codes_of =
    1 ∷ 1 ∷ 3 ∷ 2 ∷ 2 ∷ 2 ∷ 2 ∷ 2 ∷ 2 ∷ 5 ∷ 5 ∷ 5 ∷ 5 ∷ 5 ∷ 5 ∷ 5 ∷ 4 ∷ 4 ∷ 4 ∷ 4 ∷ 4 ∷ 4 ∷ 4 ∷ 4 ∷ 4 ∷ 4 ∷ 4 ∷ []

-- 16 an own frame is on the wire, 18 not in Normal mode, 19 bus-off
abbrev pub says_of_bus : Core → ℕ → Bool
says_of_bus c n = (eqb n 18 && not (is_normal c.control.mode)) || (eqb n 19 && boff c.errors) || (eqb n 16 && not (is_free c))

-- 24 loopback, 25 FINIT=1
abbrev pub says_of_reception : Core → ℕ → Bool
says_of_reception c n = says_of_bus c n || (eqb n 24 && lbkm c.control) || (eqb n 25 && c.filters.finit)

-- 11 bit 0 of the identifier word, 12 a standard one with extended bits, 13 the length code is over 15
abbrev pub says_of_frame : Frame → ℕ → Bool
says_of_frame x n =
    (eqb n 11 && bit 0 x.identifier)
    || (eqb n 12 && not (bit 2 x.identifier) && not (eqb (bits 3 18 x.identifier) 0))
    || (eqb n 13 && ltb 15 x.length)

-- 0 the offset is no multiple of 4, 1 no register has it
abbrev pub says_of_offset : ℕ → ℕ → Bool
says_of_offset o n = (eqb n 0 && not (eqb (o % 4) 0)) || (eqb n 1 && is_absent (register_at o))

-- what reason n says of a step and of the state before it; 2 a receive mailbox word, 3 to 8 a locked register, 9 no bit times,
-- 10 the result is over 8, 14 the error code isn't 1 to 6, 15 REC goes up by neither 1 nor 8, 17 not in Sleep, 20 no request,
-- 21 silent, 22 no own frame, 23 no acknowledgment in loopback, 26 result 8 while error active
unfoldable pub says : Core → steps.Step → ℕ → Bool
says c Reset n = false
says c (Read o) n = says_of_offset o n
says c (Write o w) n =
    says_of_offset o n || (eqb n 2 && is_output (register_at o)) || (leb 3 n && leb n 8 && eqb (write_refusal (register_at o) c) 2)
says c Idle n = eqb n 16 && not (is_free c)
says c (BitTimes k) n = eqb n 9 && not (leb 1 k && leb k 65535)
says c Activity n = eqb n 17 && not (is_sleep c.control.mode)
says c Start n =
    says_of_bus c n
    || (eqb n 20 && is_empty c.transmit.queue.order)
    || (eqb n 21 && silm c.control && not (lbkm c.control))
says c (Outcome r) n =
    (eqb n 10 && ltb 8 r)
    || (eqb n 22 && is_free c)
    || (eqb n 23 && (eqb r 3 || eqb r 8) && lbkm c.control)
    || (eqb n 26 && eqb r 8 && not (epvf c.errors))
says c (Receive x) n = says_of_frame x n || says_of_reception c n
says c (ReceiveError k m) n =
    (eqb n 14 && not (leb 1 k && leb k 6)) || (eqb n 15 && not (eqb m 1 || eqb m 8)) || says_of_reception c n

-- the reason for a refusal has the code that is given, and what it says is so
pub record Reasoned (c : Core) (e : steps.Step) : Type 0 where
  pub coded : eqb (refusal c e) 0 ≡ false → get_or codes_of (reason_of c e) 0 ≡ refusal c e
  pub holds : eqb (refusal c e) 0 ≡ false → says c e (reason_of c e) ≡ true

-- ---- records that can't be read

-- 0 the header is short, 1 the body is short, 2 the length is not the tag's, 3 no record has this tag
unfoldable pub says_of_record : List ℕ → ℕ → Bool
says_of_record s n =
    (eqb n 0 && ltb (length s) 3)
    || (eqb n 1 && eqb (number16 s 1) (body_length (byte_at s 0)) && ltb (length s) (3 + body_length (byte_at s 0)))
    || (eqb n 2 && is_tag (byte_at s 0) && not (eqb (number16 s 1) (body_length (byte_at s 0))))
    || (eqb n 3 && leb 3 (length s) && not (is_tag (byte_at s 0)))

-- s is the script from the record on, which is refused as r; what is said of a record that can't be read is so
pub record Faulty (s : List ℕ) (r : Refusal) : Type 0 where
  pub holds : reading s 0 ≡ Err r → says_of_record s (kind_of (fault_in r s)) ≡ true
  pub refused : reading s 0 ≡ Err r → refusal_of (fault_in r s) ≡ r
