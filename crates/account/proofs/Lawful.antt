-- The laws of an account: each is a fact about a few tests, looked at case by case.
use Rattle.std.proofs.Common.{Some, None, Ok, Err}
use Rattle.std.proofs.lemmas.Bool.{or_left, or_right}
use mathlib.Core.Path.{◌≡◌, refl}
use mathlib.Core.Bool.{Bool, true, false, not, ◌&&◌, ◌||◌, true≢false}
use mathlib.Core.List.{List}
use Prim.Native.Nat.{ℕ, ◌+◌, ◌%◌}
use native.Mathlib.Nat.{sub-zero}
use lib.Dec.{eqb, ltb, leb}
use lib.ListN.{length, get_or}
use borrow.Author.Tests.{ltb-true, ltb-false, lt-leb, le-leb}
use Rattle.base.specs.Base.{pick, bit, bits}
use Rattle.model.specs.Queue.{is_empty}
use Rattle.model.specs.Control.{is_sleep, is_initialization, is_normal, epvf, boff, lbkm, silm}
use Rattle.model.specs.Reception.{malformed}
use Rattle.model.specs.Registers.{register_at, is_absent, is_free, has_request, write_refusal}
use Rattle.model.specs.Codes.{is_output}
use Rattle.model.specs.Step.{refusal, may_start, may_end, may_receive, receive_error_in_range}
use Rattle.model.specs.Script.{reading, decoded, part, is_tag, body_length, number16, byte_at}
use Rattle.model.specs.declared.Core.{Core}
use Rattle.model.specs.declared.Register.{Register}
use Rattle.model.specs.declared.Register.TheVariants.{Mcr, Msr, Tsr, Rfr, Ier, Esr, Btr, Ti, Tdt, Tdl, Tdh, Ri, Rdt, Rdl, Rdh, Fmr, Fm1r, Fs1r, Ffa1r, Fa1r, R1, R2, Absent}
use Rattle.model.specs.declared.Step as steps
use Rattle.model.specs.declared.Step.TheVariants.{Reset, Read, Write, Idle, BitTimes, Activity, Start, Outcome, Receive, ReceiveError}
use Rattle.account.specs.Reasons.{reason_number, number_of, of_step, of_offset, of_write, of_bus, of_start, of_reception, of_outcome, of_frame, of_error}
use Rattle.account.specs.Faults.{bytes_in, kind_number, kind_of, refusal_of, fault_in}
use Rattle.account.specs.declared.reasons.Reason.{Reason}
use Rattle.account.specs.declared.reasons.Reason.TheVariants.{Misaligned, NoRegister, UnknownResult, IdentifierBit, ExtendedBits, LengthCode, ErrorCode, ErrorStep, OwnFrame, NotNormal, BusOff, NonePending, Silent, NoOwnFrame, Acknowledged, Loopback, FilterInitialization, ErrorActive}
use Rattle.account.specs.Laws.{codes_of, reason_of, says, says_of_record, told_index, Placed, Reasoned, Faulty}
use Rattle.model.specs.Script.{Reading}
use Rattle.model.specs.Refusals.{code}
use Rattle.model.specs.declared.Refusal.{Refusal}
use Rattle.model.specs.declared.Refusal.TheVariants.{Short, UnknownTag, WrongLength}
use Rattle.account.specs.declared.faults.Kind.{Kind}
use Rattle.account.specs.declared.faults.Kind.TheVariants as kind

-- ---- registers

-- an offset that no register has is told with no number
no_number : (aligned : Bool) → told_index (Some (pick aligned NoRegister Misaligned)) 0 ≡ 0
no_number true = refl
no_number false = refl

pub placed : (g : Register) → Placed g
unfolding of_write of_offset
placed Mcr = record { offset = refl; told = λ o. refl }
placed Msr = record { offset = refl; told = λ o. refl }
placed Tsr = record { offset = refl; told = λ o. refl }
placed (Rfr f) = record { offset = refl; told = λ o. refl }
placed Ier = record { offset = refl; told = λ o. refl }
placed Esr = record { offset = refl; told = λ o. refl }
placed Btr = record { offset = refl; told = λ o. refl }
placed (Ti m) = record { offset = refl; told = λ o. refl }
placed (Tdt m) = record { offset = refl; told = λ o. refl }
placed (Tdl m) = record { offset = refl; told = λ o. refl }
placed (Tdh m) = record { offset = refl; told = λ o. refl }
placed (Ri f) = record { offset = refl; told = λ o. refl }
placed (Rdt f) = record { offset = refl; told = λ o. refl }
placed (Rdl f) = record { offset = refl; told = λ o. refl }
placed (Rdh f) = record { offset = refl; told = λ o. refl }
placed Fmr = record { offset = refl; told = λ o. refl }
placed Fm1r = record { offset = refl; told = λ o. refl }
placed Fs1r = record { offset = refl; told = λ o. refl }
placed Ffa1r = record { offset = refl; told = λ o. refl }
placed Fa1r = record { offset = refl; told = λ o. refl }
placed (R1 b) = record { offset = refl; told = λ o. refl }
placed (R2 b) = record { offset = refl; told = λ o. refl }
placed Absent = record { offset = refl; told = λ o. no_number (eqb (o % 4) 0) }

-- ---- reasons

-- one condition keeps a step from being refused, or has it refused
needed : (k : ℕ) (b : Bool) → eqb (pick b 0 k) 0 ≡ false → (k ≡ pick b 0 k) × (not b ≡ true)
needed k true h = absurd (true≢false h)
needed k false h = (refl, refl)

-- a register is locked where the condition holds, or where it does not
locked : (b : Bool) → eqb (pick b 2 0) 0 ≡ false → (◌≡◌ {A = ℕ} 2 (pick b 2 0)) × (eqb (pick b 2 0) 2 ≡ true)
locked true h = (refl, refl)
locked false h = absurd (true≢false h)

unlocked : (b : Bool) → eqb (pick b 0 2) 0 ≡ false → (◌≡◌ {A = ℕ} 2 (pick b 0 2)) × (eqb (pick b 0 2) 2 ≡ true)
unlocked true h = absurd (true≢false h)
unlocked false h = (refl, refl)

of_offset_lem : (absent aligned : Bool)
    → eqb (pick absent 1 0) 0 ≡ false
    → (get_or codes_of (reason_number (pick aligned NoRegister Misaligned)) 0 ≡ pick absent 1 0)
    × (((eqb (reason_number (pick aligned NoRegister Misaligned)) 0 && not aligned) || (eqb (reason_number (pick aligned NoRegister Misaligned)) 1 && absent)) ≡ true)
of_offset_lem true true h = (refl, refl)
of_offset_lem true false h = (refl, refl)
of_offset_lem false aligned h = absurd (true≢false h)

-- what reason n says of a write to register g
abbrev says_of_write : Register → ℕ → Core → ℕ → Bool
says_of_write g o c n =
    ((eqb n 0 && not (eqb (o % 4) 0)) || (eqb n 1 && is_absent g))
    || (eqb n 2 && is_output g) || (leb 3 n && leb n 8 && eqb (write_refusal g c) 2)

of_write_lem : (g : Register) (o : ℕ) (c : Core)
    → eqb (write_refusal g c) 0 ≡ false
    → (get_or codes_of (number_of (of_write g o)) 0 ≡ write_refusal g c) × (says_of_write g o c (number_of (of_write g o)) ≡ true)
unfolding of_write of_offset write_refusal
of_write_lem Mcr o c h = absurd (true≢false h)
of_write_lem Msr o c h = absurd (true≢false h)
of_write_lem Tsr o c h = absurd (true≢false h)
of_write_lem (Rfr f) o c h = absurd (true≢false h)
of_write_lem Ier o c h = absurd (true≢false h)
of_write_lem Esr o c h = absurd (true≢false h)
of_write_lem Btr o c h = unlocked (is_initialization c.control.mode) h
of_write_lem (Ti m) o c h = locked (has_request c m) h
of_write_lem (Tdt m) o c h = locked (has_request c m) h
of_write_lem (Tdl m) o c h = locked (has_request c m) h
of_write_lem (Tdh m) o c h = locked (has_request c m) h
of_write_lem (Ri f) o c h = (refl, refl)
of_write_lem (Rdt f) o c h = (refl, refl)
of_write_lem (Rdl f) o c h = (refl, refl)
of_write_lem (Rdh f) o c h = (refl, refl)
of_write_lem Fmr o c h = absurd (true≢false h)
of_write_lem Fm1r o c h = unlocked c.filters.finit h
of_write_lem Fs1r o c h = unlocked c.filters.finit h
of_write_lem Ffa1r o c h = unlocked c.filters.finit h
of_write_lem Fa1r o c h = absurd (true≢false h)
of_write_lem (R1 b) o c h = locked (not c.filters.finit && bit b.0 c.filters.activation) h
of_write_lem (R2 b) o c h = locked (not c.filters.finit && bit b.0 c.filters.activation) h
of_write_lem Absent o c h =
    let p : (get_or codes_of (reason_number (pick (eqb (o % 4) 0) NoRegister Misaligned)) 0 ≡ 1)
    × (((eqb (reason_number (pick (eqb (o % 4) 0) NoRegister Misaligned)) 0 && not (eqb (o % 4) 0)) || (eqb (reason_number (pick (eqb (o % 4) 0) NoRegister Misaligned)) 1 && true)) ≡ true) =
    of_offset_lem true (eqb (o % 4) 0) refl
    in
    (p.0, or_left _ _ (or_left _ _ p.1))

abbrev bus_reason : Bool → Bool → Bool → Reason → Reason
bus_reason normal off free rest = pick (not normal) NotNormal (pick off BusOff (pick (not free) OwnFrame rest))

abbrev bus_says : Bool → Bool → Bool → ℕ → Bool
bus_says normal off free n = (eqb n 18 && not normal) || (eqb n 19 && off) || (eqb n 16 && not free)

abbrev start_says : Bool → Bool → Bool → Bool → Bool → Bool → ℕ → Bool
start_says normal off free empty silent loopback n =
    bus_says normal off free n || (eqb n 20 && empty) || (eqb n 21 && silent && not loopback)

of_start_lem : (normal off free empty silent loopback : Bool)
    → eqb (pick (normal && not off && free && not empty && not (silent && not loopback)) 0 4) 0 ≡ false
    → (get_or codes_of (reason_number (bus_reason normal off free (pick empty NonePending Silent))) 0 ≡ pick (normal && not off && free && not empty && not (silent && not loopback)) 0 4)
    × (start_says normal off free empty silent loopback (reason_number (bus_reason normal off free (pick empty NonePending Silent))) ≡ true)
of_start_lem false off free empty silent loopback h = (refl, refl)
of_start_lem true true free empty silent loopback h = (refl, refl)
of_start_lem true false false empty silent loopback h = (refl, refl)
of_start_lem true false true true silent loopback h = (refl, refl)
of_start_lem true false true false true false h = (refl, refl)
of_start_lem true false true false true true h = absurd (true≢false h)
of_start_lem true false true false false loopback h = absurd (true≢false h)

abbrev reception_says : Bool → Bool → Bool → Bool → Bool → ℕ → Bool
reception_says normal off free loopback finit n = bus_says normal off free n || (eqb n 24 && loopback) || (eqb n 25 && finit)

of_reception_lem : (normal off free loopback finit : Bool)
    → eqb (pick (normal && not off && free && not loopback && not finit) 0 4) 0 ≡ false
    → (get_or codes_of (reason_number (bus_reason normal off free (pick loopback Loopback FilterInitialization))) 0 ≡ pick (normal && not off && free && not loopback && not finit) 0 4)
    × (reception_says normal off free loopback finit (reason_number (bus_reason normal off free (pick loopback Loopback FilterInitialization))) ≡ true)
of_reception_lem false off free loopback finit h = (refl, refl)
of_reception_lem true true free loopback finit h = (refl, refl)
of_reception_lem true false false loopback finit h = (refl, refl)
of_reception_lem true false true true finit h = (refl, refl)
of_reception_lem true false true false true h = (refl, refl)
of_reception_lem true false true false false h = absurd (true≢false h)

abbrev outcome_reason : Bool → Bool → Bool → ℕ
outcome_reason over free loopback =
    reason_number (pick over UnknownResult (pick (not (not free)) NoOwnFrame (pick loopback Acknowledged ErrorActive)))

-- three: the result is 3; eight: it is 8
abbrev outcome_code : Bool → Bool → Bool → Bool → Bool → Bool → ℕ
outcome_code over free three eight loopback passive =
    pick over 5 (pick (not free && not ((three || eight) && loopback) && not (eight && not passive)) 0 4)

abbrev outcome_says : Bool → Bool → Bool → Bool → Bool → Bool → ℕ → Bool
outcome_says over free three eight loopback passive n =
    (eqb n 10 && over) || (eqb n 22 && free) || (eqb n 23 && (three || eight) && loopback) || (eqb n 26 && eight && not passive)

of_outcome_lem : (over free three eight loopback passive : Bool)
    → eqb (outcome_code over free three eight loopback passive) 0 ≡ false
    → (get_or codes_of (outcome_reason over free loopback) 0 ≡ outcome_code over free three eight loopback passive)
    × (outcome_says over free three eight loopback passive (outcome_reason over free loopback) ≡ true)
of_outcome_lem true free three eight loopback passive h = (refl, refl)
of_outcome_lem false true three eight loopback passive h = (refl, refl)
of_outcome_lem false false true eight true passive h = (refl, refl)
of_outcome_lem false false false true true passive h = (refl, refl)
of_outcome_lem false false false false true passive h = absurd (true≢false h)
of_outcome_lem false false true true false false h = (refl, refl)
of_outcome_lem false false true true false true h = absurd (true≢false h)
of_outcome_lem false false true false false passive h = absurd (true≢false h)
of_outcome_lem false false false true false false h = (refl, refl)
of_outcome_lem false false false true false true h = absurd (true≢false h)
of_outcome_lem false false false false false passive h = absurd (true≢false h)

-- behind the tests of an event's own fields come those of the bus: k is the code there, n the reason, b what it says
abbrev frame_says : Bool → Bool → Bool → Bool → ℕ → Bool
frame_says low extended zero long n = (eqb n 11 && low) || (eqb n 12 && not extended && not zero) || (eqb n 13 && long)

abbrev wrong : Bool → Bool → Bool → Bool → Bool
wrong low extended zero long = low || (not extended && not zero) || long

abbrev frame_reason : Bool → Bool → Bool → Bool → Reason → ℕ
frame_reason low extended zero long n =
    reason_number (pick (not (wrong low extended zero long)) n (pick low IdentifierBit (pick long LengthCode ExtendedBits)))

of_frame_lem : (low extended zero long : Bool) (k : ℕ) (n : Reason) (b : ℕ → Bool)
    → (eqb k 0 ≡ false → (get_or codes_of (reason_number n) 0 ≡ k) × (b (reason_number n) ≡ true))
    → eqb (pick (wrong low extended zero long) 5 k) 0 ≡ false
    → (get_or codes_of (frame_reason low extended zero long n) 0 ≡ pick (wrong low extended zero long) 5 k)
    × (frame_says low extended zero long (frame_reason low extended zero long n) || b (frame_reason low extended zero long n) ≡ true)
of_frame_lem true extended zero long k n b f h = (refl, refl)
of_frame_lem false true zero true k n b f h = (refl, refl)
of_frame_lem false true zero false k n b f h = ((f h).0, or_right (frame_says false true zero false (reason_number n)) (b (reason_number n)) (f h).1)
of_frame_lem false false true true k n b f h = (refl, refl)
of_frame_lem false false true false k n b f h = ((f h).0, or_right (frame_says false false true false (reason_number n)) (b (reason_number n)) (f h).1)
of_frame_lem false false false true k n b f h = (refl, refl)
of_frame_lem false false false false k n b f h = (refl, refl)

abbrev error_reason : Bool → Bool → Bool → Reason → ℕ
error_reason above below stepped n = reason_number (pick stepped (pick (above && below) n ErrorCode) ErrorStep)

abbrev error_says : Bool → Bool → Bool → ℕ → Bool
error_says above below stepped n = (eqb n 14 && not (above && below)) || (eqb n 15 && not stepped)

of_error_lem : (above below stepped : Bool) (k : ℕ) (n : Reason) (b : ℕ → Bool)
    → (eqb k 0 ≡ false → (get_or codes_of (reason_number n) 0 ≡ k) × (b (reason_number n) ≡ true))
    → eqb (pick (above && below && stepped) k 5) 0 ≡ false
    → (get_or codes_of (error_reason above below stepped n) 0 ≡ pick (above && below && stepped) k 5)
    × (error_says above below stepped (error_reason above below stepped n) || b (error_reason above below stepped n) ≡ true)
of_error_lem false below true k n b f h = (refl, refl)
of_error_lem false below false k n b f h = (refl, refl)
of_error_lem true false true k n b f h = (refl, refl)
of_error_lem true false false k n b f h = (refl, refl)
of_error_lem true true false k n b f h = (refl, refl)
of_error_lem true true true k n b f h = ((f h).0, or_right (error_says true true true (reason_number n)) (b (reason_number n)) (f h).1)

fits : (c : Core) (e : steps.Step)
    → eqb (refusal c e) 0 ≡ false
    → (get_or codes_of (reason_of c e) 0 ≡ refusal c e) × (says c e (reason_of c e) ≡ true)
unfolding refusal says may_start may_end may_receive receive_error_in_range malformed of_step of_offset of_bus of_start of_reception of_outcome of_frame of_error
fits c Reset h = absurd (true≢false h)
fits c (Read o) h = of_offset_lem (is_absent (register_at o)) (eqb (o % 4) 0) h
fits c (Write o w) h = of_write_lem (register_at o) o c h
fits c Idle h = needed 4 (is_free c) h
fits c (BitTimes n) h = needed 5 (leb 1 n && leb n 65535) h
fits c Activity h = needed 4 (is_sleep c.control.mode) h
fits c Start h =
    of_start_lem (is_normal c.control.mode) (boff c.errors) (is_free c) (is_empty c.transmit.queue.order) (silm c.control) (lbkm c.control) h
fits c (Outcome r) h = of_outcome_lem (ltb 8 r) (is_free c) (eqb r 3) (eqb r 8) (lbkm c.control) (epvf c.errors) h
fits c (Receive x) h =
    of_frame_lem (bit 0 x.identifier) (bit 2 x.identifier) (eqb (bits 3 18 x.identifier) 0) (ltb 15 x.length)
    (pick (may_receive c) 0 4)
    (bus_reason (is_normal c.control.mode) (boff c.errors) (is_free c) (pick (lbkm c.control) Loopback FilterInitialization))
    (reception_says (is_normal c.control.mode) (boff c.errors) (is_free c) (lbkm c.control) c.filters.finit)
    (of_reception_lem (is_normal c.control.mode) (boff c.errors) (is_free c) (lbkm c.control) c.filters.finit) h
fits c (ReceiveError k n) h =
    of_error_lem (leb 1 k) (leb k 6) (eqb n 1 || eqb n 8)
    (pick (may_receive c) 0 4)
    (bus_reason (is_normal c.control.mode) (boff c.errors) (is_free c) (pick (lbkm c.control) Loopback FilterInitialization))
    (reception_says (is_normal c.control.mode) (boff c.errors) (is_free c) (lbkm c.control) c.filters.finit)
    (of_reception_lem (is_normal c.control.mode) (boff c.errors) (is_free c) (lbkm c.control) c.filters.finit) h

pub reasoned : (c : Core) (e : steps.Step) → Reasoned c e
reasoned c e = record { coded = λ h. (fits c e h).0; holds = λ h. (fits c e h).1 }

-- ---- records that can't be read

same_refusal : (j r : Refusal) → ◌≡◌ {A = Reading} (Err j) (Err r) → j ≡ r
same_refusal j r h = cc

no_end : (r : Refusal) → ◌≡◌ {A = Reading} (Ok None) (Err r) → ⊥
no_end r h = cc

no_step_lem : (e : steps.Step) (q : ℕ) (r : Refusal) → ◌≡◌ {A = Reading} (Ok (Some (e, q))) (Err r) → ⊥
no_step_lem e q r h = cc

abbrev read : Bool → Bool → Bool → Bool → Bool → steps.Step → ℕ → Reading
read ended short tag same few e q =
    pick ended (Ok None)
    (pick short (Err Short) (pick (not tag) (Err UnknownTag) (pick (not same) (Err WrongLength) (pick few (Err Short) (Ok (Some (e, q)))))))

abbrev record_says : Bool → Bool → Bool → Bool → Bool → ℕ → Bool
record_says short whole tag same few n =
    (eqb n 0 && short) || (eqb n 1 && same && few) || (eqb n 2 && tag && not same) || (eqb n 3 && whole && not tag)

-- the kind where n bytes are told of a record, whose length says l
module _ (n l : ℕ) where
  abbrev kind_by : Refusal → Bool → Kind
  kind_by r short =
      pick (eqb (code r) 8) (kind.WrongLength l)
      (pick (eqb (code r) 7) (kind.UnknownTag n) (pick short (kind.ShortHeader n) (kind.ShortBody n)))

  of_record : (ended short tag same few : Bool) (e : steps.Step) (q : ℕ) (r : Refusal)
      → read ended short tag same few e q ≡ Err r
      → record_says short (not short) tag same few (kind_number (kind_by r short)) ≡ true
  of_record true short tag same few e q r h = absurd (no_end r h)
  of_record false true tag same few e q r h = rw (← same_refusal Short r h)
  of_record false false false same few e q r h = rw (← same_refusal UnknownTag r h)
  of_record false false true false few e q r h = rw (← same_refusal WrongLength r h)
  of_record false false true true true e q r h = rw (← same_refusal Short r h)
  of_record false false true true false e q r h = absurd (no_step_lem e q r h)

-- a header is whole where it is not short
whole : (n : ℕ) → leb 3 n ≡ not (ltb n 3)
whole n = at (ltb n 3) refl
  where
    at : (t : Bool) → ltb n 3 ≡ t → leb 3 n ≡ not t
    at true e = lt-leb 3 n (ltb-true n 3 e)
    at false e = le-leb 3 n (ltb-false n 3 e)

read_so : (s : List ℕ) (r : Refusal) → reading s 0 ≡ Err r → says_of_record s (kind_of (fault_in r s)) ≡ true
unfolding reading says_of_record fault_in
read_so s r h =
    rw (whole (length s))
    (of_record (bytes_in s) (number16 s 1)
    (leb (length s) 0) (ltb (length s) 3) (is_tag (byte_at s 0)) (eqb (number16 s 1) (body_length (byte_at s 0)))
    (ltb (length s) (3 + body_length (byte_at s 0)))
    (decoded (byte_at s 0) (part s 3 (3 + body_length (byte_at s 0)))) (3 + body_length (byte_at s 0)) r (rw sub-zero at h))

-- the refusal of a fault is the one that is given, whatever is read
keeps_refusal : (s : List ℕ) (r : Refusal) → refusal_of (fault_in r s) ≡ r
unfolding fault_in
keeps_refusal s r = refl

pub faulty : (s : List ℕ) (r : Refusal) → Faulty s r
faulty s r = record { holds = read_so s r; refused = λ h. keeps_refusal s r }
