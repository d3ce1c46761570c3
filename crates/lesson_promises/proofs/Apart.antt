-- A meaning is made again from its numbers; an expectation by cases on what it gives.
use Rattle.std.proofs.Common.{◌≡◌, refl, sym, ap, ◌∙◌, Bool, true, List, ℕ, eqb, eqb-true, eq-eqb, Option, Some, None, Result, Ok, Err}
use Rattle.base.specs.Base.{pick}
use Rattle.base.proofs.Choices.{and_l, and_r}
use Rattle.model.specs.Script.{byte_at}
use Rattle.model.specs.declared.Answer.{Answer}
use Rattle.model.specs.declared.WideStep.{WideStep}
use Rattle.model.specs.declared.WideStep.TheVariants.{Reset, Read, Write, Idle, BitTimes, Activity, Start, Outcome, Receive, ReceiveError}
use Rattle.lines.specs.Meanings.{meaning_numbers, bad}
use Rattle.expected.specs.Bytes as items
use Rattle.std.proofs.lemmas.Nat.{from_le_bytes-to_le_bytes_4}
use Rattle.expected.specs.Holds as expectations
use Rattle.expected.specs.Holds.{response_holds, lines_hold}
use Rattle.expected.specs.declared.Response.{Response}
use Rattle.expected.specs.declared.Expected.{Expected}
use Rattle.lines.specs.declared.Rule.{Rule}
use Rattle.lines.specs.declared.Rule.TheVariants.{WantsStep, WantsEnd, WantsNumber, WantsRegister, WantsValue, WantsField, Twice, OtherValue, WantsResult, WantsIdentifier, WantsHash, NoFd, WantsData, WantsCode, WantsPairs, WantsExpectation, WantsLines, WantsRefusal, WantsLinesOrEnd}
use Rattle.lines.specs.declared.Fault.{Fault}
use Rattle.lines.specs.declared.Meaning.{Meaning}
use Rattle.lines.specs.declared.Meaning.TheVariants.{Step, Bytes, Expect, Repeat, Done}
use Rattle.lesson_promises.specs.Reading.{Apart, Holds, WordFits, BytesBack}

-- ---- meanings

abbrev is : List ℕ → ℕ → ℕ → Bool
is l i n = eqb (byte_at l i) n

-- number 0 is the case, number 1 the tag of a step
abbrev step_of : List ℕ → WideStep
step_of l =
    pick (is l 1 1) Reset
    (pick (is l 1 2) (Read (byte_at l 2))
    (pick (is l 1 3) (Write (byte_at l 2) (byte_at l 3))
    (pick (is l 1 4) Idle
    (pick (is l 1 5) (BitTimes (byte_at l 2))
    (pick (is l 1 6) Activity
    (pick (is l 1 7) Start
    (pick (is l 1 8) (Outcome (byte_at l 2))
    (pick (is l 1 9) (Receive (record { identifier = byte_at l 2; low = byte_at l 4; high = byte_at l 5; length = byte_at l 3 }))
    (ReceiveError (byte_at l 2) (byte_at l 3))))))))))

abbrev response_of : List ℕ → Option Response
response_of l = pick (is l 1 1) (Some (record { code = byte_at l 2; word = byte_at l 3 })) None

abbrev lines_of : List ℕ → Option ℕ
lines_of l = pick (is l 4 1) (Some (byte_at l 5)) None

abbrev expected_of : List ℕ → Expected
expected_of l = record { response = response_of l; lines = lines_of l }

-- by the rule's number, with the number that it speaks of
abbrev rule_of : ℕ → ℕ → Rule
rule_of k n =
    pick (eqb k 1) WantsStep
    (pick (eqb k 2) WantsEnd
    (pick (eqb k 3) (WantsNumber n)
    (pick (eqb k 4) WantsRegister
    (pick (eqb k 5) (WantsValue n)
    (pick (eqb k 6) (WantsField n)
    (pick (eqb k 7) Twice
    (pick (eqb k 8) (OtherValue n)
    (pick (eqb k 9) WantsResult
    (pick (eqb k 10) WantsIdentifier
    (pick (eqb k 11) WantsHash
    (pick (eqb k 12) NoFd
    (pick (eqb k 13) WantsData
    (pick (eqb k 14) WantsCode
    (pick (eqb k 15) WantsPairs
    (pick (eqb k 16) WantsExpectation
    (pick (eqb k 17) WantsLines
    (pick (eqb k 18) WantsRefusal
    WantsLinesOrEnd)))))))))))))))))

abbrev meant : List ℕ → Result (Option Meaning) Fault
meant l =
    pick (is l 0 0) (Ok None)
    (pick (is l 0 1) (Ok (Some (Step (step_of l))))
    (pick (is l 0 2) (Ok (Some (Bytes (byte_at l 1))))
    (pick (is l 0 3) (Ok (Some (Expect (expected_of l))))
    (pick (is l 0 4) (Ok (Some (Repeat (byte_at l 1))))
    (pick (is l 0 5) (Ok (Some Done)) (bad (byte_at l 1) (rule_of (byte_at l 2) (byte_at l 3))))))))

expected-back : (r : Option Response) (up : Option ℕ)
    → meant (meaning_numbers (Ok (Some (Expect (record { response = r; lines = up }))))) ≡ Ok (Some (Expect (record { response = r; lines = up })))
expected-back None None = refl
expected-back None (Some up) = refl
expected-back (Some r) None = refl
expected-back (Some r) (Some up) = refl

fault-back : (p : ℕ) (r : Rule) → meant (meaning_numbers (bad p r)) ≡ bad p r
fault-back p WantsStep = refl
fault-back p WantsEnd = refl
fault-back p (WantsNumber n) = refl
fault-back p WantsRegister = refl
fault-back p (WantsValue n) = refl
fault-back p (WantsField n) = refl
fault-back p Twice = refl
fault-back p (OtherValue n) = refl
fault-back p WantsResult = refl
fault-back p WantsIdentifier = refl
fault-back p WantsHash = refl
fault-back p NoFd = refl
fault-back p WantsData = refl
fault-back p WantsCode = refl
fault-back p WantsPairs = refl
fault-back p WantsExpectation = refl
fault-back p WantsLines = refl
fault-back p WantsRefusal = refl
fault-back p WantsLinesOrEnd = refl

meant_back : (x : Result (Option Meaning) Fault) → meant (meaning_numbers x) ≡ x
meant_back (Ok None) = refl
meant_back (Ok (Some (Step Reset))) = refl
meant_back (Ok (Some (Step (Read o)))) = refl
meant_back (Ok (Some (Step (Write o w)))) = refl
meant_back (Ok (Some (Step Idle))) = refl
meant_back (Ok (Some (Step (BitTimes n)))) = refl
meant_back (Ok (Some (Step Activity))) = refl
meant_back (Ok (Some (Step Start))) = refl
meant_back (Ok (Some (Step (Outcome r)))) = refl
meant_back (Ok (Some (Step (Receive x)))) = refl
meant_back (Ok (Some (Step (ReceiveError k n)))) = refl
meant_back (Ok (Some (Bytes p))) = refl
meant_back (Ok (Some (Expect x))) = expected-back x.response x.lines
meant_back (Ok (Some (Repeat n))) = refl
meant_back (Ok (Some Done)) = refl
meant_back (Err f) = fault-back f.place f.rule

pub apart : Apart
apart = record { meanings = λ x y h. sym (meant_back x) ∙ ap meant h ∙ meant_back y }

-- ---- what is expected

module _ (x : Expected) (a : Answer) (h : expectations.holds x a ≡ true) where
  response-met : response_holds x.response a ≡ true
  unfolding expectations.holds
  response-met = and_l (response_holds x.response a) (lines_hold x.lines a) h

  lines-met : lines_hold x.lines a ≡ true
  unfolding expectations.holds
  lines-met = and_r (response_holds x.response a) (lines_hold x.lines a) h

pub holds : (x : Expected) (a : Answer) → Holds x a
unfolding expectations.holds
holds x a = record {
  code = λ r h e. let m = rw e at (response-met x a h) in eqb-true r.code a.code (and_l (eqb r.code a.code) (eqb r.word a.word) m);
  word = λ r h e. let m = rw e at (response-met x a h) in eqb-true r.word a.word (and_r (eqb r.code a.code) (eqb r.word a.word) m);
  lines = λ up h e. eqb-true up a.lines (rw e at (lines-met x a h));
  answer = λ r e f c w. rw (e, f, eq-eqb r.code a.code c, eq-eqb r.word a.word w);
  lines_alone = λ up e f l. rw (e, f, eq-eqb up a.lines l);
  both = λ r up e f c w l. rw (e, f, eq-eqb r.code a.code c, eq-eqb r.word a.word w, eq-eqb up a.lines l);
  nothing = λ e f. rw (e, f);
}

-- ---- its bytes

bytes-back : (r : Option Response) (up : Option ℕ) → WordFits r
    → items.expected_of (items.bytes_of (record { response = r; lines = up })) ≡ record { response = r; lines = up }
unfolding items.bytes_of items.expected_of
bytes-back None None h = refl
bytes-back None (Some up) h = refl
bytes-back (Some r) None h = rw (from_le_bytes-to_le_bytes_4 r.word h)
bytes-back (Some r) (Some up) h = rw (from_le_bytes-to_le_bytes_4 r.word h)

pub bytes_back : (x : Expected) → BytesBack x
bytes_back x = record { back = bytes-back x.response x.lines }
