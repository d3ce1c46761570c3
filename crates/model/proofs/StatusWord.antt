-- TSR bit by bit, and what a read of it shows.
use Rattle.std.proofs.Common.{Option, Some, None}
use mathlib.Core.Bool.{Bool, true, false, not}
use mathlib.Core.List.{List, [], ◌∷◌}
use mathlib.Core.Path.{◌≡◌, refl, sym, ap, ◌∙◌}
use Prim.Native.Nat.{ℕ, zero, suc, ◌+◌, ◌*◌, ◌/◌, ◌%◌, ◌^◌, ◌≤◌, ◌<◌}
use native.Mathlib.Nat.{pow-suc}
use native.Mathlib.Omega.{arith}
use lib.ListN.{length}
use borrow.Author.Tests.{eqb-true, eqb-false}
use Rattle.base.specs.Base.{bit, bits, one}
use Rattle.model.specs.Queue.{number, sender_number, holds}
use Rattle.model.specs.Mailboxes.{at, tme, low, code, tsr_byte, tsr, last_of}
use Rattle.model.specs.Control.{txfp}
use Rattle.model.specs.Shown as read
use Rattle.model.specs.declared.Mailbox.{Mailbox}
use Rattle.model.specs.declared.Mailbox.TheVariants.{M0, M1, M2}
use Rattle.model.specs.declared.Transmit.{Transmit}
use Rattle.model.specs.declared.MailboxState.{MailboxState}
use Rattle.model.specs.declared.Controller.{Controller}
use Rattle.base.proofs.Choices.{one-le, one_bit, pick_cases}
use Rattle.model.proofs.MaskedBits.{next_bit, no_bit}
use Rattle.model.proofs.ShownWords.{tsr-shown}

-- ---- a word from its bits, the lowest first

abbrev word : List Bool → ℕ
word [] = 0
word (b ∷ l) = one b + word l * 2

abbrev nth : List Bool → ℕ → Bool
nth [] i = false
nth (b ∷ l) zero = b
nth (b ∷ l) (suc i) = nth l i

pub word-bit : (l : List Bool) (i : ℕ) → bit i (word l) ≡ nth l i
word-bit [] i = no_bit i
word-bit (b ∷ l) zero = one_bit ((one b + word l * 2) / 2 ^ 0 % 2) b (omega (arith, one-le b))
word-bit (b ∷ l) (suc i) =
    let e : (one b + word l * 2) / 2 ≡ word l = omega (arith, one-le b) in
    next_bit i (one b + word l * 2) ∙ ap (λ (x : ℕ). bit i x) e ∙ word-bit l i

-- a bit as a number
pub bit-number : (i w : ℕ) → one (bit i w) ≡ w / 2 ^ i % 2
bit-number i w = go (bit i w) refl
  where
    go : (b : Bool) → bit i w ≡ b → one b ≡ w / 2 ^ i % 2
    go true e = sym (eqb-true _ _ e)
    go false e = zeroes (w / 2 ^ i % 2) (omega arith) (eqb-false _ _ e)
      where
        zeroes : (n : ℕ) → n ≤ 1 → (n ≡ 1 → ⊥) → 0 ≡ n
        zeroes n l k = omega arith

-- ---- TSR

pub sender_small : (v : Option Mailbox) → sender_number v ≤ 2
sender_small None = omega arith
sender_small (Some M0) = omega arith
sender_small (Some M1) = omega arith
sender_small (Some M2) = omega arith

code_small : (p : Bool) (t : Transmit) → code p t ≤ 3
unfolding code
code_small p t =
    pick_cases (λ (n : ℕ). n ≤ 3) (tme t M0) _ _ (λ _. omega arith)
    (λ _. pick_cases (λ (n : ℕ). n ≤ 3) (tme t M1) _ _ (λ _. omega arith)
    (λ _. pick_cases (λ (n : ℕ). n ≤ 3) (tme t M2) _ _ (λ _. omega arith) (λ _. omega (arith, sender_small (last_of p t)))))

abbrev byte : MailboxState → Bool → List Bool → List Bool
byte x abort l = x.rqcp ∷ x.txok ∷ x.alst ∷ x.terr ∷ false ∷ false ∷ false ∷ abort ∷ l

byte_word : (x : MailboxState) (abort : Bool) (l : List Bool) → word (byte x abort l) ≡ tsr_byte x abort + word l * 256
unfolding tsr_byte
byte_word x abort l = omega arith

abbrev top : Bool → Transmit → List Bool
top p t = bit 0 (code p t) ∷ bit 1 (code p t) ∷ tme t M0 ∷ tme t M1 ∷ tme t M2 ∷ low p t M0 ∷ low p t M1 ∷ low p t M2 ∷ []

abbrev status : Bool → Transmit → List Bool
status p t = byte t.mailboxes.m0 t.queue.aborts.m0 (byte t.mailboxes.m1 t.queue.aborts.m1 (byte t.mailboxes.m2 t.queue.aborts.m2 (top p t)))

sums : (a b c k x y z u v w : ℕ) → a + (b + (c + (k + (x * 4 + y * 8 + z * 16 + u * 32 + v * 64 + w * 128)) * 256) * 256) * 256
    ≡ a + b * 2 ^ 8 + c * 2 ^ 16 + k * 2 ^ 24 + x * 2 ^ 26 + y * 2 ^ 27 + z * 2 ^ 28 + u * 2 ^ 29 + v * 2 ^ 30 + w * 2 ^ 31
sums a b c k x y z u v w = omega arith

top-word : (p : Bool) (t : Transmit) → word (top p t) ≡ code p t + (one (tme t M0) * 4 + one (tme t M1) * 8 + one (tme t M2) * 16 + one (low p t M0) * 32 + one (low p t M1) * 64 + one (low p t M2) * 128)
top-word p t = go (code p t) (one (bit 0 (code p t))) (one (bit 1 (code p t))) (code_small p t) (bit-number 0 (code p t)) (bit-number 1 (code p t)) _ _ _ _ _ _
  where
    go : (k a b : ℕ) → k ≤ 3 → a ≡ k / 2 ^ 0 % 2 → b ≡ k / 2 ^ 1 % 2 → (x y z u v w : ℕ)
        → a + (b + (x + (y + (z + (u + (v + (w + 0 * 2) * 2) * 2) * 2) * 2) * 2) * 2) * 2 ≡ k + (x * 4 + y * 8 + z * 16 + u * 32 + v * 64 + w * 128)
    go k a b l p q x y z u v w = omega arith

status-word : (p : Bool) (t : Transmit) → tsr p t ≡ word (status p t)
unfolding tsr
status-word p t = sym (rw (byte_word t.mailboxes.m0 t.queue.aborts.m0, byte_word t.mailboxes.m1 t.queue.aborts.m1, byte_word t.mailboxes.m2 t.queue.aborts.m2, top-word p t) (sums _ _ _ _ _ _ _ _ _ _))

word_below : (l : List Bool) → word l < 2 ^ length l
word_below [] = omega arith
word_below (b ∷ l) = omega (arith, word_below l, one-le b, pow-suc 2 (length l))

pub status_small : (p : Bool) (t : Transmit) → tsr p t < 2 ^ 32
status_small p t = rw (status-word p t) (word_below (status p t))

pub status_bit_lem : (p : Bool) (t : Transmit) (i : ℕ) → bit i (tsr p t) ≡ nth (status p t) i
status_bit_lem p t i = ap (λ (w : ℕ). bit i w) (status-word p t) ∙ word-bit (status p t) i

-- the bits of mailbox m
pub record Status (p : Bool) (t : Transmit) (m : Mailbox) : Type 0 where
  pub rqcp : bit (8 * number m + 0) (tsr p t) ≡ (at t.mailboxes m).rqcp
  pub txok : bit (8 * number m + 1) (tsr p t) ≡ (at t.mailboxes m).txok
  pub alst : bit (8 * number m + 2) (tsr p t) ≡ (at t.mailboxes m).alst
  pub terr : bit (8 * number m + 3) (tsr p t) ≡ (at t.mailboxes m).terr
  pub abrq : bit (8 * number m + 7) (tsr p t) ≡ at t.queue.aborts m
  pub tme : bit (26 + number m) (tsr p t) ≡ tme t m
  pub low : bit (29 + number m) (tsr p t) ≡ low p t m
  pub bit4 : bit (8 * number m + 4) (tsr p t) ≡ false
  pub bit5 : bit (8 * number m + 5) (tsr p t) ≡ false
  pub bit6 : bit (8 * number m + 6) (tsr p t) ≡ false

pub bits_of : (p : Bool) (t : Transmit) (m : Mailbox) → Status p t m
bits_of p t M0 = record { rqcp = status_bit_lem p t 0; txok = status_bit_lem p t 1; alst = status_bit_lem p t 2; terr = status_bit_lem p t 3; abrq = status_bit_lem p t 7; tme = status_bit_lem p t 26; low = status_bit_lem p t 29; bit4 = status_bit_lem p t 4; bit5 = status_bit_lem p t 5; bit6 = status_bit_lem p t 6 }
bits_of p t M1 = record { rqcp = status_bit_lem p t 8; txok = status_bit_lem p t 9; alst = status_bit_lem p t 10; terr = status_bit_lem p t 11; abrq = status_bit_lem p t 15; tme = status_bit_lem p t 27; low = status_bit_lem p t 30; bit4 = status_bit_lem p t 12; bit5 = status_bit_lem p t 13; bit6 = status_bit_lem p t 14 }
bits_of p t M2 = record { rqcp = status_bit_lem p t 16; txok = status_bit_lem p t 17; alst = status_bit_lem p t 18; terr = status_bit_lem p t 19; abrq = status_bit_lem p t 23; tme = status_bit_lem p t 28; low = status_bit_lem p t 31; bit4 = status_bit_lem p t 20; bit5 = status_bit_lem p t 21; bit6 = status_bit_lem p t 22 }

-- CODE
pub code-bits : (p : Bool) (t : Transmit) → bits 24 2 (tsr p t) ≡ code p t
code-bits p t =
    let a : one (bit 24 (tsr p t)) ≡ code p t / 2 ^ 0 % 2 = ap one (status_bit_lem p t 24) ∙ bit-number 0 (code p t) in
    let b : one (bit 25 (tsr p t)) ≡ code p t / 2 ^ 1 % 2 = ap one (status_bit_lem p t 25) ∙ bit-number 1 (code p t) in
    two (tsr p t) (code p t) (code_small p t) (sym (bit-number 24 (tsr p t)) ∙ a) (sym (bit-number 25 (tsr p t)) ∙ b)
  where
    digits : (v k : ℕ) → k ≤ 3 → v % 2 ≡ k % 2 → v / 2 % 2 ≡ k / 2 % 2 → v % 4 ≡ k
    digits v k l a b =
        let e : v % 4 ≡ v % 2 + 2 * (v / 2 % 2) = omega arith in
        let f : k ≡ k % 2 + 2 * (k / 2 % 2) = omega arith in
        omega arith

    two : (w k : ℕ) → k ≤ 3 → w / 2 ^ 24 % 2 ≡ k / 2 ^ 0 % 2 → w / 2 ^ 25 % 2 ≡ k / 2 ^ 1 % 2 → w / 2 ^ 24 % 2 ^ 2 ≡ k
    two w k l a b =
        let s : w / 2 ^ 25 ≡ w / 2 ^ 24 / 2 = omega arith in
        let d : k / 2 ^ 0 ≡ k = omega arith in
        digits (w / 2 ^ 24) k l (a ∙ ap (λ (n : ℕ). n % 2) d) (ap (λ (n : ℕ). n % 2) (sym s) ∙ b)

-- ---- what a read of TSR shows of a state

pub record FlagsShown (z : Controller) (m : Mailbox) : Type 0 where
  pub rqcp : read.rqcp m z ≡ (at z.core.transmit.mailboxes m).rqcp
  pub txok : read.txok m z ≡ (at z.core.transmit.mailboxes m).txok
  pub alst : read.alst m z ≡ (at z.core.transmit.mailboxes m).alst
  pub terr : read.terr m z ≡ (at z.core.transmit.mailboxes m).terr
  pub abrq : read.abrq m z ≡ at z.core.transmit.queue.aborts m
  pub tme : read.tme m z ≡ not (holds z.core.transmit.queue.order m)
  pub low : read.low m z ≡ low (txfp z.core.control) z.core.transmit m
  pub reserved : (read.status_bit 4 m z ≡ false) × (read.status_bit 5 m z ≡ false) × (read.status_bit 6 m z ≡ false)

pub flags-shown : (z : Controller) (m : Mailbox) → FlagsShown z m
flags-shown z m =
    let s = bits_of (txfp z.core.control) z.core.transmit m in
    let e = tsr-shown z in
    record {
      rqcp = ap (λ (w : ℕ). bit (8 * number m + 0) w) e ∙ s.rqcp;
      txok = ap (λ (w : ℕ). bit (8 * number m + 1) w) e ∙ s.txok;
      alst = ap (λ (w : ℕ). bit (8 * number m + 2) w) e ∙ s.alst;
      terr = ap (λ (w : ℕ). bit (8 * number m + 3) w) e ∙ s.terr;
      abrq = ap (λ (w : ℕ). bit (8 * number m + 7) w) e ∙ s.abrq;
      tme = ap (λ (w : ℕ). bit (26 + number m) w) e ∙ s.tme;
      low = ap (λ (w : ℕ). bit (29 + number m) w) e ∙ s.low;
      reserved = (ap (λ (w : ℕ). bit (8 * number m + 4) w) e ∙ s.bit4, ap (λ (w : ℕ). bit (8 * number m + 5) w) e ∙ s.bit5, ap (λ (w : ℕ). bit (8 * number m + 6) w) e ∙ s.bit6);
    }

pub code-shown : (z : Controller) → read.code z ≡ code (txfp z.core.control) z.core.transmit
code-shown z = ap (λ (w : ℕ). bits 24 2 w) (tsr-shown z) ∙ code-bits (txfp z.core.control) z.core.transmit
