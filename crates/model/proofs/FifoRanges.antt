-- Stored frames and FIFOs stay in their ranges.
use Rattle.std.proofs.Common.{Option, Some, None}
use mathlib.Core.Bool.{Bool, true, false, not, ◌&&◌, ◌||◌}
use mathlib.Core.Path.{◌≡◌, refl, ap}
use Prim.Native.Nat.{ℕ, ◌+◌, ◌*◌, ◌-◌, ◌/◌, ◌%◌, ◌^◌, ◌<◌, ◌≤◌}
use native.Mathlib.Omega.{arith}
use native.Mathlib.Nat.{mod-le, mod-mod}
use lib.Dec.{eqb, ltb, leb}
use borrow.Author.Tests.{eqb-true, eqb-false, ltb-false, not-false}
use Rattle.base.specs.Base.{pick, bit, bits}
use Rattle.model.specs.Mailboxes.{sent_identifier}
use Rattle.model.specs.Reception.{malformed, data_bytes, bytes_kept, stored_frame, no_frame, empty_fifo, pushed, goes_into, fmi_of, received, released, cleared, rfr_written}
use Rattle.model.specs.Registers.{bank_count}
use Rattle.model.specs.Reachable.{MailboxRange, IdentifierRange, frame_of, FrameRange, FifoRange}
use Rattle.model.specs.declared.Fifo.{Fifo}
use Rattle.model.specs.declared.StoredFrame.{StoredFrame}
use Rattle.model.specs.declared.FifoState.{FifoState}
use Rattle.model.specs.declared.Frame.{Frame}
use Rattle.model.specs.declared.FilterNumber.{FilterNumber}
use Rattle.model.specs.declared.MailboxState.{MailboxState}
use Rattle.base.proofs.Choices.{pick_cases, or_l, or_r, opposed}
use Rattle.model.proofs.Masks.{field, lowest}

-- ---- identifiers

standard-without : (w : ℕ) → (not (bit 2 w) && not (eqb (bits 3 18 w) 0)) ≡ false → bit 2 w ≡ false → bits 3 18 w ≡ 0
standard-without w h s = let e : not (eqb (bits 3 18 w) 0) ≡ false = rw s at h in eqb-true _ _ (not-false _ e)

-- what is not malformed
module _ (x : Frame) (h : malformed x ≡ false) where
  abbrev extended : Bool
  extended = not (bit 2 x.identifier) && not (eqb (bits 3 18 x.identifier) 0)

  pub well_formed_range : x.identifier < 2 ^ 32 → IdentifierRange x.identifier
  unfolding malformed
  well_formed_range l =
      let k : (bit 0 x.identifier || extended) ≡ false = or_l (bit 0 x.identifier || extended) (ltb 15 x.length) h in
      record { word = l; even = or_l (bit 0 x.identifier) extended k; standard = standard-without x.identifier (or_r (bit 0 x.identifier) extended k) }

  pub well_formed_length : x.length < 16
  unfolding malformed
  well_formed_length = let l : x.length ≤ 15 = ltb-false _ _ (or_r (bit 0 x.identifier || extended) (ltb 15 x.length) h) in omega arith

-- what a mailbox sends
pub sent-range : (x : MailboxState) → MailboxRange x → IdentifierRange (sent_identifier x.ti)
unfolding sent_identifier
sent-range x r =
    let w : ℕ = x.ti in
    let v : ℕ = w / 2 ^ 21 * 2 ^ 21 + bits 1 1 w * 2 in
    let l : w < 2 ^ 32 = r.ti in
    let e : w / 2 * 2 ≡ w = r.even in
    pick_cases IdentifierRange (bit 2 w) w v
    (λ y. let z : w / 2 ^ 0 % 2 ≡ 0 = omega arith in
    record { word = l; even = ap (λ (n : ℕ). eqb n 1) z; standard = λ n. opposed y n })
    (λ _. let z : v / 2 ^ 0 % 2 ≡ 0 = omega arith in
    record {
      word = omega arith;
      even = ap (λ (n : ℕ). eqb n 1) z;
      standard = λ _. field (2 ^ 3) (2 ^ 18) v (w / 2 ^ 21) 0 (bits 1 1 w * 2) (omega arith) (omega arith) (omega arith);
    })

-- ---- frames

bytes_kept-word : (n w : ℕ) → w < 2 ^ 32 → bytes_kept n w < 2 ^ 32
unfolding bytes_kept
bytes_kept-word n w l = pick_cases (λ (x : ℕ). x < 2 ^ 32) (leb 4 n) _ _ (λ _. l) (λ _. omega (arith, mod-le w (2 ^ (8 * n))))

kept-twice : (b : Bool) (w k : ℕ) → pick b (pick b w (w % k)) (pick b w (w % k) % k) ≡ pick b w (w % k)
kept-twice true w k = refl
kept-twice false w k = mod-mod w k

bytes_kept-twice : (n w : ℕ) → bytes_kept n (bytes_kept n w) ≡ bytes_kept n w
unfolding bytes_kept
bytes_kept-twice n w = kept-twice (leb 4 n) w (2 ^ (8 * n))

pub no_frame-range : FrameRange no_frame
unfolding data_bytes bytes_kept
no_frame-range = record {
  ri = record { word = omega arith; even = refl; standard = λ _. refl };
  rdt = omega arith;
  reserved = refl;
  fmi = omega arith;
  rdl = omega arith;
  rdh = omega arith;
  low = refl;
  high = refl;
}

data_bytes-stored : (x : Frame) (fmi : FilterNumber) (time : ℕ) → (x.length + fmi.0 * 256 + time * 65536) % 16 ≡ x.length → data_bytes (frame_of (stored_frame x fmi time)) ≡ data_bytes x
unfolding data_bytes stored_frame
data_bytes-stored x fmi time e = rw e

pub stored-range : (x : Frame) (fmi : FilterNumber) (time : ℕ) → IdentifierRange x.identifier → x.low < 2 ^ 32 → x.high < 2 ^ 32 → x.length < 16
    → fmi.0 < 4 * bank_count → time < 65536 → FrameRange (stored_frame x fmi time)
unfolding stored_frame
stored-range x fmi time i l h n f t =
    let w : ℕ = x.length + fmi.0 * 256 + time * 65536 in
    let e : bits 8 8 w ≡ fmi.0 = field 256 256 w time fmi.0 x.length (omega arith) (omega arith) (omega arith) in
    let d : data_bytes (frame_of (stored_frame x fmi time)) ≡ data_bytes x
    = data_bytes-stored x fmi time (lowest 16 w (fmi.0 * 16 + time * 4096) x.length (omega arith) n) in
    record {
      ri = i;
      rdt = omega arith;
      reserved = field 16 16 w (fmi.0 + time * 256) 0 x.length (omega arith) n (omega arith);
      fmi = rw e f;
      rdl = bytes_kept-word (data_bytes x) x.low l;
      rdh = bytes_kept-word (data_bytes x - 4) x.high h;
      low = rw d (bytes_kept-twice (data_bytes x) x.low);
      high = rw d (bytes_kept-twice (data_bytes x - 4) x.high);
    }

-- ---- FIFOs

pub empty_fifo-range : FifoRange empty_fifo
empty_fifo-range = record {
  count = omega arith;
  first = no_frame-range;
  second = no_frame-range;
  third = no_frame-range;
  no_first = λ _. refl;
  no_second = λ _. refl;
  no_third = λ _. refl;
}

module _ (q : FifoState) (r : FifoRange q) where
  pushed-range : (x : StoredFrame) (rflm : Bool) → FrameRange x → FifoRange (pushed q x rflm)
  unfolding pushed
  pushed-range x rflm f =
      pick_cases FifoRange (eqb q.count 0) _ _
      (λ e. let n : q.count ≡ 0 = eqb-true _ _ e in
      record {
        count = omega arith;
        first = f;
        second = r.second;
        third = r.third;
        no_first = λ (h : 1 ≡ 0). absurd (omega arith);
        no_second = λ _. r.no_second (omega arith);
        no_third = λ _. r.no_third (omega arith);
      })
      (λ e0. pick_cases FifoRange (eqb q.count 1) _ _
      (λ e. let n : q.count ≡ 1 = eqb-true _ _ e in
      record {
        count = omega arith;
        first = r.first;
        second = f;
        third = r.third;
        no_first = λ (h : 2 ≡ 0). absurd (omega arith);
        no_second = λ (h : 2 ≤ 1). absurd (omega arith);
        no_third = λ _. r.no_third (omega arith);
      })
      (λ e1. pick_cases FifoRange (eqb q.count 2) _ _
      (λ e. record {
        count = omega arith;
        first = r.first;
        second = r.second;
        third = f;
        no_first = λ (h : 3 ≡ 0). absurd (omega arith);
        no_second = λ (h : 3 ≤ 1). absurd (omega arith);
        no_third = λ (h : 3 ≤ 2). absurd (omega arith);
      })
      (λ e2. record {
        count = r.count;
        first = r.first;
        second = r.second;
        third = pick_cases FrameRange rflm _ _ (λ _. r.third) (λ _. f);
        no_first = r.no_first;
        no_second = r.no_second;
        no_third = λ h. absurd (omega (arith, eqb-false));
      })))

  pub received-range : (f : Fifo) (a : Option (Fifo × FilterNumber)) (x : StoredFrame) (rflm : Bool) → FrameRange x → FifoRange (received f a x rflm q)
  unfolding received
  received-range f a x rflm k = pick_cases FifoRange (goes_into f a) _ _ (λ _. pushed-range x rflm k) (λ _. r)

  released-range : FifoRange (released q)
  unfolding released
  released-range =
      pick_cases FifoRange (eqb q.count 0) _ _ (λ _. r)
      (λ e. record {
        count = let l : q.count ≤ 3 = r.count in omega arith;
        first = r.second;
        second = r.third;
        third = no_frame-range;
        no_first = λ h. r.no_second (omega arith);
        no_second = λ h. r.no_third (omega arith);
        no_third = λ _. refl;
      })

  cleared-range : (w : ℕ) → FifoRange (cleared q w)
  unfolding cleared
  cleared-range w = record {
    count = r.count;
    first = r.first;
    second = r.second;
    third = r.third;
    no_first = r.no_first;
    no_second = r.no_second;
    no_third = r.no_third;
  }

pub rfr_written-range : (q : FifoState) (w : ℕ) → FifoRange q → FifoRange (rfr_written q w)
unfolding rfr_written
rfr_written-range q w r =
    pick_cases FifoRange (bit 5 w) _ _ (λ _. released-range (cleared q w) (cleared-range q r w)) (λ _. cleared-range q r w)

-- ---- the filter number

pub fmi_of-range : (a : Option (Fifo × FilterNumber)) → ((f : Fifo) (x : FilterNumber) → a ≡ Some (f, x) → x.0 < 4 * bank_count) → (fmi_of a).0 < 4 * bank_count
fmi_of-range (Some (f, x)) h = h f x refl
fmi_of-range None h = omega arith
