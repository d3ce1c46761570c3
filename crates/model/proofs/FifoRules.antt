-- The FIFOs after each step: what a frame, a release and a reset change, and what the output shows.
use Rattle.std.proofs.Common.{Option, Some, None}
use mathlib.Core.Bool.{Bool, true, false, not, ◌&&◌, ◌||◌, or-false}
use mathlib.Core.Path.{◌≡◌, refl, sym, ap, ◌∙◌}
use mathlib.Core.List.{List}
use Prim.Native.Nat.{ℕ, zero, suc, ◌+◌, ◌-◌, ◌*◌, ◌/◌, ◌%◌, ◌^◌, ◌≤◌, ◌<◌, min}
use native.Mathlib.Omega.{arith}
use lib.Dec.{eqb, ltb, leb}
use borrow.Author.Tests.{eqb-true, eqb-false, ne_eqb, ltb-true, ltb-false, leb-true, leb-false, lt-ltb, le-ltb}
use Rattle.base.specs.Base.{pick, bit, bits, one}
use Rattle.model.specs.Queue.{holds}
use Rattle.model.specs.Mailboxes.{at, tdt_masked, sent_identifier, ti_word}
use Rattle.model.specs.Search.{acceptance}
use Rattle.model.specs.Reception.{malformed, data_bytes, bytes_kept, stored_frame, sent_frame, no_frame, empty_fifo, pushed, fmi_of, received, released, cleared, rfr_written, rfr_word, output}
use Rattle.model.specs.Control.{rflm, lbkm}
use Rattle.model.specs.Registers.{bank_count, reset, fifo_of}
use Rattle.model.specs.Step.{refusal, applied, stored_by, looped_back, ended_by}
use Rattle.model.specs.Reachable.{InRange, StepRange, FifoRange, MailboxRange}
use Rattle.model.specs.Shown.{fmr, rdt, rdl, rdh, ti, tdt, Done, next_of, fifo_number}
use Rattle.model.specs.Fifos.{other, NoOutput, SameOutput, Kept, has_byte, Shows, Stored, Passed, SentBy, is_looped, EndRule, WriteRule, FifoRule, Fifos}
use Rattle.model.specs.Shown as read
use Rattle.model.specs.declared.Mailbox.{Mailbox}
use Rattle.model.specs.declared.MailboxState.{MailboxState}
use Rattle.model.specs.declared.Fifo.{Fifo}
use Rattle.model.specs.declared.Fifo.TheVariants.{F0, F1}
use Rattle.model.specs.declared.StoredFrame.{StoredFrame}
use Rattle.model.specs.declared.FifoState.{FifoState}
use Rattle.model.specs.declared.Frame.{Frame}
use Rattle.model.specs.declared.FilterNumber.{FilterNumber}
use Rattle.model.specs.declared.Filters.{Filters}
use Rattle.model.specs.declared.Core.{Core}
use Rattle.model.specs.declared.Controller.{Controller}
use Rattle.model.specs.declared.Step as steps
use Rattle.model.specs.declared.Step.TheVariants.{Reset, Read, Write, Idle, BitTimes, Activity, Start, Outcome, Receive, ReceiveError}
use Rattle.base.proofs.Choices.{one-le, pick_cases, refused_if, opposed}
use Rattle.model.proofs.Masks.{field}
use Rattle.model.proofs.FilterNumbers.{fmi_small}
use Rattle.model.proofs.FifoRanges.{well_formed_length, sent-range, fmi_of-range}
use Rattle.model.proofs.Reached.{step-in_range}
use Rattle.model.proofs.ShownWords.{rfr-shown, btr-shown, fmr-shown, ri-shown, rdt-shown, rdl-shown, rdh-shown, flag-bit, rfr-fmp, rfr-full, rfr-fovr, ti-shown, tdt-shown, tdl-shown, tdh-shown}
use Rattle.model.proofs.WriteTargets.{fifo-written}
use Rattle.model.proofs.DoneSteps.{accepted, done-core}
use Rattle.model.proofs.Waiting.{start-keeps, settled-fifo}

-- ---- what is shown

abbrev fifo : Fifo → Controller → FifoState
fifo f z = fifo_of f z.core

range_of : (f : Fifo) (z : Controller) → InRange z → FifoRange (fifo f z)
range_of F0 z i = i.core.fifo0
range_of F1 z i = i.core.fifo1

module _ (f : Fifo) (z : Controller) (i : InRange z) where
  shown-fmp : read.fmp f z ≡ (fifo f z).count
  shown-fmp = rw (rfr-shown f z) (rfr-fmp (fifo f z) (range_of f z i).count)

  shown-full : read.full f z ≡ (fifo f z).full
  shown-full = rw (rfr-shown f z) (rfr-full (fifo f z) (range_of f z i).count)

  shown-fovr : read.fovr f z ≡ (fifo f z).fovr
  shown-fovr = rw (rfr-shown f z) (rfr-fovr (fifo f z) (range_of f z i).count)

same-output : (f : Fifo) (z y : Controller) → output (fifo f y) ≡ output (fifo f z) → SameOutput f z y
same-output f z y e = record {
  same_ri = ri-shown f y ∙ (ap (λ (x : StoredFrame). x.ri) e ∙ sym (ri-shown f z));
  same_rdt = rdt-shown f y ∙ (ap (λ (x : StoredFrame). x.rdt) e ∙ sym (rdt-shown f z));
  same_rdl = rdl-shown f y ∙ (ap (λ (x : StoredFrame). x.rdl) e ∙ sym (rdl-shown f z));
  same_rdh = rdh-shown f y ∙ (ap (λ (x : StoredFrame). x.rdh) e ∙ sym (rdh-shown f z));
}

kept : (f : Fifo) (z y : Controller) → fifo f y ≡ fifo f z → Kept f z y
kept f z y e = record {
  same_rfr = rfr-shown f y ∙ (ap rfr_word e ∙ sym (rfr-shown f z));
  output = same-output f z y (ap output e);
  behind = e;
}

no_output : (f : Fifo) (z : Controller) → InRange z → read.fmp f z ≡ 0 → NoOutput f z
unfolding output
no_output f z i h =
    let c : (fifo f z).count ≡ 0 = sym (shown-fmp f z i) ∙ h in
    record { no_ri = rw (ri-shown f z, c); no_rdt = rw (rdt-shown f z, c); no_rdl = rw (rdl-shown f z, c); no_rdh = rw (rdh-shown f z, c) }

-- ---- a frame that is stored

module _ (q : FifoState) (x : StoredFrame) (b : Bool) (l : q.count ≤ 3) where
  -- the four places
  record Places (p : FifoState) : Type 0 where
    count : p.count ≡ min (q.count + 1) 3
    full : p.full ≡ q.full || eqb q.count 2
    fovr : p.fovr ≡ q.fovr || eqb q.count 3
    first : p.first ≡ pick (eqb q.count 0) x q.first

  or-all : (a : Bool) → true ≡ a || true
  or-all true = refl
  or-all false = refl

  pushed-places : Places (pushed q x b)
  unfolding pushed
  pushed-places = go (eqb q.count 0) (eqb q.count 1) (eqb q.count 2) refl refl refl
    where
      go : (c d e : Bool) → eqb q.count 0 ≡ c → eqb q.count 1 ≡ d → eqb q.count 2 ≡ e → Places (pushed q x b)
      go true d e h i j = let n : q.count ≡ 0 = eqb-true _ _ h in record { count = rw n; full = rw n (sym (or-false q.full)); fovr = rw n (sym (or-false q.fovr)); first = rw n }
      go false true e h i j = let n : q.count ≡ 1 = eqb-true _ _ i in record { count = rw n; full = rw n (sym (or-false q.full)); fovr = rw n (sym (or-false q.fovr)); first = rw n }
      go false false true h i j = let n : q.count ≡ 2 = eqb-true _ _ j in record { count = rw n; full = rw n (or-all q.full); fovr = rw n (sym (or-false q.fovr)); first = rw n }
      go false false false h i j =
          let n : q.count ≡ 3 = omega (arith, eqb-false q.count 0 h, eqb-false q.count 1 i, eqb-false q.count 2 j) in
          record { count = rw n; full = rw n (sym (or-false q.full)); fovr = rw n (or-all q.fovr); first = rw n }

-- ---- bytes

below_four : (P : ℕ → Type 0) → P 0 → P 1 → P 2 → P 3 → (i : ℕ) → i < 4 → P i
below_four P a b c d zero l = a
below_four P a b c d (suc zero) l = b
below_four P a b c d (suc (suc zero)) l = c
below_four P a b c d (suc (suc (suc zero))) l = d
below_four P a b c d (suc (suc (suc (suc i)))) l = absurd (omega arith)

-- byte i of the n lowest bytes of w
cut-byte : (w n i : ℕ) → n < 4 → i < 4 → bits (8 * i) 8 (w % 2 ^ (8 * n)) ≡ pick (ltb i n) (bits (8 * i) 8 w) 0
cut-byte w n i l h =
    below_four (λ (n : ℕ). bits (8 * i) 8 (w % 2 ^ (8 * n)) ≡ pick (ltb i n) (bits (8 * i) 8 w) 0)
    (below_four (λ (i : ℕ). bits (8 * i) 8 (w % 2 ^ (8 * 0)) ≡ pick (ltb i 0) (bits (8 * i) 8 w) 0) (omega arith) (omega arith) (omega arith) (omega arith) i h)
    (below_four (λ (i : ℕ). bits (8 * i) 8 (w % 2 ^ (8 * 1)) ≡ pick (ltb i 1) (bits (8 * i) 8 w) 0) (omega arith) (omega arith) (omega arith) (omega arith) i h)
    (below_four (λ (i : ℕ). bits (8 * i) 8 (w % 2 ^ (8 * 2)) ≡ pick (ltb i 2) (bits (8 * i) 8 w) 0) (omega arith) (omega arith) (omega arith) (omega arith) i h)
    (below_four (λ (i : ℕ). bits (8 * i) 8 (w % 2 ^ (8 * 3)) ≡ pick (ltb i 3) (bits (8 * i) 8 w) 0) (omega arith) (omega arith) (omega arith) (omega arith) i h)
    n l

kept_byte : (w n i : ℕ) → i < 4 → bits (8 * i) 8 (bytes_kept n w) ≡ pick (ltb i n) (bits (8 * i) 8 w) 0
unfolding bytes_kept
kept_byte w n i h =
    pick_cases (λ (v : ℕ). bits (8 * i) 8 v ≡ pick (ltb i n) (bits (8 * i) 8 w) 0) (leb 4 n) w (w % 2 ^ (8 * n))
    (λ e. let k : 4 ≤ n = leb-true _ _ e in rw (lt-ltb i n (omega arith)))
    (λ e. cut-byte w n i (leb-false _ _ e) h)

-- the bytes that a frame has
low_byte : (x : Frame) (i : ℕ) → i < 8 → ltb i (data_bytes x) ≡ has_byte x i
unfolding data_bytes
low_byte x i h = go (bit 1 x.identifier) (leb 8 x.length) refl
  where
    go : (a b : Bool) → leb 8 x.length ≡ b → ltb i (pick a 0 (pick b 8 x.length)) ≡ (not a && ltb i x.length)
    go true b e = le-ltb i 0 (omega arith)
    go false true e = let k : 8 ≤ x.length = leb-true _ _ e in rw (lt-ltb i 8 h, lt-ltb i x.length (omega arith))
    go false false e = refl

high_byte : (n i : ℕ) → ltb i (n - 4) ≡ ltb (4 + i) n
high_byte n i = go (ltb (4 + i) n) refl
  where
    go : (b : Bool) → ltb (4 + i) n ≡ b → ltb i (n - 4) ≡ b
    go true e = let k : 4 + i < n = ltb-true _ _ e in lt-ltb i (n - 4) (omega arith)
    go false e = let k : n ≤ 4 + i = ltb-false _ _ e in le-ltb i (n - 4) (omega arith)

-- ---- the words of a stored frame

pub output-words : (q : FifoState) → FifoRange q → ((output q).rdt < 2 ^ 32) × ((output q).rdl < 2 ^ 32) × ((output q).rdh < 2 ^ 32)
unfolding output
output-words q r =
    pick_cases (λ (x : StoredFrame). (x.rdt < 2 ^ 32) × (x.rdl < 2 ^ 32) × (x.rdh < 2 ^ 32)) (eqb q.count 0) no_frame q.first
    (λ _. (omega arith, omega arith, omega arith)) (λ _. (r.first.rdt, r.first.rdl, r.first.rdh))

-- the output of y is the stored frame
stored_shows : (f : Fifo) (y : Controller) (x : Frame) (n : FilterNumber) (time : ℕ) → InRange y → x.length < 16 → n.0 < 256 → time < 65536
    → output (fifo f y) ≡ stored_frame x n time → Shows f y x n time
unfolding stored_frame
stored_shows f y x n time i l h t e =
    let w : rdt f y ≡ x.length + n.0 * 256 + time * 65536 = rdt-shown f y ∙ ap (λ (s : StoredFrame). s.rdt) e in
    let a : rdl f y ≡ bytes_kept (data_bytes x) x.low = rdl-shown f y ∙ ap (λ (s : StoredFrame). s.rdl) e in
    let b : rdh f y ≡ bytes_kept (data_bytes x - 4) x.high = rdh-shown f y ∙ ap (λ (s : StoredFrame). s.rdh) e in
    record {
      identifier = ri-shown f y ∙ ap (λ (s : StoredFrame). s.ri) e;
      code = field 1 16 (rdt f y) (n.0 * 16 + time * 4096) x.length 0 (omega arith) (omega arith) l;
      none = field 16 16 (rdt f y) (n.0 + time * 256) 0 x.length (omega arith) l (omega arith);
      fmi = field 256 256 (rdt f y) time n.0 x.length (omega arith) (omega arith) h;
      timed = field 65536 65536 (rdt f y) 0 time (x.length + n.0 * 256) (omega arith) (omega arith) t;
      low = λ j k. let m : j < 8 = omega arith in rw (a, kept_byte x.low (data_bytes x) j k, low_byte x j m);
      high = λ j k. let m : 4 + j < 8 = omega arith in rw (b, kept_byte x.high (data_bytes x - 4) j k, high_byte (data_bytes x) j, low_byte x (4 + j) m);
      words = words;
    }
  where
    words : (rdt f y < 2 ^ 32) × (rdl f y < 2 ^ 32) × (rdh f y < 2 ^ 32)
    words = rw (rdt-shown f y, rdl-shown f y, rdh-shown f y) (output-words (fifo f y) (range_of f y i))

output-first : (q : FifoState) → 0 < q.count → output q ≡ q.first
unfolding output
output-first q h = rw (ne_eqb q.count 0 (λ e. omega arith))

-- FIFO f takes the frame, the other stays
stored : (f : Fifo) (z y : Controller) (x : Frame) (n : FilterNumber) (time : ℕ) (b : Bool) → InRange z → InRange y → x.length < 16 → n.0 < 256 → time < 65536
    → fifo f y ≡ pushed (fifo f z) (stored_frame x n time) b → fifo (other f) y ≡ fifo (other f) z → Stored f z y x n time
stored f z y x n time b i j l h t e o =
    let q : FifoState = fifo f z in
    let c : q.count ≤ 3 = (range_of f z i).count in
    let p : Places q (stored_frame x n time) b c (fifo f y) = rw e (pushed-places q (stored_frame x n time) b c) in
    record {
      counted = rw (shown-fmp f y j, shown-fmp f z i) p.count;
      third = rw (shown-full f y j, shown-full f z i, shown-fmp f z i) p.full;
      fourth = rw (shown-fovr f y j, shown-fovr f z i, shown-fmp f z i) p.fovr;
      oldest = λ k. let m : q.count ≡ 0 = sym (shown-fmp f z i) ∙ k in
          stored_shows f y x n time j l h t (output-first (fifo f y) (omega (arith, p.count)) ∙ (p.first ∙ rw m));
      later = λ k. let m : 0 < q.count = rw (shown-fmp f z i) at k in
          same-output f z y (output-first (fifo f y) (omega (arith, p.count)) ∙ (p.first ∙ (rw (ne_eqb q.count 0 (λ e. omega arith)) (sym (output-first q m)))));
      alone = kept (other f) z y o;
    }

-- ---- a frame that passes the filters

done-fifo : (f : Fifo) (z : Controller) (s : steps.Step) → Done z s → fifo f (next_of z s) ≡ fifo_of f (applied z.core z.banks s)
done-fifo f z s h = rw (done-core z s h) (settled-fifo f _)

passed : (a : Option (Fifo × FilterNumber)) (z y : Controller) (x : Frame) (time : ℕ) (b : Bool) → InRange z → InRange y → x.length < 16 → (fmi_of a).0 < 256 → time < 65536
    → ((f : Fifo) → fifo f y ≡ received f a (stored_frame x (fmi_of a) time) b (fifo f z)) → Passed a z y x time
unfolding received
passed (Some (F0, n)) z y x time b i j l h t e = stored F0 z y x n time b i j l h t (e F0) (e F1)
passed (Some (F1, n)) z y x time b i j l h t e = stored F1 z y x n time b i j l h t (e F1) (e F0)
passed None z y x time b i j l h t e = λ f. kept f z y (rejected f)
  where
    rejected : (f : Fifo) → fifo f y ≡ fifo f z
    rejected F0 = e F0
    rejected F1 = e F1

fmi-fits : (g : Filters) (v : List ℕ) (w : ℕ) → (fmi_of (acceptance bank_count g v w)).0 < 256
fmi-fits g v w = omega (arith, fmi_of-range (acceptance bank_count g v w) (fmi_small bank_count g v w))

-- from the bus
receive_passes : (z : Controller) (x : Frame) → InRange z → InRange (next_of z (Receive x)) → Done z (Receive x)
    → Passed (acceptance bank_count z.core.filters z.banks x.identifier) z (next_of z (Receive x)) x z.core.control.timer
unfolding applied stored_by refusal
receive_passes z x i j h =
    passed _ z (next_of z (Receive x)) x z.core.control.timer (rflm z.core.control) i j
    (well_formed_length x (refused_if (malformed x) 5 _ refl (accepted z (Receive x) h)).0) (fmi-fits z.core.filters z.banks x.identifier) i.core.control.timer
    (λ f. done-fifo f z (Receive x) h ∙ by f)
  where
    by : (f : Fifo) → fifo_of f (applied z.core z.banks (Receive x))
        ≡ received f (acceptance bank_count z.core.filters z.banks x.identifier) (stored_frame x (fmi_of (acceptance bank_count z.core.filters z.banks x.identifier)) z.core.control.timer) (rflm z.core.control) (fifo f z)
    by F0 = refl
    by F1 = refl

-- ---- loopback

-- the fields of an identifier word that is their sum
module _ (w q b e r h : ℕ) (s : w ≡ q * 2 ^ 21 + b * 8 + e * 4 + r * 2 + h) (lq : q < 2 ^ 11) (lb : b < 2 ^ 18) (le : e < 2) (lr : r < 2) (lh : h < 2) where
  word-stid : bits 21 11 w ≡ q
  word-stid = field (2 ^ 21) (2 ^ 11) w 0 q (b * 8 + e * 4 + r * 2 + h) (omega arith) (omega arith) lq

  word-exid : bits 3 18 w ≡ b
  word-exid = field 8 (2 ^ 18) w q b (e * 4 + r * 2 + h) (omega arith) (omega arith) lb

  word-ide : w / 2 ^ 2 % 2 ≡ e
  word-ide = field 4 2 w (q * 2 ^ 18 + b) e (r * 2 + h) (omega arith) (omega arith) le

  word-rtr : w / 2 ^ 1 % 2 ≡ r
  word-rtr = field 2 2 w (q * 2 ^ 19 + b * 2 + e) r h (omega arith) lh lr

  word-bit : w / 2 ^ 0 % 2 ≡ h
  word-bit = field 1 2 w (q * 2 ^ 20 + b * 4 + e * 2 + r) h 0 (omega arith) (omega arith) lh

-- an identifier x of what is sent, from the words TI as it is kept (t) and as it reads (v)
record SentWord (x v : ℕ) : Type 0 where
  stid : bits 21 11 x ≡ bits 21 11 v
  exid : bits 3 18 x ≡ pick (bit 2 x) (bits 3 18 v) 0
  ide : bit 2 x ≡ bit 2 v
  rtr : bit 1 x ≡ bit 1 v
  none : bit 0 x ≡ false

module _ (t v h : ℕ) (lt : t < 2 ^ 32) (even : t / 2 * 2 ≡ t) (lh : h < 2) (d : v ≡ t / 2 * 2 + h) where
  abbrev r : ℕ
  r = t / 2 % 2

  abbrev e : ℕ
  e = t / 2 / 2 % 2

  abbrev b : ℕ
  b = t / 2 / 2 / 2 % 2 ^ 18

  abbrev q : ℕ
  q = t / 2 / 2 / 2 / 2 ^ 18

  kept-sum : t ≡ q * 2 ^ 21 + b * 8 + e * 4 + r * 2 + 0
  kept-sum = omega arith

  read-sum : v ≡ q * 2 ^ 21 + b * 8 + e * 4 + r * 2 + h
  read-sum = omega arith

  top : q < 2 ^ 11
  top = omega arith

  -- the fields of both words
  abbrev As : ℕ → ℕ → Type 0
  As x y = (x ≡ q * 2 ^ 21 + b * 8 + e * 4 + r * 2 + y) × (y < 2)

  kept_as : As t 0
  kept_as = (kept-sum, omega arith)

  read_as : As v h
  read_as = (read-sum, lh)

  stid_as : (x y : ℕ) → As x y → bits 21 11 x ≡ q
  stid_as x y a = word-stid x q b e r y a.0 top (omega arith) (omega arith) (omega arith) a.1

  exid_as : (x y : ℕ) → As x y → bits 3 18 x ≡ b
  exid_as x y a = word-exid x q b e r y a.0 top (omega arith) (omega arith) (omega arith) a.1

  ide_as : (x y : ℕ) → As x y → bit 2 x ≡ eqb e 1
  ide_as x y a = ap (λ (n : ℕ). eqb n 1) (word-ide x q b e r y a.0 top (omega arith) (omega arith) (omega arith) a.1)

  rtr_as : (x y : ℕ) → As x y → x / 2 ^ 1 % 2 ≡ r
  rtr_as x y a = word-rtr x q b e r y a.0 top (omega arith) (omega arith) (omega arith) a.1

  sent-extended : bit 2 t ≡ true → SentWord t v
  sent-extended k = record {
    stid = stid_as t 0 kept_as ∙ sym (stid_as v h read_as);
    exid = rw k (exid_as t 0 kept_as ∙ sym (exid_as v h read_as));
    ide = ide_as t 0 kept_as ∙ sym (ide_as v h read_as);
    rtr = ap (λ (n : ℕ). eqb n 1) (rtr_as t 0 kept_as ∙ sym (rtr_as v h read_as));
    none = ap (λ (n : ℕ). eqb n 1) (word-bit t q b e r 0 kept-sum top (omega arith) (omega arith) (omega arith) (omega arith));
  }

  -- EXID as 0
  abbrev x : ℕ
  x = t / 2 ^ 21 * 2 ^ 21 + bits 1 1 t * 2

  sent-sum : x ≡ q * 2 ^ 21 + 0 * 8 + 0 * 4 + r * 2 + 0
  sent-sum =
      let a : t / 2 ^ 21 ≡ q = omega (arith, kept-sum) in
      let c : t / 2 ^ 1 % 2 ^ 1 ≡ r = rtr_as t 0 kept_as in
      omega arith

  sent-standard : bit 2 t ≡ false → SentWord x v
  sent-standard k =
      let f : bit 2 x ≡ false = ap (λ (n : ℕ). eqb n 1) (word-ide x q 0 0 r 0 sent-sum top (omega arith) (omega arith) (omega arith) (omega arith)) in
      record {
        stid = word-stid x q 0 0 r 0 sent-sum top (omega arith) (omega arith) (omega arith) (omega arith) ∙ sym (stid_as v h read_as);
        exid = rw f (word-exid x q 0 0 r 0 sent-sum top (omega arith) (omega arith) (omega arith) (omega arith));
        ide = f ∙ (sym k ∙ (ide_as t 0 kept_as ∙ sym (ide_as v h read_as)));
        rtr = ap (λ (n : ℕ). eqb n 1) (word-rtr x q 0 0 r 0 sent-sum top (omega arith) (omega arith) (omega arith) (omega arith) ∙ sym (rtr_as v h read_as));
        none = ap (λ (n : ℕ). eqb n 1) (word-bit x q 0 0 r 0 sent-sum top (omega arith) (omega arith) (omega arith) (omega arith));
      }

  sent_word : SentWord (sent_identifier t) v
  unfolding sent_identifier
  sent_word = pick_cases (λ (y : ℕ). SentWord y v) (bit 2 t) t x sent-extended sent-standard

sent-code : (x : MailboxState) → (sent_frame x).length < 16
unfolding sent_frame
sent-code x = omega arith

sent_by_lem : (m : Mailbox) (z : Controller) → InRange z → SentBy m z (sent_frame (at z.core.transmit.mailboxes m))
unfolding sent_frame ti_word
sent_by_lem m z i =
    let x : MailboxState = at z.core.transmit.mailboxes m in
    let k : MailboxRange x = i.core.transmit.mailboxes m in
    let b : Bool = holds z.core.transmit.queue.order m in
    let w : SentWord (sent_identifier x.ti) (ti m z) = sent_word x.ti _ (one b) k.ti k.even (omega (arith, one-le b)) (ti-shown m z) in
    record {
      stid = w.stid;
      exid = w.exid;
      ide = w.ide;
      rtr = w.rtr;
      none = w.none;
      word = (sent-range x k).word;
      code = rw (tdt-shown m z) (omega arith);
      low = sym (tdl-shown m z);
      high = sym (tdh-shown m z);
    }

time_of_lem : (m : Mailbox) (z : Controller) → InRange z → (bits 16 16 (tdt m z) ≡ (at z.core.transmit.mailboxes m).tdt / 65536) × ((at z.core.transmit.mailboxes m).tdt / 65536 < 65536)
time_of_lem m z i =
    let t : ℕ = (at z.core.transmit.mailboxes m).tdt in
    let e : tdt_masked t ≡ t = (i.core.transmit.mailboxes m).tdt in
    let l : t / 65536 < 65536 = omega arith in
    (rw (tdt-shown m z) (omega arith), l)

looped_shown : (z : Controller) → is_looped z ≡ (lbkm z.core.control && not z.core.filters.finit)
looped_shown z =
    let f : bit 0 (fmr z) ≡ z.core.filters.finit = rw (fmr-shown z) (flag-bit 0 (0x2A1C0E00 + one z.core.filters.finit) 0x150E0700 0 z.core.filters.finit (omega arith) (omega arith)) in
    rw (f, btr-shown z)

-- the test of the definition, and the law's
abbrev looping : Core → ℕ → Bool
looping c r = eqb r 0 && lbkm c.control && not c.filters.finit

and-and : (a b c : Bool) → ((a && b) && c) ≡ (a && (b && c))
and-and true b c = refl
and-and false b c = refl

looping_shown : (z : Controller) (r : ℕ) (b : Bool) → (eqb r 0 && is_looped z) ≡ b → looping z.core r ≡ b
looping_shown z r b h = and-and (eqb r 0) (lbkm z.core.control) (not z.core.filters.finit) ∙ (rw (looped_shown z) at h)

end_kept : (f : Fifo) (u : Option Mailbox) (c : Core) (v : List ℕ) (r : ℕ) → looping c r ≡ false → fifo_of f (ended_by u c v r) ≡ fifo_of f c
unfolding ended_by stored_by received looped_back
end_kept f None c v r h = refl
end_kept F0 (Some m) c v r h = rw h
end_kept F1 (Some m) c v r h = rw h

abbrev sent_of : Core → Mailbox → Frame
sent_of c m = sent_frame (at c.transmit.mailboxes m)

abbrev taken : Core → List ℕ → Mailbox → Option (Fifo × FilterNumber)
taken c v m = acceptance bank_count c.filters v (sent_of c m).identifier

end_received : (f : Fifo) (m : Mailbox) (c : Core) (v : List ℕ) (r : ℕ) → looping c r ≡ true
    → fifo_of f (ended_by (Some m) c v r)
    ≡ received f (taken c v m) (stored_frame (sent_of c m) (fmi_of (taken c v m)) ((at c.transmit.mailboxes m).tdt / 65536)) (rflm c.control) (fifo_of f c)
unfolding ended_by stored_by looped_back
end_received F0 m c v r h = rw h
end_received F1 m c v r h = rw h

module _ (z : Controller) (r : ℕ) (i : InRange z) (j : InRange (next_of z (Outcome r))) (h : Done z (Outcome r)) where
  abbrev c : Core
  c = z.core

  ended-fifo : (f : Fifo) (u : Option Mailbox) → c.transmit.queue.transmitting ≡ u → fifo f (next_of z (Outcome r)) ≡ fifo_of f (ended_by u c z.banks r)
  unfolding applied
  ended-fifo f u e = done-fifo f z (Outcome r) h ∙ rw e

  loop_passes : (m : Mailbox) → c.transmit.queue.transmitting ≡ Some m → looping c r ≡ true
      → Passed (taken c z.banks m) z (next_of z (Outcome r)) (sent_of c m) (bits 16 16 (tdt m z))
  loop_passes m e k =
      let t = time_of_lem m z i in
      rw t.0
      (passed (taken c z.banks m) z (next_of z (Outcome r)) (sent_of c m) ((at c.transmit.mailboxes m).tdt / 65536) (rflm c.control) i j
      (sent-length m) (fmi-fits c.filters z.banks (sent_of c m).identifier) t.1
      (λ f. ended-fifo f (Some m) e ∙ end_received f m c z.banks r k))
    where
      sent-length : (m : Mailbox) → (sent_of c m).length < 16
      sent-length m = sent-code (at c.transmit.mailboxes m)

  end_rule : EndRule z r (next_of z (Outcome r))
  end_rule = record {
    loops = λ m e k. loop_passes m e (looping_shown z r true k);
    otherwise = λ k f. kept f z (next_of z (Outcome r)) (ended-fifo f _ refl ∙ end_kept f c.transmit.queue.transmitting c z.banks r (looping_shown z r false k));
  }

-- ---- writes

-- the clears, then the release
record Cleared (q p : FifoState) (w : ℕ) : Type 0 where
  full : p.full ≡ q.full && not (bit 3 w)
  fovr : p.fovr ≡ q.fovr && not (bit 4 w)
  count : p.count ≡ q.count - one (bit 5 w)
  still : bit 5 w ≡ false → output p ≡ output q

rfr-cleared : (q : FifoState) (w : ℕ) → Cleared q (rfr_written q w) w
unfolding rfr_written released cleared output
rfr-cleared q w = go (bit 5 w) (eqb q.count 0) refl refl
  where
    go : (a b : Bool) → bit 5 w ≡ a → eqb q.count 0 ≡ b → Cleared q (rfr_written q w) w
    go true true e f = let n : q.count ≡ 0 = eqb-true _ _ f in record { full = rw (e, f); fovr = rw (e, f); count = rw (e, f) (omega arith); still = λ k. opposed e k }
    go true false e f = record { full = rw (e, f); fovr = rw (e, f); count = rw (e, f); still = λ k. opposed e k }
    go false b e f = record { full = rw e; fovr = rw e; count = rw e (omega arith); still = λ k. rw e }

written-fifo : (f : Fifo) (z : Controller) (o w : ℕ) → Done z (Write o w)
    → fifo f (next_of z (Write o w)) ≡ pick (eqb o 0x000 && bit 15 w) empty_fifo (pick (eqb o (0x00C + 4 * fifo_number f)) (rfr_written (fifo f z) w) (fifo f z))
unfolding applied
written-fifo f z o w h = done-fifo f z (Write o w) h ∙ fifo-written f o z.core w

-- RFxR is not MCR
not-mcr : (f : Fifo) (o w : ℕ) → eqb o (0x00C + 4 * fifo_number f) ≡ true → (eqb o 0x000 && bit 15 w) ≡ false
not-mcr F0 o w e = let n : o ≡ 0x00C = eqb-true _ _ e in rw n
not-mcr F1 o w e = let n : o ≡ 0x010 = eqb-true _ _ e in rw n

write_rule : (f : Fifo) (z : Controller) (o w : ℕ) → InRange z → InRange (next_of z (Write o w)) → Done z (Write o w) → WriteRule z o w (next_of z (Write o w)) f
unfolding rfr_word
write_rule f z o w i j h =
    let y : Controller = next_of z (Write o w) in
    let e = written-fifo f z o w h in
    record {
      released = λ k.
          let p : Cleared (fifo f z) (fifo f y) w = rw (e, not-mcr f o w k, k) (rfr-cleared (fifo f z) w) in
          record {
            full = rw (shown-full f y j, shown-full f z i) p.full;
            fovr = rw (shown-fovr f y j, shown-fovr f z i) p.fovr;
            fmp = rw (shown-fmp f y j, shown-fmp f z i) p.count;
            still = λ n. same-output f z y (p.still n);
          };
      reset = λ k. rfr-shown f y ∙ (ap rfr_word e ∙ rw k);
      otherwise = λ k n. kept f z y (e ∙ rw (n, k));
    }

-- ---- every step

both : (f : Fifo) (d c : Core) → d.fifo0 ≡ c.fifo0 → d.fifo1 ≡ c.fifo1 → fifo_of f d ≡ fifo_of f c
both F0 d c p q = p
both F1 d c p q = q

fifo-rule : (z : Controller) (s : steps.Step) → InRange z → InRange (next_of z s) → Done z s → FifoRule z s (next_of z s)
unfolding applied reset rfr_word
fifo-rule z Reset i j h = λ f. rfr-shown f _ ∙ (ap rfr_word (done-fifo f z Reset h) ∙ none f)
  where
    none : (f : Fifo) → rfr_word (fifo_of f reset.core) ≡ 0
    none F0 = refl
    none F1 = refl
fifo-rule z (Read o) i j h = λ f. kept f z _ (done-fifo f z (Read o) h)
fifo-rule z (Write o w) i j h = λ f. write_rule f z o w i j h
fifo-rule z Idle i j h = λ f. kept f z _ (done-fifo f z Idle h ∙ both f _ z.core refl refl)
fifo-rule z (BitTimes n) i j h = λ f. kept f z _ (done-fifo f z (BitTimes n) h ∙ both f _ z.core refl refl)
fifo-rule z Activity i j h = λ f. kept f z _ (done-fifo f z Activity h ∙ both f _ z.core refl refl)
fifo-rule z Start i j h = λ f. kept f z _ (done-fifo f z Start h ∙ start-keeps f _ z.core)
fifo-rule z (Outcome r) i j h = end_rule z r i j h
fifo-rule z (Receive x) i j h = receive_passes z x i j h
fifo-rule z (ReceiveError k n) i j h = λ f. kept f z _ (done-fifo f z (ReceiveError k n) h ∙ both f _ z.core refl refl)

pub fifos : (z : Controller) (s : steps.Step) → InRange z → StepRange s → Fifos z s
fifos z s i l = record { empty = λ f h. no_output f z i h; sends = λ m. sent_by_lem m z i; change = λ h. fifo-rule z s i (step-in_range z s i l) h }
