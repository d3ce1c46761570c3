-- The frames of a FIFO: what an arrival, a release and a clear do to them.
use mathlib.Core.Bool.{Bool, true, false}
use mathlib.Core.Path.{◌≡◌, refl}
use mathlib.Core.List.{List, [], ◌∷◌}
use Prim.Native.Nat.{ℕ, ◌≤◌}
use native.Mathlib.Omega.{arith}
use lib.ListN.{length}
use Rattle.base.specs.Base.{pick, bits}
use Rattle.model.specs.Reception.{pushed, released, cleared, rfr_word, output}
use Rattle.model.specs.History.{none, releases, arrives, waiting_next, oldest_frame}
use Rattle.model.specs.declared.StoredFrame.{StoredFrame}
use Rattle.model.specs.declared.FifoState.{FifoState}
use Rattle.base.proofs.Choices.{one-le}

-- the frames of a FIFO, by its count
pub data Holds (q : FifoState) : List StoredFrame → Type 0 where
  no_frame_lem : q.count ≡ 0 → Holds q []
  one-frame : q.count ≡ 1 → Holds q (q.first ∷ [])
  two-frames : q.count ≡ 2 → Holds q (q.first ∷ q.second ∷ [])
  three-frames : q.count ≡ 3 → Holds q (q.first ∷ q.second ∷ q.third ∷ [])

-- ---- what happens to a FIFO

holds_pushed : (q : FifoState) (l : List StoredFrame) (x : StoredFrame) (locked : Bool) → Holds q l → Holds (pushed q x locked) (waiting_next l (arrives x locked))
unfolding pushed
holds_pushed q l x locked (no_frame_lem e) = rw e (one-frame refl)
holds_pushed q l x locked (one-frame e) = rw e (two-frames refl)
holds_pushed q l x locked (two-frames e) = rw e (three-frames refl)
holds_pushed q l x true (three-frames e) = rw e (three-frames refl)
holds_pushed q l x false (three-frames e) = rw e (three-frames refl)

pub holds-received : (b : Bool) (q : FifoState) (l : List StoredFrame) (x : StoredFrame) (locked : Bool) → Holds q l
    → Holds (pick b (pushed q x locked) q) (waiting_next l (pick b (arrives x locked) none))
holds-received true q l x locked h = holds_pushed q l x locked h
holds-received false q l x locked h = h

holds-released : (q : FifoState) (l : List StoredFrame) → Holds q l → Holds (released q) (waiting_next l releases)
unfolding released
holds-released q l (no_frame_lem e) = rw e (no_frame_lem refl)
holds-released q l (one-frame e) = rw e (no_frame_lem refl)
holds-released q l (two-frames e) = rw e (one-frame refl)
holds-released q l (three-frames e) = rw e (two-frames refl)

holds-cleared : (q : FifoState) (l : List StoredFrame) (w : ℕ) → Holds q l → Holds (cleared q w) l
unfolding cleared
holds-cleared q l w (no_frame_lem e) = no_frame_lem e
holds-cleared q l w (one-frame e) = one-frame e
holds-cleared q l w (two-frames e) = two-frames e
holds-cleared q l w (three-frames e) = three-frames e

-- b: the write has RFOM
pub holds-written : (b : Bool) (q : FifoState) (l : List StoredFrame) (w : ℕ) → Holds q l
    → Holds (pick b (released (cleared q w)) (cleared q w)) (waiting_next l (pick b releases none))
holds-written true q l w h = holds-released (cleared q w) l (holds-cleared q l w h)
holds-written false q l w h = holds-cleared q l w h

-- ---- what the registers read

fmp-word : (q : FifoState) (n : ℕ) → q.count ≡ n → n ≤ 3 → bits 0 2 (rfr_word q) ≡ n
unfolding rfr_word
fmp-word q n e h = omega (arith, one-le q.full, one-le q.fovr)

pub fmp-read : (q : FifoState) (l : List StoredFrame) → Holds q l → bits 0 2 (rfr_word q) ≡ length l
fmp-read q l (no_frame_lem e) = fmp-word q 0 e (omega arith)
fmp-read q l (one-frame e) = fmp-word q 1 e (omega arith)
fmp-read q l (two-frames e) = fmp-word q 2 e (omega arith)
fmp-read q l (three-frames e) = fmp-word q 3 e (omega arith)

pub output-read : (q : FifoState) (l : List StoredFrame) → Holds q l → output q ≡ oldest_frame l
unfolding output
output-read q l (no_frame_lem e) = rw e
output-read q l (one-frame e) = rw e
output-read q l (two-frames e) = rw e
output-read q l (three-frames e) = rw e
