use mathlib.Core.Path.{◌≡◌, ◌∙◌}
use Prim.Native.Nat.{◌+◌, ◌-◌, ◌≤◌}
use native.Mathlib.Omega.{arith}
use Rattle.receive.proofs.Masks.{data_bytes-le}
use Rattle.phrases.specs.Frames.{data_text}
use borrow.Author.Rules.{rules}
use Rattle.phrases.proofs.frames.data.Goals as goal

pub slice_bounds-pairs-end : goal.slice_bounds-pairs-end
slice_bounds-pairs-end c =
    let h : c.data_bytes.result ≤ 8 = rw c.data_bytes.ensures (data_bytes-le _) in
    search rules

pub returns : goal.returns
unfolding data_text
returns c =
    let n = c.data_bytes.result in
    let h : 8 + n - 8 ≡ n = omega arith in
    c.pairs.ensures ∙ rw (h, c.data_bytes.ensures, c.record-s.ensures)
