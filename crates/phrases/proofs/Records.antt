-- The record of a frame, in a space of its length.
use mathlib.Core.Path.{◌≡◌}
use Prim.Native.Nat.{◌<◌, ◌^◌}
use lib.ListN.{replicate}
use borrow.Author.Tests.{lt-ltb}
use Rattle.model.specs.Script.{overwritten}
use Rattle.model.specs.Records.{record_of, field_bytes, bytes_of}
use Rattle.model.specs.Writer.{written, record_written}
use Rattle.model.specs.declared.Frame.{Frame}
use Rattle.model.specs.declared.Step.TheVariants.{Receive}

pub frame-record : (x : Frame) → x.identifier < 256 ^ 4 → x.length < 256 ^ 1 → x.low < 256 ^ 4 → x.high < 256 ^ 4
    → overwritten (record_written (Receive x) 16) (replicate 16 0) ≡ record_of (Receive x)
unfolding written record_written field_bytes bytes_of
frame-record x a b c d = rw (lt-ltb _ _ a, lt-ltb _ _ b, lt-ltb _ _ c, lt-ltb _ _ d)
