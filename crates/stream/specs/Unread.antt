-- What is read of an input and not used yet. Nothing here is of document 01.
use Rattle.std.specs.Prelude.{◌≡◌, ℕ, ◌-◌, ◌<◌, ◌&&◌, Bool, List, [], ◌++◌, length, take, drop, ◌==◌, nat_lt, Option, Result, Ok, Err, cond, true, false}
use Rattle.std.specs.Io.KnownBytes.{Keeps, Consumes, IsAtEnd}
use Rattle.stream.specs.declared.Input.{Input}
use Rattle.stream.specs.declared.Source.{Source}
use Rattle.stream.specs.declared.Source.TheVariants.{Open, Ended, Failed}

-- the bytes, and whether more can come
pub record Unread : Type 0 where
  pub bytes : List ℕ
  pub source : Source

-- the bytes of a space from one place up to another
abbrev pub between : ℕ → ℕ → List ℕ → List ℕ
between from to s = take (to - from) (drop from s)

-- what contracts see of an input
abbrev pub unread_of : {N : ℕ} → Input N → Unread
unread_of i = record { bytes = between i.place i.filled i.bytes; source = i.source }

abbrev pub nothing_read : Unread
nothing_read = record { bytes = []; source = Open }

abbrev pub is_open : Source → Bool
is_open Open = true
is_open Ended = false
is_open Failed = false

-- more is to be read before n bytes can be looked at
abbrev pub wants : Unread → ℕ → Bool
wants i n = is_open i.source && nat_lt (length i.bytes) n

-- n bytes more are used
abbrev pub passed : Unread → ℕ → Unread
passed i n = record { bytes = drop n i.bytes; source = i.source }

-- a read that gives nothing finds the end
abbrev pub source_after : ℕ → Source
source_after n = cond (n == 0) Ended Open

-- More was read into a space of so many bytes, behind what was not used yet: n bytes, the next ones of the reader where these are
-- known; none exactly where the input ended or there was no room. A read that fails leaves the bytes as they were.
abbrev pub ReadOn : {E : Type 0} → ℕ → Option (List ℕ) → Option (List ℕ) → Unread → Unread → Result ℕ E → Type 0
ReadOn size left left' i j (Ok n) =
    (more : List ℕ) × (j ≡ record { bytes = i.bytes ++ more; source = source_after n }) × (length more ≡ n)
    × Consumes left left' more × (n ≡ 0 → length i.bytes < size → IsAtEnd left')
ReadOn size left left' i j (Err e) = (j ≡ record { bytes = i.bytes; source = Failed }) × Keeps left left'
