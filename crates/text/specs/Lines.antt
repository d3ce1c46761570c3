-- What holds of a line to which more is added. Document 01 leaves the words of a trace free.
use Rattle.std.specs.Prelude.{◌≡◌, ℕ, ◌+◌, ◌<◌, ◌≤◌, min, List, [], ◌∷◌, ◌++◌, length, take, drop, nat_lt, slice_index, slice_set, refl}
use Rattle.base.specs.Base.{pick}
use Rattle.text.specs.declared.Line.{Line}

-- the text of l stands at the start of r: no byte of it is changed, and r is as long or longer
pub record Extends (l r : Line) : Type 0 where
  pub kept : (i : ℕ) → i ≤ l.at → take i r.bytes ≡ take i l.bytes
  pub longer : l.at ≤ r.at

-- a byte more, if there is room
abbrev pub added : Line → ℕ → Line
added l b = pick (nat_lt l.at 512) (record { bytes = slice_set l.bytes l.at b; at = l.at + 1 }) l

-- the bytes of a text, one behind the other
unfoldable pub put_all : Line → List ℕ → Line
put_all l [] = l
put_all l (b ∷ s) = put_all (added l b) s

pub put_both : (l : Line) (a b : List ℕ) → put_all (put_all l a) b ≡ put_all l (a ++ b)
unfolding put_all
put_both l [] b = refl
put_both l (x ∷ a) b = put_both (added l x) a b

-- the last thing that was added is a newline
pub record EndsLine (r : Line) : Type 0 where
  pub before : Line
  pub newline : r ≡ added before 10

-- the bytes of a line; it has room for 512
abbrev pub text_of : Line → List ℕ
text_of l = take (min l.at 512) l.bytes

-- how many bytes of a line of this length a row of n bytes takes; a line has room for 512
abbrev pub fitting : ℕ → ℕ → ℕ
fitting length n = min (min length 512) n

-- a line copied to the start of a row: how many bytes, which they are, and that the bytes behind them are untouched
pub record Copied (l : Line) (before : List ℕ) (n : ℕ) (after : List ℕ) : Type 0 where
  pub count : n ≡ fitting l.at (length before)
  pub front : (i : ℕ) → i < n → slice_index after i ≡ slice_index l.bytes i
  pub rest : drop n after ≡ drop n before
  pub same : length after ≡ length before
