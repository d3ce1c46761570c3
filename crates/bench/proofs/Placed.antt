-- A reply written from a place of the reply space on: the part that is lent, what comes back, and a place past the end.
use mathlib.Core.Bool.{Bool, true, false}
use mathlib.Core.Path.{◌≡◌, refl}
use mathlib.Core.List.{List, [], ◌++◌, append-nil}
use Prim.Native.Nat.{ℕ, ◌-◌, ◌≤◌, min}
use native.Mathlib.Nat.{min-eq_left, min-eq_right}
use native.Mathlib.Omega.{arith}
use lib.Dec.{leb}
use lib.ListN.{length, take, drop, length-drop, drop_of_length-le}
use lib.Seq.{length-take-le, take_all}
use borrow.Author.Tests.{leb-true, leb-false}
use Rattle.model.specs.Script.{overwritten}
use Rattle.bench.specs.Lent.{placed}

module _ (w : ℕ) (now : List ℕ) (h : w ≤ length now) where
  all : take (length now - w) (drop w now) ≡ drop w now
  all = take_all (length now - w) (drop w now) (omega (arith, length-drop w now))

  none : drop (length now - w) (drop w now) ≡ []
  none = drop_of_length-le (drop w now) {i = length now - w} (omega (arith, length-drop w now))

  pub part_length : length (take (length now - w) (drop w now)) ≡ length now - w
  part_length = length-take-le (length now - w) (drop w now) (omega (arith, length-drop w now))

  -- the part from place w on is lent, and comes back with a reply written over it
  pub placed-part : (r part : List ℕ) → part ≡ overwritten r (take (length now - w) (drop w now)) → take w now ++ (part ++ drop (length now - w) (drop w now)) ≡ placed w r now
  placed-part r part e = rw (none, e, all, append-nil)

-- a place past the end counts as the end
module _ (w : ℕ) (now : List ℕ) where
  pub least_left : length now - min w (length now) ≡ length now - w
  least_left = omega arith

  pub least-placed : (r : List ℕ) → placed (min w (length now)) r now ≡ placed w r now
  least-placed r = go (leb w (length now)) refl
    where
      go : (b : Bool) → leb w (length now) ≡ b → placed (min w (length now)) r now ≡ placed w r now
      go true e = rw (min-eq_left (leb-true w (length now) e))
      go false e =
          let h : length now ≤ w = omega (arith, leb-false w (length now) e) in
          rw (min-eq_right h, take_all (length now) now (omega arith), take_all w now h, drop_of_length-le now {i = length now} (omega arith), drop_of_length-le now {i = w} h)
