-- The number of a refusal tells it.
use Rattle.std.proofs.Common.{◌≡◌, ℕ, eqb, false, refl}
use Rattle.base.specs.Base.{pick}
use Rattle.model.specs.Refusals.{code}
use Rattle.model.specs.declared.Refusal.{Refusal}
use Rattle.model.specs.declared.Refusal.TheVariants.{NotMapped, NotWritable, ReadOnly, NotNow, OutOfRange, Short, UnknownTag, WrongLength, NoSpace, BadBlock, NotOpened}

abbrev pub refusal_of : ℕ → Refusal
refusal_of k =
    pick (eqb k 1) NotMapped (pick (eqb k 2) NotWritable (pick (eqb k 3) ReadOnly (pick (eqb k 4) NotNow (pick (eqb k 5) OutOfRange
    (pick (eqb k 6) Short (pick (eqb k 7) UnknownTag (pick (eqb k 8) WrongLength (pick (eqb k 9) NoSpace (pick (eqb k 10) BadBlock NotOpened)))))))))

pub refusal_back : (r : Refusal) → refusal_of (code r) ≡ r
refusal_back NotMapped = refl
refusal_back NotWritable = refl
refusal_back ReadOnly = refl
refusal_back NotNow = refl
refusal_back OutOfRange = refl
refusal_back Short = refl
refusal_back UnknownTag = refl
refusal_back WrongLength = refl
refusal_back NoSpace = refl
refusal_back BadBlock = refl
refusal_back NotOpened = refl

-- no refusal has the number of what is done
pub refused : (r : Refusal) → eqb (code r) 0 ≡ false
refused NotMapped = refl
refused NotWritable = refl
refused ReadOnly = refl
refused NotNow = refl
refused OutOfRange = refl
refused Short = refl
refused UnknownTag = refl
refused WrongLength = refl
refused NoSpace = refl
refused BadBlock = refl
refused NotOpened = refl
