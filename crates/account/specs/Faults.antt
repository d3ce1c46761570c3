-- What is wrong with a record that can't be read. Document 01: "Bench script", codes 6, 7 and 8 of "Refusal numbers".
use Rattle.std.specs.Prelude.{List, ℕ, ◌-◌, eqb, ltb, length}
use Rattle.base.specs.Base.{pick}
use Rattle.model.specs.Refusals.{code}
use Rattle.model.specs.Script.{body_length, number16, byte_at}
use Rattle.model.specs.declared.Refusal.{Refusal}
use Rattle.account.specs.declared.faults.Fault.{Fault}
use Rattle.account.specs.declared.faults.Kind.{Kind}
use Rattle.account.specs.declared.faults.Kind.TheVariants.{ShortHeader, ShortBody, WrongLength, UnknownTag}

-- the numbers by which the laws speak of the kinds
abbrev pub kind_number : Kind → ℕ
kind_number (ShortHeader n) = 0
kind_number (ShortBody n) = 1
kind_number (WrongLength n) = 2
kind_number (UnknownTag n) = 3

-- the number of a fault's kind
abbrev pub kind_of : Fault → ℕ
kind_of f = kind_number f.kind

-- what a fault is refused as
abbrev pub refusal_of : Fault → Refusal
refusal_of f = f.refusal

-- the bytes of the header where it is short, or else of the body
abbrev pub bytes_in : List ℕ → ℕ
bytes_in s = pick (ltb (length s) 3) (length s) (length s - 3)

-- what is wrong with a record that is refused as r
abbrev pub kind_in : Refusal → List ℕ → Kind
kind_in r s =
    pick (eqb (code r) 8) (WrongLength (number16 s 1))
    (pick (eqb (code r) 7) (UnknownTag (bytes_in s)) (pick (ltb (length s) 3) (ShortHeader (bytes_in s)) (ShortBody (bytes_in s))))

-- s is the script from the record on, which is refused so
unfoldable pub fault_in : Refusal → List ℕ → Fault
fault_in r s = record { refusal = r; kind = kind_in r s; tag = byte_at s 0; wanted = body_length (byte_at s 0) }
