-- A read: its word, or the refusal. Document 01: "Refusal numbers" (code 1), the register map.
use Rattle.std.specs.Prelude.{not, ◌||◌, List, ℕ, ◌-◌, ◌/◌, ◌%◌, eqb, ltb, leb, get_or, Result, Ok, Err}
use Rattle.base.specs.Base.{pick}
use Rattle.model.specs.Registers.{register_at, is_absent, read_word}
use Rattle.model.specs.declared.Core.{Core}
use Rattle.model.specs.declared.Refusal.{Refusal}
use Rattle.model.specs.declared.Refusal.TheVariants.{NotMapped}

-- at an offset of no register but those of the banks
unfoldable pub bank_read : ℕ → List ℕ → Result ℕ Refusal
bank_read o v = pick (ltb o 0x240 || leb 0x2B0 o || not (eqb (o % 4) 0)) (Err NotMapped) (Ok (get_or v ((o - 0x240) / 4) 0))

-- refused where no register is there
unfoldable pub read_at : ℕ → Core → List ℕ → Result ℕ Refusal
read_at o c v = pick (is_absent (register_at o)) (Err NotMapped) (Ok (read_word (register_at o) c v))
