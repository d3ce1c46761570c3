use Rattle.std.proofs.Common.{rules, ℕ, sym, ap, ◌∙◌}
use Rattle.phrases.specs.Names.{is_other}
use Rattle.phrases.proofs.Words.{not_told, beyond, told, told-none}
use Rattle.phrases.proofs.field_of.Goals as goal
use Rattle.phrases.proofs.field_of.Goals.{then-place-ge32-via-then-place-ge32, then-place-ge32-via-else-place-ge32+then-is_other}

pub returns-then-place-ge32 : goal.returns-then-place-ge32
returns-then-place-ge32 c =
    elim c.then-place-ge32.branch [
      | then-place-ge32-via-then-place-ge32 w ↦ beyond _ _ (rw c.place-place.ensures at w.if-place-ge32.true) c.ranges.w.fits
      | then-place-ge32-via-else-place-ge32+then-is_other w ↦
          not_told _ _ (ap (λ (x : ℕ). is_other x c.args.w) (sym c.requires.1) ∙ (sym w.is_other.ensures ∙ w.if-is_other.true))
    ]

pub returns-in-0 : goal.returns-in-0
returns-in-0 c =
    let e = ap (λ (x : ℕ). is_other x c.args.w) (sym c.requires.1) ∙ (sym c.is_other.ensures ∙ c.if-is_other.false) in
    told-none _ _ c.lowest.result e (rw (c.place-place.ensures, c.requires.0) at c.lowest.ensures) c.in-0.is

pub returns-in_default : goal.returns-in_default
returns-in_default c =
    let e = ap (λ (x : ℕ). is_other x c.args.w) (sym c.requires.1) ∙ (sym c.is_other.ensures ∙ c.if-is_other.false) in
    rw c.place-place.ensures (told _ _ c.lowest.result e (rw (c.place-place.ensures, c.requires.0) at c.lowest.ensures) c.ranges.w.fits (λ z. absurd (search rules)))
