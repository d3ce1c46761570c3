-- Fields in words of 32 bits.
use mathlib.Core.Bool.{Bool, true, false}
use mathlib.Core.Path.{◌≡◌, refl, sym, ap, ◌∙◌}
use Prim.Native.Nat.{ℕ, ◌*◌, ◌/◌, ◌%◌, ◌^◌, ◌<◌, ◌≤◌}
use native.Mathlib.Nat.{zero-mod, div-eq_of_lt, mod-eq_of_lt, mod-le, lt_of_lt_of_le, lt_of_le_of_lt, le_trans, mul-le-mul_right}
use native.Mathlib.Omega.{arith}
use lib.Dec.{eqb}
use lib.Pow.{pow_mono, split}
use borrow.Author.Tests.{eqb-true, eqb-false, eq-eqb, ne_eqb}
use Rattle.std.proofs.Common.{Some, None}
use Rattle.base.specs.Base.{pick, bits}
use Rattle.names.specs.Rows.{numbers}
use Rattle.names.specs.Table.{place}
use Rattle.names.specs.declared.rows.Found.{Found}
use Rattle.names.specs.declared.rows.Numbers.{Numbers}
use Rattle.phrases.specs.declared.Field.{Field}
use Rattle.phrases.specs.Names.{field_value, placed, is_other, field_of, amount_text}

no_field : (i n w : ℕ) → 32 ≤ i → w < 2 ^ 32 → bits i n w ≡ 0
no_field i n w h l = ap (λ (x : ℕ). x % 2 ^ n) (div-eq_of_lt (lt_of_lt_of_le l (pow_mono h))) ∙ zero-mod (2 ^ n)

placed-le : (i n w : ℕ) → bits i n w * 2 ^ i ≤ w
placed-le i n w = le_trans (mul-le-mul_right (2 ^ i) (mod-le (w / 2 ^ i) (2 ^ n))) (omega (arith, split w i))

field-placed : (i n w : ℕ) → w < 2 ^ 32 → bits i n w * 2 ^ i % 2 ^ 32 ≡ bits i n w * 2 ^ i
field-placed i n w l = mod-eq_of_lt (lt_of_le_of_lt (placed-le i n w) l)

-- ---- a field that is shown or not

module _ (f : Found) (w : ℕ) where
  pub nothing : field_value f w ≡ 0 → None ≡ field_of f w
  unfolding field_of
  nothing z = rw (eq-eqb (field_value f w) 0 z)

  chosen : (x : Bool) → is_other (numbers f.row).shown w ≡ x → field_value f w ≡ pick x 0 (bits (place f) (numbers f.row).size w)
  chosen x e = ap (λ (y : Bool). pick y 0 (bits (place f) (numbers f.row).size w)) e

  pub not_told : is_other (numbers f.row).shown w ≡ true → None ≡ field_of f w
  not_told e = nothing (chosen true e)

  pub beyond : 32 ≤ place f → w < 2 ^ 32 → None ≡ field_of f w
  beyond h l = at (is_other (numbers f.row).shown w) refl
    where
      at : (x : Bool) → is_other (numbers f.row).shown w ≡ x → None ≡ field_of f w
      at true e = nothing (chosen true e)
      at false e = nothing (chosen false e ∙ no_field (place f) (numbers f.row).size w h l)

  pub told : (v : ℕ) → is_other (numbers f.row).shown w ≡ false → v ≡ bits (place f) (numbers f.row).size w → w < 2 ^ 32 → (v ≡ 0 → ⊥)
      → Some (record { value = v; placed = v * 2 ^ place f % 2 ^ 32 }) ≡ field_of f w
  unfolding field_of
  told v e h l n =
      let u : v ≡ field_value f w = h ∙ sym (chosen false e) in
      let p : v * 2 ^ place f % 2 ^ 32 ≡ placed f w = ap (λ (x : ℕ). x * 2 ^ place f % 2 ^ 32) h ∙ (field-placed (place f) (numbers f.row).size w l ∙ ap (λ (x : ℕ). x * 2 ^ place f) (sym h ∙ u)) in
      rw (ne_eqb (field_value f w) 0 (λ z. n (u ∙ z)))
      (ap (λ (x : ℕ). Some (record { value = x; placed = v * 2 ^ place f % 2 ^ 32 })) u ∙ ap (λ (x : ℕ). Some (record { value = field_value f w; placed = x })) p)

  pub told-none : (v : ℕ) → is_other (numbers f.row).shown w ≡ false → v ≡ bits (place f) (numbers f.row).size w → v ≡ 0 → None ≡ field_of f w
  told-none v e h z = nothing (chosen false e ∙ (sym h ∙ z))

  abbrev field : Field
  field = record { value = field_value f w; placed = placed f w }

  not_shown_lem : (b : Bool) → eqb (field_value f w) 0 ≡ b → None ≡ pick b None (Some field) → field_value f w ≡ 0
  not_shown_lem true e h = eqb-true _ _ e
  not_shown_lem false e h = cc

  pub not_shown : None ≡ field_of f w → field_value f w ≡ 0
  unfolding field_of
  not_shown h = not_shown_lem (eqb (field_value f w) 0) refl h

  is_shown_lem : (x : Field) (b : Bool) → eqb (field_value f w) 0 ≡ b → Some x ≡ pick b None (Some field)
      → (x.value ≡ field_value f w) × (x.placed ≡ placed f w) × (x.value ≡ 0 → ⊥)
  is_shown_lem x true e h = cc
  is_shown_lem x false e h =
      let u : x ≡ field = cc in
      (ap (λ (y : Field). y.value) u, ap (λ (y : Field). y.placed) u, λ z. eqb-false _ _ e (sym (ap (λ (y : Field). y.value) u) ∙ z))

  pub is_shown : (x : Field) → Some x ≡ field_of f w → (x.value ≡ field_value f w) × (x.placed ≡ placed f w) × (x.value ≡ 0 → ⊥)
  unfolding field_of
  is_shown x h = is_shown_lem x (eqb (field_value f w) 0) refl h

pub number-said : (n m : Numbers) (v u : ℕ) → v ≡ u → n ≡ m → amount_text n.size n.digits v ≡ amount_text m.size m.digits u
number-said n m v u h e = ap (λ (x : ℕ). amount_text n.size n.digits x) h ∙ ap (λ (x : Numbers). amount_text x.size x.digits u) e
