-- No number has no coefficient; a field of 1,075 or more is over L; any other number is its mantissa over a power of two. Assumes nothing.
use mathlib.Core.Path.{◌≡◌, sym, ◌∙◌, ap}
use Prim.Native.Nat.{ℕ, ◌-◌, ◌*◌, ◌^◌, ◌≤◌, ◌<◌}
use native.Mathlib.Omega.{arith}
use Rattle.currency.specs.Tens.{power_of_ten}
use Rattle.currency.proofs.Tables.{power_of_ten_lem}
use Rattle.doubles.specs.Doubles.{last_scale}
use Rattle.doubles.specs.Parts.{field_of, digits_of, mantissa_of, capped}
use Rattle.doubles.proofs.Fields.{last_field}
use Rattle.doubles.proofs.Columns.{column_none, column_over, column_places, same_leaf, mantissa_fits, scaled_fits, ten_fits}
use Rattle.doubles.proofs.column.scaled.Goals as goal

mantissa_is : (bits field q : ℕ) → q ≡ mantissa_of field (digits_of bits) → field ≡ field_of bits → q ≡ mantissa_of (field_of bits) (digits_of bits)
mantissa_is bits field q e f = e ∙ ap (λ (x : ℕ). mantissa_of x (digits_of bits)) f

power_is : (scale p : ℕ) → scale ≤ last_scale → p ≡ power_of_ten scale → p ≡ 10 ^ scale
power_is scale p h e = e ∙ power_of_ten_lem scale (omega arith)

product_fits : (bits scale q p : ℕ) → scale ≤ last_scale → q ≡ mantissa_of (field_of bits) (digits_of bits) → p ≡ 10 ^ scale → q * p < 2 ^ 63
product_fits bits scale q p h e f =
    rw (e, f)
    (scaled_fits (mantissa_of (field_of bits) (digits_of bits)) (10 ^ scale) (mantissa_fits (field_of bits) bits) (ten_fits scale h))

pub returns-then-field-eq-LAST : goal.returns-then-field-eq-LAST
returns-then-field-eq-LAST c = let a = c.args in
    sym (column_none a.rule a.scale a.bits (sym c.field-field.ensures ∙ c.if-field-eq-LAST.true))

pub returns-then-field-ge1075 : goal.returns-then-field-ge1075
returns-then-field-ge1075 c = let a = c.args in
    sym
    (column_over a.rule a.scale a.bits (omega (arith, c.field-field.ensures, c.if-field-eq-LAST.false, last_field a.bits))
    (omega (arith, c.field-field.ensures, c.if-field-ge1075.true)))

pub overflow_mul-n : goal.overflow_mul-n
overflow_mul-n c =
    let q_is = mantissa_is c.args.bits _ _ c.mantissa.ensures c.field-field.ensures in
    let p_is = power_is c.args.scale _ c.requires c.power_of_ten.ensures in
    record { fits = omega (arith, product_fits c.args.bits c.args.scale _ _ c.requires q_is p_is) }

pub over-requires : goal.over-requires
over-requires c =
    let q_is = mantissa_is c.args.bits _ _ c.mantissa.ensures c.field-field.ensures in
    let p_is = power_is c.args.scale _ c.requires c.power_of_ten.ensures in
    product_fits c.args.bits c.args.scale _ _ c.requires q_is p_is

pub returns : goal.returns
returns c =
    let a = c.args in
    let q_is = mantissa_is c.args.bits _ _ c.mantissa.ensures c.field-field.ensures in
    let p_is = power_is c.args.scale _ c.requires c.power_of_ten.ensures in
    c.cap.ensures
    ∙ ap capped
    (c.over.ensures
    ∙ same_leaf a.rule c.sign.ensures q_is p_is
    (c.places.ensures ∙ ap (λ (x : ℕ). 1074 - (x - 1)) c.field-field.ensures)
    ∙ sym (column_places a.rule a.scale a.bits (omega (arith, c.field-field.ensures, c.if-field-ge1075.false))))
