-- What the functions below `plain_quotient` hand each other. No public promise cites it. Assumes nothing.
use Rattle.std.specs.Prelude.{Bool, cond, ℕ, eqb}
use Rattle.rounding.specs.declared.Rule.{Rule}
use Rattle.rounding.specs.Leaf.{rounded_magnitude}
use Rattle.rounding.specs.Product.{rounded_product}

-- the rounded magnitude of a x b / d as it is found: by the factor 1 from a alone
unfoldable pub found_quotient : Rule → (negative : Bool) (a b d : ℕ) → ℕ
found_quotient rule negative a b d = cond (eqb b 1) (rounded_magnitude rule negative a d) (rounded_product rule negative a b d)
