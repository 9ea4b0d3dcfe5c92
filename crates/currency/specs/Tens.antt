-- The powers of ten that scales and rates need. Cited by `power_of_ten`. Assumes nothing.
use Rattle.std.specs.Prelude.{cond, ℕ, ◌^◌, ltb}

-- 10^k for k up to 12, and 0 past it
unfoldable pub power_of_ten : ℕ → ℕ
power_of_ten k = cond (ltb 12 k) 0 (10 ^ k)
