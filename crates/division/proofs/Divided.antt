-- A division is known by its quotient and its rest. Assumes nothing.
use mathlib.Core.Path.{◌≡◌, ap}
use Prim.Native.Nat.{ℕ, ◌+◌, ◌*◌, ◌/◌, ◌%◌, ◌<◌}
use native.Mathlib.Nat.{div-add-mod', div-eq_of_lt-le}
use native.Mathlib.Omega.{arith}

pub divided : (n d q s : ℕ) → q * d + s ≡ n → s < d → (n / d ≡ q) × (n % d ≡ s)
divided n d q s whole small =
    let quotient : n / d ≡ q = div-eq_of_lt-le d (omega arith) (omega arith) in
    (quotient, omega (arith, div-add-mod' n d, ap (λ (x : ℕ). x * d) quotient))
