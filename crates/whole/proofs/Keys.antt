-- The last arm of a `match` on 0 to n - 1: a number that is none of the keys is at least n. Assumes nothing.
use mathlib.Core.Path.{◌≡◌}
use Prim.Native.Nat.{ℕ, zero, suc, ◌≤◌}
use native.Mathlib.Omega.{arith}

-- x is none of 0 to n - 1, as the last arm has it
abbrev pub NoKey : ℕ → ℕ → Type 0
NoKey x zero = Unit {0}
NoKey x (suc n) = NoKey x n × (x ≡ n → ⊥)

pub past_keys : (n x : ℕ) → NoKey x n → n ≤ x
past_keys zero x keys = omega arith
past_keys (suc n) x keys = let least : n ≤ x = past_keys n x keys.0 in let differs : x ≡ n → ⊥ = keys.1 in omega arith
