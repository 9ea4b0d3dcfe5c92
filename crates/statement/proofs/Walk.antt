-- Records that stand inside the bytes, walked from the first on: each has its width before the trailer. Assumes nothing.
use mathlib.Core.Path.{◌≡◌}
use Prim.Native.Nat.{ℕ, ◌+◌, ◌≤◌, ◌<◌}
use native.Mathlib.Nat.{mul-le-mul_left}
use native.Mathlib.Omega.{arith}
use Rattle.statement.specs.declared.Version.{Version}
use Rattle.statement.specs.Files.{record_width, trailer_width}
use Rattle.statement.specs.Reading.{record_place}
use Rattle.statement.specs.Parts.{Inside}

module _ (version : Version) (long first count : ℕ) (inside : Inside version long first count) where
  -- where the walk stands
  pub record_inside : (i at : ℕ) → at ≡ record_place (record_width version) first i → i < count → at + record_width version + trailer_width ≤ long
  record_inside i at e h = omega (arith, mul-le-mul_left (record_width version) h, inside.ends)

-- and where it begins and goes on
pub walk_start : (width first : ℕ) → first ≡ record_place width first 0
walk_start width first = omega arith

pub walk_on : (width first i at : ℕ) → at ≡ record_place width first i → at + width ≡ record_place width first (i + 1)
walk_on width first i at e = omega arith
