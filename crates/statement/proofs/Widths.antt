-- What is used of the two versions: their widths, their numbers, and that a code has bytes enough. Assumes nothing.
use mathlib.Core.Path.{◌≡◌, refl}
use Prim.Native.Nat.{ℕ, zero, suc, ◌+◌, ◌≤◌, ◌<◌, ◌^◌}
use native.Mathlib.Nat.{pow-suc}
use native.Mathlib.Omega.{arith}
use mathlib.Core.List.{List}
use Rattle.statement.specs.Files.{version_of, record_width, code_bytes, code_zeros, last_reason}
use Rattle.statement.specs.Bytes.{number_at}
use Rattle.statement.proofs.ReadBack.{Bytes, number_below}
use Rattle.statement.specs.declared.Version.TheVariants.{Plain, Reasons}
use Rattle.statement.specs.declared.Version.{Version}

pub wide : (version : Version) → 16 ≤ record_width version
wide Plain = omega arith
wide Reasons = omega arith

pub narrow : (version : Version) → record_width version ≤ 24
narrow Plain = omega arith
narrow Reasons = omega arith

pub parts : (version : Version) → record_width version ≡ 16 + (code_bytes version + code_zeros version)
parts Plain = refl
parts Reasons = refl

pub version_below : (version : Version) → version_of version < 256 ^ 2
version_below Plain = omega arith
version_below Reasons = omega arith

pub code_below : (version : Version) (code : ℕ) → code ≤ last_reason version → code < 256 ^ code_bytes version
code_below Plain code h = omega arith
code_below Reasons code h = omega arith

pub code_most : (version : Version) (code : ℕ) → code ≤ last_reason version → code ≤ 99
code_most Plain code h = omega arith
code_most Reasons code h = omega arith

pub nought_fits : (count : ℕ) → 0 < 256 ^ count
nought_fits zero = omega arith
nought_fits (suc count) = omega (arith, nought_fits count, pow-suc 256 count)

-- a code as read fits its field
pub code_read : (version : Version) (bytes : List ℕ) → Bytes bytes → (at : ℕ) → number_at bytes at (code_bytes version) < 65536
code_read Plain bytes b at = omega (arith, number_below bytes b at 0)
code_read Reasons bytes b at = omega (arith, number_below bytes b at 2)
