-- A version as one number, so that a later one is greater. Cited by `mkb_version`. Assumes nothing.
use Rattle.std.specs.Prelude.{ℕ, ◌+◌, ◌*◌}

abbrev pub version_of : (major minor patch : ℕ) → ℕ
version_of major minor patch = 10000 * major + 100 * minor + patch
