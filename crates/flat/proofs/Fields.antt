-- A field's number, made a number of its own and handed on, is the field's number. Assumes nothing.
use mathlib.Core.Path.{◌≡◌, ◌∙◌}
use lib.IntN.{ℤ}
use mir.Syntax.{w32, w64}
use mir.Val.{SFits, to_z, of_z}
use mir.ValLaws.{to_z-of_z}

pub field : (n : ℤ) → SFits w32 n → (m : ℤ) → m ≡ to_z w32 (of_z w32 n) → SFits w64 m → to_z w64 (of_z w64 m) ≡ n
field n h m e g = to_z-of_z w64 m g ∙ (e ∙ to_z-of_z w32 n h)
