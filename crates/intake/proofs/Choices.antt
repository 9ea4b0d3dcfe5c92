-- By the two outcomes of a test. Assumes nothing.
use mathlib.Core.Path.{◌≡◌, refl}
use mathlib.Core.Bool.{Bool, true, false, cond, ◌||◌}

pub not_second : (s t : Bool) → (s || t) ≡ false → t ≡ false
not_second true t e = cc
not_second false t e = e

pub either : {A : Type 0} (P : A → Type 0) (t : Bool) {a b : A} → (t ≡ true → P a) → (t ≡ false → P b) → P (cond t a b)
either P true f g = f refl
either P false f g = g refl
