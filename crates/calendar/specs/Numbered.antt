-- The numbers of the bases, and what a number says: document 01, "Basis 0", "Basis 1", and document 02, Ask 2, "Basis 2 takes the American rule,
-- document 01's European one becomes basis 3"; "refusal 6 is for a basis over 3". Cited by `Basis`. Assumes nothing.
use Rattle.std.specs.Prelude.{ℕ, cond, get_or, List, [], ◌∷◌, Result, Ok, Err}
use Rattle.refusal.specs.declared.Refusal.{Refusal}
use Rattle.refusal.specs.declared.Refusal.TheVariants.{Rate}
use Rattle.calendar.specs.declared.Basis.{Basis}
use Rattle.calendar.specs.declared.Basis.TheVariants.{Actual360, Actual365, American, European}
use Rattle.calendar.specs.DaysSaid.{unknown_basis}

abbrev pub number_of : Basis → ℕ
number_of Actual360 = 0
number_of Actual365 = 1
number_of American = 2
number_of European = 3

abbrev pub in_order : List Basis
in_order = Actual360 ∷ Actual365 ∷ American ∷ European ∷ []

-- the basis with a number, or row 6
unfoldable pub numbered : ℕ → Result Basis Refusal
numbered n = cond (unknown_basis n) (Err Rate) (Ok (get_or in_order n European))
