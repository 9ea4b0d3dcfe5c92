-- What is known of a line's first word after one byte more. Assumes nothing.
use mathlib.Core.Path.{◌≡◌, refl}
use mathlib.Core.List.{List, [], ◌∷◌, ◌++◌}
use Prim.Native.Nat.{ℕ}
use Rattle.intake.specs.Leads.{lead_after, lead_of}
use Rattle.intake.specs.declared.Lead.{Lead}

pub one_more : (lead : Lead) (bs : List ℕ) (b : ℕ) → lead_of lead (bs ++ (b ∷ [])) ≡ lead_after (lead_of lead bs) b
unfolding lead_of
one_more lead [] b = refl
one_more lead (a ∷ bs) b = one_more (lead_after lead a) bs b
