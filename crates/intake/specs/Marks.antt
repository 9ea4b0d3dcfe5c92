-- "The three bytes EF BB BF at the very beginning of the input are no part of its first line." Cited by `mark_of`. Assumes nothing.
use Rattle.std.specs.Prelude.{cond, List, [], ◌∷◌, ℕ, eqb}
use Rattle.intake.specs.declared.Mark.{Mark}
use Rattle.intake.specs.declared.Mark.TheVariants.{Whole, Part, Nothing}

-- whether bytes begin with a list of bytes, or are the beginning of it and no more
unfoldable pub begins_with : List ℕ → List ℕ → Mark
begins_with [] bytes = Whole
begins_with (m ∷ ms) [] = Part
begins_with (m ∷ ms) (b ∷ bs) = cond (eqb b m) (begins_with ms bs) Nothing

abbrev pub mark_of : List ℕ → Mark
mark_of bytes = begins_with (239 ∷ 187 ∷ 191 ∷ []) bytes
