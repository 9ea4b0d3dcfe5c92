-- The taker of a unit as document 01 words it, with no order of looking: a rule's answer meets the wording, or does not.
-- That the wording leaves one answer, and that `taker_of` gives it, is in proofs/Taker.antt. Assumes nothing.
use Rattle.std.specs.Prelude.{◌≡◌, true, List, ℕ, ◌≤◌, ◌<◌, length}
use Rattle.units.specs.Rule.{may_at, due_at}

-- "Of those who may, the smallest due number takes it; ties go to the lower place": place p takes unit number t
pub record Takes (ws held : List ℕ) (t p : ℕ) : Type 0 where
  pub partner : p < length ws
  pub may : may_at ws held t p ≡ true
  pub smallest : (q : ℕ) → q < length ws → may_at ws held t q ≡ true → due_at ws held p ≤ due_at ws held q
  pub lower : (q : ℕ) → q < length ws → may_at ws held t q ≡ true → due_at ws held q ≡ due_at ws held p → p ≤ q
