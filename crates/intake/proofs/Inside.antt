-- Whatever the bytes that are held begin with, its places lie among them, and a line has at most the bytes that a line may have. Bytes
-- that wait for their line's end are never more than that and a carriage return. Assumes nothing.
use mathlib.Core.Path.{◌≡◌}
use mathlib.Core.Bool.{Bool, true, false, ◌||◌}
use mathlib.Core.List.{List}
use Prim.Native.Nat.{ℕ, ◌+◌, ◌-◌, ◌≤◌, ◌<◌}
use native.Mathlib.Nat.{min-le_right}
use native.Mathlib.Omega.{arith}
use borrow.Author.Tests.{ltb-true, ltb-false}
use lib.Dec.{ltb}
use lib.ListN.{length}
use Rattle.lines.specs.Lines.{line_end}
use Rattle.lines.proofs.FirstWord.{line_from}
use Rattle.intake.specs.Cuts.{longest, stop_of, line_of, last_of, unended_of, cut_from, standing_of, cut_of}
use Rattle.intake.specs.Bounds.{Within}
use Rattle.intake.specs.declared.Intake.{Intake}
use Rattle.intake.specs.declared.Cut.{Cut}
use Rattle.intake.proofs.Choices.{not_second, either}
use Rattle.intake.proofs.Stops.{stop_within}

-- what is a line, too long or nothing is never a line whose end is yet to come
other_found : {P : Type 0} → ◌≡◌ {A = ℕ} 0 1 → P
other_found z = absurd (omega arith)

module _ (text : List ℕ) (at : Intake) where
  line_inside
      : (end next : ℕ) (unended : Bool) → at.from ≤ end → end ≤ length text → next ≤ length text
      → Within (length text) (line_of text at end next unended)
  unfolding line_of
  line_inside end next unended f h n =
      either (Within (length text)) (at.skipping || ltb longest (stop_of text at.from end - at.from))
      (λ e. record { in_order = f; short = λ w. other_found (cc); inside = h; next_inside = n; waiting = λ w. other_found (cc) })
      (λ e.
      let s = stop_within text at.from end f in
      let l : stop_of text at.from end - at.from ≤ longest = ltb-false _ _ (not_second at.skipping _ e) in
      record { in_order = s.0; short = λ w. omega arith; inside = omega arith; next_inside = n; waiting = λ w. other_found (cc) })

  last_inside : at.from ≤ length text → Within (length text) (last_of text at)
  unfolding last_of
  last_inside h =
      either (Within (length text)) (at.skipping || ltb at.from (length text))
      (λ e. line_inside (length text) (length text) true h (omega arith) (omega arith))
      (λ e.
      record { in_order = omega arith; short = λ w. other_found (cc); inside = omega arith; next_inside = h; waiting = λ w. other_found (cc) })

  unended_inside : at.from ≤ length text → Within (length text) (unended_of at (length text))
  unfolding unended_of
  unended_inside h =
      let next : Intake = (unended_of at (length text)).next in
      let waits : (next.from ≤ length text) × (length text ≤ next.from + (longest + 1)) =
      either (λ (s : Intake). (s.from ≤ length text) × (length text ≤ s.from + (longest + 1)))
      (at.skipping || ltb (longest + 1) (length text - at.from))
      (λ e. (omega arith, omega arith))
      (λ e. let l : length text - at.from ≤ longest + 1 = ltb-false _ _ (not_second at.skipping _ e) in (h, omega arith)) in
      record { in_order = h; short = λ w. other_found (cc); inside = omega arith; next_inside = waits.0; waiting = λ w. waits.1 }

  from_inside : at.from ≤ length text → Within (length text) (cut_from text at)
  unfolding cut_from
  from_inside h =
      either (Within (length text)) (ltb (line_end text at.from) (length text))
      (λ e.
      let l : line_end text at.from < length text = ltb-true _ _ e in
      line_inside (line_end text at.from) (line_end text at.from + 1) false (line_from text at.from) (omega arith) (omega arith))
      (λ e. either (Within (length text)) at.ended (λ f. last_inside h) (λ f. unended_inside h))

  pub standing_inside : (standing_of text at).from ≤ length text
  unfolding standing_of
  standing_inside = min-le_right at.from (length text)

pub cut_inside : (text : List ℕ) (at : Intake) → Within (length text) (cut_of text at)
unfolding cut_of
cut_inside text at = from_inside text (standing_of text at) (standing_inside text at)

-- however the number of the bytes is written
pub same_held : {n m : ℕ} {cut : Cut} → Within n cut → n ≡ m → Within m cut
same_held w e = rw e at w
