-- A line stops at its end, or one place before. Assumes nothing.
use mathlib.Core.Bool.{Bool, true, false, cond}
use mathlib.Core.List.{List}
use Prim.Native.Nat.{ℕ, ◌-◌, ◌≤◌, ◌<◌}
use native.Mathlib.Decide.{dec_lt}
use native.Mathlib.Omega.{arith}
use borrow.Author.Tests.{lt-ltb, le-ltb}
use lib.Dec.{eqb}
use lib.ListN.{get_or}
use Rattle.intake.specs.Cuts.{stop_of}

module _ (text : List ℕ) (from end : ℕ) where
  back : (t : Bool) → from < end → (from ≤ cond t (end - 1) end) × (cond t (end - 1) end ≤ end)
  back true l = omega arith
  back false l = omega arith

  pub stop_within : from ≤ end → (from ≤ stop_of text from end) × (stop_of text from end ≤ end)
  unfolding stop_of
  stop_within h = at (dec_lt from end)
    where
      at : Dec (from < end) → (from ≤ stop_of text from end) × (stop_of text from end ≤ end)
      at (yes l) = rw (lt-ltb from end l) (back (eqb (get_or text (end - 1) 0) 13) l)
      at (no l) = rw (le-ltb from end (omega arith)) (omega arith)
