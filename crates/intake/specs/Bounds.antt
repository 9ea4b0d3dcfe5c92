-- The places of a cut lie within the bytes that are held, a line is never too long, and bytes that wait for their line's end are few:
-- a buffer of over 4,001 bytes that keeps them has room for more. Cited by `next_line`. Assumes nothing.
use Rattle.std.specs.Prelude.{◌≡◌, ℕ, ◌+◌, ◌≤◌}
use Rattle.intake.specs.Cuts.{longest}
use Rattle.intake.specs.declared.Cut.{Cut}
use Rattle.intake.specs.declared.Found.TheVariants.{Line, More}

pub record Within (held : ℕ) (cut : Cut) : Type 0 where
  pub in_order : cut.start ≤ cut.end
  pub short : cut.found ≡ Line → cut.end ≤ cut.start + longest
  pub inside : cut.end ≤ held
  pub next_inside : cut.next.from ≤ held
  pub waiting : cut.found ≡ More → held ≤ cut.next.from + (longest + 1)
