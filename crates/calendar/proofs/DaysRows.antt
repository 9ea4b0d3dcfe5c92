-- The rows of a day count: where none holds the basis is known, the dates exist in order and the count is 366 at most; and where the
-- dates are in order the count alone decides. Assumes nothing.
use Rattle.std.specs.Prelude.{Ok}
use mathlib.Core.Path.{◌≡◌}
use mathlib.Core.List.{[], ◌∷◌}
use Prim.Native.Nat.{ℕ, ◌≤◌, ◌<◌}
use lib.Dec.{ltb}
use lib.ListN.{length}
use borrow.Author.Tests.{leb-false, ltb-false, lt-leb, le-ltb, not-false}
use Rattle.refusal.specs.declared.Refusal.TheVariants.{Days as BadDays}
use Rattle.refusal.specs.Rows.{gives, row, first_row, check_of}
use Rattle.refusal.proofs.Check.{clear}
use Rattle.calendar.specs.declared.Date.{Date}
use Rattle.calendar.specs.DayCount.{day_of, bases, basis_of}
use Rattle.calendar.specs.DaysSaid.{InOrder, date_exists, days_rows, days_said}

pub record Counted (basis : ℕ) (start end : Date) : Type 0 where
  pub known : basis < length bases
  pub dates : InOrder start end
  pub count : (basis_of basis).count start end ≤ 366

pub counted : (basis : ℕ) (start end : Date) → check_of (days_rows basis start end) ≡ Ok tt → Counted basis start end
unfolding days_rows
counted basis start end e =
    let rows = clear (days_rows basis start end) e in
    record {
      known = leb-false (length bases) basis rows.0;
      dates =
          record {
            first = not-false (date_exists start) rows.1.0;
            second = not-false (date_exists end) rows.1.1.0;
            order = ltb-false (day_of end) (day_of start) rows.1.1.1.0;
          };
      count = ltb-false 366 ((basis_of basis).count start end) rows.1.1.1.1.0;
    }

pub by_count : (basis : ℕ) (start end : Date) → basis < length bases → InOrder start end
    → let n = (basis_of basis).count start end in days_said basis start end ≡ first_row (row BadDays (ltb 366 n) ∷ []) (gives n)
unfolding days_rows days_said
by_count basis start end known dates =
    simp (lt-leb (length bases) basis known, dates.first, dates.second, le-ltb (day_of end) (day_of start) dates.order)
