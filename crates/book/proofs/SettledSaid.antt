-- What a book's rows say of its settled totals, by the sums that the program has; and where the rows of a call stand among these. Assumes nothing.
use mathlib.Core.Path.{◌≡◌, refl, sym, ap, ap₂, ◌∙◌}
use mathlib.Core.Bool.{Bool, false}
use mathlib.Core.List.{List, ◌∷◌, ◌++◌}
use Prim.Native.Nat.{ℕ, ◌+◌, ◌≤◌, ◌<◌}
use borrow.Author.Tests.{lt-ltb, le-ltb}
use lib.Dec.{ltb}
use lib.IntN.{ℤ}
use lib.ListN.{drop}
use Rattle.refusal.specs.Rows.{gives, refuses, row}
use Rattle.refusal.specs.declared.Refusal.TheVariants.{Magnitude}
use Rattle.amount.specs.declared.Amount.{Amount}
use Rattle.amount.specs.Amounts.{largest, over_l}
use Rattle.book.specs.declared.Book.{Book}
use Rattle.book.specs.Settled.{up_of, down_of, above, below, any_over, sum_over}
use Rattle.book.specs.Books.{net_of, weight_rows, with_book, listed_rows}
use Rattle.book.specs.Moves.{units_of, move_rows}
use Rattle.book.specs.Checks.{settled_rows, past_of, settled_said, size_rows, behind_rows, rest_rows}
use Rattle.book.proofs.SettledTotals.{negative_by_sum, nought_by_sum}

module _ (zs : List ℤ) (count : ℕ) (net : ℤ) where
  module _ (all less up down : ℕ) (none : any_over zs ≡ false) (a : all ≡ above zs) (b : less ≡ below zs) (e : up ≡ up_of net) (f : down ≡ down_of net) where
    sums : ltb (largest + (down + less)) (up + all) ≡ sum_over (net ∷ zs)
    unfolding above below
    sums = ap₂ ltb (ap₂ (λ (x y : ℕ). largest + (x + y)) f b) (ap₂ ◌+◌ e a)

    pub said_full : largest + (down + less) < up + all → refuses 3 0 ≡ settled_said count net zs
    said_full full = rw (none, sym sums ∙ lt-ltb (largest + (down + less)) (up + all) full)

    pub said_past : (more fewer : ℕ) → more ≡ above (drop count zs) → fewer ≡ below (drop count zs) → up + all ≤ largest + (down + less)
        → gives (record { behind = ltb 0 (more + fewer); negative = ltb 0 less; sum = all }) ≡ settled_said count net zs
    said_past more fewer c d within =
        let known : record { behind = ltb 0 (more + fewer); negative = ltb 0 less; sum = all } ≡ past_of count zs =
        λ i. record {
          behind = (ap (ltb 0) (ap₂ ◌+◌ c d) ∙ nought_by_sum (drop count zs)) i;
          negative = (ap (ltb 0) b ∙ negative_by_sum zs) i;
          sum = a i;
        } in
        rw (none, sym sums ∙ le-ltb (largest + (down + less)) (up + all) within) (ap gives known)

-- the rows of a posting or a refund, and of a book with lists, by the parts that the program asks
pub move_parts : (b : Book) (a : Amount)
    → size_rows a.scale (units_of a) a.currency (net_of b) ++ (settled_rows b.net b.settled ++ behind_rows b (past_of b.count b.settled) a) ≡ move_rows b a
unfolding move_rows with_book weight_rows
move_parts b a = refl

pub listed_parts : (b : Book) (broken short : Bool)
    → row Magnitude (over_l (net_of b)) ∷ (settled_rows b.net b.settled ++ rest_rows b (past_of b.count b.settled) broken short) ≡ listed_rows b broken short
unfolding listed_rows with_book weight_rows
listed_parts b broken short = refl
