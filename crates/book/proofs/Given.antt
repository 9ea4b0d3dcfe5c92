-- A given book: what a check of its rows tells, and what is left of a call on a book of which no row holds: its own amount's size and sign,
-- and the call's last row, at any net total that is within L with the settled totals. Assumes nothing.
use Rattle.std.specs.Prelude.{Ok}
use mathlib.Core.Path.{◌≡◌, refl, sym, ap, ◌∙◌}
use mathlib.Core.Bool.{Bool, true, false}
use mathlib.Core.List.{List, [], ◌∷◌, ◌++◌}
use Prim.Native.Nat.{ℕ, ◌+◌, ◌≤◌}
use native.Mathlib.Omega.{arith}
use borrow.Author.Tests.{ltb-false, le-ltb, eq-eqb}
use lib.IntN.{ℤ, pos}
use Rattle.refusal.specs.Rows.{Said, Row, row, first_row, check_of}
use Rattle.refusal.specs.declared.Refusal.TheVariants.{Magnitude, Weights, Negative, Room}
use Rattle.refusal.proofs.Check.{clear}
use Rattle.whole.specs.Sums.{sum_of}
use Rattle.whole.specs.Whole.{negative, magnitude_of}
use Rattle.amount.specs.Amounts.{largest, last_scale, over_l}
use Rattle.currency.specs.Table.{last_currency, unknown, line_of}
use Rattle.currency.specs.Digits.{not_own_digits}
use Rattle.currency.proofs.Tables.{in_table}
use Rattle.book.specs.declared.Book.{Book}
use Rattle.book.specs.Settled.{any_negative, any_over}
use Rattle.book.specs.Books.{weight_sum, cards, net_of, settled_sum, book_at, weight_rows, rows3, rows4, rows9, rows10, with_book, book_rows, listed_rows}
use Rattle.book.specs.Moves.{amount_of, move_rows}
use Rattle.book.proofs.SettledTotals.{limit_by, not_full, not_negative}

-- rows behind rows: what decides behind decides
pub same_check : (front rows others : List Row) → check_of rows ≡ check_of others → check_of (front ++ rows) ≡ check_of (front ++ others)
same_check [] rows others e = e
same_check (row r true ∷ front) rows others e = refl
same_check (row r false ∷ front) rows others e = same_check front rows others e

same_first : {A : Type 0} (value : Said A) (front rows others : List Row) → first_row rows value ≡ first_row others value
    → first_row (front ++ rows) value ≡ first_row (front ++ others) value
same_first value [] rows others e = e
same_first value (row r true ∷ front) rows others e = refl
same_first value (row r false ∷ front) rows others e = same_first value front rows others e

module _ (b : Book) where
  -- lists that break no rule and are long enough leave the book's own rows
  pub book_alone : check_of (listed_rows b false false) ≡ check_of (book_rows b)
  unfolding listed_rows with_book weight_rows
  book_alone =
      same_check (rows3 b ++ (rows4 b ++ rows9 b)) (row Weights false ∷ (rows10 b ++ (row Room false ∷ []))) (rows10 b)
      (same_check (rows10 b) (row Room false ∷ []) [] refl)

  -- a book that passes with lists passes alone, and so do they
  pub listed_passed : (broken short : Bool) → check_of (listed_rows b broken short) ≡ Ok tt
      → (check_of (book_rows b) ≡ Ok tt) × (broken ≡ false) × (short ≡ false)
  unfolding listed_rows with_book weight_rows
  listed_passed broken short e =
      let rows = (clear (listed_rows b broken short) e).1.1.1.1.1.1.1.1.1.1.1.1 in
      (sym book_alone ∙ (rw (rows.0, rows.1.1.1.0) at e), rows.0, rows.1.1.1.0)

  -- its net total, its weights, its card and its settled totals are in their limits
  module _ (sound : check_of (book_rows b) ≡ Ok tt) where
    pub book_fit : (net_of b ≤ largest) × (1 ≤ sum_of b.weights) × (sum_of b.weights ≤ weight_sum)
    unfolding with_book weight_rows
    book_fit =
        let rows = clear (book_rows b) sound in (
          ltb-false largest (net_of b) rows.0,
          ltb-false (sum_of b.weights) 1 rows.1.1.1.1.1.1.1.0,
          ltb-false weight_sum (sum_of b.weights) rows.1.1.1.1.1.1.1.1.0,
        )

    pub book_card : (1 ≤ b.card) × (b.card ≤ cards)
    unfolding with_book weight_rows
    book_card =
        let rows = (clear (book_rows b) sound).1.1.1.1.1.1.1.1.1 in (ltb-false b.card 1 rows.0, ltb-false cards b.card rows.1.0)

    pub book_settled : (any_over b.settled ≡ false) × (any_negative b.settled ≡ false) × (settled_sum b + net_of b ≤ largest)
    unfolding with_book weight_rows
    book_settled =
        let rows = clear (book_rows b) sound in
        let signs = rows.1.1.1.1.1.1.1.1.1.1.1.1 in
        (rows.1.0, signs.1.0, limit_by b.net b.settled rows.1.1.0 signs.0 signs.1.0)

    pub book_net : b ≡ book_at b (pos (net_of b))
    unfolding with_book weight_rows
    book_net = ap (book_at b) (not_negative b.net (clear (book_rows b) sound).1.1.1.1.1.1.1.1.1.1.1.1.0)

    -- at its own digits an amount in its currency holds no row 2
    own_digits : (not_own_digits b.currency (line_of b.currency).digits ≡ false) × ((line_of b.currency).digits ≤ 2)
    unfolding with_book weight_rows not_own_digits
    own_digits =
        let known : unknown b.currency ≡ false = (clear (book_rows b) sound).1.1.1.0 in
        (rw (known, eq-eqb (line_of b.currency).digits (line_of b.currency).digits refl), (in_table b.currency (ltb-false last_currency b.currency.0 known)).few_digits)

    pub left_of_call : {A : Type 0} (value : Said A) (last : Row) (n : ℕ) (z : ℤ) → settled_sum b + n ≤ largest
        → first_row (move_rows (book_at b (pos n)) (amount_of (book_at b (pos n)) z) ++ (last ∷ [])) value
        ≡ first_row (row Magnitude (over_l (magnitude_of z)) ∷ row Negative (negative z) ∷ last ∷ []) value
    unfolding move_rows with_book weight_rows amount_of
    left_of_call value last n z limit =
        let rows = clear (book_rows b) sound in
        let w = rows.1.1.1.1 in
        let card = w.1.1.1.1.1 in
        let within : n ≤ largest = omega (arith, limit) in
        let digits : (line_of b.currency).digits ≤ last_scale = omega (arith, own_digits.1) in
        simp (le-ltb last_scale (line_of b.currency).digits digits, own_digits.0, le-ltb largest n within, rows.1.0, not_full n b.settled limit, rows.1.1.1.0, eq-eqb b.currency.0 b.currency.0 refl, w.0, w.1.0, w.1.1.0, w.1.1.1.0, w.1.1.1.1.0, card.0, card.1.0, card.1.1.0, card.1.1.1.1.0)
        (same_first value (row Magnitude (over_l (magnitude_of z)) ∷ []) _ (row Negative (negative z) ∷ last ∷ [])
        (same_first value (row Negative (negative z) ∷ []) (row Negative false ∷ row Negative false ∷ last ∷ []) (last ∷ []) refl))
