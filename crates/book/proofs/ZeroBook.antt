-- Any call with the book whose every field is 0, which a caller may have in a refused opening's place, is refused with 9 or a lower number: its
-- count is not 1 to 16, which is a row of number 9, and no row in front of that has a greater number. Assumes nothing.
use Rattle.std.specs.Prelude.{Result, Ok, Err}
use mathlib.Core.Path.{◌≡◌, refl}
use mathlib.Core.Bool.{Bool, true, false}
use mathlib.Core.List.{List, [], ◌∷◌, ◌++◌}
use Prim.Native.Nat.{ℕ, ◌≤◌}
use native.Mathlib.Omega.{arith}
use lib.IntN.{pos}
use lib.ListN.{drop}
use Rattle.refusal.specs.Number.{number_of, blamed_of}
use Rattle.refusal.specs.Rows.{Said, refuses, Row, row, number_at, first_row}
use Rattle.refusal.specs.declared.Refusal.{Refusal}
use Rattle.refusal.specs.declared.Refusal.TheVariants.{Weights}
use Rattle.amount.specs.declared.Amount.{Amount}
use Rattle.currency.specs.declared.Currency.{Currency}
use Rattle.book.specs.declared.Book.{Book}
use Rattle.book.specs.Settled.{above, below, some_of}
use Rattle.book.specs.Books.{unsettled, weight_rows, with_book, listed_rows}
use Rattle.book.specs.Checks.{size_rows, settled_rows, currency_rows}
use Rattle.book.specs.Moves.{units_of, move_rows, post_rows, refund_rows, post_said, refund_said, totals_said, zero_book, Opens, open_said}
use Rattle.book.specs.Cards.{card_said}

-- what a call says is a refusal of number m or a lower one
abbrev pub RefusedBy : {A : Type 0} → ℕ → Said A → Type 0
RefusedBy m said = (n : ℕ) × (k : ℕ) × (said ≡ refuses n k) × (n ≤ m)

-- no row has a number above m
abbrev UpTo : ℕ → List Row → Type 0
UpTo m [] = Unit {0}
UpTo m (x ∷ rows) = (number_at x ≤ m) × UpTo m rows

-- a row that holds, behind rows of no greater number
stopped : {A : Type 0} (value : Said A) (front rows : List Row) (r : Refusal) → UpTo (number_of r) front
    → RefusedBy (number_of r) (first_row (front ++ (row r true ∷ rows)) value)
stopped value [] rows r up = (number_of r, blamed_of r, refl, omega arith)
stopped value (row s true ∷ front) rows r up = (number_of s, blamed_of s, refl, up.0)
stopped value (row s false ∷ front) rows r up = stopped value front rows r up.1

-- the rows of an amount and of the book in front of its count
abbrev front : Amount → List Row
front a = size_rows a.scale (units_of a) a.currency 0 ++ (settled_rows (pos 0) unsettled ++ currency_rows a.currency (record { 0 = 0 }))

module _ (a : Amount) where
  pub zero_posting : RefusedBy 9 (post_said zero_book a)
  unfolding post_said move_rows with_book weight_rows zero_book
  zero_posting = stopped _ (front a) (drop 10 (post_rows zero_book a)) Weights (omega arith)

  pub zero_refund : RefusedBy 9 (refund_said zero_book a)
  unfolding refund_said move_rows with_book weight_rows zero_book
  zero_refund = stopped _ (front a) (drop 10 (refund_rows zero_book a)) Weights (omega arith)

pub zero_totals : totals_said zero_book ≡ refuses 9 0
unfolding totals_said with_book weight_rows zero_book above below some_of
zero_totals = refl

-- and so is every call that takes it with lists, a run of calls too
pub zero_listed : {A : Type 0} (value : Said A) (broken short : Bool) → first_row (listed_rows zero_book broken short) value ≡ refuses 9 0
unfolding listed_rows with_book weight_rows zero_book above below some_of
zero_listed value broken short = refl

-- and a new card
pub zero_card : (ws : List ℕ) → card_said zero_book ws ≡ refuses 9 0
unfolding card_said with_book weight_rows zero_book above below some_of
zero_card ws = refl

-- a refused opening hands back no book, but the refusal
pub refused_opening : (c : Currency) (ws : List ℕ) (r : Result Book Refusal) (n k : ℕ) → open_said c ws ≡ refuses n k → Opens c ws r
    → (refusal : Refusal) × (r ≡ Err refusal) × (number_of refusal ≡ n) × (blamed_of refusal ≡ k)
refused_opening c ws (Ok b) n k e p = let z : ◌≡◌ {A = ℕ} 0 1 = cc in absurd (omega arith)
refused_opening c ws (Err r) n k e p = (r, refl, cc, cc)
