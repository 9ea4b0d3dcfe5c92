-- What is left of a call where no row of the book itself holds: the rows of its coefficient alone, by its sign and magnitude m, at net
-- total n, on a book whose settled totals sum to `settled`. That a call says so is in proofs/Standing.antt. Cited by src/tabled.rt. Assumes nothing.
use Rattle.std.specs.Prelude.{◌≡◌, Bool, cond, List, [], ◌∷◌, ℕ, ◌+◌, ◌-◌, ◌*◌, ltb, ℤ, set, Ok}
use Rattle.refusal.specs.Rows.{Said, gives, refuses, Row, row, first_row, check_of}
use Rattle.refusal.specs.declared.Refusal.TheVariants.{Magnitude, Negative, Refund, Limit}
use Rattle.whole.specs.Whole.{negative, magnitude_of}
use Rattle.amount.specs.Amounts.{over_l}
use Rattle.units.specs.Rule.{totals}
use Rattle.book.specs.declared.Book.{Book}
use Rattle.book.specs.Books.{partners, zeros, book_rows}
use Rattle.book.specs.Moves.{less_of}
use Rattle.bulk.specs.Runs.{number_said, written}

-- no row of the book itself holds
abbrev pub Sound : Book → Type 0
Sound b = check_of (book_rows b) ≡ Ok tt

-- rows 3 and 10 at the coefficient, and the last row of a posting or of a refund
abbrev pub left_rows : Bool → ℕ → Row → List Row
left_rows negative m last = row Magnitude (over_l m) ∷ row Negative negative ∷ last ∷ []

-- the new net total, or the refusal
unfoldable pub left_said : (settled : ℕ) (refund : Bool) → Bool → (m n : ℕ) → Said ℕ
left_said settled refund negative m n =
    cond refund
    (first_row (left_rows negative m (row Refund (ltb n m))) (gives (n - m)))
    (first_row (left_rows negative m (row Limit (over_l (settled + (n + m))))) (gives (n + m)))

-- the net total after a call at n
unfoldable pub left_net : ℕ → Said ℕ → ℕ
left_net n (gives m) = m
left_net n (refuses number blamed) = n

-- the payouts of a call at n
unfoldable pub left_pays : (refund : Bool) → List ℕ → ℕ → Said ℕ → List ℕ
left_pays refund ws n (gives m) = cond refund (less_of (totals ws n) (totals ws m)) (less_of (totals ws m) (totals ws n))
left_pays refund ws n (refuses number blamed) = zeros

-- call j at net total n is served: the next net total with its running totals, the call's payouts and its number written
pub record Stepped (settled : ℕ) (ws : List ℕ) (refund : Bool) (c : ℤ) (j n : ℕ) (payouts numbers : List ℕ) (next : ℕ) (ts payouts' numbers' : List ℕ) : Type 0 where
  pub net : next ≡ left_net n (left_said settled refund (negative c) (magnitude_of c) n)
  pub held : ts ≡ totals ws next
  pub paid : payouts' ≡ written payouts (j * partners) (left_pays refund ws n (left_said settled refund (negative c) (magnitude_of c) n)) partners
  pub said : numbers' ≡ set numbers j (number_said (left_said settled refund (negative c) (magnitude_of c) n))
