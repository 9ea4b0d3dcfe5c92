-- Document 01, "The share book", and document 02, Ask 9: a given book, its limits, and the rows of the table of refusals that it can hold, by
-- number. Every call on a book has them, in the table's order among its own. Cited by the promises of every call on a book. Assumes nothing.
use Rattle.std.specs.Prelude.{Bool, List, [], ◌∷◌, ◌++◌, ℕ, ltb, ℤ, pos, drop, replicate}
use Rattle.refusal.specs.Rows.{Row, row}
use Rattle.refusal.specs.declared.Refusal.TheVariants.{Magnitude, Unknown, Weights, Negative, Room}
use Rattle.whole.specs.Sums.{sum_of}
use Rattle.whole.specs.Whole.{negative, magnitude_of}
use Rattle.amount.specs.Amounts.{over_l}
use Rattle.currency.specs.Table.{unknown}
use Rattle.book.specs.declared.Book.{Book}
use Rattle.book.specs.Settled.{above, any_negative, any_over, past_count, sum_over}
-- "a count of 1 to 16, sixteen weights (those past the count are 0) with sum W from 1 to 10,000"
pub use Rattle.running.specs.Limits.{partners, weight_sum, zeros}

-- "a card number from 1 (at the opening) to 1,000 and sixteen settled totals, at first 0"
abbrev pub cards : ℕ
cards = 1000

abbrev pub unsettled : List ℤ
unsettled = replicate partners (pos 0)

-- the net total N as a number: it isn't negative where a call is accepted
abbrev pub net_of : Book → ℕ
net_of b = magnitude_of b.net

-- the settled totals added: none is negative where a call is accepted
abbrev pub settled_sum : Book → ℕ
settled_sum b = above b.settled

-- the same book at another net total
abbrev pub book_at : Book → ℤ → Book
book_at b net = record { currency = b.currency; count = b.count; weights = b.weights; net = net; card = b.card; settled = b.settled }

-- row 9 at a count and weights
unfoldable pub weight_rows : ℕ → List ℕ → List Row
weight_rows count ws =
    row Weights (ltb count 1)
    ∷ row Weights (ltb partners count)
    ∷ row Weights (ltb 0 (sum_of (drop count ws)))
    ∷ row Weights (ltb (sum_of ws) 1)
    ∷ row Weights (ltb weight_sum (sum_of ws))
    ∷ []

-- row 9 at a card number and at what is past the count
abbrev pub card_rows : ℕ → Bool → List Row
card_rows card past = row Weights (ltb card 1) ∷ row Weights (ltb cards card) ∷ row Weights past ∷ []

-- the rows of a given book: 3, "a given book's net total has a magnitude over L"; "also ... if a settled total is ... over L (3), or if settled
-- totals and N sum to more than L (3)"
abbrev pub rows3 : Book → List Row
rows3 b = row Magnitude (over_l (net_of b)) ∷ row Magnitude (any_over b.settled) ∷ row Magnitude (sum_over (b.net ∷ b.settled)) ∷ []

-- 4, "a currency number is over 20"
abbrev pub rows4 : Book → List Row
rows4 b = row Unknown (unknown b.currency) ∷ []

-- 9, "weights break their rule, in number, in sum or (a book's) past the count, ... in a given book"; "and so is a given
-- book whose card number is outside 1 to 1,000 or that has a settled total past its count"
abbrev pub rows9 : Book → List Row
rows9 b = weight_rows b.count b.weights ++ card_rows b.card (past_count b.count b.settled)

-- 10, "a given book's net total is" negative; "if a settled total is negative (10)"
abbrev pub rows10 : Book → List Row
rows10 b = row Negative (negative b.net) ∷ row Negative (any_negative b.settled) ∷ []

-- the rows of a call on a book in the table's order: among the book's own, those of what else the call takes, by number
unfoldable pub with_book : Book → (two three four five nine ten : List Row) → List Row
with_book b two three four five nine ten =
    two ++ (three ++ (rows3 b ++ (four ++ (rows4 b ++ (five ++ (rows9 b ++ (nine ++ (ten ++ rows10 b))))))))

-- a book alone
abbrev pub book_rows : Book → List Row
book_rows b = with_book b [] [] [] [] [] []

-- a book with lists: 9 where they break a rule, and last 11 where a lent one is short
unfoldable pub listed_rows : Book → (broken short : Bool) → List Row
listed_rows b broken short = with_book b [] [] [] [] (row Weights broken ∷ []) [] ++ (row Room short ∷ [])
