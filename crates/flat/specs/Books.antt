-- What C is answered by the book's calls: the number, the date blamed (none: 0), and what the base hands back. A refused posting, refund or run
-- hands the given book back as C gave it. Cited by the promises on the book. Assumes nothing.
use Rattle.std.specs.Prelude.{Bool, List, ℕ, ℤ, pos, Result, Ok, Err, ⊤}
use Rattle.refusal.specs.Number.{number_in, blamed_in}
use Rattle.refusal.specs.Rows.{Said, gives, refuses}
use Rattle.book.specs.declared.Book.{Book}
use Rattle.book.specs.declared.Moved.{Moved}
use Rattle.book.specs.Books.{zeros}
use Rattle.book.specs.Moves.{next_book, opened_book, totals_of}
use Rattle.book.specs.Cards.{card_book}
use Rattle.bulk.specs.declared.Ran.{Ran}
use Rattle.bulk.specs.Runs.{book_after, served_of}
use Rattle.flat.specs.declared.MkbBook.{MkbBook}
use Rattle.flat.specs.declared.MkbOpened.{MkbOpened}
use Rattle.flat.specs.declared.MkbMoved.{MkbMoved}
use Rattle.flat.specs.declared.MkbTotals.{MkbTotals}
use Rattle.flat.specs.declared.MkbRan.{MkbRan}
use Rattle.flat.specs.Given.{book_from}
use Rattle.refusal.specs.declared.Refusal.{Refusal}
use Rattle.flat.specs.Answers.{refusal_of, blamed_of}

-- a book, field for field
abbrev pub book_of : Book → MkbBook
book_of b = record { currency = pos b.currency.0; count = pos b.count; weights = b.weights; net = b.net; card = pos b.card; settled = b.settled }

-- "returns the book it was given, field for field" where a call on it is refused; else the next book
abbrev pub book_behind : {A : Type 0} → Said A → MkbBook → Book → MkbBook
book_behind (gives value) given next = book_of next
book_behind (refuses number blamed) given next = given

-- an opening
abbrev pub opened_of : Said Book → MkbOpened
opened_of said = record { refusal = refusal_of said; blamed = blamed_of said; book = book_of (opened_book said) }

-- a posting or a refund of a book, by its payouts at what it says
abbrev pub moved_of : (Book → Said ℕ → List ℕ) → MkbBook → Said ℕ → MkbMoved
moved_of payouts given said =
    record {
      refusal = refusal_of said;
      blamed = blamed_of said;
      book = book_behind said given (next_book (book_from given) said);
      payouts = payouts (book_from given) said;
    }

-- a new card, which pays zeros
abbrev pub carded_of : MkbBook → Said Book → MkbMoved
carded_of given said =
    record {
      refusal = refusal_of said;
      blamed = blamed_of said;
      book = book_behind said given (card_book (book_from given) said);
      payouts = zeros;
    }

-- the running totals
abbrev pub running_of : Said (List ℕ) → MkbTotals
running_of said = record { refusal = refusal_of said; blamed = blamed_of said; totals = totals_of said }

-- a run of movements on a book, by what it says of the lists
abbrev pub ran_of : MkbBook → (refunds : List Bool) (coefficients : List ℤ) → Said ℕ → MkbRan
ran_of given refunds coefficients said =
    record {
      refusal = refusal_of said;
      blamed = blamed_of said;
      book = book_behind said given (book_after (book_from given) refunds coefficients (served_of said));
      served = served_of said;
    }

-- the same of the outcome that the base answers with, and of the structs that hold one
abbrev pub handed_back : Result ⊤ Refusal → MkbBook → Book → MkbBook
handed_back (Ok tt) given next = book_of next
handed_back (Err r) given next = given

abbrev pub moved_flat : MkbBook → Moved → MkbMoved
moved_flat given m =
    record {
      refusal = number_in m.outcome;
      blamed = blamed_in m.outcome;
      book = handed_back m.outcome given m.book;
      payouts = m.payouts;
    }

abbrev pub ran_flat : MkbBook → Ran → MkbRan
ran_flat given r =
    record {
      refusal = number_in r.outcome;
      blamed = blamed_in r.outcome;
      book = handed_back r.outcome given r.book;
      served = r.served;
    }
