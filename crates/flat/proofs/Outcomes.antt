-- An outcome has the number and the blamed date of what it says, so that a struct which holds one is flattened to what its promise says.
-- Assumes nothing.
use Rattle.std.specs.Prelude.{Result, Ok, Err, ⊤}
use mathlib.Core.Path.{◌≡◌, refl, ◌∙◌, ap}
use mathlib.Core.Bool.{Bool}
use mathlib.Core.List.{List}
use Prim.Native.Nat.{ℕ}
use lib.IntN.{ℤ}
use lib.ListN.{length}
use Rattle.refusal.specs.Number.{number_in, blamed_in}
use Rattle.refusal.specs.Rows.{Said, means, means_outcome}
use Rattle.currency.specs.declared.Currency.{Currency}
use Rattle.book.specs.declared.Book.{Book}
use Rattle.book.specs.declared.Moved.{Moved}
use Rattle.book.specs.Moves.{Answers, open_said, opened_book, Opens, totals_of, totals_said, Tallies}
use Rattle.book.specs.Cards.{card_said, Cards}
use Rattle.bulk.specs.declared.Ran.{Ran}
use Rattle.bulk.specs.Runs.{book_after, run_said, Serves}
use Rattle.flat.specs.declared.MkbBook.{MkbBook}
use Rattle.flat.specs.declared.MkbOpened.{MkbOpened}
use Rattle.flat.specs.declared.MkbTotals.{MkbTotals}
use Rattle.flat.specs.Given.{book_from}
use Rattle.flat.specs.Answers.{refusal_of, blamed_of}
use Rattle.refusal.specs.declared.Refusal.{Refusal}
use Rattle.flat.specs.Books.{book_of, book_behind, handed_back, opened_of, moved_of, carded_of, running_of, ran_of, moved_flat, ran_flat}

number_of : {A : Type 0} (o : Result ⊤ Refusal) (value : A) → number_in o ≡ refusal_of (means_outcome o value)
number_of (Ok tt) value = refl
number_of (Err r) value = refl

blamed_of_lem : {A : Type 0} (o : Result ⊤ Refusal) (value : A) → blamed_in o ≡ blamed_of (means_outcome o value)
blamed_of_lem (Ok tt) value = refl
blamed_of_lem (Err r) value = refl

pub said_number : {A : Type 0} (o : Result ⊤ Refusal) (value : A) (said : Said A) → means_outcome o value ≡ said → number_in o ≡ refusal_of said
said_number o value said e = number_of o value ∙ ap refusal_of e

said_blamed : {A : Type 0} (o : Result ⊤ Refusal) (value : A) (said : Said A) → means_outcome o value ≡ said → blamed_in o ≡ blamed_of said
said_blamed o value said e = blamed_of_lem o value ∙ ap blamed_of e

-- the given book or the next one, as the outcome says
handed_of : {A : Type 0} (o : Result ⊤ Refusal) (value : A) (given : MkbBook) (next : Book) → handed_back o given next ≡ book_behind (means_outcome o value) given next
handed_of (Ok tt) value given next = refl
handed_of (Err r) value given next = refl

said_book : {A : Type 0} (o : Result ⊤ Refusal) (value : A) (said : Said A) → means_outcome o value ≡ said
    → (given : MkbBook) (next next' : Book) → next ≡ next' → handed_back o given next ≡ book_behind said given next'
said_book o value said e given next next' n = handed_of o value given next ∙ (λ i. book_behind (e i) given (n i))

-- an answer's number and date, and the book or the totals of what it says
abbrev pub opened_flat : Result Book Refusal → MkbOpened
opened_flat r = record { refusal = number_in r; blamed = blamed_in r; book = book_of (opened_book (means r)) }

same_opened : (r : Result Book Refusal) → opened_flat r ≡ opened_of (means r)
same_opened (Ok book) = refl
same_opened (Err refusal) = refl

pub opened : (c : Currency) (ws : List ℕ) (r : Result Book Refusal) → Opens c ws r → opened_flat r ≡ opened_of (open_said c ws)
opened c ws r p = same_opened r ∙ ap opened_of p

pub moved : (payouts : Book → Said ℕ → List ℕ) (given : MkbBook) (said : Said ℕ) (r : Moved)
    → Answers (book_from given) said (payouts (book_from given) said) r → moved_flat given r ≡ moved_of payouts given said
moved payouts given said r p =
    let number = said_number r.outcome _ said p.outcome in
    let blamed = said_blamed r.outcome _ said p.outcome in
    let book = said_book r.outcome _ said p.outcome given r.book _ p.book in
    λ i. record { refusal = number i; blamed = blamed i; book = book i; payouts = p.paid i }

pub carded : (given : MkbBook) (ws : List ℕ) (r : Moved) → Cards (book_from given) ws r → moved_flat given r ≡ carded_of given (card_said (book_from given) ws)
carded given ws r p =
    let said : Said Book = card_said (book_from given) ws in
    let number = said_number r.outcome _ said p.outcome in
    let blamed = said_blamed r.outcome _ said p.outcome in
    let book = said_book r.outcome _ said p.outcome given r.book _ p.book in
    λ i. record { refusal = number i; blamed = blamed i; book = book i; payouts = p.paid i }

abbrev pub totals_flat : Result (List ℕ) Refusal → MkbTotals
totals_flat r = record { refusal = number_in r; blamed = blamed_in r; totals = totals_of (means r) }

same_totals : (r : Result (List ℕ) Refusal) → totals_flat r ≡ running_of (means r)
same_totals (Ok totals) = refl
same_totals (Err refusal) = refl

pub running : (b : Book) (r : Result (List ℕ) Refusal) → Tallies b r → totals_flat r ≡ running_of (totals_said b)
running b r p = same_totals r ∙ ap running_of p

pub served : (given : MkbBook) (refunds : List Bool) (coefficients : List ℤ) (payouts numbers payouts' numbers' : List ℕ) (r : Ran)
    → Serves (book_from given) refunds coefficients payouts numbers r payouts' numbers'
    → ran_flat given r ≡ ran_of given refunds coefficients (run_said (book_from given) (length refunds) (length coefficients) (length payouts) (length numbers))
served given refunds coefficients payouts numbers payouts' numbers' r p =
    let said : Said ℕ = run_said (book_from given) (length refunds) (length coefficients) (length payouts) (length numbers) in
    let number = said_number r.outcome r.served said p.outcome in
    let blamed = said_blamed r.outcome r.served said p.outcome in
    let next = p.book ∙ ap (book_after (book_from given) refunds coefficients) p.served in
    let book = said_book r.outcome r.served said p.outcome given r.book _ next in
    λ i. record { refusal = number i; blamed = blamed i; book = book i; served = p.served i }
