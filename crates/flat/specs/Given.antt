-- What C gives, as the base takes it: field for field, each number passed on and the currency number in its own kind. Cited by every promise on
-- a number or a struct that C gives. Assumes nothing.
use Rattle.std.specs.Prelude.{ℕ, min, ℤ, pos, negsuc}
use Rattle.amount.specs.declared.Amount.{Amount}
use Rattle.currency.specs.declared.Currency.{Currency}
use Rattle.calendar.specs.declared.Date.{Date}
use Rattle.book.specs.declared.Book.{Book}
use Rattle.flat.specs.declared.MkbAmount.{MkbAmount}
use Rattle.flat.specs.declared.MkbDate.{MkbDate}
use Rattle.flat.specs.declared.MkbBook.{MkbBook}

-- what an unsigned type with this largest value is passed of a number: the number, or the largest value where the type can't hold it, be the
-- number too large or below 0
abbrev pub passed : (largest : ℕ) → ℤ → ℕ
passed largest (pos n) = min n largest
passed largest (negsuc n) = largest

-- in 8, 16, 32 and 64 bits
abbrev pub passed8 : ℤ → ℕ
passed8 = passed 255

abbrev pub passed16 : ℤ → ℕ
passed16 = passed 65535

abbrev pub passed32 : ℤ → ℕ
passed32 = passed 4294967295

abbrev pub passed64 : ℤ → ℕ
passed64 = passed 18446744073709551615

abbrev pub currency_from : ℤ → Currency
currency_from number = record { 0 = passed8 number }

abbrev pub amount_from : MkbAmount → Amount
amount_from a = record { currency = currency_from a.currency; scale = passed8 a.scale; coefficient = a.coefficient }

abbrev pub date_from : MkbDate → Date
date_from d = record { year = passed16 d.year; month = passed8 d.month; day = passed8 d.day }

abbrev pub book_from : MkbBook → Book
book_from b = record { currency = currency_from b.currency; count = passed8 b.count; weights = b.weights; net = b.net; card = passed16 b.card; settled = b.settled }
