-- By the answer of the library's opening. Assumes nothing.
use Rattle.quarter.proofs.Opened.{accepted, refused}
use Rattle.quarter.proofs.books.begin_with.Goals as goal

pub returns-in-Ok : goal.returns-in-Ok
returns-in-Ok c = accepted _ _ _ _ c.in-Ok.ensures

pub returns-in-Err : goal.returns-in-Err
returns-in-Err c = rw c.no_book.ensures (refused _ _ _ _ c.in-Err.ensures)
