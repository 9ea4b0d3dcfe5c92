-- What the weights are refused for, the rows are. Assumes nothing.
use Rattle.book.specs.Books.{weight_rows, card_rows}
use Rattle.book.proofs.Exits.{at_exit}
use Rattle.book.proofs.checks.check_contract.Goals as goal

pub returns-in_err-check_weights : goal.returns-in_err-check_weights
returns-in_err-check_weights c =
    let a = c.args in
    at_exit _ _ (weight_rows a.count a.weights) (card_rows a.card a.behind) _ c.from_residual.ensures.1 c.check_weights.ensures c.in_err-check_weights.was
