-- What the weights and the card are refused for, the rows are. Assumes nothing.
use Rattle.book.specs.Checks.{contract_rows, sign_rows}
use Rattle.book.proofs.Exits.{at_exit}
use Rattle.book.proofs.checks.check_standing.Goals as goal

pub returns-in_err-check_contract : goal.returns-in_err-check_contract
returns-in_err-check_contract c =
    let a = c.args in
    at_exit _ _ (contract_rows a.count a.weights a.card a.behind) (sign_rows a.amount a.net a.settled) _ c.from_residual.ensures.1 c.check_contract.ensures
    c.in_err-check_contract.was
