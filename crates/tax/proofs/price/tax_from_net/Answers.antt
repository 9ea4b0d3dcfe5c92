-- What no row refuses is the price by the tax, and a refused call is the row that it names. Assumes nothing.
use Rattle.std.proofs.lemmas.Result.{err_from_is_err_and}
use mathlib.Core.Path.{◌∙◌}
use Rattle.tax.specs.Tax.{from_net}
use Rattle.tax.proofs.Value.{said_refused, net_said}
use Rattle.tax.proofs.price.tax_from_net.Goals as goal

pub returns-in_err-given : goal.returns-in_err-given
returns-in_err-given c =
    let a = c.args in
    let p = err_from_is_err_and c.from_residual.result c.from_residual.ensures.1 in
    rw (p.1, p.2)
    (said_refused from_net a.net a.rate a.mode c.in_err-given.field-0.0 c.in_err-given.ensures)

pub returns : goal.returns
returns c = c.split_of.ensures ∙ net_said c.in_ok-given.ensures c.tax-tax.result c.tax-tax.ensures.value
