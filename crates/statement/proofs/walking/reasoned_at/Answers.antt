-- A number of two bytes or of none fits. Assumes nothing.
use mathlib.Core.Path.{◌≡◌, ◌∙◌, ap}
use native.Mathlib.Omega.{arith}
use Prim.Native.Nat.{◌+◌}
use Rattle.statement.specs.Bytes.{number_at}
use Rattle.statement.specs.Files.{code_bytes}
use Rattle.statement.proofs.Widths.{code_read}
use Rattle.statement.proofs.walking.reasoned_at.Goals as goal

pub overflow_cast-result : goal.overflow_cast-result
overflow_cast-result c =
    let code : c.number_at.result ≡ number_at c.args.bytes.now (c.args.at + 16) (code_bytes c.args.version) = c.number_at.ensures ∙ ap (number_at c.args.bytes.now (c.args.at + 16)) c.code_bytes.ensures in
    let a = c.args in
    omega (arith, code, code_read a.version a.bytes.now (λ i. (c.type_inv.bytes i).fits) (a.at + 16))
