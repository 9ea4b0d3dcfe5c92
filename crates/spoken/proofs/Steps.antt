-- What a word is, by what was heard before it and by its bytes. Assumes nothing.
use Rattle.std.specs.Prelude.{Some, None}
use mathlib.Core.Path.{◌≡◌}
use mathlib.Core.Bool.{true, false, ◌&&◌}
use mathlib.Core.List.{List}
use Prim.Native.Nat.{ℕ}
use Rattle.currency.specs.declared.Currency.{Currency}
use Rattle.lines.specs.Reads.{number_at}
use Rattle.lines.specs.declared.Word.{Word}
use Rattle.text.specs.Codes.{currency_of}
use Rattle.text.specs.Read.{read_said}
use Rattle.spoken.specs.declared.Form.{Form}
use Rattle.spoken.specs.declared.Heard.{Heard}
use Rattle.spoken.specs.Hearing.{bytes_of, kind_at, is_unit, is_money, is_capital, number_step, code_step, text_step, step_of}

module _ (line : List ℕ) (word : Word) (form : Form) (h : Heard) where
  pub as_text : (c : Currency) → h.awaited ≡ Some c → step_of line word form h ≡ text_step h (read_said c (bytes_of line word))
  unfolding step_of
  as_text c e = rw e

  pub as_code
      : h.awaited ≡ None → (is_unit (kind_at form h.count) && is_capital (bytes_of line word)) ≡ true
      → step_of line word form h ≡ code_step h (currency_of (bytes_of line word)) (is_money (kind_at form h.count))
  unfolding step_of
  as_code e code = rw (e, code)

  pub as_number
      : h.awaited ≡ None → (is_unit (kind_at form h.count) && is_capital (bytes_of line word)) ≡ false
      → step_of line word form h ≡ number_step h (number_at line word)
  unfolding step_of
  as_number e other = rw (e, other)
