-- Two answers that the promise of `read_words` allows are equal, and so are the lists afterwards. Assumes nothing.
use mathlib.Core.Path.{◌≡◌, sym, ◌∙◌}
use mathlib.Core.List.{List}
use Prim.Native.Nat.{ℕ}
use Rattle.lines.specs.declared.Number.{Number}
use Rattle.spoken.specs.declared.Form.{Form}
use Rattle.spoken.specs.declared.Spoken.{Spoken}
use Rattle.spoken.specs.Reading.{read_of, spoken_of}

-- what the promise says of an answer and the list
abbrev pub Reads : List ℕ → ℕ → Form → List Number → Spoken → List Number → Type 0
Reads line from form numbers₀ r numbers =
    (r ≡ spoken_of (read_of line from form numbers₀).heard) × (numbers ≡ (read_of line from form numbers₀).numbers)

pub one_read_words
    : (line : List ℕ) (from : ℕ) (form : Form) (numbers₀ : List Number) (r r' : Spoken) (numbers numbers' : List Number)
    → Reads line from form numbers₀ r numbers → Reads line from form numbers₀ r' numbers' → (r ≡ r') × (numbers ≡ numbers')
one_read_words line from form numbers₀ r r' numbers numbers' p q = (p.0 ∙ sym q.0, p.1 ∙ sym q.1)
