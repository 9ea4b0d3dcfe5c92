-- Two answers that a promise allows are equal, and so are the lists afterwards. Assumes nothing.
use mathlib.Core.Path.{◌≡◌, sym, ◌∙◌}
use mathlib.Core.List.{List}
use Prim.Native.Nat.{ℕ}
use lib.ListN.{length}
use Rattle.lines.specs.Texts.{put_at, place_behind}
use Rattle.std.specs.Prelude.{Option}
use Rattle.hexadecimal.specs.Hexadecimal.{decoded_of, list_after, hex_of}

-- what the promise of `read_hex` says of an answer and the list
abbrev pub Reads : List ℕ → List ℕ → Option ℕ → List ℕ → Type 0
Reads word bytes₀ r bytes = (r ≡ decoded_of (length bytes₀) word) × (bytes ≡ list_after bytes₀ word)

pub one_read_hex
    : (word bytes₀ : List ℕ) (r r' : Option ℕ) (bytes bytes' : List ℕ) → Reads word bytes₀ r bytes → Reads word bytes₀ r' bytes'
    → (r ≡ r') × (bytes ≡ bytes')
one_read_hex word bytes₀ r r' bytes bytes' p q = (p.0 ∙ sym q.0, p.1 ∙ sym q.1)

-- what the promise of `put_hex` says of an answer and the buffer
abbrev pub Puts : List ℕ → ℕ → List ℕ → ℕ → List ℕ → Type 0
Puts out₀ at bytes r out = (out ≡ put_at out₀ at (hex_of bytes)) × (r ≡ place_behind out₀ at (hex_of bytes))

pub one_put_hex
    : (out₀ : List ℕ) (at : ℕ) (bytes : List ℕ) (r r' : ℕ) (out out' : List ℕ) → Puts out₀ at bytes r out → Puts out₀ at bytes r' out'
    → (r ≡ r') × (out ≡ out')
one_put_hex out₀ at bytes r r' out out' p q = (p.1 ∙ sym q.1, p.0 ∙ sym q.0)
