-- Two answers that a promise allows are equal, and so are the lists that were lent: each promise is an equation for the answer and one for
-- each lent list, and an equation leaves what it names. Assumes nothing.
use mathlib.Core.Path.{◌≡◌, sym, ◌∙◌}
use mathlib.Core.List.{List}
use Prim.Native.Nat.{ℕ}
use Rattle.intake.specs.Keeping.{kept_count, kept_of}
use Rattle.intake.specs.Numbers.{listed_count, listed}
use Rattle.intake.specs.Words.{given_of, numbers_of}
use Rattle.lines.specs.declared.Number.{Number}
use Rattle.std.specs.Prelude.{Option}

-- of `next_line`, `next_word`, `amount_at` and the numbers at a place
pub one_answer : {A : Type 0} {r s e : A} → r ≡ e → s ≡ e → r ≡ s
one_answer p q = p ∙ sym q

pub one_keeping : (text : List ℕ) (from to r s : ℕ) (a b : List ℕ)
    → r ≡ kept_count text from to → a ≡ kept_of text from to → s ≡ kept_count text from to → b ≡ kept_of text from to
    → (r ≡ s) × (a ≡ b)
one_keeping text from to r s a b count kept count' kept' = (one_answer count count', one_answer kept kept')

pub one_reading : (line : List ℕ) (from : ℕ) (numbers : List Number) (r s : Option ℕ) (a b : List Number)
    → r ≡ given_of line from → a ≡ numbers_of line from numbers → s ≡ given_of line from → b ≡ numbers_of line from numbers
    → (r ≡ s) × (a ≡ b)
one_reading line from numbers r s a b given put given' put' = (one_answer given given', one_answer put put')

pub one_listing : {A : Type 0} (number : ℕ → A) (from to : ℕ) (xs : List A) (r s : ℕ) (a b : List A)
    → r ≡ listed_count from to xs → a ≡ listed number from to xs
    → s ≡ listed_count from to xs → b ≡ listed number from to xs
    → (r ≡ s) × (a ≡ b)
one_listing number from to xs r s a b count put count' put' = (one_answer count count', one_answer put put')
