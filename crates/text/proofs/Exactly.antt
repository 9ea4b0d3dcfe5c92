-- "The accepted texts are exactly that grammar's within L": an amount is given exactly where the currency is known, the bytes are a text of the grammar, its number is
-- within L, and the amount is its. Assumes nothing.
use mathlib.Core.Path.{◌≡◌, sym, ◌∙◌, ap}
use mathlib.Core.Bool.{Bool, false}
use mathlib.Core.List.{List, [], ◌∷◌}
use mathlib.Core.Logic.{◌↔◌}
use Prim.Native.Nat.{ℕ, ◌≤◌}
use native.Mathlib.Omega.{arith}
use borrow.Author.Tests.{le-ltb, ltb-false}
use lib.ListN.{length}
use lib.Seq.{slice}
use Rattle.refusal.specs.declared.Refusal.TheVariants.{Unknown, Malformed, Limit}
use Rattle.refusal.specs.Rows.{Said, gives, row, first_row}
use Rattle.refusal.proofs.Check.{clear}
use Rattle.refusal.proofs.Joined.{same_value, let_pass}
use Rattle.currency.specs.declared.Currency.{Currency}
use Rattle.currency.specs.Table.{last_currency, unknown}
use Rattle.amount.specs.declared.Amount.{Amount}
use Rattle.amount.specs.Amounts.{largest, over_l}
use Rattle.text.specs.Grammar.{number, Text, Accepted, amount_of}
use Rattle.text.specs.Read.{negative_in, start_in, end_in, fraction_from, number_at, scale_at, malformed, amount_in, read_rows, read_said}
use Rattle.text.proofs.Parts.{sign_is, number_there, scale_there}
use Rattle.text.proofs.Accepted.{well_formed, not_malformed}

-- a text of a known currency that is within L, and the amount that it stands for
pub record Stands (currency : Currency) (bytes : List ℕ) (a : Amount) : Type 0 where
  pub known : currency.0 ≤ last_currency
  pub accepted : Accepted bytes
  pub within : number accepted.whole accepted.fraction ≤ largest
  pub is : a ≡ amount_of currency accepted.negative accepted.whole accepted.fraction

-- where no row holds the value is given
all_pass : {A : Type 0} (u m l : Bool) (value : Said A) → u ≡ false → m ≡ false → l ≡ false → first_row (row Unknown u ∷ row Malformed m ∷ row Limit l ∷ []) value ≡ value
all_pass u m l value e f g = rw (e, f, g)

module _ (currency : Currency) (bytes : List ℕ) where
  abbrev given : Amount
  given = amount_in currency (negative_in bytes) (scale_at (length bytes) (end_in bytes)) (number_at bytes (start_in bytes) (end_in bytes))

  -- the amount that the tests find is the text's
  same_amount : (n : Bool) (w f : List ℕ) → Text bytes n w f → given ≡ amount_of currency n w f
  same_amount n w f t =
      ap (λ (s : Bool). amount_in currency s (scale_at (length bytes) (end_in bytes)) (number_at bytes (start_in bytes) (end_in bytes))) (sign_is bytes n w f t)
      ∙ ap (λ (k : ℕ). amount_in currency n k (number_at bytes (start_in bytes) (end_in bytes))) (scale_there bytes n w f t)
      ∙ ap (λ (m : ℕ). amount_in currency n (length f) m) (number_there bytes n w f t)

  reads : (a : Amount) → read_said currency bytes ≡ gives a → Stands currency bytes a
  unfolding read_said
  reads a e =
      let holds = clear (read_rows currency bytes) (let_pass given a (read_rows currency bytes) e) in
      let t = well_formed bytes holds.1.0 in
      record {
        known = ltb-false last_currency currency.0 holds.0;
        accepted = record { negative = negative_in bytes; whole = slice (start_in bytes) (end_in bytes) bytes; fraction = fraction_from bytes (end_in bytes); text = t };
        within = ltb-false largest (number_at bytes (start_in bytes) (end_in bytes)) holds.1.1.0;
        is = sym (same_value given a (read_rows currency bytes) e) ∙ same_amount _ _ _ t;
      }

  stands : (a : Amount) → Stands currency bytes a → read_said currency bytes ≡ gives a
  unfolding read_said
  stands a s =
      let t = s.accepted.text in
      let n = number_there bytes _ _ _ t in
      all_pass (unknown currency) (malformed bytes) (over_l (number_at bytes (start_in bytes) (end_in bytes))) (gives given)
      (le-ltb last_currency currency.0 s.known) (not_malformed bytes _ _ _ t)
      (le-ltb largest (number_at bytes (start_in bytes) (end_in bytes)) (omega (arith, n, s.within)))
      ∙ ap gives (same_amount _ _ _ t ∙ sym s.is)

  pub read_exactly : (a : Amount) → (read_said currency bytes ≡ gives a) ↔ Stands currency bytes a
  read_exactly a = (reads a, stands a)
