-- "reading what was written gives the amount with its scale, and writing what was read gives the text": for every amount that `write` takes and every text that `read`
-- accepts; and the text of an amount is the only one of the grammar that stands for it. Assumes nothing.
use mathlib.Core.Path.{◌≡◌, sym, ◌∙◌, ap}
use mathlib.Core.Bool.{true}
use mathlib.Core.List.{List, ◌++◌}
use Prim.Native.Nat.{ℕ, ◌/◌, ◌^◌, ◌≤◌, ◌<◌}
use native.Mathlib.Omega.{arith}
use borrow.Author.Tests.{le-ltb, ltb-false}
use lib.IntN.{ℤ, pos, negsuc}
use lib.ListN.{length, take, drop}
use lib.Seq.{take-append_seam}
use Rattle.refusal.specs.Rows.{Said, gives}
use Rattle.refusal.proofs.Check.{clear}
use Rattle.refusal.proofs.Joined.{same_value, let_pass}
use Rattle.whole.specs.Whole.{negative, magnitude_of, signed_of}
use Rattle.whole.proofs.Laws.{sign_and_magnitude, magnitude_signed}
use Rattle.lines.specs.Texts.{decimal}
use Rattle.currency.specs.declared.Currency.{Currency}
use Rattle.currency.specs.Table.{last_currency}
use Rattle.amount.specs.declared.Amount.{Amount}
use Rattle.amount.specs.Amounts.{largest, last_scale}
use Rattle.text.specs.Grammar.{number, Text, amount_of}
use Rattle.text.specs.Read.{read_said}
use Rattle.text.specs.Written.{last_digits, text_of, write_rows, write_said, buffer_after}
use Rattle.text.proofs.Spelled.{largest_below, last_length, makes, in_grammar, text_length}
use Rattle.text.proofs.OneText.{one_text}
use Rattle.text.proofs.Exactly.{Stands, read_exactly}

-- an amount that rows 2, 3 and 4 let pass
pub record Good (a : Amount) : Type 0 where
  pub scale : a.scale ≤ last_scale
  pub within : magnitude_of a.coefficient ≤ largest
  pub known : a.currency.0 ≤ last_currency

signed_some : (z : ℤ) → negative z ≡ true → 0 < magnitude_of z
signed_some (pos n) e = let z : ◌≡◌ {A = ℕ} 0 1 = cc in absurd (omega arith)
signed_some (negsuc n) e = omega arith

module _ (a : Amount) (good : Good a) where
  small : magnitude_of a.coefficient < 10 ^ 15
  small = omega (arith, largest_below, good.within)

  abbrev units : List ℕ
  units = decimal 20 (magnitude_of a.coefficient / 10 ^ a.scale)

  abbrev places : List ℕ
  places = last_digits a.scale (magnitude_of a.coefficient)

  -- the text of an amount is in the grammar
  pub text_in_grammar : Text (text_of a) (negative a.coefficient) units places
  text_in_grammar = in_grammar (magnitude_of a.coefficient) a.scale good.scale small (negative a.coefficient) (signed_some a.coefficient)

  number_is_magnitude : number units places ≡ magnitude_of a.coefficient
  number_is_magnitude = makes (magnitude_of a.coefficient) a.scale good.scale small

  -- and stands for it
  text_stands_for : a ≡ amount_of a.currency (negative a.coefficient) units places
  text_stands_for =
      rw (number_is_magnitude, last_length a.scale (magnitude_of a.coefficient), sign_and_magnitude a.coefficient)

  -- with L below 10^15, in at most 17 bytes
  pub text_short : length (text_of a) ≤ 17
  text_short = text_length (magnitude_of a.coefficient) a.scale good.scale small (negative a.coefficient)

  -- reading it gives the amount
  pub read_text : read_said a.currency (text_of a) ≡ gives a
  read_text =
      (read_exactly a.currency (text_of a) a).1
      (record {
        known = good.known;
        accepted = record { negative = negative a.coefficient; whole = units; fraction = places; text = text_in_grammar };
        within = omega (arith, number_is_magnitude, good.within);
        is = text_stands_for;
      })

-- what `write` took
pub taken : (a : Amount) (room n : ℕ) → write_said a room ≡ gives n → Good a × (length (text_of a) ≡ n)
unfolding write_said
taken a room n e =
    let holds = clear (write_rows a room) (let_pass (length (text_of a)) n (write_rows a room) e) in (
      record {
        scale = ltb-false last_scale a.scale holds.0;
        within = ltb-false largest (magnitude_of a.coefficient) holds.1.0;
        known = ltb-false last_currency a.currency.0 holds.1.1.0;
      },
      same_value (length (text_of a)) n (write_rows a room) e,
    )

-- "reading what was written gives the amount with its scale"
pub read_written
    : (a : Amount) (out : List ℕ) (n : ℕ) → write_said a (length out) ≡ gives n
    → read_said a.currency (take n (buffer_after (text_of a) (write_said a (length out)) out)) ≡ gives a
unfolding buffer_after
read_written a out n e =
    let t = taken a (length out) n e in
    ap (λ (s : Said ℕ). read_said a.currency (take n (buffer_after (text_of a) s out))) e
    ∙ ap (λ (k : ℕ). read_said a.currency (take k (text_of a ++ drop n out))) (sym t.1)
    ∙ ap (read_said a.currency) (take-append_seam (text_of a) (drop n out))
    ∙ read_text a t.0

-- two amounts with one text are the same
pub same_text : (a b : Amount) → Good a → Good b → a.currency ≡ b.currency → text_of a ≡ text_of b → a ≡ b
same_text a b good fine currency e =
    let both : ◌≡◌ {A = Said Amount} (gives a) (gives b) =
    sym (read_text a good) ∙ ap (λ (c : Currency). read_said c (text_of a)) currency ∙ ap (read_said b.currency) e ∙ read_text b fine in cc

module _ (c : Currency) (bytes : List ℕ) (a : Amount) (e : read_said c bytes ≡ gives a) where
  abbrev stands : Stands c bytes a
  stands = (read_exactly c bytes a).0 e

  magnitude_read : magnitude_of a.coefficient ≡ number stands.accepted.whole stands.accepted.fraction
  magnitude_read =
      ap (λ (x : Amount). magnitude_of x.coefficient) stands.is
      ∙ magnitude_signed stands.accepted.negative (number stands.accepted.whole stands.accepted.fraction)

  -- what is read is an amount that `write` takes
  pub read_good : Good a
  read_good = record {
    scale = omega (arith, ap (λ (x : Amount). x.scale) stands.is, stands.accepted.text.few);
    within = omega (arith, magnitude_read, stands.within);
    known = omega (arith, ap (λ (x : Amount). x.currency.0) stands.is, stands.known);
  }

  -- "writing what was read gives the text"
  pub text_read : text_of a ≡ bytes
  text_read =
      one_text (text_of a) bytes (negative a.coefficient) stands.accepted.negative
      (units a read_good) (places a read_good) stands.accepted.whole stands.accepted.fraction
      (text_in_grammar a read_good) stands.accepted.text
      (last_length a.scale (magnitude_of a.coefficient) ∙ ap (λ (x : Amount). x.scale) stands.is)
      (ap (signed_of (negative a.coefficient)) (number_is_magnitude a read_good) ∙ sign_and_magnitude a.coefficient
      ∙ ap (λ (x : Amount). x.coefficient) stands.is)

  pub written_read
      : (out : List ℕ) → length bytes ≤ length out
      → (write_said a (length out) ≡ gives (length bytes)) × (buffer_after (text_of a) (write_said a (length out)) out ≡ bytes ++ drop (length bytes) out)
  unfolding write_said buffer_after
  written_read out room =
      let written : write_said a (length out) ≡ gives (length bytes) = rw
      (le-ltb last_scale a.scale read_good.scale, le-ltb largest (magnitude_of a.coefficient) read_good.within, le-ltb last_currency a.currency.0 read_good.known, text_read, le-ltb (length out) (length bytes) room) in (
        written,
        ap (λ (s : Said ℕ). buffer_after (text_of a) s out) written ∙ ap (λ (bs : List ℕ). bs ++ drop (length bytes) out) text_read,
      )

-- "each amount has one text": every text that is read as the amount is the text that is written
pub only_text : (c : Currency) (bytes others : List ℕ) (a : Amount) → read_said c bytes ≡ gives a → read_said c others ≡ gives a → bytes ≡ others
only_text c bytes others a e f = sym (text_read c bytes a e) ∙ text_read c others a f
