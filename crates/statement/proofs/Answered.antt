-- From the check to the answer of a call that writes: a refusal leaves the buffer as it stood, else the file stands in it from the start on. Of both
-- versions; what passes the rows of either keeps the limits of its file. Assumes nothing.
use Rattle.std.specs.Prelude.{Result, Ok, Err}
use mathlib.Core.Path.{◌≡◌, sym, ◌∙◌, ap, subst}
use mathlib.Core.Bool.{Bool, false, not, ◌||◌}
use mathlib.Core.List.{List, []}
use Prim.Native.Nat.{ℕ, suc, ◌+◌, ◌≤◌}
use borrow.Author.Tests.{ltb-false}
use lib.Dec.{eqb}
use lib.IntN.{ℤ, pos}
use lib.ListN.{length, get_or}
use native.Mathlib.Omega.{arith}
use Rattle.refusal.specs.declared.Refusal.{Refusal}
use Rattle.refusal.specs.Rows.{Said, gives, Row, first_row, check_of, means}
use Rattle.refusal.proofs.Check.{passed, refused, clear}
use Rattle.whole.specs.Whole.{magnitude_of}
use Rattle.currency.specs.declared.Currency.{Currency}
use Rattle.currency.specs.Table.{last_currency}
use Rattle.amount.specs.Amounts.{largest}
use Rattle.statement.specs.Bytes.{pasted}
use Rattle.statement.specs.Files.{file_size, last_place, last_reason, most_records}
use Rattle.statement.specs.Writing.{over_at, past_at, any_over, any_past, run_rows, write_rows, reasons_rows, buffer_after}
use Rattle.statement.specs.Parts.{Writable}
use Rattle.statement.proofs.Accepted.{same_not}
use Rattle.statement.proofs.Any.{or_left, or_right, each_not}
use Rattle.statement.specs.declared.Version.TheVariants.{Plain, Reasons}
use Rattle.statement.specs.declared.Version.{Version}

-- what a promise says of an answer and the buffer afterwards, by what its call says, its file and the buffer before
abbrev pub Answers : Said ℕ → (start : ℕ) → (file out : List ℕ) → Result ℕ Refusal → List ℕ → Type 0
Answers said start file out answer after = (means answer ≡ said) × (after ≡ buffer_after said start file out)

module _ (rows : List Row) (ending start : ℕ) (file out : List ℕ) where
  pub answers_refused : (x : Refusal) → check_of rows ≡ Err x → Answers (first_row rows (gives ending)) start file out (Err x) out
  unfolding buffer_after
  answers_refused x e =
      let is = refused (gives ending) rows x e in
      (sym is, sym (ap (λ (s : Said ℕ). buffer_after s start file out) is))

  pub answers_written : (end : ℕ) (after : List ℕ) → check_of rows ≡ Ok tt → end ≡ ending → after ≡ pasted start file out
      → Answers (first_row rows (gives ending)) start file out (Ok end) after
  unfolding buffer_after
  answers_written end after e ends put =
      let is = passed (gives ending) rows e in
      (ap gives ends ∙ sym is, put ∙ sym (ap (λ (s : Said ℕ). buffer_after s start file out) is))

-- what passed has room, coefficients within L, and places and codes within their limits
module _ (version : Version) (over : Bool) (currency : Currency) (uneven far : Bool) (places codes : List ℕ) (coefficients : List ℤ) (room start : ℕ) where
  kept : check_of (run_rows version over currency uneven far (length places) room start) ≡ Ok tt
      → (over ≡ false → any_over coefficients ≡ false)
      → (uneven ≡ false → length places ≡ length coefficients)
      → (far ≡ false → any_past last_place places ≡ false)
      → (uneven ≡ false → far ≡ false → (i : ℕ) → suc i ≤ length places → get_or codes i 0 ≤ last_reason version)
      → Writable version currency places codes coefficients room start
  kept e small even near coded =
      let rows = clear (run_rows version over currency uneven far (length places) room start) e in
      let same = even rows.1.1.0 in
      record {
        even = same;
        small = record {
          few = ltb-false most_records (length places) rows.1.1.1.1.0;
          each = λ i h. ltb-false largest (magnitude_of (get_or coefficients i (pos 0)))
              (each_not (over_at coefficients) (length coefficients) (small rows.0) i (subst (λ (n : ℕ). suc i ≤ n) same h));
        };
        fits = ltb-false room (start + file_size version (length places)) rows.1.1.1.1.1.0;
        known = ltb-false last_currency currency.0 rows.1.0;
        placed = λ i h. ltb-false last_place (get_or places i 0) (each_not (past_at last_place places) (length places) (near rows.1.1.1.0) i h);
        coded = coded rows.1.1.0 rows.1.1.1.0;
      }

module _ (currency : Currency) (places : List ℕ) (coefficients : List ℤ) (room start : ℕ) where
  pub writable : check_of (write_rows currency places coefficients room start) ≡ Ok tt → Writable Plain currency places [] coefficients room start
  unfolding write_rows
  writable e =
      kept Plain (any_over coefficients) currency (not (eqb (length places) (length coefficients))) (any_past last_place places) places [] coefficients room start e (λ h. h)
      (same_not (length places) (length coefficients))
      (λ h. h)
      (λ even near i h. omega arith)

module _ (currency : Currency) (places reasons : List ℕ) (coefficients : List ℤ) (room start : ℕ) where
  pub writable_reasons : check_of (reasons_rows currency places reasons coefficients room start) ≡ Ok tt → Writable Reasons currency places reasons coefficients room start
  unfolding reasons_rows
  writable_reasons e =
      let one : Bool = not (eqb (length places) (length coefficients)) in
      let other : Bool = not (eqb (length places) (length reasons)) in
      kept Reasons (any_over coefficients) currency (one || other) (any_past last_place places || any_past (last_reason Reasons) reasons) places reasons coefficients room start e (λ h. h)
      (λ h. same_not (length places) (length coefficients) (or_left one other h))
      (or_left (any_past last_place places) (any_past (last_reason Reasons) reasons))
      (λ even near i h.
      let same : length places ≡ length reasons = same_not (length places) (length reasons) (or_right one other even) in
      ltb-false (last_reason Reasons) (get_or reasons i 0)
      (each_not (past_at (last_reason Reasons) reasons) (length reasons) (or_right (any_past last_place places) (any_past (last_reason Reasons) reasons) near) i (subst (λ (n : ℕ). suc i ≤ n) same h)))
