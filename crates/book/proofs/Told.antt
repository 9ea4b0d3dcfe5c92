-- What `past_of` tells of a book's settled totals serves a call's rows: where one of their rows holds, the row that is told decides, whatever
-- else stands behind; where none does, all that is told is so. Assumes nothing.
use Rattle.std.specs.Prelude.{Result, Ok, Err}
use mathlib.Core.Path.{◌≡◌, refl}
use mathlib.Core.Bool.{Bool, true, false}
use mathlib.Core.List.{List, [], ◌∷◌, ◌++◌}
use Prim.Native.Nat.{ℕ}
use lib.IntN.{ℤ}
use Rattle.refusal.specs.Rows.{Row, row, check_of, means}
use Rattle.refusal.specs.declared.Refusal.{Refusal}
use Rattle.refusal.specs.declared.Refusal.TheVariants.{Magnitude}
use Rattle.refusal.proofs.OneToOne.{same_answer}
use Rattle.book.specs.declared.Past.{Past}
use Rattle.book.specs.Settled.{any_negative, any_over, past_count, sum_over}
use Rattle.book.specs.Checks.{settled_rows, past_of, settled_said}

-- rows behind rows: what decides behind decides
pub same_check : (front rows others : List Row) → check_of rows ≡ check_of others → check_of (front ++ rows) ≡ check_of (front ++ others)
same_check [] rows others e = e
same_check (row r true ∷ front) rows others e = refl
same_check (row r false ∷ front) rows others e = same_check front rows others e

module _ (rest : (behind negative : Bool) → List Row) where
  -- the rows by what is told: the one that is told to hold, or those behind
  abbrev pub told_rows : Result Past Refusal → List Row
  told_rows (Ok past) = rest past.behind past.negative
  told_rows (Err refusal) = row refusal true ∷ []

  module _ (zs : List ℤ) (count : ℕ) (net : ℤ) where
    pub told : (answer : Result Past Refusal) → means answer ≡ settled_said count net zs → (front : List Row)
        → check_of (front ++ told_rows answer) ≡ check_of (front ++ (settled_rows net zs ++ rest (past_count count zs) (any_negative zs)))
    told answer tells front = same_check front _ _ (go (any_over zs) (sum_over (net ∷ zs)) refl refl)
      where
        go : (over full : Bool) → any_over zs ≡ over → sum_over (net ∷ zs) ≡ full
            → check_of (told_rows answer) ≡ check_of (settled_rows net zs ++ rest (past_count count zs) (any_negative zs))
        go true full e f =
            let known : answer ≡ Err Magnitude = same_answer answer (Err Magnitude) (rw (tells, e)) in
            rw (known, e)
        go false true e f =
            let known : answer ≡ Err Magnitude = same_answer answer (Err Magnitude) (rw (tells, e, f)) in
            rw (known, e, f)
        go false false e f =
            let known : answer ≡ Ok (past_of count zs) = same_answer answer (Ok (past_of count zs)) (rw (tells, e, f)) in
            rw (known, e, f)
