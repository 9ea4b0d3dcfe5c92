-- "it accepts exactly such files": `check` gives a start, a count and a sum exactly where the bytes end in a file of version 1 that has them, 17 exactly
-- where their last 24 bytes hold version 2 and six zeros, and 14 for all others. Of either version by one argument. Assumes nothing.
use Rattle.std.specs.Prelude.{Ok}
use mathlib.Core.Path.{◌≡◌, sym, ◌∙◌, ap, subst}
use mathlib.Core.Logic.{◌↔◌}
use mathlib.Core.Bool.{true, false}
use mathlib.Core.List.{List, [], ◌∷◌}
use Prim.Native.Nat.{ℕ}
use borrow.Author.Tests.{le-ltb}
use lib.IntN.{ℤ}
use lib.ListN.{length}
use native.Mathlib.Omega.{arith}
use Rattle.refusal.specs.declared.Refusal.TheVariants.{Newer}
use Rattle.refusal.specs.Rows.{Said, gives, refuses, row, first_row, check_of}
use Rattle.refusal.proofs.Check.{passed}
use Rattle.refusal.proofs.Joined.{same_value, let_pass, both_passed}
use Rattle.statement.specs.declared.Summary.{Summary}
use Rattle.statement.specs.Files.{trailer_width, Ends}
use Rattle.statement.specs.Reading.{newer, read_rows, version_rows, summary_in, summary_of, read_said}
use Rattle.statement.proofs.ReadBack.{Bytes}
use Rattle.statement.proofs.Held.{bytes_long, file_accepted, file_summary, version_is, zeros_are}
use Rattle.statement.proofs.Ending.{ends}
use Rattle.statement.proofs.Accepted.{accepted}
use Rattle.statement.specs.declared.Version.TheVariants.{Plain, Reasons}
use Rattle.statement.specs.declared.Version.{Version}

-- bytes that pass the rows of a version end in a file of it, which has the numbers that they say
pub passed_ends : (version : Version) (bytes : List ℕ) → Bytes bytes → check_of (version_rows version bytes) ≡ Ok tt
    → Ends version bytes (summary_in version bytes).first (summary_in version bytes).count (summary_in version bytes).sum
unfolding summary_in
passed_ends version bytes b through = let k = accepted version bytes through in ends version bytes b k.0 k.1

module _ (bytes : List ℕ) where
  -- a file of version 1 is not newer
  not_newer : (first count : ℕ) (sum : ℤ) → Ends Plain bytes first count sum → newer bytes ≡ false
  unfolding newer
  not_newer first count sum e =
      rw (le-ltb (length bytes) trailer_width (omega (arith, bytes_long Plain bytes first count sum e)), version_is Plain bytes first count sum e)

  -- bytes that end in a file are answered with its start, count and sum
  pub file_said : (first count : ℕ) (sum : ℤ) → Ends Plain bytes first count sum → read_said bytes ≡ gives (record { first = first; count = count; sum = sum })
  unfolding read_said read_rows
  file_said first count sum e =
      rw (not_newer first count sum e)
      (passed (gives (summary_of bytes)) (version_rows Plain bytes) (file_accepted Plain bytes first count sum e)
      ∙ ap gives (file_summary Plain bytes first count sum e))

  pub exactly : Bytes bytes → (s : Summary) → (read_said bytes ≡ gives s) ↔ Ends Plain bytes s.first s.count s.sum
  unfolding read_said read_rows
  exactly b s = (
    λ said.
        let through = (both_passed (row Newer (newer bytes) ∷ []) (version_rows Plain bytes) (let_pass (summary_of bytes) s (read_rows bytes) said)).1 in
        subst (λ (x : Summary). Ends Plain bytes x.first x.count x.sum) (same_value (summary_of bytes) s (read_rows bytes) said) (passed_ends Plain bytes b through),
    λ e. file_said s.first s.count s.sum e,
  )

  -- "17 is given when the last 24 bytes hold version 2 and six zeros, and before 14"
  pub newer_said : newer bytes ≡ true → read_said bytes ≡ refuses 17 0
  unfolding read_said read_rows
  newer_said e = rw e

  -- "amended by that and nothing else": for every other input it answers by the rows of version 1, as before
  pub as_before : newer bytes ≡ false → read_said bytes ≡ first_row (version_rows Plain bytes) (gives (summary_of bytes))
  unfolding read_said read_rows
  as_before e = rw e

  -- "The old reader must answer a well-formed version 2 file with 17"
  pub second_newer : (first count : ℕ) (sum : ℤ) → Ends Reasons bytes first count sum → read_said bytes ≡ refuses 17 0
  unfolding newer
  second_newer first count sum e =
      newer_said
      (rw (le-ltb (length bytes) trailer_width (omega (arith, bytes_long Reasons bytes first count sum e)), version_is Reasons bytes first count sum e, zeros_are Reasons bytes first count sum e))

  -- "and never with an amount"
  pub never_an_amount : (first count : ℕ) (sum : ℤ) → Ends Reasons bytes first count sum → (s : Summary) → read_said bytes ≡ gives s → ⊥
  never_an_amount first count sum e s said =
      let both : ◌≡◌ {A = Said Summary} (refuses 17 0) (gives s) = sym (second_newer first count sum e) ∙ said in
      let z : ◌≡◌ {A = ℕ} 0 1 = cc in
      omega arith
