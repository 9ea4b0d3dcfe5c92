-- Document 02, Ask 13: "The new reader takes both versions and gives code 0 for version 1 records." It accepts exactly the files of the two versions, with
-- their numbers; what the old reader accepts it answers alike; and it answers 14 for all else. Assumes nothing.
use Rattle.std.specs.Prelude.{Ok}
use mathlib.Core.Path.{◌≡◌, refl, sym, ◌∙◌, ap, subst}
use mathlib.Core.Logic.{◌↔◌}
use mathlib.Core.Bool.{true, false}
use mathlib.Core.List.{List, [], ◌∷◌}
use Prim.Native.Nat.{ℕ, ◌+◌, ◌<◌}
use native.Mathlib.Omega.{arith}
use lib.IntN.{ℤ}
use Rattle.refusal.specs.declared.Refusal.TheVariants.{Malformed, Newer}
use Rattle.refusal.specs.Rows.{Said, gives, refuses, Row, row, first_row, check_of}
use Rattle.refusal.proofs.Check.{passed}
use Rattle.refusal.proofs.Joined.{same_value, let_pass, both_passed}
use Rattle.statement.specs.declared.Summary.{Summary}
use Rattle.statement.specs.declared.SummaryOfAny.{SummaryOfAny}
use Rattle.statement.specs.Bytes.{number_at}
use Rattle.statement.specs.Files.{version_of, Ends}
use Rattle.statement.specs.Reading.{trailer_place, trailer_in, first_of, record_place, newer, read_rows, version_rows, summary_in, summary_of, summary_of_any, read_said, version_in, any_rows, any_said}
use Rattle.statement.specs.Walking.{reasoned_at}
use Rattle.statement.proofs.ReadBack.{Bytes}
use Rattle.statement.proofs.Held.{file_accepted, file_summary, version_is}
use Rattle.statement.proofs.Accepted.{accepted}
use Rattle.statement.proofs.Exactly.{passed_ends}
use Rattle.statement.specs.declared.Version.TheVariants.{Plain, Reasons}
use Rattle.statement.specs.declared.Version.{Version}

-- every row is of refusal 14
abbrev pub OnlyMalformed : List Row → Type 0
OnlyMalformed [] = Unit {0}
OnlyMalformed (row r holds ∷ rows) = (r ≡ Malformed) × OnlyMalformed rows

-- so that what does not pass gets 14
pub else_malformed : {A : Type 0} (value : Said A) (rows : List Row) → OnlyMalformed rows → (check_of rows ≡ Ok tt → ⊥) → first_row rows value ≡ refuses 14 0
else_malformed value [] only not = absurd (not refl)
else_malformed value (row r true ∷ rows) only not = rw only.0
else_malformed value (row r false ∷ rows) only not = else_malformed value rows only.1 not

module _ (bytes : List ℕ) where
  -- the version that a file's last bytes hold is its own
  pub version_in_is : (version : Version) (first count : ℕ) (sum : ℤ) → Ends version bytes first count sum → version_in bytes ≡ version
  version_in_is Plain first count sum e = rw (version_is Plain bytes first count sum e)
  version_in_is Reasons first count sum e = rw (version_is Reasons bytes first count sum e)

  -- bytes that end in a file of either version are answered with its numbers
  pub any_file_said : (version : Version) (first count : ℕ) (sum : ℤ) → Ends version bytes first count sum
      → any_said bytes ≡ gives (record { version = version_of version; summary = record { first = first; count = count; sum = sum } })
  unfolding any_said any_rows
  any_file_said version first count sum e =
      rw (version_in_is version first count sum e)
      (passed (gives (record { version = version_of version; summary = summary_in version bytes })) (version_rows version bytes) (file_accepted version bytes first count sum e)
      ∙ ap (λ (x : Summary). gives (record { version = version_of version; summary = x })) (file_summary version bytes first count sum e))

  given_file : Bytes bytes → (s : SummaryOfAny) → any_said bytes ≡ gives s → (version : Version) × (s.version ≡ version_of version) × Ends version bytes s.summary.first s.summary.count s.summary.sum
  unfolding any_said any_rows summary_in
  given_file b s said =
      let version : Version = version_in bytes in
      let through = let_pass (summary_of_any bytes) s (version_rows version bytes) said in
      let same : summary_of_any bytes ≡ s = same_value (summary_of_any bytes) s (version_rows version bytes) said in
      (version, sym (ap (λ (x : SummaryOfAny). x.version) same), subst (λ (x : SummaryOfAny). Ends version bytes x.summary.first x.summary.count x.summary.sum) same (passed_ends version bytes b through))

  pub any_exactly : Bytes bytes → (s : SummaryOfAny) → (any_said bytes ≡ gives s) ↔ ((version : Version) × (s.version ≡ version_of version) × Ends version bytes s.summary.first s.summary.count s.summary.sum)
  any_exactly b s = (
    given_file b s,
    λ file. any_file_said file.0 s.summary.first s.summary.count s.summary.sum file.2
        ∙ ap (λ (v : ℕ). gives (record { version = v; summary = s.summary })) (sym file.1),
  )

  -- what the old reader gives, the new one gives with version 1
  pub as_the_old : (s : Summary) → read_said bytes ≡ gives s → any_said bytes ≡ gives (record { version = 1; summary = s })
  unfolding read_said read_rows any_said any_rows summary_in
  as_the_old s said =
      let through = (both_passed (row Newer (newer bytes) ∷ []) (version_rows Plain bytes) (let_pass (summary_of bytes) s (read_rows bytes) said)).1 in
      let numbered = (accepted Plain bytes through).1.trails.numbered in
      rw numbered
      (passed (gives (record { version = 1; summary = summary_in Plain bytes })) (version_rows Plain bytes) through
      ∙ ap (λ (x : Summary). gives (record { version = 1; summary = x })) (same_value (summary_of bytes) s (read_rows bytes) said))

  -- all else is 14
  only : (version : Version) → OnlyMalformed (version_rows version bytes)
  unfolding version_rows
  only version = (refl, (refl, (refl, (refl, (refl, (refl, (refl, (refl, tt))))))))

  pub else_14 : (check_of (version_rows (version_in bytes) bytes) ≡ Ok tt → ⊥) → any_said bytes ≡ refuses 14 0
  unfolding any_said any_rows
  else_14 not = else_malformed (gives (summary_of_any bytes)) (version_rows (version_in bytes) bytes) (only (version_in bytes)) not

  -- and so for the old reader, where the bytes are not newer
  pub old_else_14 : newer bytes ≡ false → (check_of (version_rows Plain bytes) ≡ Ok tt → ⊥) → read_said bytes ≡ refuses 14 0
  unfolding read_said read_rows
  old_else_14 e not = rw e (else_malformed (gives (summary_of bytes)) (version_rows Plain bytes) (only Plain) not)

  -- "A code over 99 is ... 14 when read", at any record
  pub code_over_read : version_in bytes ≡ Reasons → (i : ℕ) → i < (trailer_in bytes).count
      → 99 < number_at bytes (record_place 24 (first_of (trailer_place bytes) (trailer_in bytes)) i + 16) 2 → any_said bytes ≡ refuses 14 0
  code_over_read e i h over =
      else_14
      (λ through.
      let f = (accepted Reasons bytes (subst (λ (r : Version). check_of (version_rows r bytes) ≡ Ok tt) e through)).1 in
      omega (arith, (f.each i h).coded, over))

-- "gives code 0 for version 1 records"
pub no_code : (bytes : List ℕ) (at : ℕ) → (reasoned_at Plain bytes at).reason ≡ 0
unfolding number_at
no_code bytes at = refl
