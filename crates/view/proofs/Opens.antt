-- "It opens on exactly the files of Ask 3": a view of some bytes begins at a place exactly where the bytes end in a file of the definition whose first
-- record starts there. Two answers that the promise of `open_at` allows are equal, and number n is given exactly when its row says.
-- Assumes nothing.
use Rattle.std.specs.Prelude.{Result}
use mathlib.Core.Path.{◌≡◌, sym, ◌∙◌, ap, subst}
use Rattle.statement.specs.declared.Version.{Version}
use Rattle.statement.specs.declared.Version.TheVariants.{Plain}
use mathlib.Core.Logic.{◌↔◌}
use mathlib.Core.List.{List}
use Prim.Native.Nat.{ℕ}
use lib.IntN.{ℤ}
use Rattle.refusal.specs.Rows.{gives, refuses, Holds, means}
use Rattle.refusal.proofs.Check.{passed}
use Rattle.refusal.proofs.ExactlyWhen.{Given, NoneBelow, exactly_when}
use Rattle.refusal.proofs.Joined.{same_value, let_pass}
use Rattle.refusal.proofs.OneToOne.{same_answer}
use Rattle.statement.specs.declared.Summary.{Summary}
use Rattle.statement.specs.declared.SummaryOfAny.{SummaryOfAny}
use Rattle.statement.specs.Files.{version_of, Ends}
use Rattle.statement.specs.Reading.{version_rows, read_rows, summary_of, read_said, any_rows, summary_of_any, any_said}
use Rattle.statement.proofs.ReadBack.{Bytes}
use Rattle.statement.proofs.Exactly.{file_said, exactly}
use Rattle.statement.proofs.Both.{any_exactly}
use Rattle.view.specs.Opening.{open_said, open_any_said}
use Rattle.refusal.specs.declared.Refusal.{Refusal}
use Rattle.view.proofs.Openings.{open_given, open_any_given}

module _ (bytes : List ℕ) where
  given_file : Bytes bytes → (first : ℕ) → open_said bytes ≡ gives first → (count : ℕ) × (sum : ℤ) × Ends Plain bytes first count sum
  unfolding open_said read_said
  given_file b first said =
      let s : Summary = summary_of bytes in
      let through = let_pass s.first first (read_rows bytes) said in
      let file = (exactly bytes b s).0 (passed (gives s) (read_rows bytes) through) in
      (s.count, s.sum, subst (λ (k : ℕ). Ends Plain bytes k s.count s.sum) (same_value s.first first (read_rows bytes) said) file)

  pub opens_exactly : Bytes bytes → (first : ℕ) → (open_said bytes ≡ gives first) ↔ ((count : ℕ) × (sum : ℤ) × Ends Plain bytes first count sum)
  opens_exactly b first = (
    given_file b first,
    λ file. sym (open_given bytes (record { first = first; count = file.0; sum = file.1 }) (file_said bytes first file.0 file.1 file.2)),
  )

  pub open_exactly_when : (n : ℕ) → ((blamed : ℕ) × (open_said bytes ≡ refuses n blamed)) ↔ (Holds n (read_rows bytes) × NoneBelow n (read_rows bytes))
  unfolding open_said read_rows version_rows Given
  open_exactly_when n = exactly_when (summary_of bytes).first n (read_rows bytes) tt

  -- Ask 13: a view of both versions opens on exactly the files of the two
  given_any : Bytes bytes → (version first : ℕ) → open_any_said bytes ≡ gives (version, first)
      → (v : Version) × (version ≡ version_of v) × ((count : ℕ) × (sum : ℤ) × Ends v bytes first count sum)
  unfolding open_any_said any_said
  given_any b version first said =
      let s : SummaryOfAny = summary_of_any bytes in
      let through = let_pass (s.version, s.summary.first) (version, first) (any_rows bytes) said in
      let same = same_value (s.version, s.summary.first) (version, first) (any_rows bytes) said in
      let file = (any_exactly bytes b s).0 (passed (gives s) (any_rows bytes) through) in (
        file.0,
        ap (λ (p : ℕ × ℕ). p.0) (sym same) ∙ file.1,
        (s.summary.count, s.summary.sum, subst (λ (k : ℕ). Ends file.0 bytes k s.summary.count s.summary.sum) (ap (λ (p : ℕ × ℕ). p.1) same) file.2),
      )

  pub opens_any_exactly : Bytes bytes → (version first : ℕ)
      → (open_any_said bytes ≡ gives (version, first)) ↔ ((v : Version) × (version ≡ version_of v) × ((count : ℕ) × (sum : ℤ) × Ends v bytes first count sum))
  opens_any_exactly b version first = (
    given_any b version first,
    λ file.
        let f = file.2 in
        sym (open_any_given bytes (record { version = version; summary = record { first = first; count = f.0; sum = f.1 } })
        ((any_exactly bytes b (record { version = version; summary = record { first = first; count = f.0; sum = f.1 } })).1 (file.0, file.1, f.2))),
  )

  pub open_any_exactly_when : (n : ℕ) → ((blamed : ℕ) × (open_any_said bytes ≡ refuses n blamed)) ↔ (Holds n (any_rows bytes) × NoneBelow n (any_rows bytes))
  unfolding open_any_said any_rows version_rows Given
  open_any_exactly_when n = let s : SummaryOfAny = summary_of_any bytes in exactly_when (s.version, s.summary.first) n (any_rows bytes) tt

pub one_open : (bytes : List ℕ) (r s : Result ℕ Refusal) → means r ≡ open_said bytes → means s ≡ open_said bytes → r ≡ s
one_open bytes r s first second = same_answer r s (first ∙ sym second)

pub one_open_any : (bytes : List ℕ) (r s : Result (ℕ × ℕ) Refusal) → means r ≡ open_any_said bytes → means s ≡ open_any_said bytes → r ≡ s
one_open_any bytes r s first second = same_answer r s (first ∙ sym second)
