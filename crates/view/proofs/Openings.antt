-- From what a reader says of some bytes to where a view of them begins. Assumes nothing.
use Rattle.std.specs.Prelude.{Result, Ok, Err}
use mathlib.Core.Path.{◌≡◌, sym, ◌∙◌, ap}
use mathlib.Core.List.{List}
use Prim.Native.Nat.{ℕ}
use Rattle.refusal.specs.declared.Refusal.{Refusal}
use Rattle.refusal.specs.Number.{number_of, blamed_of}
use Rattle.refusal.specs.Rows.{Said, gives, refuses, means}
use Rattle.refusal.proofs.Check.{passed}
use Rattle.refusal.proofs.Joined.{same_value, let_pass, same_refused}
use Rattle.statement.specs.declared.Summary.{Summary}
use Rattle.statement.specs.declared.SummaryOfAny.{SummaryOfAny}
use Rattle.statement.specs.Reading.{read_rows, summary_of, read_said, any_rows, summary_of_any, any_said}
use Rattle.view.specs.Opening.{open_said, open_any_said}

module _ (bytes : List ℕ) where
  pub open_given : (s : Summary) → read_said bytes ≡ gives s → gives s.first ≡ open_said bytes
  unfolding read_said open_said
  open_given s said =
      sym
      (passed (gives (summary_of bytes).first) (read_rows bytes) (let_pass (summary_of bytes) s (read_rows bytes) said)
      ∙ ap (λ (x : Summary). gives x.first) (same_value (summary_of bytes) s (read_rows bytes) said))

  pub open_found : (r : Result Summary Refusal) → means r ≡ read_said bytes → (s : Summary) → r ≡ Ok s → gives s.first ≡ open_said bytes
  open_found r said s is = open_given s (sym said ∙ ap means is)

  pub open_refused : (r : Result Summary Refusal) → means r ≡ read_said bytes → (x : Refusal) → r ≡ Err x → ◌≡◌ {A = Said ℕ} (refuses (number_of x) (blamed_of x)) (open_said bytes)
  unfolding read_said open_said
  open_refused r said x is =
      sym (same_refused (summary_of bytes) (gives (summary_of bytes).first) (number_of x) (blamed_of x) (read_rows bytes) (sym said ∙ ap means is))

-- the same of the reader of both versions
module _ (bytes : List ℕ) where
  pub open_any_given : (s : SummaryOfAny) → any_said bytes ≡ gives s → gives (s.version, s.summary.first) ≡ open_any_said bytes
  unfolding any_said open_any_said
  open_any_given s said =
      let x : SummaryOfAny = summary_of_any bytes in
      sym
      (passed (gives (x.version, x.summary.first)) (any_rows bytes) (let_pass x s (any_rows bytes) said)
      ∙ ap (λ (y : SummaryOfAny). gives (y.version, y.summary.first)) (same_value x s (any_rows bytes) said))

  pub open_any_found : (r : Result SummaryOfAny Refusal) → means r ≡ any_said bytes → (s : SummaryOfAny) → r ≡ Ok s → gives (s.version, s.summary.first) ≡ open_any_said bytes
  open_any_found r said s is = open_any_given s (sym said ∙ ap means is)

  pub open_any_refused : (r : Result SummaryOfAny Refusal) → means r ≡ any_said bytes → (x : Refusal) → r ≡ Err x
      → ◌≡◌ {A = Said (ℕ × ℕ)} (refuses (number_of x) (blamed_of x)) (open_any_said bytes)
  unfolding any_said open_any_said
  open_any_refused r said x is =
      let s : SummaryOfAny = summary_of_any bytes in
      sym (same_refused s (gives (s.version, s.summary.first)) (number_of x) (blamed_of x) (any_rows bytes) (sym said ∙ ap means is))
