-- One call: a posting's or a refund's promise is the call's, by what it is said to be; and a call's number is that of its outcome. Assumes nothing.
use Rattle.std.specs.Prelude.{Result, Ok, Err, ⊤}
use mathlib.Core.Path.{◌≡◌, ap, ◌∙◌}
use mathlib.Core.Bool.{Bool, true, false}
use mathlib.Core.List.{List}
use Prim.Native.Nat.{ℕ, ◌*◌}
use lib.IntN.{ℤ}
use lib.ListN.{set}
use Rattle.refusal.specs.Number.{number_in}
use Rattle.refusal.specs.Rows.{Said, means_outcome}
use Rattle.book.specs.declared.Book.{Book}
use Rattle.book.specs.declared.Moved.{Moved}
use Rattle.book.specs.Books.{partners}
use Rattle.book.specs.Moves.{amount_of, Posts, Refunds}
use Rattle.bulk.specs.Runs.{call_said, call_pays, number_said, written}
use Rattle.refusal.specs.declared.Refusal.{Refusal}
use Rattle.bulk.specs.Serving.{Calls, Turned}

module _ (refund : Bool) (b : Book) (c : ℤ) (r : Moved) where
  pub call_posts : refund ≡ false → Posts b (amount_of b c) r → Calls refund b c r
  unfolding call_said call_pays
  call_posts e p = rw e p

  pub call_refunds : refund ≡ true → Refunds b (amount_of b c) r → Calls refund b c r
  unfolding call_said call_pays
  call_refunds e p = rw e p

-- the number of an outcome is that of what it says, whatever the value
pub number_outcome : {n : ℕ} (o : Result ⊤ Refusal) (v : ℕ) (said : Said ℕ) → means_outcome o v ≡ said → n ≡ number_in o → n ≡ number_said said
unfolding number_said
number_outcome (Ok tt) v said e f = f ∙ ap number_said e
number_outcome (Err r) v said e f = f ∙ ap number_said e

-- a call whose payouts and number are written is served; z is the coefficient as the program has it
pub turned : (b : Book) (refund : Bool) (c z : ℤ) (j : ℕ) (payouts numbers ps : List ℕ) (n : ℕ) (r : Moved) → z ≡ c → Calls refund b z r
    → ps ≡ written payouts (j * partners) r.payouts partners → n ≡ number_in r.outcome
    → Turned b refund c j payouts numbers r.book ps (set numbers j n)
turned b refund c z j payouts numbers ps n r same answer paid number =
    rw (← same) (record {
      book = answer.book;
      paid = paid ∙ ap (λ (l : List ℕ). written payouts (j * partners) l partners) answer.paid;
      said = ap (set numbers j) (number_outcome r.outcome _ _ answer.outcome number);
    })
