-- A refused check is the row that it names; what passed is ready for a new card, and its new weights have their places. Assumes nothing.
use Rattle.std.specs.Prelude.{Result, ⊤}
use mathlib.Core.Path.{◌≡◌, sym, ap, ◌∙◌}
use mathlib.Core.Bool.{Bool, false}
use mathlib.Core.List.{List}
use Prim.Native.Nat.{ℕ}
use Rattle.refusal.specs.Rows.{check_of}
use Rattle.book.specs.declared.Book.{Book}
use Rattle.book.specs.Books.{listed_rows}
use Rattle.book.specs.Cards.{card_with, new_card}
use Rattle.book.specs.Checks.{breaks_by}
use Rattle.book.proofs.CardAnswered.{card_ready, card_refused, card_passed}
use Rattle.refusal.specs.declared.Refusal.{Refusal}
use Rattle.book.proofs.Book.card.Goals as goal

-- the check's answer, by the one test of the new weights
checked : (b : Book) (weights : List ℕ) (r : Result ⊤ Refusal) (broken : Bool) → r ≡ check_of (listed_rows b broken false)
    → broken ≡ breaks_by b.count b.card weights → r ≡ check_of (listed_rows b (breaks_by b.count b.card weights) false)
checked b weights r broken e f = e ∙ ap (λ (x : Bool). check_of (listed_rows b x false)) f

pub placed-requires : goal.placed-requires
placed-requires c =
    let b = c.args.self in
    let ws = c.args.weights.now in
    (card_ready b ws (sym (checked b ws _ _ c.check.ensures c.breaks-broken.ensures) ∙ c.in-Ok.is)).1

pub next_card-next-requires : goal.next_card-next-requires
next_card-next-requires c =
    let b = c.args.self in
    let ws = c.args.weights.now in
    (card_ready b ws (sym (checked b ws _ _ c.check.ensures c.breaks-broken.ensures) ∙ c.in-Ok.is)).0

pub returns-in-Err : goal.returns-in-Err
returns-in-Err c =
    let b = c.args.self in
    let ws = c.args.weights.now in
    card_refused b ws c.in-Err.refusal (sym (checked b ws _ _ c.check.ensures c.breaks-broken.ensures) ∙ c.in-Err.is)

pub returns-in-Ok : goal.returns-in-Ok
unfolding new_card
returns-in-Ok c =
    let b = c.args.self in
    let ws = c.args.weights.now in
    card_passed b ws c.next_card-next.result (sym (checked b ws _ _ c.check.ensures c.breaks-broken.ensures) ∙ c.in-Ok.is)
    (c.next_card-next.ensures ∙ ap (card_with b) c.placed.ensures)
