-- Over cards, what the auditor asks of batches: two histories with the same cards and the same N on each end with the same totals; and a new card moves
-- no cent that was paid or settled. Both by `settles`. Assumes nothing.
use mathlib.Core.Path.{◌≡◌, sym, ◌∙◌, ap}
use mathlib.Core.List.{List, ◌∷◌}
use Prim.Native.Nat.{ℕ}
use lib.IntN.{pos}
use lib.ListN.{get_or}
use Rattle.refusal.specs.Rows.{gives}
use Rattle.currency.specs.declared.Currency.{Currency}
use Rattle.book.specs.declared.Book.{Book}
use Rattle.book.specs.declared.Moved.{Moved}
use Rattle.book.specs.Moves.{open_said}
use Rattle.book.specs.Cards.{card_said, Cards}
use Rattle.book.specs.History.{none}
use Rattle.book.specs.Quarter.{Card, card_of, Quarter, renewed, totals_on, together}
use Rattle.book.proofs.Quarter.{settles}

-- whatever calls came between, and on whatever books they were opened: the closed cards and the present one tell every partner's totals
pub same_cards
    : (c c' : Currency) (ws ws' : List ℕ) (opened opened' : Book) (accepted : open_said c ws ≡ gives opened) (accepted' : open_said c' ws' ≡ gives opened')
    → {first b first' b' : Book} {paid taken paid' taken' : List ℕ} {closed : List Card}
    → Quarter opened first b paid taken closed → Quarter opened' first' b' paid' taken' closed → card_of b ≡ card_of b'
    → (i : ℕ) → (get_or b.settled i (pos 0) ≡ get_or b'.settled i (pos 0)) × (together b paid taken i ≡ together b' paid' taken' i)
same_cards c c' ws ws' opened opened' accepted accepted' {closed = closed} q q' same i =
    let s = settles c ws opened accepted q in
    let s' = settles c' ws' opened' accepted' q' in
    (s.settled i ∙ sym (s'.settled i), s.each i ∙ ap (λ (k : Card). totals_on i (k ∷ closed)) same ∙ sym (s'.each i))

-- "the old cents must stay put": behind a new card the settled totals are what each partner's settled and running totals were together
pub stays_put
    : (c : Currency) (ws : List ℕ) (opened : Book) (accepted : open_said c ws ≡ gives opened) → {first b : Book} {paid taken : List ℕ} {closed : List Card}
    → (q : Quarter opened first b paid taken closed) (new : List ℕ) (r : Moved) → Cards b new r → (next : Book) → card_said b new ≡ gives next
    → (i : ℕ) → get_or r.book.settled i (pos 0) ≡ pos (together b paid taken i)
stays_put c ws opened accepted q new r p next e i =
    (settles c ws opened accepted (renewed q new r p next e none)).settled i ∙ ap pos (sym ((settles c ws opened accepted q).each i))
