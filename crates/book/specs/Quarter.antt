-- Document 02, Ask 9: a history over cards. Each card has a history of its own, from its first book on; an accepted new card closes it, and what
-- it closes is kept: the card's weights and its N. The theorems are proofs/Quarter.antt. Assumes nothing.
use Rattle.std.specs.Prelude.{◌≡◌, List, [], ◌∷◌, ℕ, ◌+◌, ◌*◌, ◌<◌, pos, get_or}
use Rattle.refusal.specs.Rows.{gives}
use Rattle.whole.specs.Sums.{sum_of}
use Rattle.whole.specs.Whole.{magnitude_of}
use Rattle.whole.proofs.Sums.{sum_to}
use Rattle.units.specs.Rule.{totals}
use Rattle.book.specs.declared.Book.{Book}
use Rattle.book.specs.declared.Moved.{Moved}
use Rattle.book.specs.Books.{partners}
use Rattle.book.specs.Moves.{net_of}
use Rattle.book.specs.Cards.{card_said, Cards}
use Rattle.book.specs.History.{History, running}

-- a card as it stands: its weights and its N
pub record Card : Type 0 where
  pub weights : List ℕ
  pub net : ℕ

abbrev pub card_of : Book → Card
card_of b = record { weights = b.weights; net = net_of b }

-- A history over cards on an opened book: the present card's first book, the book it ends with, what was paid and taken back on the present
-- card, and the cards that are closed, the last one first.
pub data Quarter (opened : Book) : (first book : Book) (paid taken : List ℕ) (closed : List Card) → Type 0 where
  begun : {b : Book} {paid taken : List ℕ} → History opened b paid taken → Quarter opened opened b paid taken []
  renewed : {first b : Book} {paid taken : List ℕ} {closed : List Card} → Quarter opened first b paid taken closed
      → (ws : List ℕ) (r : Moved) → Cards b ws r → (next : Book) → card_said b ws ≡ gives next
      → {b' : Book} {paid' taken' : List ℕ} → History r.book b' paid' taken' → Quarter opened r.book b' paid' taken' (card_of b ∷ closed)

-- a partner's total on a card, at place i: document 01's rule at the card's N
abbrev pub total_on : ℕ → Card → ℕ
total_on i c = get_or (totals c.weights c.net) i 0

-- its totals on cards, added, and all cards' N
unfoldable pub totals_on : ℕ → List Card → ℕ
totals_on i [] = 0
totals_on i (c ∷ cs) = totals_on i cs + total_on i c

unfoldable pub all_net : List Card → ℕ
all_net [] = 0
all_net (c ∷ cs) = all_net cs + c.net

-- "the exact sum": N x weight / W over the cards as one fraction, num / den, den being the product of the cards' W
unfoldable pub den : List Card → ℕ
den [] = 1
den (c ∷ cs) = den cs * sum_of c.weights

unfoldable pub num : ℕ → List Card → ℕ
num i [] = 0
num i (c ∷ cs) = num i cs * sum_of c.weights + c.net * get_or c.weights i 0 * den cs

-- "over c cards": how many
unfoldable pub how_many : List Card → ℕ
how_many [] = 0
how_many (c ∷ cs) = how_many cs + 1

-- a partner's settled and running totals together
abbrev pub settled_at : Book → ℕ → ℕ
settled_at b i = magnitude_of (get_or b.settled i (pos 0))

abbrev pub together : Book → (paid taken : List ℕ) → ℕ → ℕ
together b paid taken i = settled_at b i + running paid taken i

-- "the old cents must stay put": after each call the settled totals are what the closed cards' partners had; "a partner's settled and running totals
-- together add up over the book to all cards' N, and over c cards lie less than c units from the exact sum", where c is the card's number. Of
-- num / den that is said in whole numbers: T x den < num + c x den, and num < T x den + c x den.
pub record Settles (b : Book) (paid taken : List ℕ) (closed : List Card) : Type 0 where
  pub settled : (i : ℕ) → get_or b.settled i (pos 0) ≡ pos (totals_on i closed)
  pub each : (i : ℕ) → together b paid taken i ≡ totals_on i (card_of b ∷ closed)
  pub added : sum_to (together b paid taken) partners ≡ all_net (card_of b ∷ closed)
  pub number : b.card ≡ how_many (card_of b ∷ closed)
  pub not_above : (i : ℕ) → together b paid taken i * den (card_of b ∷ closed) < num i (card_of b ∷ closed) + b.card * den (card_of b ∷ closed)
  pub not_below : (i : ℕ) → num i (card_of b ∷ closed) < together b paid taken i * den (card_of b ∷ closed) + b.card * den (card_of b ∷ closed)
