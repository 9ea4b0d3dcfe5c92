-- The one law of the table's order, for any rows that rise: a number is given exactly when a row of it holds and no row that stands before
-- it in the order does. A row that holds stops the choice, and the rows behind it have no smaller rank. Assumes nothing.
use mathlib.Core.Path.{◌≡◌, refl, sym, ◌∙◌, ap, subst}
use mathlib.Core.Bool.{Bool, true, false, ◌&&◌}
use mathlib.Core.List.{List, [], ◌∷◌}
use mathlib.Core.Logic.{◌↔◌}
use Prim.Native.Nat.{ℕ, ◌≤◌, ◌<◌}
use native.Mathlib.Nat.{le_trans}
use native.Mathlib.Omega.{arith}
use lib.Dec.{T, leb, leb→le}
use lib.ListN.{get_or}
use Rattle.refusal.specs.declared.Refusal.{Refusal}
use Rattle.refusal.specs.declared.Refusal.TheVariants.{Mode, Scale, Magnitude, Unknown, Differ, Rate, Date, Days, Weights, Negative, Room, Refund, Limit, Malformed, NoNet, NoNumber, Newer}
use Rattle.refusal.specs.Number.{number_of, blamed_of}
use Rattle.refusal.specs.Rank.{asked, rank_of}
use Rattle.refusal.specs.Rows.{Said, gives, refuses, Row, row, rank_at, first_row, rising_from, rising, Holds, here, later}

-- number n is given by these rows, whatever the value would be
unfoldable pub Given : {A : Type 0} → A → ℕ → List Row → Type 0
Given value n rows = (blamed : ℕ) × (first_row rows (gives value) ≡ refuses n blamed)

-- no row that stands before n in the order holds
unfoldable pub NoneBelow : ℕ → List Row → Type 0
NoneBelow n rows = (m : ℕ) → rank_of m < rank_of n → Holds m rows → ⊥

-- each number is given exactly when a row of it holds and none before it does
abbrev pub Exactly : {A : Type 0} → A → List Row → Type 0
Exactly value rows = (n : ℕ) → Given value n rows ↔ (Holds n rows × NoneBelow n rows)

-- every refusal's number is in the order, so that its rank tells it
in_order : (r : Refusal) → get_or asked (rank_of (number_of r)) 0 ≡ number_of r
in_order Mode = refl
in_order Scale = refl
in_order Magnitude = refl
in_order Unknown = refl
in_order Differ = refl
in_order Rate = refl
in_order (Date d) = refl
in_order Days = refl
in_order Weights = refl
in_order Negative = refl
in_order Room = refl
in_order Refund = refl
in_order Limit = refl
in_order Malformed = refl
in_order NoNet = refl
in_order NoNumber = refl
in_order Newer = refl

-- and so is every number of which a row holds
held_in_order : (n : ℕ) (rows : List Row) → Holds n rows → get_or asked (rank_of n) 0 ≡ n
held_in_order n (row r b ∷ rows) (here x xs number holds) = subst (λ (m : ℕ). get_or asked (rank_of m) 0 ≡ m) number (in_order r)
held_in_order n (x ∷ rows) (later y ys h) = held_in_order n rows h
held_in_order n [] held = elim held [ ]

same_rank : (r : Refusal) (n : ℕ) (rows : List Row) → Holds n rows → rank_of (number_of r) ≡ rank_of n → number_of r ≡ n
same_rank r n rows h same = sym (in_order r) ∙ ap (λ (k : ℕ). get_or asked k 0) same ∙ held_in_order n rows h

and_left : (a b : Bool) → T (a && b) → T a
and_left true b t = tt
and_left false b t = t

and_right : (a b : Bool) → T (a && b) → T b
and_right true b t = t
and_right false b t = absurd t

-- rows that rise from rank k have no row of a smaller rank
from : (k : ℕ) (rows : List Row) → T (rising_from k rows) → (m : ℕ) → Holds m rows → k ≤ rank_of m
from k (x ∷ rows) rises m (here y ys number holds) =
    subst (λ (n : ℕ). k ≤ rank_of n) number (leb→le k (rank_at x) (and_left (leb k (rank_at x)) (rising_from (rank_at x) rows) rises))
from k (x ∷ rows) rises m (later y ys h) =
    le_trans (leb→le k (rank_at x) (and_left (leb k (rank_at x)) (rising_from (rank_at x) rows) rises))
    (from (rank_at x) rows (and_right (leb k (rank_at x)) (rising_from (rank_at x) rows) rises) m h)
from k [] rises m held = elim held [ ]

-- so the first row has the least rank
first_least : (k : ℕ) (x : Row) (rows : List Row) → T (rising_from k (x ∷ rows)) → (m : ℕ) → Holds m (x ∷ rows) → rank_at x ≤ rank_of m
first_least k x rows rises m (here y ys number holds) = subst (λ (n : ℕ). rank_at x ≤ rank_of n) number (omega arith)
first_least k x rows rises m (later y ys h) =
    from (rank_at x) rows (and_right (leb k (rank_at x)) (rising_from (rank_at x) rows) rises) m h

not_held : (r : Refusal) (rows : List Row) (n : ℕ) → Holds n (row r false ∷ rows) → Holds n rows
not_held r rows n (here x xs number holds) = let z : ◌≡◌ {A = ℕ} 0 1 = cc in absurd (omega arith)
not_held r rows n (later x xs h) = h

module _ {A : Type 0} (value : A) where
  number_same : {m n b c : ℕ} → ◌≡◌ {A = Said A} (refuses m b) (refuses n c) → m ≡ n
  number_same e = cc

  no_value : {n b : ℕ} → ◌≡◌ {A = Said A} (gives value) (refuses n b) → ⊥
  no_value e = let z : ◌≡◌ {A = ℕ} 0 1 = cc in omega arith

  given_holds : (n : ℕ) (rows : List Row) → Given value n rows → Holds n rows
  unfolding Given
  given_holds n [] (b, e) = absurd (no_value e)
  given_holds n (row r true ∷ rows) (b, e) = here (row r true) rows (number_same e) refl
  given_holds n (row r false ∷ rows) (b, e) = later (row r false) rows (given_holds n rows (b, e))

  given_below : (k n : ℕ) (rows : List Row) → T (rising_from k rows) → Given value n rows → NoneBelow n rows
  unfolding Given NoneBelow
  given_below k n [] rises (b, e) m less h = absurd (no_value e)
  given_below k n (row r true ∷ rows) rises (b, e) m less h =
      let first : rank_of (number_of r) ≤ rank_of m = first_least k (row r true) rows rises m h in
      let same : rank_of (number_of r) ≡ rank_of n = ap rank_of (number_same e) in omega arith
  given_below k n (row r false ∷ rows) rises (b, e) m less h =
      given_below (rank_of (number_of r)) n rows (and_right (leb k (rank_of (number_of r))) (rising_from (rank_of (number_of r)) rows) rises) (b, e) m less
      (not_held r rows m h)

  holds_given : (k n : ℕ) (rows : List Row) → T (rising_from k rows) → Holds n rows → NoneBelow n rows → Given value n rows
  unfolding Given NoneBelow
  holds_given k n (row r true ∷ rows) rises h none =
      let first : rank_of (number_of r) ≤ rank_of n = first_least k (row r true) rows rises n h in
      let held : Holds (number_of r) (row r true ∷ rows) = here (row r true) rows refl refl in
      let least : rank_of (number_of r) < rank_of n → ⊥ = λ less. none (number_of r) less held in
      let rank : rank_of (number_of r) ≡ rank_of n = omega arith in
      (blamed_of r, ap (λ (m : ℕ). refuses m (blamed_of r)) (same_rank r n (row r true ∷ rows) h rank))
  holds_given k n (row r false ∷ rows) rises h none =
      holds_given (rank_of (number_of r)) n rows (and_right (leb k (rank_of (number_of r))) (rising_from (rank_of (number_of r)) rows) rises)
      (not_held r rows n h)
      (λ m less held. none m less (later (row r false) rows held))
  holds_given k n [] rises h none = elim h [ ]

  -- THE LAW: for rows in the order in which they are asked, number n is given exactly when a row of n holds and no row before it does
  pub exactly_when : (n : ℕ) (rows : List Row) → T (rising rows) → Given value n rows ↔ (Holds n rows × NoneBelow n rows)
  exactly_when n rows rises =
      (λ given. (given_holds n rows given, given_below 0 n rows rises given), λ h. holds_given 0 n rows rises h.0 h.1)
