-- Units handed out one at a time to the largest remainder not yet served: each place is served at most once, only where its
-- remainder is above 0, and before every place whose remainder is smaller, or as large and at a higher place. So long as the
-- remainders, each below W, add up to W for each unit, some remainder not yet served is above 0. Assumes nothing.
use mathlib.Core.Path.{◌≡◌, refl, sym, ◌∙◌, ap}
use mathlib.Core.Logic.{◌≢◌, ◌⊎◌, inl, inr, ⊎_elim}
use mathlib.Core.List.{List, [], ◌∷◌}
use Prim.Native.Nat.{ℕ, zero, suc, ◌+◌, ◌*◌, ◌≤◌, ◌<◌}
use native.Mathlib.Nat.{eq-or-lt_of_le}
use native.Mathlib.Decide.{ℕ_discrete}
use native.Mathlib.Omega.{arith}
use lib.ListN.{length, get_or, set, length-set}
use lib.Seq.{get_or-set_same, get_or-set_other}
use Rattle.whole.specs.Sums.{sum_of}
use Rattle.whole.proofs.Sums.{sum_set}
use Rattle.remainder.specs.Rule.{largest, Handed, serve, hand_out}
use Rattle.remainder.proofs.Largest.{IsLargest, largest_is}

-- lengths stay, whatever is handed out
pub shares_length : (units : ℕ) (h : Handed) → length (hand_out units h).shares ≡ length h.shares
unfolding hand_out
shares_length zero h = refl
shares_length (suc units) h = length-set (hand_out units h).shares _ _ ∙ shares_length units h

pub unserved_length : (units : ℕ) (h : Handed) → length (hand_out units h).unserved ≡ length h.unserved
unfolding hand_out
unserved_length zero h = refl
unserved_length (suc units) h = length-set (hand_out units h).unserved _ _ ∙ unserved_length units h

-- each unit raises the sum by one, for there is a place to serve
pub handed_sum : (units : ℕ) (h : Handed) → 1 ≤ length h.unserved → length h.unserved ≡ length h.shares
    → sum_of (hand_out units h).shares ≡ sum_of h.shares + units
unfolding hand_out
handed_sum zero h some same = omega arith
handed_sum (suc units) h some same =
    let now : Handed = hand_out units h in
    let wide : length now.unserved ≡ length h.unserved = unserved_length units h in
    let many : length now.shares ≡ length h.shares = shares_length units h in
    let p : ℕ = largest now.unserved (length now.unserved) in
    let inside : p < length now.unserved = (largest_is now.unserved (length now.unserved) (omega arith)).below in
    omega (arith, sum_set now.shares p (omega arith), handed_sum units h some same)

-- a sum above 0 has a place above 0
Some : List ℕ → Type 0
Some l = (i : ℕ) × (i < length l) × (0 < get_or l i 0)

some_place : (l : List ℕ) → 0 < sum_of l → Some l
unfolding sum_of Some
some_place [] h = absurd (omega arith)
some_place (zero ∷ l) h = let rest : Some l = some_place l (omega arith) in (suc rest.0, omega arith, rest.2)
some_place (suc x ∷ l) h = (0, omega arith, omega arith)

-- a place set to 0 takes what stood there from the sum
sum_cleared : (l : List ℕ) (p : ℕ) → sum_of (set l p 0) + get_or l p 0 ≡ sum_of l
unfolding sum_of
sum_cleared [] p = refl
sum_cleared (x ∷ l) zero = omega arith
sum_cleared (x ∷ l) (suc p) = omega (arith, sum_cleared l p)

-- a place with share f before, and remainder r: as it was, or served, which only a remainder above 0 is
pub data Place (f r share rest : ℕ) : Type 0 where
  kept : share ≡ f → rest ≡ r → Place f r share rest
  served : share ≡ f + 1 → rest ≡ 0 → 0 < r → Place f r share rest

-- place i is to be served before place j: by the larger remainder, ties by the lower place
abbrev pub Before : List ℕ → ℕ → ℕ → Type 0
Before rs i j = (get_or rs j 0 < get_or rs i 0) ⊎ ((get_or rs j 0 ≡ get_or rs i 0) × (i < j))

module _ (fs rs : List ℕ) (W : ℕ) where
  -- what holds after so many units
  pub record Fair (units : ℕ) (h : Handed) : Type 0 where
    pub many : length h.shares ≡ length fs
    pub wide : length h.unserved ≡ length fs
    pub left : sum_of rs ≤ sum_of h.unserved + units * W
    pub place : (i : ℕ) → Place (get_or fs i 0) (get_or rs i 0) (get_or h.shares i 0) (get_or h.unserved i 0)
    pub order : (i j : ℕ) → j < length fs → get_or h.shares i 0 ≡ get_or fs i 0 + 1 → get_or h.shares j 0 ≡ get_or fs j 0 → Before rs i j

  pub fair_start : length rs ≡ length fs → Fair 0 (record { shares = fs; unserved = rs })
  fair_start e =
      record {
        many = refl;
        wide = e;
        left = omega arith;
        place = λ i. kept refl refl;
        order = λ i j l more same. absurd (omega arith);
      }

  -- one unit more, while there is enough for it
  module _ (small : (i : ℕ) → get_or rs i 0 < W) (units : ℕ) (enough : suc units * W ≤ sum_of rs) (h : Handed) (fair : Fair units h) where
    p : ℕ
    p = largest h.unserved (length h.unserved)

    found : Some h.unserved
    found = some_place h.unserved (omega (arith, small 0, fair.left))

    is : IsLargest h.unserved (length h.unserved) p
    unfolding Some p
    is = largest_is h.unserved (length h.unserved) (omega (arith, found.1))

    above : 0 < get_or h.unserved p 0
    unfolding Some
    above = omega (arith, is.top found.0 found.1, found.2)

    -- a place whose share is as before, or whose remainder is still there, was not served
    was_kept : (i : ℕ) → (0 < get_or h.unserved i 0) ⊎ (get_or h.shares i 0 ≡ get_or fs i 0)
        → (get_or h.shares i 0 ≡ get_or fs i 0) × (get_or h.unserved i 0 ≡ get_or rs i 0)
    was_kept i sign = go (fair.place i) sign
      where
        go : Place (get_or fs i 0) (get_or rs i 0) (get_or h.shares i 0) (get_or h.unserved i 0)
            → (0 < get_or h.unserved i 0) ⊎ (get_or h.shares i 0 ≡ get_or fs i 0)
            → (get_or h.shares i 0 ≡ get_or fs i 0) × (get_or h.unserved i 0 ≡ get_or rs i 0)
        go (kept share rest) sign = (share, rest)
        go (served share rest some) (inl a) = absurd (omega arith)
        go (served share rest some) (inr b) = absurd (omega arith)

    here : p < length h.shares
    here = omega (arith, is.below, fair.many, fair.wide)

    now_share : get_or (serve h).shares p 0 ≡ get_or h.shares p 0 + 1
    unfolding p
    now_share = get_or-set_same h.shares p (get_or h.shares p 0 + 1) 0 here

    now_rest : get_or (serve h).unserved p 0 ≡ 0
    unfolding p
    now_rest = get_or-set_same h.unserved p 0 0 is.below

    still_share : (i : ℕ) → i ≢ p → get_or (serve h).shares i 0 ≡ get_or h.shares i 0
    unfolding p
    still_share i e = get_or-set_other h.shares p i (get_or h.shares p 0 + 1) 0 e

    still_rest : (i : ℕ) → i ≢ p → get_or (serve h).unserved i 0 ≡ get_or h.unserved i 0
    unfolding p
    still_rest i e = get_or-set_other h.unserved p i 0 0 e

    place_next : (i : ℕ) → Place (get_or fs i 0) (get_or rs i 0) (get_or (serve h).shares i 0) (get_or (serve h).unserved i 0)
    place_next i = go (ℕ_discrete i p)
      where
        go : Dec (i ≡ p) → Place (get_or fs i 0) (get_or rs i 0) (get_or (serve h).shares i 0) (get_or (serve h).unserved i 0)
        go (yes e) =
            let was = was_kept p (inl above) in
            rw e (served (now_share ∙ ap (λ (x : ℕ). x + 1) was.0) now_rest (omega (arith, above, was.1)))
        go (no e) = rw (still_share i e, still_rest i e) (fair.place i)

    -- the place served now stands before each that is still not served
    served_before : (j : ℕ) → j ≢ p → j < length fs → get_or h.shares j 0 ≡ get_or fs j 0 → Before rs p j
    served_before j e inside same = go (was_kept j (inr same)).1 (was_kept p (inl above)).1 (is.top j (omega (arith, fair.wide)))
      where
        go : get_or h.unserved j 0 ≡ get_or rs j 0 → get_or h.unserved p 0 ≡ get_or rs p 0 → get_or h.unserved j 0 ≤ get_or h.unserved p 0
            → Before rs p j
        go restj restp most =
            ⊎_elim (λ tie. inr (omega arith, lower (λ less. omega (arith, is.first j less)))) (λ less. inl (omega arith)) (eq-or-lt_of_le most)
          where
            lower : (j < p → ⊥) → p < j
            lower not_lower = omega arith

    order_next : (i j : ℕ) → j < length fs → get_or (serve h).shares i 0 ≡ get_or fs i 0 + 1 → get_or (serve h).shares j 0 ≡ get_or fs j 0 → Before rs i j
    order_next i j inside more same = go (ℕ_discrete i p) (ℕ_discrete j p)
      where
        go : Dec (i ≡ p) → Dec (j ≡ p) → Before rs i j
        go _ (yes e) = absurd (omega (arith, rw e at same, now_share, (was_kept p (inl above)).0))
        go (no f) (no e) = fair.order i j inside (sym (still_share i f) ∙ more) (sym (still_share j e) ∙ same)
        go (yes f) (no e) = rw f (served_before j e inside (sym (still_share j e) ∙ same))

    fair_next : Fair (suc units) (serve h)
    unfolding p
    fair_next =
        record {
          many = length-set h.shares _ _ ∙ fair.many;
          wide = length-set h.unserved _ _ ∙ fair.wide;
          left = omega (arith, sum_cleared h.unserved p, (was_kept p (inl above)).1, small p, fair.left);
          place = place_next;
          order = order_next;
        }

  -- after any number of units that the remainders have enough for
  pub fair_after : ((i : ℕ) → get_or rs i 0 < W) → length rs ≡ length fs → (units : ℕ) → units * W ≤ sum_of rs
      → Fair units (hand_out units (record { shares = fs; unserved = rs }))
  unfolding hand_out
  fair_after small same zero enough = fair_start same
  fair_after small same (suc units) enough =
      fair_next small units enough (hand_out units (record { shares = fs; unserved = rs })) (fair_after small same units (omega arith))
