-- Document 01, "One-off sharing by largest remainder": the shares of a magnitude m by a list of weights with sum W.
-- Cited by `share`. That it is document 01's wording and no other list's: specs/Wording.antt. Assumes nothing.
use Rattle.std.specs.Prelude.{Bool, true, false, cond, List, map, ℕ, zero, suc, ◌+◌, ◌-◌, ◌*◌, ◌/◌, ◌%◌, ltb, ℤ, length, get_or, set}
use Rattle.whole.specs.Sums.{sum_of}
use Rattle.whole.specs.Whole.{negative, magnitude_of, signed_of}

-- "Share the magnitude m: each gets m x weight / W rounded down"
unfoldable pub rounded_down : ℕ → List ℕ → List ℕ
rounded_down m ws = map (λ w. m * w / sum_of ws) ws

-- "the units left"
unfoldable pub units_left : ℕ → List ℕ → ℕ
units_left m ws = m - sum_of (rounded_down m ws)

-- the "remainders of m x weight by W"
unfoldable pub remainders : ℕ → List ℕ → List ℕ
remainders m ws = map (λ w. m * w % sum_of ws) ws

-- the largest of the remainders at the first n places, "ties to the lower place"
unfoldable pub largest : List ℕ → ℕ → ℕ
largest rs zero = 0
largest rs (suc n) = cond (ltb (get_or rs (largest rs n) 0) (get_or rs n 0)) n (largest rs n)

-- the shares so far, and the remainders not yet served: a served place's is 0
pub record Handed : Type 0 where
  pub shares : List ℕ
  pub unserved : List ℕ

-- one unit to the largest remainder not yet served
abbrev pub serve : Handed → Handed
serve h =
    let p = largest h.unserved (length h.unserved) in
    record { shares = set h.shares p (get_or h.shares p 0 + 1); unserved = set h.unserved p 0 }

-- "the units left go one each to the largest remainders": after so many units
unfoldable pub hand_out : ℕ → Handed → Handed
hand_out zero h = h
hand_out (suc units) h = serve (hand_out units h)

-- the shares of the magnitude m
unfoldable pub shares_of : ℕ → List ℕ → List ℕ
shares_of m ws = (hand_out (units_left m ws) (record { shares = rounded_down m ws; unserved = remainders m ws })).shares

-- "then the amount's sign is put on"
unfoldable pub signed_shares : ℤ → List ℕ → List ℤ
signed_shares n ws = map (signed_of (negative n)) (shares_of (magnitude_of n) ws)
