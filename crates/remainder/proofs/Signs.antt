-- The negative amount gets the negative shares: its magnitude is the same, and the other sign is the opposite number; 0 has no
-- sign, and its shares are all 0. Assumes nothing.
use mathlib.Core.Path.{◌≡◌, refl, ◌∙◌, ap}
use mathlib.Core.Bool.{Bool, true, false, not}
use mathlib.Core.List.{List, [], ◌∷◌, ◌++◌, map}
use Prim.Native.Nat.{ℕ, zero, suc, ◌*◌, ◌/◌}
use native.Mathlib.Nat.{zero-mul, zero-div, zero-sub}
use lib.IntN.{ℤ, pos, negsuc, neg_ℤ}
use lib.ListN.{length, drop, length-map}
use Rattle.whole.specs.Sums.{sum_of}
use Rattle.whole.specs.Whole.{negative, magnitude_of, signed_of}
use Rattle.whole.proofs.Laws.{signed_opposite}
use Rattle.remainder.specs.Rule.{rounded_down, remainders, units_left, hand_out, shares_of, signed_shares}
use Rattle.remainder.proofs.Shares.{length_is}

opposites : (sign : Bool) (l : List ℕ) → map (signed_of (not sign)) l ≡ map neg_ℤ (map (signed_of sign) l)
opposites sign [] = refl
opposites sign (x ∷ l) = rw (signed_opposite sign x, opposites sign l)

-- nothing is shared as nothings, which are their own opposites
none_left : (ws : List ℕ) → shares_of 0 ws ≡ rounded_down 0 ws
unfolding shares_of units_left hand_out
none_left ws =
    ap (λ (units : ℕ). (hand_out units (record { shares = rounded_down 0 ws; unserved = remainders 0 ws })).shares) (zero-sub (sum_of (rounded_down 0 ws)))

nothings : (W : ℕ) (l : List ℕ) → map pos (map (λ w. 0 * w / W) l) ≡ map neg_ℤ (map pos (map (λ w. 0 * w / W) l))
nothings W [] = refl
nothings W (x ∷ l) = rw (zero-mul x, zero-div W, ← nothings W l)

pub opposite_shares : (n : ℤ) (ws : List ℕ) → signed_shares (neg_ℤ n) ws ≡ map neg_ℤ (signed_shares n ws)
unfolding signed_shares rounded_down
opposite_shares (pos zero) ws = rw (none_left ws) (nothings (sum_of ws) ws)
opposite_shares (pos (suc m)) ws = opposites false (shares_of (suc m) ws)
opposite_shares (negsuc m) ws = opposites true (shares_of (suc m) ws)

-- the sign put on the shares of the magnitude, in front of what stands
pub put_sign : (n : ℤ) (ws : List ℕ) (out : List ℤ) (sign : Bool) (m : ℕ) → sign ≡ negative n → m ≡ magnitude_of n
    → map (signed_of sign) (shares_of m ws) ++ drop (length ws) out ≡ signed_shares n ws ++ drop (length (signed_shares n ws)) out
unfolding signed_shares
put_sign n ws out sign m same_sign same-m =
    let long : length (signed_shares n ws) ≡ length ws = length-map (shares_of (magnitude_of n) ws) (signed_of (negative n)) ∙ length_is (magnitude_of n) ws in
    rw (long, same_sign, same-m)
