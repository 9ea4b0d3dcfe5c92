-- Every line of the table has a rate of six figures and a scale of at most 2: one computed test over the whole table, read off at each line.
-- The powers of ten up to 10^12 are those of the arithmetic. Assumes nothing.
use mathlib.Core.Path.{◌≡◌}
use mathlib.Core.Bool.{Bool, true, false, ◌&&◌}
use mathlib.Core.List.{List, [], ◌∷◌}
use Prim.Native.Nat.{ℕ, zero, suc, ◌+◌, ◌≤◌, ◌<◌, ◌^◌}
use native.Mathlib.Nat.{le_of_suc-le-suc, not-suc-le-zero}
use native.Mathlib.Omega.{arith}
use borrow.Author.Tests.{le-ltb}
use lib.Dec.{T, leb, leb→le}
use lib.ListN.{length, get_or}
use Rattle.currency.specs.declared.Currency.{Currency}
use Rattle.currency.specs.declared.Line.{Line}
use Rattle.currency.specs.Table.{none, currencies, line_of, last_currency}
use Rattle.currency.specs.Tens.{power_of_ten}

-- the rule of a line: six figures, 2 to 6 places, and the currency's own digits at most 2, at most the places and at most 4 fewer
pub record Good (l : Line) : Type 0 where
  pub least : 100000 ≤ l.figures
  pub most : l.figures ≤ 999999
  pub some_places : 2 ≤ l.places
  pub few_places : l.places ≤ 6
  pub few_digits : l.digits ≤ 2
  pub digits_in_places : l.digits ≤ l.places
  pub places_near_digits : l.places ≤ l.digits + 4

-- the rule as a test
abbrev good : Line → Bool
good l =
    leb 100000 l.figures
    && (leb l.figures 999999
    && (leb 2 l.places && (leb l.places 6 && (leb l.digits 2 && (leb l.digits l.places && leb l.places (l.digits + 4))))))

both : (a b : Bool) → T (a && b) → T a × T b
both true b t = (tt, t)
both false b t = absurd t

passes : (l : Line) → T (good l) → Good l
passes l t =
    let p = both (leb 100000 l.figures) _ t in
    let q = both (leb l.figures 999999) _ p.1 in
    let r = both (leb 2 l.places) _ q.1 in
    let s = both (leb l.places 6) _ r.1 in
    let u = both (leb l.digits 2) _ s.1 in
    let v = both (leb l.digits l.places) _ u.1 in
    record {
      least = leb→le 100000 l.figures p.0;
      most = leb→le l.figures 999999 q.0;
      some_places = leb→le 2 l.places r.0;
      few_places = leb→le l.places 6 s.0;
      few_digits = leb→le l.digits 2 u.0;
      digits_in_places = leb→le l.digits l.places v.0;
      places_near_digits = leb→le l.places (l.digits + 4) v.1;
    }

-- a test at every entry of a list
abbrev every : {A : Type 0} → (A → Bool) → List A → Bool
every f [] = true
every f (x ∷ xs) = f x && every f xs

-- holds at each of them
at : {A : Type 0} (f : A → Bool) (otherwise : A) (xs : List A) → T (every f xs) → (k : ℕ) → k < length xs → T (f (get_or xs k otherwise))
at f otherwise [] t k h = absurd (not-suc-le-zero h)
at f otherwise (x ∷ xs) t zero h = (both (f x) (every f xs) t).0
at f otherwise (x ∷ xs) t (suc k) h = at f otherwise xs (both (f x) (every f xs) t).1 k (le_of_suc-le-suc h)

-- THE LAW: every currency's line keeps the rule
pub in_table : (c : Currency) → c.0 ≤ last_currency → Good (line_of c)
unfolding line_of
in_table c h = passes (get_or currencies c.0 none) (at good none currencies tt c.0 (omega arith))

pub power_of_ten_lem : (k : ℕ) → k ≤ 12 → power_of_ten k ≡ 10 ^ k
unfolding power_of_ten
power_of_ten_lem k h = rw (le-ltb 12 k h)
