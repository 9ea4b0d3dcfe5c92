-- A currency and its code tell each other: the code of every line of the table is found at its own number, by one computed test over the whole table, and a currency that is found
-- has the code. Assumes nothing.
use mathlib.Core.Path.{◌≡◌, refl, sym, ◌∙◌, ap}
use mathlib.Core.Bool.{Bool, true, false, cond, ◌&&◌}
use mathlib.Core.List.{List, [], ◌∷◌}
use Prim.Native.Nat.{ℕ, zero, suc, ◌+◌, ◌-◌, ◌≤◌, ◌<◌}
use native.Mathlib.Nat.{sub-zero, le_of_suc-le-suc, not-suc-le-zero}
use native.Mathlib.Numerals.{add-one}
use native.Mathlib.Omega.{arith}
use borrow.Author.Tests.{eqb-true}
use lib.Dec.{T, eqb}
use lib.ListN.{length, get_or, drop, drop_of_length-le}
use lib.Seq.{drop-cons, ext_get_or}
use Rattle.currency.specs.declared.Currency.{Currency}
use Rattle.currency.specs.declared.Line.{Line}
use Rattle.currency.specs.Table.{none, currencies, line_of, last_currency}
use Rattle.text.specs.Codes.{no_currency, has_code, number_from, number_of, currency_of}

-- the scan from a line on
module _ (a b c : ℕ) (lines : List Line) (i : ℕ) where
  pub scan_on
      : i < length lines → has_code a b c (get_or lines i none) ≡ false
      → number_from a b c i (drop i lines) ≡ number_from a b c (i + 1) (drop (i + 1) lines)
  unfolding number_from
  scan_on h e = rw (drop-cons lines i none h, e, add-one i)

  pub scan_ends : i < length lines → has_code a b c (get_or lines i none) ≡ true → number_from a b c i (drop i lines) ≡ i
  unfolding number_from
  scan_ends h e = rw (drop-cons lines i none h, e)

  pub scan_out : length lines ≤ i → number_from a b c i (drop i lines) ≡ no_currency
  unfolding number_from
  scan_out h = rw (drop_of_length-le lines h)

-- a code of three letters
abbrev three_of : List ℕ → Bool
three_of code = eqb (length code) 3

-- every line, counted from one on, has a code of three letters that is found at its own number
every : ℕ → List Line → Bool
every n [] = true
every n (l ∷ ls) = (three_of l.code && eqb (currency_of l.code).0 n) && every (suc n) ls

both : (a b : Bool) → T (a && b) → T a × T b
both true b t = (tt, t)
both false b t = absurd t

T_true : (a : Bool) → T a → a ≡ true
T_true true t = refl
T_true false t = absurd t

at : (n : ℕ) (ls : List Line) → T (every n ls) → (k : ℕ) → k < length ls
    → (length (get_or ls k none).code ≡ 3) × ((currency_of (get_or ls k none).code).0 ≡ n + k)
unfolding every
at n [] t k h = absurd (not-suc-le-zero h)
at n (l ∷ ls) t zero h =
    let tests = both (three_of l.code) (eqb (currency_of l.code).0 n) (both (three_of l.code && eqb (currency_of l.code).0 n) (every (suc n) ls) t).0 in
    (eqb-true (length l.code) 3 (T_true _ tests.0), eqb-true (currency_of l.code).0 n (T_true _ tests.1) ∙ omega arith)
at n (l ∷ ls) t (suc k) h =
    let r = at (suc n) ls (both (three_of l.code && eqb (currency_of l.code).0 n) (every (suc n) ls) t).1 k (le_of_suc-le-suc h) in (r.0, r.1 ∙ omega arith)

-- every known currency's line: three letters, found at its number
in_table : (c : Currency) → c.0 ≤ last_currency → (length (line_of c).code ≡ 3) × ((currency_of (line_of c).code).0 ≡ c.0)
unfolding line_of every number_from currency_of
in_table c h = let r = at 0 currencies tt c.0 (omega arith) in (r.0, r.1 ∙ omega arith)

-- the currency of a known currency's code is that currency
pub code_back : (c : Currency) → c.0 ≤ last_currency → currency_of (line_of c).code ≡ c
code_back c h = ap (λ (n : ℕ). record { 0 = n }) (in_table c h).1

-- a number that is found below 255 is of a line that has the code
found_has
    : (a b c n : ℕ) (ls : List Line) → n + length ls ≤ no_currency → number_from a b c n ls < no_currency
    → (n ≤ number_from a b c n ls) × (number_from a b c n ls < n + length ls) × (has_code a b c (get_or ls (number_from a b c n ls - n) none) ≡ true)
unfolding number_from
found_has a b c n [] room h = absurd (omega arith)
found_has a b c n (l ∷ ls) room h = by (has_code a b c l) refl h (found_has a b c (suc n) ls)
  where
    by
        : (t : Bool) → has_code a b c l ≡ t → cond t n (number_from a b c (suc n) ls) < no_currency
        → (suc n + length ls ≤ no_currency → number_from a b c (suc n) ls < no_currency
        → (suc n ≤ number_from a b c (suc n) ls) × (number_from a b c (suc n) ls < suc n + length ls)
        × (has_code a b c (get_or ls (number_from a b c (suc n) ls - suc n) none) ≡ true))
        → (n ≤ cond t n (number_from a b c (suc n) ls)) × (cond t n (number_from a b c (suc n) ls) < n + suc (length ls))
        × (has_code a b c (get_or (l ∷ ls) (cond t n (number_from a b c (suc n) ls) - n) none) ≡ true)
    by true e less rest = (omega arith, omega arith, ap (λ (k : ℕ). has_code a b c (get_or (l ∷ ls) k none)) {x = n - n} {y = 0} (omega arith) ∙ e)
    by false e less rest =
        let r = rest (omega arith) less in (
          omega (arith, r.0),
          omega (arith, r.1),
          ap (λ (k : ℕ). has_code a b c (get_or (l ∷ ls) k none)) {x = number_from a b c (suc n) ls - n} {y = suc (number_from a b c (suc n) ls - suc n)} (omega (arith, r.0)) ∙ r.2,
        )

-- three letters by their tests
same_letters : (code other : List ℕ) → length code ≡ 3 → length other ≡ 3
    → (eqb (get_or other 0 0) (get_or code 0 0) && (eqb (get_or other 1 0) (get_or code 1 0) && eqb (get_or other 2 0) (get_or code 2 0))) ≡ true → other ≡ code
same_letters code other h k e =
    ext_get_or 0 other code (k ∙ sym h) at_place
  where
    split : (x y : Bool) → (x && y) ≡ true → (x ≡ true) × (y ≡ true)
    split true y e = (refl, e)
    split false y e = let z : ◌≡◌ {A = ℕ} 0 1 = cc in absurd (omega arith)

    at_place : (i : ℕ) → i < length other → get_or other i 0 ≡ get_or code i 0
    at_place zero l = eqb-true (get_or other 0 0) (get_or code 0 0) (split (eqb (get_or other 0 0) (get_or code 0 0)) _ e).0
    at_place (suc zero) l =
        eqb-true (get_or other 1 0) (get_or code 1 0)
        (split (eqb (get_or other 1 0) (get_or code 1 0)) _ (split (eqb (get_or other 0 0) (get_or code 0 0)) _ e).1).0
    at_place (suc (suc zero)) l =
        eqb-true (get_or other 2 0) (get_or code 2 0)
        (split (eqb (get_or other 1 0) (get_or code 1 0)) _ (split (eqb (get_or other 0 0) (get_or code 0 0)) _ e).1).1
    at_place (suc (suc (suc i))) l = absurd (omega arith)

-- and a code that is found is the code of the currency that is found, which is known
pub code_found : (code : List ℕ) → (currency_of code).0 < no_currency → ((currency_of code).0 ≤ last_currency) × ((line_of (currency_of code)).code ≡ code)
unfolding currency_of line_of
code_found code h = by (eqb (length code) 3) refl h
  where
    by
        : (t : Bool) → eqb (length code) 3 ≡ t → cond t (number_of (get_or code 0 0) (get_or code 1 0) (get_or code 2 0)) no_currency < no_currency
        → (cond t (number_of (get_or code 0 0) (get_or code 1 0) (get_or code 2 0)) no_currency ≤ last_currency)
        × ((get_or currencies (cond t (number_of (get_or code 0 0) (get_or code 1 0) (get_or code 2 0)) no_currency) none).code ≡ code)
    by false e less = absurd (omega arith)
    by true e less =
        let n : ℕ = number_of (get_or code 0 0) (get_or code 1 0) (get_or code 2 0) in
        let r = found_has (get_or code 0 0) (get_or code 1 0) (get_or code 2 0) 0 currencies (omega arith) less in
        let has : has_code (get_or code 0 0) (get_or code 1 0) (get_or code 2 0) (get_or currencies n none) ≡ true = rw (sub-zero n) at r.2 in
        (omega (arith, r.1), same_letters code (get_or currencies n none).code (eqb-true (length code) 3 e) (three n (omega (arith, r.1))) has)
      where
        three : (n : ℕ) → n ≤ last_currency → length (get_or currencies n none).code ≡ 3
        three n l = (in_table (record { 0 = n }) l).0
