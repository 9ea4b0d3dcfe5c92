-- The largest of the remainders at the first n places is one of them, none of them is above it, and those at lower places are
-- below it. By induction on the places seen. Assumes nothing.
use mathlib.Core.Path.{◌≡◌, refl, sym, ◌∙◌, ap}
use mathlib.Core.Bool.{Bool, true, false, cond}
use mathlib.Core.List.{List}
use Prim.Native.Nat.{ℕ, zero, suc, ◌+◌, ◌≤◌, ◌<◌}
use native.Mathlib.Nat.{le_of_eq}
use native.Mathlib.Numerals.{add-one}
use native.Mathlib.Omega.{arith}
use borrow.Author.Tests.{ltb-true, ltb-false, lt-ltb, le-ltb}
use lib.Dec.{ltb}
use lib.ListN.{get_or}
use Rattle.whole.proofs.Sums.{and_last}
use Rattle.remainder.specs.Rule.{largest}

pub record IsLargest (rs : List ℕ) (n p : ℕ) : Type 0 where
  pub below : p < n
  pub top : (j : ℕ) → j < n → get_or rs j 0 ≤ get_or rs p 0
  pub first : (j : ℕ) → j < p → get_or rs j 0 < get_or rs p 0

only : (rs : List ℕ) (b : Bool) → IsLargest rs 1 (cond b 0 0)
only rs true = record { below = omega arith; top = λ j l. le_of_eq (ap (λ (k : ℕ). get_or rs k 0) (omega arith)); first = λ j l. absurd (omega arith) }
only rs false = record { below = omega arith; top = λ j l. le_of_eq (ap (λ (k : ℕ). get_or rs k 0) (omega arith)); first = λ j l. absurd (omega arith) }

one_more : (rs : List ℕ) (n q : ℕ) → IsLargest rs n q → (b : Bool) → ltb (get_or rs q 0) (get_or rs n 0) ≡ b → IsLargest rs (suc n) (cond b n q)
one_more rs n q before true test =
    let less : get_or rs q 0 < get_or rs n 0 = ltb-true (get_or rs q 0) (get_or rs n 0) test in
    record {
      below = omega arith;
      top = and_last (λ j. get_or rs j 0 ≤ get_or rs n 0) n (λ j l. omega (arith, before.top j l)) (omega arith);
      first = λ j l. omega (arith, before.top j l);
    }
one_more rs n q before false test =
    let most : get_or rs n 0 ≤ get_or rs q 0 = ltb-false (get_or rs q 0) (get_or rs n 0) test in
    record {
      below = omega arith;
      top = and_last (λ j. get_or rs j 0 ≤ get_or rs q 0) n before.top most;
      first = before.first;
    }

pub largest_is : (rs : List ℕ) (n : ℕ) → 0 < n → IsLargest rs n (largest rs n)
unfolding largest
largest_is rs zero some = absurd (omega arith)
largest_is rs (suc zero) some = only rs (ltb (get_or rs 0 0) (get_or rs 0 0))
largest_is rs (suc (suc n)) some =
    one_more rs (suc n) (largest rs (suc n)) (largest_is rs (suc n) (omega arith)) (ltb (get_or rs (largest rs (suc n)) 0) (get_or rs (suc n) 0)) refl

-- as a scan goes: the first place, a larger remainder, and one that is not larger
pub scan_start : (rs : List ℕ) → largest rs 1 ≡ 0
unfolding largest
scan_start rs = go (ltb (get_or rs 0 0) (get_or rs 0 0))
  where
    go : (b : Bool) → ◌≡◌ {A = ℕ} (cond b 0 0) 0
    go true = refl
    go false = refl

module _ (rs : List ℕ) (i place top : ℕ) (is : place ≡ largest rs i) (stands : top ≡ get_or rs place 0) where
  there : get_or rs (largest rs i) 0 ≡ top
  there = sym (stands ∙ ap (λ (p : ℕ). get_or rs p 0) is)

  pub scan_larger : top < get_or rs i 0 → i ≡ largest rs (i + 1)
  unfolding largest
  scan_larger less = rw (add-one, there, lt-ltb top (get_or rs i 0) less)

  pub scan_past : get_or rs i 0 ≤ top → place ≡ largest rs (i + 1)
  unfolding largest
  scan_past most = rw (add-one, there, le-ltb top (get_or rs i 0) most) is
