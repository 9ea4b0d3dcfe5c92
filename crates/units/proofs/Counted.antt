-- A place's running total at n is the number of the units 1 to n that it takes: each unit adds to both the same. Assumes nothing.
use mathlib.Core.Path.{◌≡◌, refl, sym, ap, ◌∙◌}
use mathlib.Core.Bool.{Bool, true, false, cond}
use mathlib.Core.List.{List}
use Prim.Native.Nat.{ℕ, zero, suc, ◌+◌, ◌<◌}
use native.Mathlib.Nat.{add-zero}
use lib.Dec.{eqb}
use lib.ListN.{length, get_or, set}
use lib.Seq.{get_or-set_same, get_or-set_other}
use borrow.Author.Tests.{eqb-true, eqb-false}
use Rattle.units.specs.Rule.{Taker, nobody, place, taker_of, give, totals}
use Rattle.units.specs.Counted.{one_to, count_of}
use Rattle.units.proofs.Added.{totals_none, length_totals}

give_counted : (b : Taker) (held : List ℕ) (i : ℕ) → i < length held → get_or (give b held) i 0 ≡ get_or held i 0 + one_to b i
give_counted nobody held i h = sym (add-zero (get_or held i 0))
give_counted (place p) held i h = go (eqb p i) refl
  where
    go : (s : Bool) → eqb p i ≡ s → get_or (set held p (get_or held p 0 + 1)) i 0 ≡ get_or held i 0 + cond s 1 0
    go true e = rw (eqb-true p i e) (get_or-set_same held i (get_or held i 0 + 1) 0 h)
    go false e = get_or-set_other held p i (get_or held p 0 + 1) 0 (λ s. eqb-false p i e (sym s)) ∙ sym (add-zero (get_or held i 0))

pub counted : (ws : List ℕ) (i n : ℕ) → i < length ws → get_or (totals ws n) i 0 ≡ count_of ws i n
unfolding totals count_of
counted ws i zero h = totals_none ws i
counted ws i (suc n) h =
    give_counted (taker_of ws (totals ws n) (suc n)) (totals ws n) i (rw length_totals h)
    ∙ ap (λ (a : ℕ). a + one_to (taker_of ws (totals ws n) (suc n)) i) (counted ws i n h)
