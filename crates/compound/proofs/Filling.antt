-- What the functions below `compound` hand on: a list filled with the rows, and the output that it is copied to. Assumes nothing.
use Rattle.std.specs.Prelude.{Result, Ok, Err, ⊤}
use mathlib.Core.Path.{◌≡◌, refl, sym, ◌∙◌, ap}
use mathlib.Core.Bool.{false}
use mathlib.Core.List.{List}
use Prim.Native.Nat.{ℕ, zero, suc, ◌<◌}
use native.Mathlib.Omega.{arith}
use lib.IntN.{ℤ, pos}
use lib.ListN.{length, get_or}
use Rattle.refusal.specs.declared.Refusal.{Refusal}
use Rattle.refusal.specs.declared.Refusal.TheVariants.{Limit}
use Rattle.refusal.proofs.Check.{clear}
use Rattle.whole.specs.Lists.{filled}
use Rattle.whole.proofs.Lists.{length_filled, filled_inside}
use Rattle.amount.specs.Amounts.{largest}
use Rattle.balances.specs.Rule.{balance_at}
use Rattle.compound.specs.Table.{any_over, made_rows, list_after}
use Rattle.compound.specs.Parts.{Within, Fills, Writes}
use Rattle.compound.proofs.Over.{over_row, all_within}

-- places filled with the same hold the same
filled_same : {A : Type 0} (from : ℕ) (f g : ℕ → A) (xs : List A) (n : ℕ) → ((k : ℕ) → k < n → f k ≡ g k) → filled from f n xs ≡ filled from g n xs
unfolding filled
filled_same from f g xs zero same = refl
filled_same from f g xs (suc n) same = rw (filled_same from f g xs n (λ k h. same k (omega arith)), same n (omega arith))

module _ (p r : ℕ) (before after : List ℕ) where
  pub fills_not : (i b : ℕ) → i < length before → b ≡ balance_at p r i → largest < b → Fills p r before (Err Limit) after
  fills_not i b h is more =
      record {
        said = rw (over_row p r (length before) i b h is more);
        put = λ e. let z : ◌≡◌ {A = ℕ} 0 1 = cc in absurd (omega arith);
      }

  module _ (checked : Result ⊤ Refusal) (fills : Fills p r before checked after) where
    -- where a row is over L the output stays
    pub writes_not : (out : List ℤ) (x : Refusal) → checked ≡ Err x → Writes p r (length before) out (Err x) out
    unfolding list_after
    writes_not out x e = record { said = sym e ∙ fills.said; put = refl }

    -- else each row is within L and stands in its place
    module _ (passed : checked ≡ Ok tt) where
      put : after ≡ filled 0 (balance_at p r) (length before) before
      put = fills.put passed

      long : length after ≡ length before
      long = ap length put ∙ length_filled 0 (balance_at p r) before (length before)

      row_at : (k : ℕ) → k < length before → get_or after k 0 ≡ balance_at p r k
      row_at k h =
          ap (λ (xs : List ℕ). get_or xs k 0) put
          ∙ ap (λ (i : ℕ). get_or (filled 0 (balance_at p r) (length before) before) i 0) (omega arith)
          ∙ filled_inside 0 (balance_at p r) before 0 (length before) k h (omega arith)

      none : any_over p r (length before) ≡ false
      none = (clear (made_rows p r (length before)) (sym fills.said ∙ passed)).0

      pub ready : Within after
      ready i below = omega (arith, row_at i (omega (arith, long)), all_within p r (length before) none i (omega (arith, long)))

      pub writes_all : (out written : List ℤ) → written ≡ filled 0 (λ n. pos (get_or after n 0)) (length after) out → Writes p r (length before) out (Ok tt) written
      unfolding list_after
      writes_all out written copied =
          record {
            said = sym passed ∙ fills.said;
            put =
                copied
                ∙ ap (λ (n : ℕ). filled 0 (λ n. pos (get_or after n 0)) n out) long
                ∙ filled_same 0 (λ n. pos (get_or after n 0)) (λ n. pos (balance_at p r n)) out (length before) (λ k h. ap pos (row_at k h));
          }
