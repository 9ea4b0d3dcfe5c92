-- A byte of a list is changed: the numbers beside it stay, that which it belongs to is another one, and a sum of which one part changed is another
-- one. Assumes nothing.
use mathlib.Core.Path.{◌≡◌, refl, sym, ◌∙◌, ap, ap₂}
use mathlib.Core.List.{List}
use Prim.Native.Nat.{ℕ, zero, suc, ◌+◌, ◌*◌, ◌≤◌, ◌<◌}
use native.Mathlib.Decide.{ℕ_discrete}
use native.Mathlib.Omega.{arith}
use lib.IntN.{ℤ, ◌+ℤ◌, ◌-ℤ◌, +ℤ_comm, +ℤ-neg_ℤ_cancel}
use lib.ListN.{length, get_or, set}
use lib.Seq.{get_or-set_same, get_or-set_other}
use Rattle.statement.specs.Bytes.{number_at}
use Rattle.statement.specs.Files.{total_of}
use Rattle.statement.proofs.ReadBack.{Bytes}
use Rattle.statement.proofs.Totals.{total_same}

module _ (bytes : List ℕ) (k x : ℕ) where
  abbrev pub changed : List ℕ
  changed = set bytes k x

  -- a number that stands beside it
  pub number_beside : (at count : ℕ) → k < at → number_at (set bytes k x) at count ≡ number_at bytes at count
  unfolding number_at
  number_beside at zero h = refl
  number_beside at (suc count) h =
      ap₂ (λ (a b : ℕ). a + 256 * b) (get_or-set_other bytes k at x 0 (λ e. omega arith)) (number_beside (suc at) count (omega arith))

  pub number_before : (at count : ℕ) → at + count ≤ k → number_at (set bytes k x) at count ≡ number_at bytes at count
  unfolding number_at
  number_before at zero h = refl
  number_before at (suc count) h =
      ap₂ (λ (a b : ℕ). a + 256 * b) (get_or-set_other bytes k at x 0 (λ e. omega arith)) (number_before (suc at) count (omega arith))

  module _ (b : Bytes bytes) (byte : x < 256) (inside : k < length bytes) (other : x ≡ get_or bytes k 0 → ⊥) where
    -- they are bytes still
    pub still_bytes : Bytes (set bytes k x)
    still_bytes i = go (ℕ_discrete i k)
      where
        go : Dec (i ≡ k) → get_or (set bytes k x) i 0 < 256
        go (yes same) = omega (arith, ap (λ (j : ℕ). get_or (set bytes k x) j 0) same, get_or-set_same bytes k x 0 inside, byte)
        go (no f) = omega (arith, get_or-set_other bytes k i x 0 f, b i)

    -- the number that it belongs to
    pub number_other : (at count : ℕ) → at ≤ k → k < at + count → number_at (set bytes k x) at count ≡ number_at bytes at count → ⊥
    unfolding number_at
    number_other at zero low high e = omega arith
    number_other at (suc count) low high e = go (ℕ_discrete at k) (number_other (suc at) count)
      where
        go : Dec (at ≡ k) → (suc at ≤ k → k < suc at + count → number_at (set bytes k x) (suc at) count ≡ number_at bytes (suc at) count → ⊥) → ⊥
        go (yes same) later =
            let new : get_or (set bytes k x) at 0 ≡ x = ap (λ (j : ℕ). get_or (set bytes k x) j 0) same ∙ get_or-set_same bytes k x 0 inside in
            let old : get_or bytes at 0 ≡ get_or bytes k 0 = ap (λ (j : ℕ). get_or bytes j 0) same in
            other (omega (arith, e, new, old, number_beside (suc at) count (omega arith)))
        go (no f) later = later (omega arith) (omega arith) (omega (arith, e, get_or-set_other bytes k at x 0 f))

-- of a sum with one part changed
same_behind : (a x y : ℤ) → a +ℤ x ≡ a +ℤ y → x ≡ y
same_behind a x y e =
    sym (+ℤ-neg_ℤ_cancel x a) ∙ ap (λ (z : ℤ). z -ℤ a) (+ℤ_comm x a ∙ e ∙ +ℤ_comm a y) ∙ +ℤ-neg_ℤ_cancel y a

same_front : (a b x : ℤ) → a +ℤ x ≡ b +ℤ x → a ≡ b
same_front a b x e = sym (+ℤ-neg_ℤ_cancel a x) ∙ ap (λ (z : ℤ). z -ℤ x) e ∙ +ℤ-neg_ℤ_cancel b x

pub total_other : (f g : ℕ → ℤ) (i n : ℕ) → i < n → ((j : ℕ) → j < n → (j ≡ i → ⊥) → f j ≡ g j) → total_of f n ≡ total_of g n → f i ≡ g i
unfolding total_of
total_other f g i zero h others e = absurd (omega arith)
total_other f g i (suc n) h others e = go (ℕ_discrete i n) (total_other f g i n)
  where
    go : Dec (i ≡ n) → (i < n → ((j : ℕ) → j < n → (j ≡ i → ⊥) → f j ≡ g j) → total_of f n ≡ total_of g n → f i ≡ g i) → f i ≡ g i
    go (yes same) earlier =
        let before : total_of f n ≡ total_of g n = total_same f g n (λ j less. others j (omega arith) (λ q. omega arith)) in
        ap f same ∙ same_behind (total_of f n) (f n) (g n) (e ∙ ap (λ (z : ℤ). z +ℤ g n) (sym before)) ∙ sym (ap g same)
    go (no f') earlier =
        let here : f n ≡ g n = others n (omega arith) (λ q. f' (sym q)) in
        earlier (omega arith) (λ j less q. others j (omega arith) q) (same_front (total_of f n) (total_of g n) (f n) (e ∙ ap (λ (z : ℤ). total_of g n +ℤ z) (sym here)))
