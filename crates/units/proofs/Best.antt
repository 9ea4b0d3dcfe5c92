-- The scan over the places finds the best of them, and there is one best: `Best` says with no order of looking what the best of
-- the first n places is, `best_of` meets it, by induction on n, and two takers that meet it are one. Assumes nothing.
use mathlib.Core.Path.{◌≡◌, refl, sym, ap, ◌∙◌}
use mathlib.Core.Bool.{Bool, true, false, true≢false, cond}
use Prim.Native.Nat.{ℕ, zero, suc, ◌+◌, ◌≤◌, ◌<◌}
use native.Mathlib.Nat.{not-suc-le-zero, le_refl, le_antisymm}
use native.Mathlib.Omega.{arith}
use lib.Dec.{ltb}
use borrow.Author.Tests.{ltb-true, ltb-false}
use Rattle.units.specs.Rule.{Taker, nobody, place, better, best_of}
use Rattle.whole.proofs.Sums.{and_last}

-- place p is the best of the first n
pub record Chosen (may : ℕ → Bool) (owed : ℕ → ℕ) (n p : ℕ) : Type 0 where
  pub partner : p < n
  pub eligible : may p ≡ true
  pub smallest : (q : ℕ) → q < n → may q ≡ true → owed p ≤ owed q
  pub lower : (q : ℕ) → q < n → may q ≡ true → owed q ≡ owed p → p ≤ q

abbrev pub Best : (may : ℕ → Bool) (owed : ℕ → ℕ) (n : ℕ) → Taker → Type 0
Best may owed n nobody = (q : ℕ) → q < n → may q ≡ false
Best may owed n (place p) = Chosen may owed n p

-- no test both passes and fails
pub not_both : {b : Bool} → b ≡ true → b ≡ false → ⊥
not_both p q = true≢false (sym p ∙ q)

module _ (may : ℕ → Bool) (owed : ℕ → ℕ) where
  -- place n against nobody: m says whether it may
  first : (n : ℕ) → Best may owed n nobody → (m : Bool) → may n ≡ m → Best may owed (suc n) (cond m (place n) nobody)
  first n none false e = and_last (λ q. may q ≡ false) n none e
  first n none true e = record {
    partner = le_refl (suc n);
    eligible = e;
    smallest = and_last (λ q. may q ≡ true → owed n ≤ owed q) n (λ q l m. absurd (not_both m (none q l))) (λ m. le_refl (owed n));
    lower = and_last (λ q. may q ≡ true → owed q ≡ owed n → n ≤ q) n (λ q l m. absurd (not_both m (none q l))) (λ m s. le_refl n);
  }

  -- place n against the best so far: m says whether it may, s whether its due number is smaller
  next : (n p : ℕ) → Chosen may owed n p → (m s : Bool) → may n ≡ m → ltb (owed n) (owed p) ≡ s
      → Best may owed (suc n) (cond m (cond s (place n) (place p)) (place p))
  next n p c false s e f = record {
    partner = omega arith;
    eligible = c.eligible;
    smallest = and_last (λ q. may q ≡ true → owed p ≤ owed q) n c.smallest (λ m. absurd (not_both m e));
    lower = and_last (λ q. may q ≡ true → owed q ≡ owed p → p ≤ q) n c.lower (λ m. absurd (not_both m e));
  }
  next n p c true true e f =
      let less : owed n < owed p = ltb-true (owed n) (owed p) f in
      record {
        partner = le_refl (suc n);
        eligible = e;
        smallest = and_last (λ q. may q ≡ true → owed n ≤ owed q) n (λ q l m. omega (arith, c.smallest q l m)) (λ m. le_refl (owed n));
        lower = and_last (λ q. may q ≡ true → owed q ≡ owed n → n ≤ q) n (λ q l m s. omega (arith, c.smallest q l m)) (λ m s. le_refl n);
      }
  next n p c true false e f =
      let more : owed p ≤ owed n = ltb-false (owed n) (owed p) f in
      record {
        partner = omega arith;
        eligible = c.eligible;
        smallest = and_last (λ q. may q ≡ true → owed p ≤ owed q) n c.smallest (λ m. more);
        lower = and_last (λ q. may q ≡ true → owed q ≡ owed p → p ≤ q) n c.lower (λ m s. omega arith);
      }

  pub best_of_lem : (n : ℕ) → Best may owed n (best_of may owed n)
  unfolding best_of
  best_of_lem zero = λ q l. absurd (not-suc-le-zero l)
  best_of_lem (suc n) = go (best_of may owed n) (best_of_lem n)
    where
      go : (b : Taker) → Best may owed n b → Best may owed (suc n) (better may owed b n)
      go nobody none = first n none (may n) refl
      go (place p) c = next n p c (may n) (ltb (owed n) (owed p)) refl refl

  -- one best
  pub best_one : (n : ℕ) (b c : Taker) → Best may owed n b → Best may owed n c → b ≡ c
  best_one n nobody nobody none none' = refl
  best_one n nobody (place q) none d = absurd (not_both d.eligible (none q d.partner))
  best_one n (place p) nobody c none = absurd (not_both c.eligible (none p c.partner))
  best_one n (place p) (place q) c d =
      let same : owed p ≡ owed q = le_antisymm (c.smallest q d.partner d.eligible) (d.smallest p c.partner c.eligible) in
      ap place (le_antisymm (c.lower q d.partner d.eligible (sym same)) (d.lower p c.partner c.eligible same))

-- where the same places may, and the due number of each that may is later by the same k, the best is the same
pub best_moved : (may may' : ℕ → Bool) (owed owed' : ℕ → ℕ) (k n : ℕ) (b : Taker)
    → ((i : ℕ) → i < n → may' i ≡ may i) → ((i : ℕ) → i < n → may i ≡ true → owed' i ≡ owed i + k)
    → Best may owed n b → Best may' owed' n b
best_moved may may' owed owed' k n nobody same moved none = λ q l. same q l ∙ none q l
best_moved may may' owed owed' k n (place p) same moved c =
    let here : owed' p ≡ owed p + k = moved p c.partner c.eligible in
    record {
      partner = c.partner;
      eligible = same p c.partner ∙ c.eligible;
      smallest = λ q l m. let m' : may q ≡ true = sym (same q l) ∙ m in omega (arith, moved q l m', c.smallest q l m');
      lower = λ q l m e. let m' : may q ≡ true = sym (same q l) ∙ m in c.lower q l m' (omega (arith, moved q l m'));
    }
