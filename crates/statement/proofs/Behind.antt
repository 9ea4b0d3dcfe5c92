-- Records of one width stand one behind the other: where each begins, and what is before and behind it. Assumes nothing.
use mathlib.Core.Path.{◌≡◌, refl, sym, ◌∙◌, ap, ap₂}
use mathlib.Core.List.{List, [], ◌++◌, append_assoc, append-nil}
use Prim.Native.Nat.{ℕ, zero, suc, ◌+◌, ◌*◌, ◌<◌}
use native.Mathlib.Decide.{ℕ_discrete}
use native.Mathlib.Numerals.{add-one}
use native.Mathlib.Omega.{arith}
use lib.ListN.{length, take, drop, length-append}
use lib.Seq.{take-add, drop-drop}
use Rattle.statement.specs.Files.{joined}

module _ (f : ℕ → List ℕ) where
  pub joined_none : joined f 0 ≡ []
  unfolding joined
  joined_none = refl

  -- as a program counts
  pub joined_more : (n : ℕ) → joined f n ++ f n ≡ joined f (n + 1)
  unfolding joined
  joined_more n = rw add-one

  -- a record, with those before and those behind it
  pub joined_split : (n i : ℕ) → i < n → (rest : List ℕ) × (joined f n ≡ joined f i ++ (f i ++ rest))
  unfolding joined
  joined_split zero i h = absurd (omega arith)
  joined_split (suc n) i h = go (ℕ_discrete i n) (joined_split n i)
    where
      go : Dec (i ≡ n) → (i < n → (rest : List ℕ) × (joined f n ≡ joined f i ++ (f i ++ rest)))
          → (rest : List ℕ) × (joined f n ++ f n ≡ joined f i ++ (f i ++ rest))
      go (yes same) earlier =
          ([], ap₂ (λ (k m : ℕ). joined f k ++ f m) (sym same) (sym same) ∙ ap (λ (l : List ℕ). joined f i ++ l) (sym (append-nil (f i))))
      go (no other) earlier =
          let found : (rest : List ℕ) × (joined f n ≡ joined f i ++ (f i ++ rest)) = earlier (omega arith) in (
            found.0 ++ f n,
            ap (λ (l : List ℕ). l ++ f n) found.1
                ∙ append_assoc (joined f i) (f i ++ found.0) (f n)
                ∙ ap (λ (l : List ℕ). joined f i ++ l) (append_assoc (f i) found.0 (f n)),
          )

  module _ (width : ℕ) (each : (i : ℕ) → length (f i) ≡ width) where
    pub length_joined : (n : ℕ) → length (joined f n) ≡ width * n
    unfolding joined
    length_joined zero = omega arith
    length_joined (suc n) = length-append (joined f n) (f n) ∙ omega (arith, length_joined n, each n)

  -- bytes that hold each record at its place hold all of them
  pub joined_taken : (width : ℕ) (bytes : List ℕ) (first n : ℕ) → ((i : ℕ) → i < n → take width (drop (first + width * i) bytes) ≡ f i)
      → take (width * n) (drop first bytes) ≡ joined f n
  unfolding joined
  joined_taken width bytes first zero each = let none : width * 0 ≡ 0 = omega arith in ap (λ (k : ℕ). take k (drop first bytes)) none
  joined_taken width bytes first (suc n) each =
      let more : width * suc n ≡ width * n + width = omega arith in
      ap (λ (k : ℕ). take k (drop first bytes)) more
      ∙ take-add (width * n) width (drop first bytes)
      ∙ ap₂ (λ (l r : List ℕ). l ++ r) (joined_taken width bytes first n (λ i h. each i (omega arith)))
      (ap (take width) (drop-drop (width * n) first bytes) ∙ each n (omega arith))
