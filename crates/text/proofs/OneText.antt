-- "each amount has one text": two texts of the grammar with the same scale and the same coefficient are the same bytes. Assumes nothing.
use mathlib.Core.Path.{◌≡◌, refl, sym, ◌∙◌, ap}
use mathlib.Core.Bool.{Bool, true, false}
use mathlib.Core.List.{List, ◌++◌}
use Prim.Native.Nat.{ℕ, ◌+◌, ◌*◌, ◌^◌, ◌<◌}
use lib.ListN.{length}
use Rattle.whole.specs.Whole.{negative, magnitude_of, signed_of}
use Rattle.whole.proofs.Laws.{magnitude_signed, negative_signed}
use Rattle.lines.specs.Lines.{worth}
use Rattle.text.specs.Grammar.{minus, pointed, number, Text}
use Rattle.text.proofs.Digits.{number_is, below, apart, same_digits, same_plain}

-- the sign of a coefficient, where 0 has none
same_sign : (s t : Bool) (m n : ℕ) → (s ≡ true → 0 < m) → (t ≡ true → 0 < n) → signed_of s m ≡ signed_of t n → s ≡ t
same_sign true true m n h k e = refl
same_sign false false m n h k e = refl
same_sign true false m n h k e = sym (negative_signed true m (h refl)) ∙ ap negative e
same_sign false true m n h k e = ap negative e ∙ negative_signed true n (k refl)

module _
    (bytes others : List ℕ) (n o : Bool) (w f v g : List ℕ) (t : Text bytes n w f) (u : Text others o v g)
    (scale : length f ≡ length g) (coefficient : signed_of n (number w f) ≡ signed_of o (number v g)) where
  magnitudes : number w f ≡ number v g
  magnitudes = sym (magnitude_signed n (number w f)) ∙ ap magnitude_of coefficient ∙ magnitude_signed o (number v g)

  split : (worth 0 w ≡ worth 0 v) × (worth 0 f ≡ worth 0 g)
  split =
      let other : worth 0 v * 10 ^ length g + worth 0 g ≡ worth 0 v * 10 ^ length f + worth 0 g =
      ap (λ (k : ℕ). worth 0 v * 10 ^ k + worth 0 g) (sym scale) in
      let under : worth 0 g < 10 ^ length f = rw scale (below g u.places) in
      apart (10 ^ length f) (worth 0 w) (worth 0 v) (worth 0 f) (worth 0 g) (below f t.places) under
      (sym (number_is w f) ∙ magnitudes ∙ number_is v g ∙ other)

  same_whole : w ≡ v
  same_whole = same_plain w v t.digits u.digits t.some u.some t.plain u.plain split.0

  same_fraction : f ≡ g
  same_fraction = same_digits f g t.places u.places scale split.1

  pub one_text : bytes ≡ others
  one_text =
      t.spelled
      ∙ ap (λ (s : Bool). minus s ++ (w ++ pointed f)) (same_sign n o (number w f) (number v g) t.signed u.signed coefficient)
      ∙ ap (λ (xs : List ℕ). minus o ++ (xs ++ pointed f)) same_whole
      ∙ ap (λ (xs : List ℕ). minus o ++ (v ++ pointed xs)) same_fraction
      ∙ sym u.spelled
