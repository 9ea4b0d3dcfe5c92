-- A text of the grammar is taken apart as it was put together, and what passes the tests of the bytes is in the grammar: so row 14 holds exactly for the bytes that
-- the grammar hasn't. Assumes nothing.
use mathlib.Core.Path.{◌≡◌, refl, sym, ◌∙◌, ap}
use mathlib.Core.Bool.{Bool, true, false, cond}
use mathlib.Core.List.{List, [], ◌∷◌, ◌++◌}
use Prim.Native.Nat.{ℕ, ◌+◌, ◌<◌}
use native.Mathlib.Nat.{add-zero}
use native.Mathlib.Omega.{arith}
use borrow.Author.Tests.{ne_eqb}
use lib.Dec.{eqb}
use lib.ListN.{length, get_or, take, drop, length-drop}
use lib.Seq.{slice, take-append-add, take-append_seam, drop-append-add, drop-append_seam}
use Rattle.lines.specs.Lines.{span, is_digit, worth}
use Rattle.text.specs.Grammar.{Digits, none, more, minus, pointed, number, Text}
use Rattle.text.specs.Read.{negative_in, start_in, digits_end, end_in, fraction_from, number_at, scale_at}
use Rattle.text.proofs.Digits.{all_passed}

-- no digit stands in front of what follows the digits
no_digit : (f : List ℕ) → span is_digit (pointed f) ≡ 0
unfolding span
no_digit [] = refl
no_digit (b ∷ bs) = refl

behind_point : (f : List ℕ) → drop 1 (pointed f) ≡ f
behind_point [] = refl
behind_point (b ∷ bs) = refl

-- a sign p, digits w and what follows
module _ (p w f : List ℕ) (ds : Digits w) where
  abbrev whole_text : List ℕ
  whole_text = p ++ (w ++ pointed f)

  ends_there : digits_end whole_text (length p) ≡ length p + length w
  ends_there =
      rw (drop-append_seam p (w ++ pointed f), all_passed w ds (pointed f), no_digit f, add-zero (length w))

  whole_there : slice (length p) (length p + length w) whole_text ≡ w
  whole_there = rw (take-append-add p (w ++ pointed f) (length w), drop-append_seam p (take (length w) (w ++ pointed f)), take-append_seam w (pointed f))

  fraction_there : drop (length p + length w + 1) whole_text ≡ f
  fraction_there =
      let e : length p + length w + 1 ≡ length p + (length w + 1) = omega arith in
      rw (e, drop-append-add p (w ++ pointed f) (length w + 1), drop-append-add w (pointed f) 1, behind_point f)

-- the sign is where it says
first_whole : (w r : List ℕ) → Digits w → 0 < length w → eqb (get_or (w ++ r) 0 0) 45 ≡ false
first_whole [] r none h = absurd (omega arith)
first_whole (b ∷ bs) r (more l h ds) k = ne_eqb b 45 (omega arith)

module _ (bytes : List ℕ) (n : Bool) (w f : List ℕ) (t : Text bytes n w f) where
  pub sign_is : negative_in bytes ≡ n
  sign_is = rw t.spelled (by n)
    where
      by : (s : Bool) → negative_in (minus s ++ (w ++ pointed f)) ≡ s
      by true = refl
      by false = first_whole w (pointed f) t.digits t.some

  pub start_is : start_in bytes ≡ length (minus n)
  start_is = rw sign_is (by n)
    where
      by : (s : Bool) → cond s 1 0 ≡ length (minus s)
      by true = refl
      by false = refl

  pub end_is : end_in bytes ≡ length (minus n) + length w
  end_is = ap (λ (k : ℕ). digits_end bytes k) start_is ∙ ap (λ (bs : List ℕ). digits_end bs (length (minus n))) t.spelled ∙ ends_there (minus n) w f t.digits

  pub whole_is : slice (start_in bytes) (end_in bytes) bytes ≡ w
  whole_is =
      ap (λ (k : ℕ). slice k (end_in bytes) bytes) start_is
      ∙ ap (λ (k : ℕ). slice (length (minus n)) k bytes) end_is
      ∙ ap (λ (bs : List ℕ). slice (length (minus n)) (length (minus n) + length w) bs) t.spelled
      ∙ whole_there (minus n) w f t.digits

  pub fraction_is : fraction_from bytes (end_in bytes) ≡ f
  fraction_is =
      ap (λ (k : ℕ). drop (k + 1) bytes) end_is ∙ ap (λ (bs : List ℕ). drop (length (minus n) + length w + 1) bs) t.spelled
      ∙ fraction_there (minus n) w f t.digits

  pub number_there : number_at bytes (start_in bytes) (end_in bytes) ≡ number w f
  number_there =
      ap (λ (bs : List ℕ). worth 0 (bs ++ fraction_from bytes (end_in bytes))) whole_is ∙ ap (λ (bs : List ℕ). worth 0 (w ++ bs)) fraction_is

  pub scale_there : scale_at (length bytes) (end_in bytes) ≡ length f
  scale_there = sym (length-drop (end_in bytes + 1) bytes) ∙ ap length fraction_is
