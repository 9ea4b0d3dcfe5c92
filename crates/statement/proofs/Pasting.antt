-- A list with others in it from a place on keeps its length; lists put in one behind the other are one list put in; and a part that is lent on
-- from its middle comes back with what was put to its front. Assumes nothing.
use mathlib.Core.Path.{◌≡◌, sym, ◌∙◌, ap, ap₂}
use mathlib.Core.List.{List, [], ◌++◌, append_assoc, append-nil}
use Prim.Native.Nat.{ℕ, ◌+◌, ◌-◌, ◌≤◌}
use native.Mathlib.Omega.{arith}
use lib.ListN.{length, take, drop, length-append, length-drop, take-append-drop, drop_of_length-le}
use lib.Seq.{length-take-le, take_all, take-length, take_at, drop-append-add, drop-drop, paste}
use Rattle.statement.specs.Bytes.{pasted}

module _ (at : ℕ) (xs old : List ℕ) where
  pub length_pasted : at + length xs ≤ length old → length (pasted at xs old) ≡ length old
  unfolding pasted
  length_pasted h =
      omega (arith, length-append (take at old) (xs ++ drop (at + length xs) old), length-append xs (drop (at + length xs) old), length-drop (at + length xs) old, length-take-le at old (omega arith))

  -- nothing put in
  pub paste_nothing : old ≡ pasted at [] old
  unfolding pasted
  paste_nothing = let none : at + 0 ≡ at = omega arith in sym (ap (λ (n : ℕ). take at old ++ drop n old) none ∙ take-append-drop at old)

  -- all of a list, as a loop copies it
  pub paste_all : paste old at xs (length xs) ≡ pasted at xs old
  unfolding pasted
  paste_all =
      ap (λ (l : List ℕ). (take at old ++ l) ++ drop (at + length xs) old) (take-length xs)
      ∙ append_assoc (take at old) xs (drop (at + length xs) old)

  -- a list put in right behind
  pub paste_behind : (ys : List ℕ) → at ≤ length old → pasted (at + length xs) ys (pasted at xs old) ≡ pasted at (xs ++ ys) old
  unfolding pasted
  paste_behind ys h =
      let p : List ℕ = take at old ++ xs in
      let b : ℕ = at + length xs in
      let q : List ℕ = drop b old in
      let long : length p ≡ b = length-append (take at old) xs ∙ ap (λ (n : ℕ). n + length xs) (length-take-le at old h) in
      let both : b + length ys ≡ at + length (xs ++ ys) = omega (arith, length-append xs ys) in
      let split : take at old ++ (xs ++ q) ≡ p ++ q = sym (append_assoc (take at old) xs q) in
      ap (λ (l : List ℕ). take b l ++ (ys ++ drop (b + length ys) l)) split
      ∙ ap₂ (λ (l r : List ℕ). l ++ (ys ++ r)) (take_at p q b long)
      (ap (λ (n : ℕ). drop (n + length ys) (p ++ q)) (sym long) ∙ drop-append-add p q (length ys) ∙ drop-drop (length ys) b old)
      ∙ append_assoc (take at old) xs (ys ++ drop (b + length ys) old)
      ∙ ap (λ (l : List ℕ). take at old ++ l) (sym (append_assoc xs ys (drop (b + length ys) old)))
      ∙ ap (λ (n : ℕ). take at old ++ ((xs ++ ys) ++ drop n old)) both

  -- the part from the place on, lent and back
  pub paste_lent : at ≤ length old
      → take at old ++ (pasted 0 xs (take (length old - at) (drop at old)) ++ drop (length old - at) (drop at old)) ≡ pasted at xs old
  unfolding pasted
  paste_lent h =
      let k : ℕ = length old - at in
      let whole : take k (drop at old) ≡ drop at old = take_all k (drop at old) (omega (arith, length-drop at old)) in
      let here : at + (0 + length xs) ≡ at + length xs = omega arith in
      let rest : List ℕ = drop k (drop at old) in
      ap (λ (l : List ℕ). take at old ++ ((xs ++ drop (0 + length xs) l) ++ rest)) whole
      ∙ ap (λ (l : List ℕ). take at old ++ l) (append_assoc xs (drop (0 + length xs) (drop at old)) rest)
      ∙ ap (λ (l : List ℕ). take at old ++ (xs ++ l)) (ap₂ (λ (l r : List ℕ). l ++ r) (drop-drop (0 + length xs) at old) empty ∙ append-nil _)
      ∙ ap (λ (n : ℕ). take at old ++ (xs ++ drop n old)) here
    where
      nothing : (n : ℕ) (l : List ℕ) → length l ≤ n → drop n l ≡ []
      nothing n l le = drop_of_length-le l le

      empty : drop (length old - at) (drop at old) ≡ []
      empty = nothing (length old - at) (drop at old) (omega (arith, length-drop at old))
