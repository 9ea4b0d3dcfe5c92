-- A scan from a place on ends where it ends from the next place on, as long as the byte at the place passes; it ends at the place itself
-- where that byte does not pass, and where there is no byte. What it passed over passes, and what stands behind it does not.
-- Assumes nothing.
use mathlib.Core.Path.{◌≡◌, refl, ◌∙◌, ap}
use mathlib.Core.Bool.{Bool, true, false, not, cond}
use mathlib.Core.List.{List, [], ◌∷◌}
use Prim.Native.Nat.{ℕ, zero, suc, ◌+◌, ◌-◌, ◌≤◌, ◌<◌}
use native.Mathlib.Numerals.{add-one}
use native.Mathlib.Decide.{dec_lt}
use native.Mathlib.Omega.{arith}
use borrow.Author.Tests.{lt-ltb, le-ltb}
use lib.Dec.{ltb}
use lib.ListN.{length, get_or, drop, length-drop, drop_of_length-le}
use lib.Seq.{drop-cons, get_or-drop}
use Rattle.std.specs.Prelude.{Option, Some, None}
use Rattle.std.specs.List.{position_or_len}
use Rattle.std.specs.Option.{unwrap_or}
use Rattle.std.proofs.lemmas.List.Recursion.{is_position_or_len}
use Rattle.lines.specs.Lines.{span}

module _ (passes : ℕ → Bool) where
  bounded : (t : Bool) (s l : ℕ) → s ≤ l → cond t (suc s) 0 ≤ suc l
  bounded true s l h = omega arith
  bounded false s l h = omega arith

  pub span_le : (bs : List ℕ) → span passes bs ≤ length bs
  unfolding span
  span_le [] = omega arith
  span_le (b ∷ bs) = bounded (passes b) (span passes bs) (length bs) (span_le bs)

  pub span_inside : (bs : List ℕ) (i : ℕ) → i < span passes bs → passes (get_or bs i 0) ≡ true
  unfolding span
  span_inside [] i h = absurd (omega arith)
  span_inside (b ∷ bs) i h = at (passes b) refl (span_inside bs) i h
    where
      at
          : (t : Bool) → passes b ≡ t → ((i : ℕ) → i < span passes bs → passes (get_or bs i 0) ≡ true)
          → (i : ℕ) → i < cond t (suc (span passes bs)) 0 → passes (get_or (b ∷ bs) i 0) ≡ true
      at true e more zero h = e
      at true e more (suc i) h = more i (omega arith)
      at false e more i h = absurd (omega arith)

  pub span_behind : (bs : List ℕ) → span passes bs < length bs → passes (get_or bs (span passes bs) 0) ≡ false
  unfolding span
  span_behind [] h = absurd (omega arith)
  span_behind (b ∷ bs) h = at (passes b) refl (span_behind bs) h
    where
      at
          : (t : Bool) → passes b ≡ t → (span passes bs < length bs → passes (get_or bs (span passes bs) 0) ≡ false)
          → cond t (suc (span passes bs)) 0 < suc (length bs) → passes (get_or (b ∷ bs) (cond t (suc (span passes bs)) 0) 0) ≡ false
      at true e more h = more (omega arith)
      at false e more h = e

  -- it is the place of the first that does not pass, or the length where each passes
  span_first : (bs : List ℕ) → span passes bs ≡ position_or_len (λ b. not (passes b)) bs
  unfolding span
  span_first bs = is_position_or_len (span passes) (λ b. not (passes b)) refl (λ b bs. at (passes b) (span passes bs)) bs
    where
      at : (t : Bool) (n : ℕ) → cond t (suc n) 0 ≡ cond (not t) 0 (1 + n)
      at true n = omega arith
      at false n = refl

  pub first_found
      : (bs : List ℕ) (r : Option ℕ) (n : ℕ) → n ≡ position_or_len (λ b. not (passes b)) bs → r ≡ cond (ltb n (length bs)) (Some n) None
      → unwrap_or r (length bs) ≡ span passes bs
  first_found bs r n e is = at (dec_lt n (length bs))
    where
      at : Dec (n < length bs) → unwrap_or r (length bs) ≡ span passes bs
      at (yes h) = rw (is, lt-ltb n (length bs) h) (omega (arith, span_first bs))
      at (no h) = rw (is, le-ltb n (length bs) (omega arith)) (omega (arith, span_first bs, span_le bs))

-- where a scan from a place on ends
abbrev pub ends : (ℕ → Bool) → List ℕ → ℕ → ℕ
ends passes bs at = at + span passes (drop at bs)

module _ (passes : ℕ → Bool) (bs : List ℕ) (i : ℕ) where
  pub on : i < length bs → passes (get_or bs i 0) ≡ true → ends passes bs i ≡ ends passes bs (i + 1)
  unfolding span
  on h e = rw (drop-cons bs i 0 h, e, add-one) (omega arith)

  pub ended : i < length bs → passes (get_or bs i 0) ≡ false → ends passes bs i ≡ i
  unfolding span
  ended h e = rw (drop-cons bs i 0 h, e) (omega arith)

  pub out : length bs ≤ i → ends passes bs i ≡ i
  unfolding span
  out h = rw (drop_of_length-le bs h) (omega arith)

  -- what lies between a place and its end
  pub ends_from : i ≤ ends passes bs i
  ends_from = omega arith

  pub ends_within : i ≤ length bs → ends passes bs i ≤ length bs
  ends_within h = omega (arith, span_le passes (drop i bs), length-drop i bs)

  pub ends_inside : (k : ℕ) → i ≤ k → k < ends passes bs i → passes (get_or bs k 0) ≡ true
  ends_inside k h l =
      let e : get_or (drop i bs) (k - i) 0 ≡ get_or bs k 0 = get_or-drop i bs (k - i) 0 ∙ ap (λ (n : ℕ). get_or bs n 0) (omega arith) in
      rw e at (span_inside passes (drop i bs) (k - i) (omega arith))

  pub ends_behind : ends passes bs i < length bs → passes (get_or bs (ends passes bs i) 0) ≡ false
  ends_behind h =
      rw (get_or-drop i bs (span passes (drop i bs)) 0) at (span_behind passes (drop i bs) (omega (arith, length-drop i bs)))
