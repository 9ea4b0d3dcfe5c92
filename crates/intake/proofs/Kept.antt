-- Bytes copied to the front are those that are kept there. Assumes nothing.
use mathlib.Core.Path.{◌≡◌, sym, ◌∙◌, ap}
use mathlib.Core.List.{List, ◌++◌}
use Prim.Native.Nat.{ℕ, ◌+◌, ◌-◌, min}
use native.Mathlib.Omega.{arith}
use lib.ListN.{length, take, drop, length-take}
use Rattle.std.specs.List.{copy_within}
use Rattle.std.proofs.lemmas.List.{take_min, drop_min}
use Rattle.std.proofs.lemmas.Slice.{between_is}
use Rattle.intake.specs.Keeping.{kept_of}

pub kept_is
    : (text : List ℕ) (from to start end : ℕ) → end ≡ min to (length text) → start ≡ min from end → copy_within text start end 0 ≡ kept_of text from to
unfolding kept_of
kept_is text from to start end e s =
    ap (λ (l : List ℕ). l ++ drop (0 + (end - start)) text) front ∙ ap (λ (n : ℕ). drop from (take to text) ++ drop n text) back
  where
    within : start ≡ min from (length (take to text))
    within = s ∙ ap (min from) (e ∙ sym (length-take to text))

    front : take (end - start) (drop start text) ≡ drop from (take to text)
    front =
        between_is text start end
        ∙ ap (drop start) (ap (λ (n : ℕ). take n text) e ∙ take_min to text)
        ∙ ap (λ (n : ℕ). drop n (take to text)) within
        ∙ drop_min from (take to text)

    back : 0 + (end - start) ≡ min to (length text) - from
    back = omega arith
