-- Each rule's number has the rule's answer at each question's bit: all sixteen are computed, once for a rule. Assumes nothing.
use mathlib.Core.Path.{◌≡◌, refl, ap}
use mathlib.Core.Bool.{Bool, true, false}
use mathlib.Core.List.{List, [], ◌∷◌}
use Prim.Native.Nat.{ℕ, ◌+◌, ◌*◌, ◌/◌, ◌%◌, ◌^◌, ◌≤◌}
use native.Mathlib.Omega.{arith}
use lib.Dec.{eqb}
use lib.ListN.{get_or}
use mir.Val.{bool_byte}
use Rattle.rounding.specs.declared.Rule.{Rule}
use Rattle.rounding.specs.declared.Rule.TheVariants.{Up, Down, Ceiling, Floor, HalfUp, HalfDown, HalfEven}
use Rattle.rounding.specs.declared.Rest.{Rest}
use Rattle.rounding.specs.declared.Rest.TheVariants.{Exact, Below, Half, Above}
use Rattle.rounding.specs.Modes.{rises_by}
use Rattle.rounding.specs.Answers.{number_of, answers_of}

abbrev bit : (n k : ℕ) → Bool
bit n k = eqb (n / 2 ^ k % 2) 1

-- a question's place
abbrev pub question : (negative odd : Bool) → (rest : ℕ) → ℕ
question negative odd rest = rest + 4 * bool_byte odd + 8 * bool_byte negative

pub one_at_most : (b : Bool) → bool_byte b ≤ 1
one_at_most true = omega arith
one_at_most false = omega arith

pub three_at_most : (rest : Rest) → number_of rest ≤ 3
three_at_most Exact = omega arith
three_at_most Below = omega arith
three_at_most Half = omega arith
three_at_most Above = omega arith

abbrev bits : ℕ → List Bool
bits n =
    bit n 0 ∷ bit n 1 ∷ bit n 2 ∷ bit n 3 ∷ bit n 4 ∷ bit n 5 ∷ bit n 6 ∷ bit n 7
    ∷ bit n 8 ∷ bit n 9 ∷ bit n 10 ∷ bit n 11 ∷ bit n 12 ∷ bit n 13 ∷ bit n 14 ∷ bit n 15 ∷ []

abbrev asked : (Bool → Bool → Rest → Bool) → List Bool
asked f =
    f false false Exact ∷ f false false Below ∷ f false false Half ∷ f false false Above
    ∷ f false true Exact ∷ f false true Below ∷ f false true Half ∷ f false true Above
    ∷ f true false Exact ∷ f true false Below ∷ f true false Half ∷ f true false Above
    ∷ f true true Exact ∷ f true true Below ∷ f true true Half ∷ f true true Above ∷ []

module _ (n : ℕ) (f : Bool → Bool → Rest → Bool) (same : bits n ≡ asked f) where
  at : (k : ℕ) → get_or (bits n) k false ≡ get_or (asked f) k false
  at k = ap (λ (l : List Bool). get_or l k false) same

  each : (negative odd : Bool) (rest : Rest) → bit n (question negative odd (number_of rest)) ≡ f negative odd rest
  each false false Exact = at 0
  each false false Below = at 1
  each false false Half = at 2
  each false false Above = at 3
  each false true Exact = at 4
  each false true Below = at 5
  each false true Half = at 6
  each false true Above = at 7
  each true false Exact = at 8
  each true false Below = at 9
  each true false Half = at 10
  each true false Above = at 11
  each true true Exact = at 12
  each true true Below = at 13
  each true true Half = at 14
  each true true Above = at 15

pub answered : (rule : Rule) (negative odd : Bool) (rest : Rest)
    → eqb (answers_of rule / 2 ^ question negative odd (number_of rest) % 2) 1 ≡ rises_by rule negative odd rest
answered Up = each (answers_of Up) (rises_by Up) refl
answered Down = each (answers_of Down) (rises_by Down) refl
answered Ceiling = each (answers_of Ceiling) (rises_by Ceiling) refl
answered Floor = each (answers_of Floor) (rises_by Floor) refl
answered HalfUp = each (answers_of HalfUp) (rises_by HalfUp) refl
answered HalfDown = each (answers_of HalfDown) (rises_by HalfDown) refl
answered HalfEven = each (answers_of HalfEven) (rises_by HalfEven) refl
