-- What is left of a call: where it is accepted the new net total lies within L, what is settled added; where it is not, the net total stays and
-- nothing is paid. Assumes nothing.
use mathlib.Core.Path.{◌≡◌, refl, sym, ap, ap₂, ◌∙◌}
use mathlib.Core.Bool.{Bool, true, false, cond}
use mathlib.Core.List.{List, [], ◌∷◌}
use Prim.Native.Nat.{ℕ, ◌+◌, ◌-◌, ◌*◌, ◌≤◌}
use native.Mathlib.Omega.{arith}
use borrow.Author.Tests.{ltb-false}
use lib.Dec.{ltb}
use lib.IntN.{ℤ}
use lib.ListN.{get_or, set}
use Rattle.refusal.specs.Number.{number_of, blamed_of}
use Rattle.refusal.specs.Rows.{Said, gives, refuses, row, first_row}
use Rattle.refusal.specs.declared.Refusal.{Refusal}
use Rattle.refusal.specs.declared.Refusal.TheVariants.{Magnitude, Negative, Refund, Limit}
use Rattle.whole.specs.Whole.{negative, magnitude_of}
use Rattle.amount.specs.Amounts.{largest, over_l}
use Rattle.units.specs.Rule.{totals}
use Rattle.units.proofs.Added.{never_fall}
use Rattle.book.specs.Books.{partners, zeros}
use Rattle.book.specs.Moves.{less_of}
use Rattle.bulk.specs.Runs.{number_said, written}
use Rattle.cycle.specs.Cycle.{Weighed}
use Rattle.refusal.proofs.Joined.{same_value}
use Rattle.bulk.specs.Left.{left_rows, left_said, left_net, left_pays, Stepped}

-- whether it is a refund or not
pub same_either : {A : Type 0} (x : Bool) (a : A) → cond x a a ≡ a
same_either true a = refl
same_either false a = refl

-- an accepted call's new net total
pub next_is : (settled : ℕ) (refund : Bool) (sign : Bool) (m n next : ℕ) → left_said settled refund sign m n ≡ gives next → next ≡ cond refund (n - m) (n + m)
unfolding left_said
next_is settled true sign m n next e = sym (same_value (n - m) next (left_rows sign m (row Refund (ltb n m))) e)
next_is settled false sign m n next e = sym (same_value (n + m) next (left_rows sign m (row Limit (over_l (settled + (n + m))))) e)

-- in any case the net total stays within L, what is settled added
within : (settled n v : ℕ) (x y w : Bool) (last : Refusal) → settled + n ≤ largest → (w ≡ false → settled + v ≤ largest)
    → settled + left_net n (first_row (row Magnitude x ∷ row Negative y ∷ row last w ∷ []) (gives v)) ≤ largest
unfolding left_net
within settled n v true y w last limit h = limit
within settled n v false true w last limit h = limit
within settled n v false false true last limit h = limit
within settled n v false false false last limit h = h refl

left_within : (settled : ℕ) (refund : Bool) (sign : Bool) (m n : ℕ) → settled + n ≤ largest → settled + left_net n (left_said settled refund sign m n) ≤ largest
unfolding left_said
left_within settled refund sign m n limit =
    either refund _ _
    (within settled n (n - m) (over_l m) sign (ltb n m) Refund limit (λ e. omega arith))
    (within settled n (n + m) (over_l m) sign (over_l (settled + (n + m))) Limit limit (ltb-false largest (settled + (n + m))))
  where
    either : (x : Bool) (s t : Said ℕ) → settled + left_net n s ≤ largest → settled + left_net n t ≤ largest → settled + left_net n (cond x s t) ≤ largest
    either true s t p q = p
    either false s t p q = q

pub next_within : {next : ℕ} (settled : ℕ) (refund : Bool) (sign : Bool) (m n : ℕ) → settled + n ≤ largest → left_said settled refund sign m n ≡ gives next
    → settled + next ≤ largest
unfolding left_net
next_within settled refund sign m n limit e = rw e at (left_within settled refund sign m n limit)

-- a call in the program's variables: its coefficient as the program has it, the sign and the magnitude of that, and what was written
module _ (settled : ℕ) (ws : List ℕ) (refund : Bool) (c z : ℤ) (j n m : ℕ) (sign : Bool) (payouts numbers held ps : List ℕ)
    (same : z ≡ c) (same_sign : sign ≡ negative z) (same_m : m ≡ magnitude_of z) (at : held ≡ totals ws n) where
  -- what was written is what the call says
  stepped : (said : Said ℕ) → left_said settled refund sign m n ≡ said → (next : ℕ) (ts : List ℕ) → next ≡ left_net n said → ts ≡ totals ws next
      → ps ≡ written payouts (j * partners) (left_pays refund ws n said) partners
      → Stepped settled ws refund c j n payouts numbers next ts ps (set numbers j (number_said said))
  stepped said is next ts moved new put =
      let read : left_said settled refund sign m n ≡ left_said settled refund (negative c) (magnitude_of c) n =
      ap₂ (λ (s : Bool) (x : ℕ). left_said settled refund s x n) (same_sign ∙ ap negative same) (same_m ∙ ap magnitude_of same) in
      let e = sym is ∙ read in
      record {
        net = moved ∙ ap (left_net n) e;
        held = new;
        paid = put ∙ ap (λ (x : Said ℕ). written payouts (j * partners) (left_pays refund ws n x) partners) e;
        said = ap (λ (x : Said ℕ). set numbers j (number_said x)) e;
      }

  pub step_refused : (r : Refusal) → refuses (number_of r) (blamed_of r) ≡ left_said settled refund sign m n → ps ≡ written payouts (j * partners) zeros partners
      → Stepped settled ws refund c j n payouts numbers n held ps (set numbers j (number_of r))
  unfolding number_said left_net left_pays
  step_refused r e put = stepped (refuses (number_of r) (blamed_of r)) (sym e) n held refl at put

  pub step_accepted : (next : ℕ) (ts : List ℕ) → gives next ≡ left_said settled refund sign m n → ts ≡ totals ws next
      → ps ≡ written payouts (j * partners) (cond refund (less_of held ts) (less_of ts held)) partners
      → Stepped settled ws refund c j n payouts numbers next ts ps (set numbers j 0)
  unfolding number_said left_net left_pays
  step_accepted next ts e new put = stepped (gives next) (sym e) next ts refl new (rw (← new, ← at) put)

pub step_within : {settled : ℕ} {ws : List ℕ} {refund : Bool} {c : ℤ} {j n : ℕ} {payouts numbers : List ℕ} {next : ℕ} {ts ps ns : List ℕ} → settled + n ≤ largest
    → Stepped settled ws refund c j n payouts numbers next ts ps ns → settled + next ≤ largest
step_within {settled = settled} {refund = refund} {c = c} {n = n} limit s = rw s.net (left_within settled refund (negative c) (magnitude_of c) n limit)

-- the totals at a greater net total are not below those at a lesser
pub totals_rise : (ws : List ℕ) {sum : ℕ} → Weighed ws sum → (low high : ℕ) (ls hs : List ℕ) → low ≤ high → ls ≡ totals ws low → hs ≡ totals ws high
    → (i : ℕ) → get_or ls i 0 ≤ get_or hs i 0
totals_rise ws w low high ls hs h l g i = rw (l, g) (never_fall ws (rw w.same at w.some) low high h i)
