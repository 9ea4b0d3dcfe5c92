-- Two amounts of one currency are ordered by worth: Less, Equal or Greater exactly as coefficient * 10^(the other's scale) is below, at or
-- above the other's. A common power of ten changes no order, and of two numbers exactly one of the three holds. Assumes nothing.
use Rattle.std.specs.Prelude.{Ok}
use mathlib.Core.Path.{◌≡◌, refl, sym, ◌∙◌, ap, ap₂, subst}
use mathlib.Core.Bool.{Bool, true, false, cond}
use mathlib.Core.Logic.{◌↔◌}
use Prim.Native.Nat.{ℕ, ◌+◌, ◌-◌, ◌<◌, ◌≤◌, ◌^◌, max, min}
use native.Mathlib.Nat.{le-max_left, le-max_right, max-add-min}
use native.Mathlib.Omega.{arith}
use borrow.Author.Tests.{le-ltb, ltb-true, ltb-false}
use lib.Dec.{T}
use lib.IntN.{ℤ, pos, negsuc, ◌*ℤ◌}
use lib.Signed.{lt_z, ◌<ℤ◌, lt_z_yes}
use Rattle.refusal.specs.Rows.{Said, gives, check_of}
use Rattle.refusal.proofs.Check.{passed}
use Rattle.whole.specs.Whole.{magnitude_of}
use Rattle.amount.specs.declared.Amount.{Amount}
use Rattle.std.specs.declared.cmp.Ordering.{Ordering}
use Rattle.std.specs.declared.cmp.Ordering.TheVariants.{Less, Equal, Greater}
use Rattle.amount.specs.Amounts.{raised_to}
use Rattle.amount.specs.Sum.{pair_rows, rows_of_two, greater_scale, compared, order_said}
use Rattle.amount.proofs.Factors.{times_tens, times_order}
use Rattle.amount.proofs.Limits.{Pair, pair_passes}
use Rattle.amount.proofs.Scales.{ten_some}

-- the worths of two amounts over one denominator: a's coefficient times 10^(b's scale)
abbrev pub worth : (a b : Amount) → ℤ
worth a b = a.coefficient *ℤ pos (10 ^ b.scale)

-- what each order says of two numbers
abbrev pub Says : Ordering → (x y : ℤ) → Type 0
Says Less x y = x <ℤ y
Says Equal x y = x ≡ y
Says Greater x y = y <ℤ x

is_true : (b : Bool) → T b → b ≡ true
is_true true t = refl
is_true false t = absurd t

is_less : (x y : ℤ) → lt_z x y ≡ true → x <ℤ y
is_less x y e = lt_z_yes (subst T (sym e) tt)

-- one way only
not_both : (x y : ℤ) → lt_z x y ≡ true → lt_z y x ≡ false
not_both (pos a) (pos b) e = le-ltb b a (omega (arith, ltb-true a b e))
not_both (pos a) (negsuc b) e = sym e
not_both (negsuc a) (pos b) e = refl
not_both (negsuc a) (negsuc b) e = le-ltb a b (omega (arith, ltb-true b a e))

not_itself : (x : ℤ) → lt_z x x ≡ false
not_itself (pos a) = le-ltb a a (omega arith)
not_itself (negsuc a) = le-ltb a a (omega arith)

-- neither way
neither : (x y : ℤ) → lt_z x y ≡ false → lt_z y x ≡ false → x ≡ y
neither (pos a) (pos b) e f = ap pos (omega (arith, ltb-false a b e, ltb-false b a f))
neither (pos a) (negsuc b) e f = absurd (subst T f tt)
neither (negsuc a) (pos b) e f = absurd (subst T e tt)
neither (negsuc a) (negsuc b) e f = ap negsuc (omega (arith, ltb-false b a e, ltb-false a b f))

-- what is found of two numbers holds of them, and only that
found_says : (x y : ℤ) → Says (compared x y) x y
found_says x y = go (lt_z x y) refl (lt_z y x) refl
  where
    go : (b : Bool) → lt_z x y ≡ b → (d : Bool) → lt_z y x ≡ d → Says (cond b Less (cond d Greater Equal)) x y
    go true e d f = is_less x y e
    go false e true f = is_less y x f
    go false e false f = neither x y e f

says_found : (o : Ordering) (x y : ℤ) → Says o x y → compared x y ≡ o
says_found Less x y h = rw (is_true (lt_z x y) h.lt)
says_found Equal x y h = rw (h, not_itself y)
says_found Greater x y h = rw (not_both y x (is_true (lt_z y x) h.lt), is_true (lt_z y x) h.lt)

pub exactly : (o : Ordering) (x y : ℤ) → (compared x y ≡ o) ↔ Says o x y
exactly o x y = (λ e. subst (λ (p : Ordering). Says p x y) e (found_says x y), says_found o x y)

-- of two numbers no other order holds
pub no_other : (o p : Ordering) (x y : ℤ) → Says o x y → Says p x y → o ≡ p
no_other o p x y h k = sym (says_found o x y h) ∙ says_found p x y k

-- a common factor above 0 changes no order
same_order : (x y : ℤ) (f : ℕ) → 0 < f → compared (x *ℤ pos f) (y *ℤ pos f) ≡ compared x y
same_order x y f h = rw (times_order x y f h, times_order y x f h)

-- the order at the greater scale
abbrev pub found : Amount → Amount → Ordering
found a b = compared (raised_to (greater_scale a b) a) (raised_to (greater_scale a b) b)

worths_found : (a b : Amount) → found a b ≡ compared (worth a b) (worth b a)
worths_found a b =
    let s = a.scale in
    let t = b.scale in
    let least : s ≤ max s t = le-max_left s t in
    let least2 : t ≤ max s t = le-max_right s t in
    let both : max s t + min s t ≡ s + t = max-add-min s t in
    sym (same_order (raised_to (max s t) a) (raised_to (max s t) b) (10 ^ min s t) (ten_some (min s t)))
    ∙ ap₂ compared (times_tens a.coefficient (max s t - s) (min s t) t (omega arith))
    (times_tens b.coefficient (max s t - t) (min s t) s (omega arith))

-- THE LAW: the order of two amounts is that of their worths
pub by_worth : (a b : Amount) (o : Ordering) → (found a b ≡ o) ↔ Says o (worth a b) (worth b a)
by_worth a b o =
    (λ e. (exactly o (worth a b) (worth b a)).0 (sym (worths_found a b) ∙ e), λ h. worths_found a b ∙ (exactly o (worth a b) (worth b a)).1 h)

-- and the answer of a call that no row stops
pub order_by_worth : (a b : Amount) (o : Ordering) → check_of (rows_of_two a b) ≡ Ok tt → (order_said a b ≡ gives o) ↔ Says o (worth a b) (worth b a)
unfolding order_said
order_by_worth a b o e =
    let said : order_said a b ≡ gives (found a b) = passed (gives (found a b)) (rows_of_two a b) e in
    (λ g. (by_worth a b o).0 (same (sym said ∙ g)), λ h. said ∙ ap gives ((by_worth a b o).1 h))
  where
    same : {p q : Ordering} → ◌≡◌ {A = Said Ordering} (gives p) (gives q) → p ≡ q
    same e = cc

-- it is total on one currency: two amounts within their limits are ordered, as their worths are
pub always_ordered : (a b : Amount)
    → Pair a.scale b.scale (magnitude_of a.coefficient) (magnitude_of b.coefficient) a.currency b.currency
    → (o : Ordering) × (order_said a b ≡ gives o) × Says o (worth a b) (worth b a)
always_ordered a b p =
    let passes = pair_passes a.scale b.scale (magnitude_of a.coefficient) (magnitude_of b.coefficient) a.currency b.currency p in
    let says = (by_worth a b (found a b)).0 refl in (found a b, (order_by_worth a b (found a b) passes).1 says, says)

-- "1.5 and 1.50 are equal"
pub one_and_a_half :
    order_said (record { currency = record { 0 = 0 }; scale = 1; coefficient = pos 15 }) (record { currency = record { 0 = 0 }; scale = 2; coefficient = pos 150 })
    ≡ gives Equal
unfolding order_said pair_rows
one_and_a_half = refl
