-- A record's first eight bytes as one number, and what stands behind its coefficient as another: what they say of the numbers in them. Assumes nothing.
use mathlib.Core.Path.{◌≡◌, refl, sym, ◌∙◌, ap, ap₂}
use mathlib.Core.Bool.{Bool, true, false, ◌||◌}
use mathlib.Core.List.{List, [], ◌∷◌}
use Rattle.std.specs.Int.{w64, from_le_bytes}
use Prim.Native.Nat.{ℕ, zero, suc, ◌+◌, ◌*◌, ◌/◌, ◌^◌, ◌≤◌}
use native.Mathlib.Nat.{pow-suc}
use native.Mathlib.Omega.{arith}
use borrow.Author.Tests.{ltb-false, le-ltb, eq-eqb}
use lib.Dec.{ltb}
use lib.ListN.{get_or}
use Rattle.whole.specs.Whole.{magnitude_of}
use Rattle.currency.specs.Table.{last_currency}
use Rattle.amount.specs.Amounts.{largest, over_l}
use Rattle.statement.specs.Bytes.{number_at, from_word}
use Rattle.statement.specs.Files.{record_width, code_bytes, code_zeros, last_place}
use Rattle.statement.specs.Reading.{bad_code, bad_record}
use Rattle.statement.specs.Parts.{bad_head}
use Rattle.statement.proofs.ReadBack.{Bytes, number_below}
use Rattle.statement.proofs.Any.{or_left, or_right}
use Rattle.statement.proofs.Accepted.{good_at, not_bad_at, good_code, not_bad_code, same_not}
use Rattle.statement.specs.declared.Version.TheVariants.{Plain, Reasons}
use Rattle.statement.specs.declared.Version.{Version}

-- two tests of which neither fails alone
both_or_none : (a b : Bool) → (a ≡ false → b ≡ false) → (b ≡ false → a ≡ false) → a ≡ b
both_or_none true true f g = refl
both_or_none true false f g = g refl
both_or_none false b f g = sym (f refl)

-- a number's bytes in two parts
pub number_split : (bytes : List ℕ) (at a b : ℕ) → number_at bytes at (a + b) ≡ number_at bytes at a + 256 ^ a * number_at bytes (at + a) b
unfolding number_at
number_split bytes at zero b =
    let none : 0 + b ≡ b = omega arith in
    let here : at ≡ at + 0 = omega arith in
    ap (number_at bytes at) none ∙ ap (λ (k : ℕ). number_at bytes k b) here ∙ omega arith
number_split bytes at (suc a) b =
    let more : suc a + b ≡ suc (a + b) = omega arith in
    let there : suc at + a ≡ at + suc a = omega arith in
    let behind = ap (λ (k : ℕ). number_at bytes k b) there in
    ap (number_at bytes at) more ∙ omega (arith, number_split bytes (suc at) a b, behind, ap (λ (x : ℕ). x * number_at bytes (at + suc a) b) (pow-suc 256 a), ap (λ (x : ℕ). 256 ^ a * x) behind)

-- eight bytes, as a program reads them
pub eight_is : (bytes : List ℕ) (at n : ℕ)
    → n ≡ from_le_bytes w64 (get_or bytes at 0 ∷ get_or bytes (at + 1) 0 ∷ get_or bytes (at + 2) 0 ∷ get_or bytes (at + 3) 0 ∷ get_or bytes (at + 4) 0 ∷ get_or bytes (at + 5) 0 ∷ get_or bytes (at + 6) 0 ∷ get_or bytes (at + 7) 0 ∷ [])
    → n ≡ number_at bytes at 8
unfolding number_at
eight_is bytes at n is =
    let byte : (i j : ℕ) → i ≡ j → get_or bytes i 0 ≡ get_or bytes j 0 = λ i j e. ap (λ (k : ℕ). get_or bytes k 0) e in
    omega (
      arith,
      is,
      byte (at + 1) (suc at) (omega arith),
      byte (at + 2) (suc (suc at)) (omega arith),
      byte (at + 3) (suc (suc (suc at))) (omega arith),
      byte (at + 4) (suc (suc (suc (suc at)))) (omega arith),
      byte (at + 5) (suc (suc (suc (suc (suc at))))) (omega arith),
      byte (at + 6) (suc (suc (suc (suc (suc (suc at)))))) (omega arith),
      byte (at + 7) (suc (suc (suc (suc (suc (suc (suc at))))))) (omega arith),
    )

module _ (bytes : List ℕ) (b : Bytes bytes) (at agreed : ℕ) where
  head_is : number_at bytes at 8 ≡ number_at bytes at 2 + 65536 * number_at bytes (at + 2) 2 + 4294967296 * number_at bytes (at + 4) 4
  head_is =
      let there : at + 2 + 2 ≡ at + 4 = omega arith in
      omega (arith, number_split bytes at 4 4, number_split bytes at 2 2)

  head_good : bad_head (number_at bytes at 8) agreed ≡ false
      → (number_at bytes at 2 ≤ last_place) × (number_at bytes (at + 2) 2 ≤ last_currency) × (number_at bytes (at + 2) 2 ≡ agreed) × (number_at bytes (at + 4) 4 ≡ 0)
  head_good e =
      let known = ltb-false last_currency agreed (or_left (ltb last_currency agreed) _ e) in
      let is = same_not (number_at bytes at 8 / 16) (4096 * agreed) (or_right (ltb last_currency agreed) _ e) in
      let place = number_below bytes b at 2 in
      let currency = number_below bytes b (at + 2) 2 in
      (omega (arith, head_is, known, is, place, currency), omega (arith, head_is, known, is, place, currency), omega (arith, head_is, known, is, place, currency), omega (arith, head_is, known, is, place, currency))

  good_head : number_at bytes at 2 ≤ last_place → number_at bytes (at + 2) 2 ≤ last_currency → number_at bytes (at + 2) 2 ≡ agreed → number_at bytes (at + 4) 4 ≡ 0
      → bad_head (number_at bytes at 8) agreed ≡ false
  good_head place currency agrees zeros =
      let is : number_at bytes at 8 / 16 ≡ 4096 * agreed = omega (arith, head_is, place, agrees, zeros) in
      simp (le-ltb last_currency agreed (omega (arith, currency, agrees)), eq-eqb (number_at bytes at 8 / 16) (4096 * agreed) is)

-- the code and its zeros, as one number
module _ (bytes : List ℕ) (b : Bytes bytes) (at : ℕ) where
  behind_is : number_at bytes (at + 16) 8 ≡ number_at bytes (at + 16) 2 + 65536 * number_at bytes (at + 18) 6
  behind_is =
      let there : at + 16 + 2 ≡ at + 18 = omega arith in
      omega (arith, number_split bytes (at + 16) 2 6, ap (λ (k : ℕ). number_at bytes k 6) there)

  pub code_with : (version : Version) → version ≡ Reasons
      → ltb 99 (number_at bytes (at + 16) 8) ≡ bad_code version (number_at bytes (at + 16) (code_bytes version)) (number_at bytes (at + (16 + code_bytes version)) (code_zeros version))
  code_with Reasons e =
      both_or_none (ltb 99 (number_at bytes (at + 16) 8)) (bad_code Reasons (number_at bytes (at + 16) 2) (number_at bytes (at + 18) 6))
      (λ f. let h = ltb-false 99 (number_at bytes (at + 16) 8) f in
      not_bad_code Reasons (number_at bytes (at + 16) 2) (number_at bytes (at + 18) 6) (omega (arith, h, behind_is)) (omega (arith, h, behind_is)))
      (λ f. let g = good_code Reasons (number_at bytes (at + 16) 2) (number_at bytes (at + 18) 6) f in
      le-ltb 99 (number_at bytes (at + 16) 8) (omega (arith, g.0, g.1, behind_is)))
  code_with Plain e = let z : ◌≡◌ {A = ℕ} 0 1 = cc in absurd (omega arith)

pub code_without : (bytes : List ℕ) (at : ℕ) (version : Version) → version ≡ Plain
    → false ≡ bad_code version (number_at bytes (at + 16) (code_bytes version)) (number_at bytes (at + (16 + code_bytes version)) (code_zeros version))
unfolding number_at
code_without bytes at Reasons e = let z : ◌≡◌ {A = ℕ} 0 1 = cc in absurd (omega arith)
code_without bytes at Plain e = refl

pub width_with : (version : Version) → version ≡ Reasons → record_width version ≡ 24
width_with Reasons e = refl
width_with Plain e = let z : ◌≡◌ {A = ℕ} 0 1 = cc in absurd (omega arith)

-- a record is bad by its head, or by its coefficient, or by what stands behind it
module _ (version : Version) (bytes : List ℕ) (b : Bytes bytes) (agreed at : ℕ) where
  abbrev over : Bool
  over = over_l (magnitude_of (from_word (number_at bytes (at + 8) 8)))

  abbrev code : ℕ
  code = number_at bytes (at + 16) (code_bytes version)

  abbrev blanks : ℕ
  blanks = number_at bytes (at + (16 + code_bytes version)) (code_zeros version)

  bad_is : bad_head (number_at bytes at 8) agreed || (over || bad_code version code blanks) ≡ bad_record version bytes agreed at
  bad_is =
      both_or_none (bad_head (number_at bytes at 8) agreed || (over || bad_code version code blanks)) (bad_record version bytes agreed at)
      (λ e.
      let head = head_good bytes b at agreed (or_left (bad_head (number_at bytes at 8) agreed) _ e) in
      let rest = or_right (bad_head (number_at bytes at 8) agreed) (over || bad_code version code blanks) e in
      let behind = good_code version code blanks (or_right over (bad_code version code blanks) rest) in
      not_bad_at version bytes agreed at (record {
        numbers = record { placed = head.0; known = head.1; agrees = head.2; empty = head.3; within = ltb-false largest (magnitude_of (from_word (number_at bytes (at + 8) 8))) (or_left over _ rest) };
        coded = behind.0;
        blank = behind.1;
      }))
      (λ e.
      let g = good_at version bytes agreed at e in
      let n = g.numbers in
      simp (
        good_head bytes b at agreed n.placed n.known n.agrees n.empty,
        le-ltb largest (magnitude_of (from_word (number_at bytes (at + 8) 8))) n.within,
        not_bad_code version code blanks g.coded g.blank,
      ))

  pub bad_by_head : bad_head (number_at bytes at 8) agreed ≡ true → true ≡ bad_record version bytes agreed at
  bad_by_head h = ap (λ (x : Bool). x || (over || bad_code version code blanks)) (sym h) ∙ bad_is

  pub bad_by_word : bad_head (number_at bytes at 8) agreed ≡ false → over ≡ true → true ≡ bad_record version bytes agreed at
  bad_by_word h w = ap₂ (λ (x y : Bool). x || (y || bad_code version code blanks)) (sym h) (sym w) ∙ bad_is

  pub bad_by_code : bad_head (number_at bytes at 8) agreed ≡ false → over ≡ false → bad_code version code blanks ≡ bad_record version bytes agreed at
  bad_by_code h w = ap₂ (λ (x y : Bool). x || (y || bad_code version code blanks)) (sym h) (sym w) ∙ bad_is
