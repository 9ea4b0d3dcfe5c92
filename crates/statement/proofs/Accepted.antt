-- What rows that pass tell of a file's numbers, and the other way about. Assumes nothing.
use Rattle.std.specs.Prelude.{Ok}
use mathlib.Core.Path.{◌≡◌, sym, ◌∙◌, ap, ap₂}
use mathlib.Core.Bool.{Bool, false, not}
use mathlib.Core.List.{List}
use Prim.Native.Nat.{ℕ, ◌+◌, ◌*◌, ◌-◌, ◌≤◌, ◌<◌}
use native.Mathlib.Omega.{arith}
use borrow.Author.Tests.{ltb-false, eqb-true, not-false, le-ltb, eq-eqb}
use lib.Dec.{eqb, ltb}
use lib.IntN.{ℤ}
use lib.ListN.{length}
use Rattle.refusal.specs.Rows.{Row, check_of}
use Rattle.refusal.proofs.Check.{clear}
use Rattle.refusal.proofs.Joined.{both_passed, front_passed}
use Rattle.whole.specs.Whole.{magnitude_of}
use Rattle.currency.specs.Table.{last_currency}
use Rattle.amount.specs.Amounts.{largest}
use Rattle.statement.specs.declared.Trailer.{Trailer}
use Rattle.statement.specs.declared.Summary.{Summary}
use Rattle.statement.specs.Bytes.{number_at, word_of, from_word}
use Rattle.statement.specs.Files.{version_of, record_width, code_bytes, code_zeros, last_place, last_reason, most_records, trailer_width, total_of}
use Rattle.statement.specs.Writing.{any_of}
use Rattle.statement.specs.Reading.{trailer_place, trailer_at, trailer_in, first_of, trailer_rows, record_place, coefficients_in, agreed_in, bad_numbers, bad_code, bad_record, record_rows, file_rows, version_rows, summary_in}
use Rattle.statement.specs.Parts.{Few}
use Rattle.statement.proofs.Words.{from_word_of}
use Rattle.statement.proofs.Totals.{total_within}
use Rattle.statement.proofs.Any.{or_left, or_right, each_not, none_of}
use Rattle.statement.specs.declared.Version.{Version}

-- a record's numbers that keep its rule
pub record Good (place currency agreed zeros word : ℕ) : Type 0 where
  pub placed : place ≤ last_place
  pub known : currency ≤ last_currency
  pub agrees : currency ≡ agreed
  pub empty : zeros ≡ 0
  pub within : magnitude_of (from_word word) ≤ largest

pub same_not : (a b : ℕ) → not (eqb a b) ≡ false → a ≡ b
same_not a b e = eqb-true a b (not-false (eqb a b) e)

module _ (place currency agreed zeros word : ℕ) where
  pub good : bad_numbers place currency agreed zeros word ≡ false → Good place currency agreed zeros word
  good e =
      let e1 = or_right (ltb last_place place) _ e in
      let e2 = or_right (ltb last_currency currency) _ e1 in
      let e3 = or_right (not (eqb currency agreed)) _ e2 in
      record {
        placed = ltb-false last_place place (or_left (ltb last_place place) _ e);
        known = ltb-false last_currency currency (or_left (ltb last_currency currency) _ e1);
        agrees = same_not currency agreed (or_left (not (eqb currency agreed)) _ e2);
        empty = same_not zeros 0 (or_left (not (eqb zeros 0)) _ e3);
        within = ltb-false largest (magnitude_of (from_word word)) (or_right (not (eqb zeros 0)) _ e3);
      }

  pub not_bad : Good place currency agreed zeros word → bad_numbers place currency agreed zeros word ≡ false
  not_bad g =
      simp
      (le-ltb last_place place g.placed, le-ltb last_currency currency g.known, eq-eqb currency agreed g.agrees, eq-eqb zeros 0 g.empty, le-ltb largest (magnitude_of (from_word word)) g.within)

-- the same of the record at a place, with what stands behind its coefficient
pub record GoodAt (version : Version) (bytes : List ℕ) (agreed at : ℕ) : Type 0 where
  pub numbers : Good (number_at bytes at 2) (number_at bytes (at + 2) 2) agreed (number_at bytes (at + 4) 4) (number_at bytes (at + 8) 8)
  pub coded : number_at bytes (at + 16) (code_bytes version) ≤ last_reason version
  pub blank : number_at bytes (at + (16 + code_bytes version)) (code_zeros version) ≡ 0

module _ (version : Version) (code zeros : ℕ) where
  pub good_code : bad_code version code zeros ≡ false → (code ≤ last_reason version) × (zeros ≡ 0)
  good_code e = (
    ltb-false (last_reason version) code (or_left (ltb (last_reason version) code) _ e),
    same_not zeros 0 (or_right (ltb (last_reason version) code) _ e),
  )

  pub not_bad_code : code ≤ last_reason version → zeros ≡ 0 → bad_code version code zeros ≡ false
  not_bad_code h e = simp (le-ltb (last_reason version) code h, eq-eqb zeros 0 e)

module _ (version : Version) (bytes : List ℕ) (agreed at : ℕ) where
  abbrev front : Bool
  front = bad_numbers (number_at bytes at 2) (number_at bytes (at + 2) 2) agreed (number_at bytes (at + 4) 4) (number_at bytes (at + 8) 8)

  abbrev code : ℕ
  code = number_at bytes (at + 16) (code_bytes version)

  abbrev blanks : ℕ
  blanks = number_at bytes (at + (16 + code_bytes version)) (code_zeros version)

  pub good_at : bad_record version bytes agreed at ≡ false → GoodAt version bytes agreed at
  unfolding bad_record
  good_at e =
      let behind = good_code version code blanks (or_right front (bad_code version code blanks) e) in
      record {
        numbers = good (number_at bytes at 2) (number_at bytes (at + 2) 2) agreed (number_at bytes (at + 4) 4) (number_at bytes (at + 8) 8) (or_left front _ e);
        coded = behind.0;
        blank = behind.1;
      }

  pub not_bad_at : GoodAt version bytes agreed at → bad_record version bytes agreed at ≡ false
  unfolding bad_record
  not_bad_at g =
      simp (
        not_bad (number_at bytes at 2) (number_at bytes (at + 2) 2) agreed (number_at bytes (at + 4) 4) (number_at bytes (at + 8) 8) g.numbers,
        not_bad_code version code blanks g.coded g.blank,
      )

-- records none of which is bad
module _ (version : Version) (bytes : List ℕ) (first count : ℕ) where
  abbrev bads : ℕ → Bool
  bads i = bad_record version bytes (agreed_in bytes first) (record_place (record_width version) first i)

  pub all_good : any_of (λ i. bad_record version bytes (agreed_in bytes first) (record_place (record_width version) first i)) count ≡ false → (i : ℕ) → i < count
      → GoodAt version bytes (agreed_in bytes first) (record_place (record_width version) first i)
  all_good none i h = good_at version bytes (agreed_in bytes first) (record_place (record_width version) first i) (each_not bads count none i h)

  pub all_small : count ≤ most_records
      → any_of (λ i. bad_record version bytes (agreed_in bytes first) (record_place (record_width version) first i)) count ≡ false
      → Few (coefficients_in bytes (record_width version) first) count
  all_small few none = record { few = few; each = λ i h. (all_good none i h).numbers.within }

-- a trailer's numbers that keep its rule
pub record Trailing (width version place : ℕ) (t : Trailer) : Type 0 where
  pub numbered : t.version ≡ version
  pub empty : t.zeros ≡ 0
  pub few : t.count ≤ most_records
  pub far : t.distance ≡ width * t.count
  pub inside : t.distance ≤ place

-- and a file's
pub record File (version : Version) (bytes : List ℕ) (place : ℕ) (t : Trailer) : Type 0 where
  pub trails : Trailing (record_width version) (version_of version) place t
  pub each : (i : ℕ) → i < t.count → GoodAt version bytes (agreed_in bytes (first_of place t)) (record_place (record_width version) (first_of place t) i)
  pub summed : word_of (total_of (coefficients_in bytes (record_width version) (first_of place t)) t.count) ≡ t.sum

module _ (width version place : ℕ) (t : Trailer) where
  pub trailing : check_of (trailer_rows width version place t) ≡ Ok tt → Trailing width version place t
  trailing e =
      let rows = clear (trailer_rows width version place t) e in
      record {
        numbered = same_not t.version version rows.0;
        empty = same_not t.zeros 0 rows.1.0;
        few = ltb-false most_records t.count rows.1.1.0;
        far = same_not t.distance (width * t.count) rows.1.1.1.0;
        inside = ltb-false place t.distance rows.1.1.1.1.0;
      }

  trailer_passes : Trailing width version place t → check_of (trailer_rows width version place t) ≡ Ok tt
  trailer_passes k =
      simp (
        eq-eqb t.version version k.numbered,
        eq-eqb t.zeros 0 k.empty,
        le-ltb most_records t.count k.few,
        eq-eqb t.distance (width * t.count) k.far,
        le-ltb place t.distance k.inside,
      )

module _ (version : Version) (bytes : List ℕ) (place : ℕ) (t : Trailer) where
  abbrev in_front : List Row
  in_front = trailer_rows (record_width version) (version_of version) place t

  abbrev behind : List Row
  behind = record_rows version bytes (first_of place t) t.count t.sum

  pub file_passed : check_of (file_rows version bytes place t) ≡ Ok tt → File version bytes place t
  file_passed e =
      let first = first_of place t in
      let both = both_passed in_front behind e in
      let rows = clear behind both.1 in
      record {
        trails = trailing (record_width version) (version_of version) place t both.0;
        each = all_good version bytes first t.count rows.0;
        summed = same_not (word_of (total_of (coefficients_in bytes (record_width version) first) t.count)) t.sum rows.1.0;
      }

  pub file_passes : File version bytes place t → check_of (file_rows version bytes place t) ≡ Ok tt
  file_passes f =
      let first = first_of place t in
      let none = none_of (λ i. bad_record version bytes (agreed_in bytes first) (record_place (record_width version) first i)) t.count
      (λ i h. not_bad_at version bytes (agreed_in bytes first) (record_place (record_width version) first i) (f.each i h)) in
      front_passed in_front behind (trailer_passes (record_width version) (version_of version) place t f.trails)
      ∙ simp (none, eq-eqb (word_of (total_of (coefficients_in bytes (record_width version) first) t.count)) t.sum f.summed)

-- the whole check, of either version
module _ (version : Version) (bytes : List ℕ) where
  pub accepted : check_of (version_rows version bytes) ≡ Ok tt → (trailer_width ≤ length bytes) × File version bytes (trailer_place bytes) (trailer_in bytes)
  unfolding version_rows
  accepted e =
      let rows = clear (version_rows version bytes) e in
      let long = rows.0 in
      (ltb-false (length bytes) trailer_width long, file_passed version bytes (trailer_place bytes) (trailer_in bytes) (rw long at e))

  pub accepts : trailer_width ≤ length bytes → File version bytes (trailer_place bytes) (trailer_in bytes) → check_of (version_rows version bytes) ≡ Ok tt
  unfolding version_rows
  accepts long f = rw (le-ltb (length bytes) trailer_width long) (file_passes version bytes (trailer_place bytes) (trailer_in bytes) f)

  -- what a file says of itself, by its trailer's numbers
  pub summary_is : check_of (version_rows version bytes) ≡ Ok tt → (t : Trailer) → t ≡ trailer_at bytes (trailer_place bytes) → (sum : ℤ) → sum ≡ from_word t.sum
      → ◌≡◌ {A = Summary} (record { first = trailer_place bytes - t.distance; count = t.count; sum = sum }) (summary_in version bytes)
  unfolding summary_in
  summary_is e t is sum held =
      let f : File version bytes (trailer_place bytes) (trailer_in bytes) = (accepted e).1 in
      let first : ℕ = first_of (trailer_place bytes) (trailer_in bytes) in
      let total : ℤ = total_of (coefficients_in bytes (record_width version) first) (trailer_in bytes).count in
      let small : Few (coefficients_in bytes (record_width version) first) (trailer_in bytes).count =
      record { few = f.trails.few; each = λ i h. (f.each i h).numbers.within } in
      let right : sum ≡ total =
      held
      ∙ ap (λ (k : Trailer). from_word k.sum) is
      ∙ ap from_word (sym f.summed)
      ∙ from_word_of total (total_within (coefficients_in bytes (record_width version) first) (trailer_in bytes).count small (trailer_in bytes).count (omega arith)) in
      ap₂ (λ (k : Trailer) (z : ℤ). record { first = trailer_place bytes - k.distance; count = k.count; sum = z }) is right
