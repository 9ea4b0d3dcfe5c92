-- A file of which one byte of a coefficient, of the trailer or of the zeros was changed is refused: it is no file of its version any more. Of both
-- versions, by one argument. What the format can't see is another place, another currency in all records, and another code. Assumes nothing.
use Rattle.std.specs.Prelude.{Ok}
use mathlib.Core.Path.{◌≡◌, refl, sym, ◌∙◌, ap, ap₂, subst}
use mathlib.Core.List.{List, [], ◌∷◌}
use Prim.Native.Nat.{ℕ, ◌+◌, ◌*◌, ◌-◌, ◌≤◌, ◌<◌}
use native.Mathlib.Decide.{dec_lt}
use native.Mathlib.Nat.{mul-le-mul_left}
use native.Mathlib.Omega.{arith}
use lib.IntN.{ℤ}
use lib.ListN.{length, get_or, set, length-set}
use Rattle.refusal.specs.declared.Refusal.TheVariants.{Newer}
use Rattle.refusal.specs.Rows.{gives, row, check_of}
use Rattle.refusal.proofs.Joined.{let_pass, both_passed}
use Rattle.statement.specs.declared.Summary.{Summary}
use Rattle.statement.specs.declared.SummaryOfAny.{SummaryOfAny}
use Rattle.statement.specs.Bytes.{number_at, word_of, from_word}
use Rattle.statement.specs.Files.{version_of, record_width, code_bytes, code_zeros, trailer_width, total_of, most_records, Ends}
use Rattle.statement.specs.Reading.{trailer_place, trailer_at, record_place, coefficients_in, agreed_in, newer, version_rows, read_rows, summary_of, read_said, any_said}
use Rattle.statement.specs.Parts.{Few}
use Rattle.statement.proofs.ReadBack.{Bytes, number_below}
use Rattle.statement.proofs.Words.{from_word_of, word_from}
use Rattle.statement.proofs.Totals.{total_same, total_within}
use Rattle.statement.proofs.Widths.{wide, parts}
use Rattle.statement.proofs.Changed.{number_beside, number_before, still_bytes, number_other, total_other}
use Rattle.statement.proofs.Held.{bytes_long, place_is, count_is, first_is, file, file_accepted}
use Rattle.statement.proofs.Both.{any_exactly}
use Rattle.statement.proofs.Accepted.{GoodAt, File, accepted}
use Rattle.statement.specs.declared.Version.TheVariants.{Plain, Reasons}
use Rattle.statement.specs.declared.Version.{Version}

-- a place that the format sees: in the trailer, in a record's zeros or coefficient, or in the zeros behind its code
pub data Seen (version : Version) (first count at : ℕ) : Type 0 where
  in_trailer : first + record_width version * count ≤ at → Seen version first count at
  in_record : (i off : ℕ) → i < count → at ≡ record_place (record_width version) first i + off → 4 ≤ off → off < 16 → Seen version first count at
  in_blank : (i off : ℕ) → i < count → at ≡ record_place (record_width version) first i + off → 16 + code_bytes version ≤ off → off < record_width version → Seen version first count at

-- what the numbers of an accepted file say, by the trailer's place
record Told (version : Version) (bytes : List ℕ) (place : ℕ) : Type 0 where
  pub numbered : number_at bytes (place + 16) 2 ≡ version_of version
  pub zeros : number_at bytes (place + 18) 6 ≡ 0
  pub few : number_at bytes (place + 4) 4 ≤ most_records
  pub distance : number_at bytes place 4 ≡ record_width version * number_at bytes (place + 4) 4
  pub inside : number_at bytes place 4 ≤ place
  pub each : (i : ℕ) → i < number_at bytes (place + 4) 4
      → GoodAt version bytes (agreed_in bytes (place - number_at bytes place 4)) (record_place (record_width version) (place - number_at bytes place 4) i)
  pub summed : word_of (total_of (coefficients_in bytes (record_width version) (place - number_at bytes place 4)) (number_at bytes (place + 4) 4)) ≡ number_at bytes (place + 8) 8

told : (version : Version) (bytes : List ℕ) (place : ℕ) → File version bytes place (trailer_at bytes place) → Told version bytes place
unfolding trailer_at
told version bytes place f =
    record {
      numbered = f.trails.numbered;
      zeros = f.trails.empty;
      few = f.trails.few;
      distance = f.trails.far;
      inside = f.trails.inside;
      each = f.each;
      summed = f.summed;
    }

-- the sum of a file's records is far from the limits
small_sum : (version : Version) (bytes : List ℕ) (place : ℕ) (t : Told version bytes place) → Few (coefficients_in bytes (record_width version) (place - number_at bytes place 4)) (number_at bytes (place + 4) 4)
small_sum version bytes place t = record { few = t.few; each = λ i h. (t.each i h).numbers.within }

-- two files of one length, which differ in one byte
module _ (version : Version) (bytes : List ℕ) (b : Bytes bytes) (k x : ℕ) (byte : x < 256) (inside : k < length bytes) (other : x ≡ get_or bytes k 0 → ⊥) (place : ℕ)
    (old : Told version bytes place) (new : Told version (set bytes k x) place) where
  abbrev width : ℕ
  width = record_width version

  abbrev after : List ℕ
  after = set bytes k x

  abbrev count : ℕ
  count = number_at bytes (place + 4) 4

  abbrev first : ℕ
  first = place - number_at bytes place 4

  differs : (at n : ℕ) → at ≤ k → k < at + n → number_at after at n ≡ number_at bytes at n → ⊥
  differs = number_other bytes k x b byte inside other

  -- where each record stands
  stands : (i : ℕ) → i < count → record_place width first i + width ≤ place
  stands i h = omega (arith, mul-le-mul_left width h, old.distance, old.inside)

  -- in the trailer
  in_version : place + 16 ≤ k → k < place + 18 → ⊥
  in_version low high = differs (place + 16) 2 low (omega arith) (new.numbered ∙ sym old.numbered)

  in_zeros : place + 18 ≤ k → k < place + 24 → ⊥
  in_zeros low high = differs (place + 18) 6 low (omega arith) (new.zeros ∙ sym old.zeros)

  in_distance : place ≤ k → k < place + 4 → ⊥
  in_distance low high =
      differs place 4 low high
      (new.distance ∙ ap (λ (n : ℕ). width * n) (number_beside bytes k x (place + 4) 4 (omega arith)) ∙ sym old.distance)

  in_count : place + 4 ≤ k → k < place + 8 → ⊥
  in_count low high =
      let far : width * number_at after (place + 4) 4 ≡ width * count = sym new.distance ∙ number_before bytes k x place 4 (omega arith) ∙ old.distance in
      differs (place + 4) 4 low (omega arith) (same_factor width (number_at after (place + 4) 4) count (omega (arith, wide version)) far)
    where
      same_factor : (w m n : ℕ) → 0 < w → w * m ≡ w * n → m ≡ n
      same_factor w m n some e = go (dec_lt m n) (dec_lt n m)
        where
          go : Dec (m < n) → Dec (n < m) → m ≡ n
          go (yes less) q = absurd (omega (arith, e, mul-le-mul_left w less, some))
          go (no f) (yes more) = absurd (omega (arith, e, mul-le-mul_left w more, some))
          go (no f) (no g) = omega arith

  -- with the trailer's first two numbers as they were, the records stand where they stood
  module _ (before : number_at after place 4 ≡ number_at bytes place 4) (many : number_at after (place + 4) 4 ≡ count) where
    summed_there : word_of (total_of (coefficients_in after width first) count) ≡ number_at after (place + 8) 8
    summed_there = sym (ap₂ (λ (d n : ℕ). word_of (total_of (coefficients_in after width (place - d)) n)) before many) ∙ new.summed

    good_there : (i : ℕ) → i < count → GoodAt version after (agreed_in after first) (record_place width first i)
    good_there i h =
        subst (λ (d : ℕ). GoodAt version after (agreed_in after (place - d)) (record_place width (place - d) i)) before (new.each i (subst (λ (n : ℕ). i < n) (sym many) h))

    small_there : Few (coefficients_in after width first) count
    small_there = record { few = old.few; each = λ i h. (good_there i h).numbers.within }

  in_sum : place + 8 ≤ k → k < place + 16 → ⊥
  in_sum low high =
      let before = number_before bytes k x place 4 (omega arith) in
      let many = number_before bytes k x (place + 4) 4 (omega arith) in
      let total : total_of (coefficients_in after width first) count ≡ total_of (coefficients_in bytes width first) count =
      total_same (coefficients_in after width first) (coefficients_in bytes width first) count
      (λ i h. ap from_word (number_before bytes k x (record_place width first i + 8) 8 (omega (arith, stands i h, wide version, low)))) in
      differs (place + 8) 8 low (omega arith) (sym (summed_there before many) ∙ ap word_of total ∙ old.summed)

  -- in a record
  module _ (i off : ℕ) (h : i < count) (at : k ≡ record_place width first i + off) (short : off < width) where
    behind : k < place
    behind = omega (arith, stands i h)

    before : number_at after place 4 ≡ number_at bytes place 4
    before = number_beside bytes k x place 4 behind

    many : number_at after (place + 4) 4 ≡ count
    many = number_beside bytes k x (place + 4) 4 (omega (arith, behind))

    in_record_zeros : 4 ≤ off → off < 8 → ⊥
    in_record_zeros low high =
        differs (record_place width first i + 4) 4 (omega arith) (omega arith)
        ((good_there before many i h).numbers.empty ∙ sym (old.each i h).numbers.empty)

    in_blanks : 16 + code_bytes version ≤ off → ⊥
    in_blanks low =
        differs (record_place width first i + (16 + code_bytes version)) (code_zeros version) (omega arith) (omega (arith, parts version))
        ((good_there before many i h).blank ∙ sym (old.each i h).blank)

    in_coefficient : 8 ≤ off → off < 16 → ⊥
    in_coefficient low high =
        let f : ℕ → ℤ = coefficients_in after width first in
        let g : ℕ → ℤ = coefficients_in bytes width first in
        let words : word_of (total_of f count) ≡ word_of (total_of g count) =
        summed_there before many ∙ number_beside bytes k x (place + 8) 8 (omega (arith, behind)) ∙ sym old.summed in
        let totals : total_of f count ≡ total_of g count =
        sym (from_word_of (total_of f count) (total_within f count (small_there before many) count (omega arith)))
        ∙ ap from_word words
        ∙ from_word_of (total_of g count) (total_within g count (small_sum version bytes place old) count (omega arith)) in
        let here : f i ≡ g i = total_other f g i count h (beside) totals in
        differs (record_place width first i + 8) 8 (omega arith) (omega arith)
        (sym (word_from (number_at after (record_place width first i + 8) 8) (number_below after (still_bytes bytes k x b byte inside other) (record_place width first i + 8) 8))
        ∙ ap word_of here
        ∙ word_from (number_at bytes (record_place width first i + 8) 8) (number_below bytes b (record_place width first i + 8) 8))
      where
        beside : (j : ℕ) → j < count → (j ≡ i → ⊥) → coefficients_in after width first j ≡ coefficients_in bytes width first j
        beside j less not = ap from_word (go (dec_lt i j))
          where
            go : Dec (i < j) → number_at after (record_place width first j + 8) 8 ≡ number_at bytes (record_place width first j + 8) 8
            go (yes more) = number_beside bytes k x (record_place width first j + 8) 8 (omega (arith, mul-le-mul_left width more))
            go (no f) =
                let less' : j < i = omega arith in
                number_before bytes k x (record_place width first j + 8) 8 (omega (arith, mul-le-mul_left width less', wide version))

-- the theorem
module _ (version : Version) (bytes : List ℕ) (first count : ℕ) (sum : ℤ) (e : Ends version bytes first count sum) (b : Bytes bytes) (k x : ℕ) (byte : x < 256) (inside : k < length bytes)
    (other : x ≡ get_or bytes k 0 → ⊥) where
  abbrev place : ℕ
  place = trailer_place bytes

  counted : number_at bytes (place + 4) 4 ≡ count
  unfolding trailer_at
  counted = count_is version bytes first count sum e

  starts : place - number_at bytes place 4 ≡ first
  unfolding trailer_at
  starts = first_is version bytes first count sum e

  module _ (old : Told version bytes place) (new : Told version (set bytes k x) place) where
    trailer_seen : first + record_width version * count ≤ k → ⊥
    trailer_seen h = go (dec_lt k (place + 4)) (dec_lt k (place + 8)) (dec_lt k (place + 16)) (dec_lt k (place + 18))
      where
        low : place ≤ k
        low = omega (arith, place_is version bytes first count sum e)

        end : k < place + 24
        end = omega (arith, place_is version bytes first count sum e, bytes_long version bytes first count sum e)

        go : Dec (k < place + 4) → Dec (k < place + 8) → Dec (k < place + 16) → Dec (k < place + 18) → ⊥
        go (yes h4) d8 d16 d18 = in_distance version bytes b k x byte inside other place old new low h4
        go (no f4) (yes h8) d16 d18 = in_count version bytes b k x byte inside other place old new (omega arith) h8
        go (no f4) (no f8) (yes h16) d18 = in_sum version bytes b k x byte inside other place old new (omega arith) h16
        go (no f4) (no f8) (no f16) (yes h18) = in_version version bytes b k x byte inside other place old new (omega arith) h18
        go (no f4) (no f8) (no f16) (no f18) = in_zeros version bytes b k x byte inside other place old new (omega arith) end

    module _ (i off : ℕ) (less : i < count) (at : k ≡ record_place (record_width version) first i + off) where
      less_there : i < number_at bytes (place + 4) 4
      less_there = omega (arith, counted, less)

      at_there : k ≡ record_place (record_width version) (place - number_at bytes place 4) i + off
      at_there = at ∙ ap (λ (f : ℕ). record_place (record_width version) f i + off) (sym starts)

      record_seen : 4 ≤ off → off < 16 → ⊥
      record_seen low high = go (dec_lt off 8)
        where
          short : off < record_width version
          short = omega (arith, high, wide version)

          go : Dec (off < 8) → ⊥
          go (yes h) = in_record_zeros version bytes b k x byte inside other place old new i off less_there at_there short low h
          go (no f) = in_coefficient version bytes b k x byte inside other place old new i off less_there at_there short (omega arith) high

      blank_seen : 16 + code_bytes version ≤ off → off < record_width version → ⊥
      blank_seen low short = in_blanks version bytes b k x byte inside other place old new i off less_there at_there short low

    seen_differs : Seen version first count k → ⊥
    seen_differs (in_trailer h) = trailer_seen h
    seen_differs (in_record i off less at low high) = record_seen i off less at low high
    seen_differs (in_blank i off less at low short) = blank_seen i off less at low short

  pub damaged : Seen version first count k → check_of (version_rows version (set bytes k x)) ≡ Ok tt → ⊥
  damaged seen through =
      let same : trailer_place (set bytes k x) ≡ place = ap (λ (n : ℕ). n - trailer_width) (length-set bytes k x) in
      seen_differs (told version bytes place (file version bytes first count sum e))
      (told version (set bytes k x) place
      (subst (λ (p : ℕ). File version (set bytes k x) p (trailer_at (set bytes k x) p)) same (accepted version (set bytes k x) through).1))
      seen

-- the reader of Ask 3 gives no amount of it
pub damaged_refused : (bytes : List ℕ) (first count : ℕ) (sum : ℤ) → Ends Plain bytes first count sum → Bytes bytes → (k x : ℕ) → x < 256 → k < length bytes → (x ≡ get_or bytes k 0 → ⊥)
    → Seen Plain first count k → (s : Summary) → read_said (set bytes k x) ≡ gives s → ⊥
unfolding read_said read_rows
damaged_refused bytes first count sum e b k x byte inside other seen s said =
    damaged Plain bytes first count sum e b k x byte inside other seen
    (both_passed (row Newer (newer (set bytes k x)) ∷ []) (version_rows Plain (set bytes k x)) (let_pass (summary_of (set bytes k x)) s (read_rows (set bytes k x)) said)).1

-- and that of Ask 13 never reads it as a file of its version, nor, where it has records, as one of the other: of an empty statement the version
-- alone tells which it is
module _ (version : Version) (bytes : List ℕ) (first count : ℕ) (sum : ℤ) (e : Ends version bytes first count sum) (b : Bytes bytes) (k x : ℕ) (byte : x < 256) (inside : k < length bytes)
    (other : x ≡ get_or bytes k 0 → ⊥) where
  abbrev changed : List ℕ
  changed = set bytes k x

  own : (r : Version) → r ≡ version → Seen version first count k → check_of (version_rows r changed) ≡ Ok tt → ⊥
  own r same seen through =
      damaged version bytes first count sum e b k x byte inside other seen (subst (λ (v : Version). check_of (version_rows v changed) ≡ Ok tt) same through)

  -- as a file of the other version it would have another distance
  alone : (r : Version) → check_of (version_rows r changed) ≡ Ok tt → (version_of r ≡ version_of version → ⊥) → 0 < count → record_width r * count ≡ record_width version * count
  alone r through not some =
      let place : ℕ = trailer_place bytes in
      let same : trailer_place changed ≡ place = ap (λ (n : ℕ). n - trailer_width) (length-set bytes k x) in
      let new = told r changed place (subst (λ (p : ℕ). File r changed p (trailer_at changed p)) same (accepted r changed through).1) in
      let old = told version bytes place (file version bytes first count sum e) in
      let low : place + 16 ≤ k = at_least (place + 16) (λ less. not (sym new.numbered ∙ number_beside bytes k x (place + 16) 2 less ∙ old.numbered)) in
      let many = number_before bytes k x (place + 4) 4 (omega (arith, low)) ∙ counted version bytes first count sum e b k x byte inside other in
      ap (λ (n : ℕ). record_width r * n) (sym many)
      ∙ sym new.distance
      ∙ number_before bytes k x place 4 (omega (arith, low))
      ∙ old.distance
      ∙ ap (λ (n : ℕ). record_width version * n) (counted version bytes first count sum e b k x byte inside other)
    where
      at_least : (n : ℕ) → (k < n → ⊥) → n ≤ k
      at_least n f = omega arith

  pub damaged_any : 0 < count → Seen version first count k → (s : SummaryOfAny) → any_said changed ≡ gives s → ⊥
  damaged_any some seen s said =
      let f = (any_exactly changed (still_bytes bytes k x b byte inside other) s).0 said in
      go f.0 (file_accepted f.0 changed s.summary.first s.summary.count s.summary.sum f.2) version (λ same. own f.0 same seen) (alone f.0)
    where
      go : (r : Version) → check_of (version_rows r changed) ≡ Ok tt → (t : Version) → (r ≡ t → check_of (version_rows r changed) ≡ Ok tt → ⊥)
          → (check_of (version_rows r changed) ≡ Ok tt → (version_of r ≡ version_of t → ⊥) → 0 < count → record_width r * count ≡ record_width t * count) → ⊥
      go Reasons through Reasons mine others = mine refl through
      go Plain through Plain mine others = mine refl through
      go Reasons through Plain mine others = omega (arith, some, others through (λ (h : 2 ≡ 1). omega (arith, h)) some)
      go Plain through Reasons mine others = omega (arith, some, others through (λ (h : 1 ≡ 2). omega (arith, h)) some)
