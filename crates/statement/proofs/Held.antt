-- Bytes that end in a file of the definition are accepted, and the answer is the file's start, count and sum. Assumes nothing.
use Rattle.std.specs.Prelude.{Ok}
use mathlib.Core.Path.{◌≡◌, refl, sym, ◌∙◌, ap, ap₂, subst}
use mathlib.Core.List.{List, [], ◌++◌, append_assoc, append-nil}
use Prim.Native.Nat.{ℕ, ◌+◌, ◌*◌, ◌-◌, ◌≤◌, ◌<◌, ◌^◌}
use native.Mathlib.Nat.{mul-le-mul}
use native.Mathlib.Omega.{arith}
use lib.IntN.{ℤ}
use lib.ListN.{length, length-append}
use Rattle.refusal.specs.Rows.{check_of}
use Rattle.whole.specs.Whole.{magnitude_of}
use Rattle.amount.specs.Amounts.{largest}
use Rattle.statement.specs.declared.Trailer.{Trailer}
use Rattle.statement.specs.Bytes.{Field, field_bytes, number_at, word_of, from_word}
use Rattle.statement.specs.Files.{version_of, record_width, code_zeros, record_fields, record_bytes, trailer_width, trailer_fields, trailer_bytes, joined, total_of, file_of, most_records, last_reason, Ends}
use Rattle.statement.specs.Reading.{trailer_place, trailer_at, trailer_in, first_of, record_place, coefficients_in, agreed_in, version_rows, summary_in}
use Rattle.statement.specs.Parts.{Few}
use Rattle.statement.proofs.Words.{word_below, from_word_of}
use Rattle.statement.proofs.Totals.{total_same, total_within}
use Rattle.statement.proofs.Fields.{Reads, fields_read}
use Rattle.statement.proofs.Behind.{joined_split, length_joined}
use Rattle.statement.proofs.Widths.{narrow, version_below, code_below, nought_fits}
use Rattle.statement.proofs.Run.{length_record, length_trailer}
use Rattle.statement.proofs.Accepted.{GoodAt, File, accepts}
use Rattle.statement.specs.declared.Version.{Version}

-- the trailer of a file
abbrev pub trailer_of : (version : Version) → (count : ℕ) → (sum : ℤ) → Trailer
trailer_of version count sum = record { distance = record_width version * count; count = count; sum = word_of sum; version = version_of version; zeros = 0 }

pub at_nought : (bytes : List ℕ) (at count number : ℕ) → number_at bytes (at + 0) count ≡ number → number_at bytes at count ≡ number
at_nought bytes at count number e = let here : at ≡ at + 0 = omega arith in ap (λ (k : ℕ). number_at bytes k count) here ∙ e

trailer_read : (version : Version) (bytes : List ℕ) (place count : ℕ) (sum : ℤ)
    → Reads bytes place 0 (trailer_fields (record_width version * count) count sum (version_of version)) → trailer_at bytes place ≡ trailer_of version count sum
unfolding trailer_at
trailer_read version bytes place count sum reads =
    let distance = at_nought bytes place 4 (record_width version * count) reads.0 in
    let counted = reads.1.0 in
    let summed = reads.1.1.0 in
    let numbered = reads.1.1.1.0 in
    let zeros = reads.1.1.1.1.0 in
    cc

module _ (version : Version) (bytes : List ℕ) (first count : ℕ) (sum : ℤ) (e : Ends version bytes first count sum) where
  abbrev width : ℕ
  width = record_width version

  total : ℤ
  total = total_of (λ i. (e.piece i).coefficient) count

  pieces : ℕ → List ℕ
  pieces i = record_bytes version (e.piece i)

  tail : List ℕ
  unfolding total
  tail = trailer_bytes width count total (version_of version)

  small : Few (λ i. (e.piece i).coefficient) count
  small = record { few = e.few; each = λ i h. (e.sound i h).within }

  total_small : magnitude_of total < 2 ^ 63
  unfolding total
  total_small = total_within (λ i. (e.piece i).coefficient) count small count (omega arith)

  whole : bytes ≡ e.front ++ (joined pieces count ++ tail)
  unfolding total pieces tail file_of
  whole = e.whole

  records_long : (n : ℕ) → length (e.front ++ joined pieces n) ≡ first + width * n
  unfolding pieces
  records_long n =
      length-append e.front (joined pieces n) ∙ omega (arith, e.starts, length_joined pieces width (λ i. length_record version (e.piece i)) n)

  pub bytes_long : length bytes ≡ first + width * count + trailer_width
  unfolding tail
  bytes_long =
      ap length (whole ∙ sym (append_assoc e.front (joined pieces count) tail))
      ∙ length-append (e.front ++ joined pieces count) tail
      ∙ omega (arith, records_long count, length_trailer width count total (version_of version))

  pub place_is : trailer_place bytes ≡ first + width * count
  place_is = omega (arith, bytes_long)

  -- the trailer's numbers
  trailer_reads : Reads bytes (first + width * count) 0 (trailer_fields (width * count) count total (version_of version))
  unfolding tail trailer_bytes
  trailer_reads =
      let fields : List Field = trailer_fields (width * count) count total (version_of version) in
      let split : bytes ≡ (e.front ++ joined pieces count) ++ (field_bytes fields ++ []) =
      whole ∙ sym (append_assoc e.front (joined pieces count) tail) ∙ ap (λ (l : List ℕ). (e.front ++ joined pieces count) ++ l) (sym (append-nil tail)) in
      let few = e.few in
      subst (λ (l : List ℕ). Reads l (first + width * count) 0 fields) (sym split)
      (fields_read (e.front ++ joined pieces count) [] (first + width * count) 0 fields (records_long count ∙ omega arith)
      (omega (arith, mul-le-mul (narrow version) few), (omega arith, (word_below total total_small, (version_below version, (omega arith, tt))))))

  trailer_is : trailer_in bytes ≡ trailer_of version count total
  trailer_is = ap (trailer_at bytes) place_is ∙ trailer_read version bytes (first + width * count) count total trailer_reads

  pub first_is : first_of (trailer_place bytes) (trailer_in bytes) ≡ first
  first_is = ap₂ (λ (k : ℕ) (t : Trailer). k - t.distance) place_is trailer_is ∙ omega arith

  -- the numbers of a record
  coefficient_small : (i : ℕ) → i < count → magnitude_of (e.piece i).coefficient < 2 ^ 63
  coefficient_small i h = omega (arith, (e.sound i h).within)

  pub record_reads : (i : ℕ) → i < count → Reads bytes (record_place width first i) 0 (record_fields version (e.piece i))
  unfolding pieces record_bytes
  record_reads i h =
      let fields : List Field = record_fields version (e.piece i) in
      let s : (rest : List ℕ) × (joined pieces count ≡ joined pieces i ++ (pieces i ++ rest)) = joined_split pieces count i h in
      let split : bytes ≡ (e.front ++ joined pieces i) ++ (field_bytes fields ++ (s.0 ++ tail)) =
      whole
      ∙ ap (λ (l : List ℕ). e.front ++ (l ++ tail)) s.1
      ∙ ap (λ (l : List ℕ). e.front ++ l) (append_assoc (joined pieces i) (pieces i ++ s.0) tail)
      ∙ sym (append_assoc e.front (joined pieces i) ((pieces i ++ s.0) ++ tail))
      ∙ ap (λ (l : List ℕ). (e.front ++ joined pieces i) ++ l) (append_assoc (pieces i) s.0 tail) in
      let k = e.sound i h in
      let known = e.known in
      subst (λ (l : List ℕ). Reads l (record_place width first i) 0 fields) (sym split)
      (fields_read (e.front ++ joined pieces i) (s.0 ++ tail) (record_place width first i) 0 fields (records_long i ∙ omega arith)
      (omega (arith, k.placed), (omega (arith, k.agrees), (omega arith, (word_below (e.piece i).coefficient (coefficient_small i h), (code_below version (e.piece i).reason k.coded, (nought_fits (code_zeros version), tt)))))))

  pub coefficient_is : (i : ℕ) → i < count → coefficients_in bytes width first i ≡ (e.piece i).coefficient
  coefficient_is i h = ap from_word (record_reads i h).1.1.1.0 ∙ from_word_of (e.piece i).coefficient (coefficient_small i h)

  total_is : total_of (coefficients_in bytes width first) count ≡ total
  unfolding total
  total_is = total_same (coefficients_in bytes width first) (λ i. (e.piece i).coefficient) count coefficient_is

  agreed_is : 0 < count → agreed_in bytes first ≡ e.currency
  agreed_is h =
      let here : first + 2 ≡ record_place width first 0 + 2 = omega arith in
      ap (λ (k : ℕ). number_at bytes k 2) here ∙ (record_reads 0 h).1.0 ∙ (e.sound 0 h).agrees

  good : (i : ℕ) → i < count → GoodAt version bytes (agreed_in bytes first) (record_place width first i)
  good i h =
      let k = e.sound i h in
      let reads = record_reads i h in
      let place = at_nought bytes (record_place width first i) 2 (e.piece i).place reads.0 in
      record {
        numbers = record {
          placed = omega (arith, place, k.placed);
          known = omega (arith, reads.1.0, k.agrees, e.known);
          agrees = reads.1.0 ∙ k.agrees ∙ sym (agreed_is (omega arith));
          empty = reads.1.1.0;
          within = subst (λ (z : ℤ). magnitude_of z ≤ largest) (sym (coefficient_is i h)) k.within;
        };
        coded = subst (λ (n : ℕ). n ≤ last_reason version) (sym reads.1.1.1.1.0) k.coded;
        blank = reads.1.1.1.1.1.0;
      }

  pub file : File version bytes (trailer_place bytes) (trailer_in bytes)
  file =
      let t = trailer_is in
      record {
        trails = record {
          numbered = ap (λ (k : Trailer). k.version) t;
          empty = ap (λ (k : Trailer). k.zeros) t;
          few = subst (λ (k : Trailer). k.count ≤ most_records) (sym t) e.few;
          far = subst (λ (k : Trailer). k.distance ≡ width * k.count) (sym t) refl;
          inside = omega (arith, ap (λ (k : Trailer). k.distance) t, place_is);
        };
        each = λ i h. subst (λ (f : ℕ). GoodAt version bytes (agreed_in bytes f) (record_place width f i)) (sym first_is)
            (good i (subst (λ (k : Trailer). i < k.count) t h));
        summed = ap₂ (λ (f n : ℕ). word_of (total_of (coefficients_in bytes width f) n)) first_is (ap (λ (k : Trailer). k.count) t)
            ∙ ap word_of total_is
            ∙ sym (ap (λ (k : Trailer). k.sum) t);
      }

  pub file_accepted : check_of (version_rows version bytes) ≡ Ok tt
  file_accepted = accepts version bytes (omega (arith, bytes_long)) file

  pub file_summary : summary_in version bytes ≡ record { first = first; count = count; sum = sum }
  unfolding summary_in total
  file_summary =
      let counted = ap (λ (k : Trailer). k.count) trailer_is in
      let summed : total_of (coefficients_in bytes width (first_of (trailer_place bytes) (trailer_in bytes))) (trailer_in bytes).count ≡ sum =
      ap₂ (λ (f n : ℕ). total_of (coefficients_in bytes width f) n) first_is counted ∙ total_is ∙ e.summed in
      let firsts = first_is in
      cc

  -- the count, the version and the zeros that the last bytes hold
  pub count_is : (trailer_in bytes).count ≡ count
  count_is = ap (λ (k : Trailer). k.count) trailer_is

  pub version_is : (trailer_in bytes).version ≡ version_of version
  version_is = ap (λ (k : Trailer). k.version) trailer_is

  pub zeros_are : (trailer_in bytes).zeros ≡ 0
  zeros_are = ap (λ (k : Trailer). k.zeros) trailer_is
