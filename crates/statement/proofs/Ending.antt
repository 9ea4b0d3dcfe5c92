-- Bytes that are accepted end in a file of the definition: its records are those that are read. Assumes nothing.
use mathlib.Core.Path.{◌≡◌, refl, sym, ◌∙◌, ap, ap₂, subst}
use mathlib.Core.List.{List, ◌++◌}
use Prim.Native.Nat.{ℕ, ◌+◌, ◌*◌, ◌≤◌, ◌<◌}
use native.Mathlib.Decide.{dec_lt}
use native.Mathlib.Nat.{mul-le-mul_left}
use native.Mathlib.Omega.{arith}
use lib.IntN.{ℤ}
use lib.ListN.{length, take, drop, take-append-drop, length-drop}
use lib.Seq.{length-take-le, take_all, drop-drop}
use Rattle.currency.specs.Table.{last_currency}
use Rattle.statement.specs.declared.Trailer.{Trailer}
use Rattle.statement.specs.Bytes.{Field, number_at, word_of, from_word}
use Rattle.statement.specs.Files.{Piece, version_of, record_width, code_bytes, record_fields, record_bytes, trailer_width, trailer_fields, trailer_bytes, joined, total_of, file_of, Ends}
use Rattle.statement.specs.Reading.{trailer_place, trailer_at, trailer_in, first_of, record_place, coefficient_at, coefficients_in, agreed_in}
use Rattle.statement.proofs.ReadBack.{Bytes, number_below}
use Rattle.statement.proofs.Words.{word_from}
use Rattle.statement.proofs.Fields.{width_of, fields_written}
use Rattle.statement.proofs.Behind.{joined_taken}
use Rattle.statement.proofs.Widths.{parts}
use Rattle.statement.proofs.Accepted.{GoodAt, File}
use Rattle.statement.specs.declared.Version.{Version}

-- what the record at a place says
abbrev piece_at : (version : Version) → List ℕ → (at : ℕ) → Piece
piece_at version bytes at =
    record { place = number_at bytes at 2; currency = number_at bytes (at + 2) 2; coefficient = coefficient_at bytes at; reason = number_at bytes (at + 16) (code_bytes version) }

on_from : (bytes : List ℕ) (at count : ℕ) → number_at bytes (at + 0) count ≡ number_at bytes at count
on_from bytes at count = let here : at + 0 ≡ at = omega arith in ap (λ (k : ℕ). number_at bytes k count) here

module _ (version : Version) (bytes : List ℕ) (b : Bytes bytes) where
  abbrev width : ℕ
  width = record_width version

  word_back : (at : ℕ) → number_at bytes at 8 ≡ word_of (from_word (number_at bytes at 8))
  word_back at = sym (word_from (number_at bytes at 8) (number_below bytes b at 8))

  -- the bytes of a record that keeps the rule are those of what it says
  record_taken : (agreed at : ℕ) → GoodAt version bytes agreed at → at + width ≤ length bytes → take width (drop at bytes) ≡ record_bytes version (piece_at version bytes at)
  unfolding record_bytes
  record_taken agreed at g h =
      let here : at ≡ at + 0 = omega arith in
      let fields : List Field = record_fields version (piece_at version bytes at) in
      let as_wide : width_of fields ≡ width = omega (arith, parts version) in
      ap₂ (λ (n k : ℕ). take n (drop k bytes)) (sym as_wide) here
      ∙ fields_written bytes b at 0 fields (omega (arith, as_wide))
      (on_from bytes at 2, (refl, (g.numbers.empty, (word_back (at + 8), (refl, (g.blank, tt))))))

  module _ (long : trailer_width ≤ length bytes) (f : File version bytes (trailer_place bytes) (trailer_in bytes)) where
    abbrev t : Trailer
    t = trailer_in bytes

    abbrev first : ℕ
    first = first_of (trailer_place bytes) (trailer_in bytes)

    abbrev count : ℕ
    count = (trailer_in bytes).count

    abbrev piece : ℕ → Piece
    piece i = piece_at version bytes (record_place width (first_of (trailer_place bytes) (trailer_in bytes)) i)

    abbrev total : ℤ
    total = total_of (coefficients_in bytes width (first_of (trailer_place bytes) (trailer_in bytes))) (trailer_in bytes).count

    place_is : first + width * count ≡ trailer_place bytes
    place_is = omega (arith, f.trails.far, f.trails.inside)

    each_inside : (i : ℕ) → i < count → record_place width first i + width ≤ length bytes
    each_inside i h =
        omega (arith, mul-le-mul_left width h, place_is)

    records_taken : take (width * count) (drop first bytes) ≡ joined (λ i. record_bytes version (piece i)) count
    records_taken =
        joined_taken (λ i. record_bytes version (piece i)) width bytes first count
        (λ i h. record_taken (agreed_in bytes first) (record_place width first i) (f.each i h) (each_inside i h))

    trailer_taken : drop (trailer_place bytes) bytes ≡ trailer_bytes width count total (version_of version)
    unfolding trailer_bytes trailer_at
    trailer_taken =
        let place = trailer_place bytes in
        let here : place ≡ place + 0 = omega arith in
        sym (take_all trailer_width (drop place bytes) (omega (arith, length-drop place bytes)))
        ∙ ap (λ (k : ℕ). take trailer_width (drop k bytes)) here
        ∙ fields_written bytes b place 0 (trailer_fields (width * count) count total (version_of version)) (omega arith)
        (on_from bytes place 4 ∙ f.trails.far, (refl, (sym f.summed, (f.trails.numbered, (f.trails.empty, tt)))))

    whole : bytes ≡ take first bytes ++ file_of version piece count
    unfolding file_of
    whole =
        sym (take-append-drop first bytes)
        ∙ ap (λ (l : List ℕ). take first bytes ++ l)
        (sym (take-append-drop (width * count) (drop first bytes))
        ∙ ap₂ (λ (l r : List ℕ). l ++ r) records_taken
        (drop-drop (width * count) first bytes ∙ ap (λ (k : ℕ). drop k bytes) place_is ∙ trailer_taken))

    ends_with : (currency : ℕ) → currency ≤ last_currency → (0 < count → agreed_in bytes first ≡ currency) → Ends version bytes first count total
    ends_with currency known agreed =
        record {
          front = take first bytes;
          piece = piece;
          currency = currency;
          whole = whole;
          starts = length-take-le first bytes (omega arith);
          few = f.trails.few;
          known = known;
          sound = λ i h. let g = f.each i h in
              record { placed = g.numbers.placed; agrees = g.numbers.agrees ∙ agreed (omega arith); within = g.numbers.within; coded = g.coded };
          summed = refl;
        }

    -- an empty statement has no currency to know
    pub ends : Ends version bytes first count total
    ends = go (dec_lt 0 count)
      where
        go : Dec (0 < count) → Ends version bytes first count total
        go (yes some) =
            let g = f.each 0 some in ends_with (agreed_in bytes first) (subst (λ (c : ℕ). c ≤ last_currency) g.numbers.agrees g.numbers.known) (λ h. refl)
        go (no none) = ends_with 0 (omega arith) (λ h. absurd (none h))
