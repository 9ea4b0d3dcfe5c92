-- Reading what was written gives the start, the count and the sum, and its records with their codes; and what stands before the start and behind
-- the end stays. Of both versions, by one argument. Assumes nothing.
use Rattle.std.specs.Prelude.{Some}
use mathlib.Core.Path.{◌≡◌, refl, sym, ◌∙◌, ap, subst}
use mathlib.Core.List.{List, [], ◌++◌, append_assoc}
use Prim.Native.Nat.{ℕ, ◌+◌, ◌≤◌, ◌<◌}
use native.Mathlib.Omega.{arith}
use lib.IntN.{ℤ, pos}
use lib.ListN.{length, get_or, take, drop, length-append}
use lib.Seq.{length-take-le, take_at, drop_at}
use Rattle.refusal.specs.Rows.{gives}
use Rattle.refusal.proofs.Joined.{same_value, let_pass}
use Rattle.currency.specs.declared.Currency.{Currency}
use Rattle.statement.specs.Bytes.{pasted}
use Rattle.statement.specs.Files.{version_of, record_width, record_bytes, trailer_bytes, joined, total_of, file_of, file_bytes, file_size, Ends}
use Rattle.statement.specs.Writing.{write_rows, reasons_rows, payout_with, payout, write_said, reasons_said, buffer_after}
use Rattle.statement.specs.Reading.{read_said, any_said}
use Rattle.statement.specs.Walking.{any_step, walked}
use Rattle.statement.specs.Parts.{Writable}
use Rattle.statement.proofs.Behind.{length_joined}
use Rattle.statement.proofs.Run.{length_record, length_trailer}
use Rattle.statement.proofs.Answered.{writable, writable_reasons}
use Rattle.statement.proofs.Exactly.{file_said}
use Rattle.statement.proofs.Both.{any_file_said}
use Rattle.statement.proofs.Handed.{reasoned_of, handed_out}
use Rattle.statement.specs.declared.Version.TheVariants.{Plain, Reasons}
use Rattle.statement.specs.declared.Version.{Version}

module _ (at : ℕ) (new old : List ℕ) (h : at + length new ≤ length old) where
  long : length (take at old ++ new) ≡ at + length new
  long = length-append (take at old) new ∙ ap (λ (n : ℕ). n + length new) (length-take-le at old (omega arith))

  take_pasted : take (at + length new) (pasted at new old) ≡ take at old ++ new
  unfolding pasted
  take_pasted =
      ap (take (at + length new)) (sym (append_assoc (take at old) new (drop (at + length new) old)))
      ∙ take_at (take at old ++ new) (drop (at + length new) old) (at + length new) long

  drop_pasted : drop (at + length new) (pasted at new old) ≡ drop (at + length new) old
  unfolding pasted
  drop_pasted =
      ap (drop (at + length new)) (sym (append_assoc (take at old) new (drop (at + length new) old)))
      ∙ drop_at (take at old ++ new) (drop (at + length new) old) (at + length new) long

  front_pasted : take at (pasted at new old) ≡ take at old
  unfolding pasted
  front_pasted = take_at (take at old) (new ++ drop (at + length new) old) at (length-take-le at old (omega arith))

-- a run that keeps the limits of its version, and the buffer with its file
module _ (version : Version) (currency : Currency) (places codes : List ℕ) (coefficients : List ℤ) (out : List ℕ) (start : ℕ)
    (room : Writable version currency places codes coefficients (length out) start) where
  abbrev pub file : List ℕ
  file = file_of version (payout_with currency places codes coefficients) (length places)

  abbrev pub end : ℕ
  end = start + file_size version (length places)

  abbrev pub after : List ℕ
  after = pasted start (file_of version (payout_with currency places codes coefficients) (length places)) out

  file_long : length file ≡ file_size version (length places)
  unfolding file_of
  file_long =
      let pieces : ℕ → List ℕ = λ i. record_bytes version (payout_with currency places codes coefficients i) in
      let width : ℕ = record_width version in
      let tail : List ℕ = trailer_bytes width (length places) (total_of (λ i. (payout_with currency places codes coefficients i).coefficient) (length places)) (version_of version) in
      length-append (joined pieces (length places)) tail
      ∙ omega (
        arith,
        length_joined pieces width (λ i. length_record version _) (length places),
        length_trailer width (length places) (total_of (λ i. (payout_with currency places codes coefficients i).coefficient) (length places)) (version_of version),
      )

  end_long : start + length file ≡ end
  end_long = omega (arith, file_long)

  inside : start + length file ≤ length out
  inside = omega (arith, file_long, room.fits)

  pub before_stays : take start after ≡ take start out
  before_stays = front_pasted start file out inside

  pub behind_stays : drop end after ≡ drop end out
  behind_stays = subst (λ (k : ℕ). drop k (pasted start file out) ≡ drop k out) end_long (drop_pasted start file out inside)

  -- the bytes up to the end are those before the start and the file
  pub front_is : take end after ≡ take start out ++ file
  front_is = subst (λ (k : ℕ). take k (pasted start file out) ≡ take start out ++ file) end_long (take_pasted start file out inside)

  -- they end in the file of the run
  pub written_ends : Ends version (take end after) start (length places) (total_of (λ i. get_or coefficients i (pos 0)) (length places))
  written_ends =
      record {
        front = take start out;
        piece = payout_with currency places codes coefficients;
        currency = currency.0;
        whole = front_is;
        starts = length-take-le start out (omega (arith, inside));
        few = room.small.few;
        known = room.known;
        sound = λ i h. record { placed = room.placed i h; agrees = refl; within = room.small.each i h; coded = room.coded i h };
        summed = refl;
      }

  -- and a walk over it hands out the payouts as they were given, with their codes, in order
  pub records_back : (i : ℕ) → i < length places
      → any_step version (take end after) (walked version (take end after) start i) ≡ Some (reasoned_of (payout_with currency places codes coefficients i))
  unfolding written_ends
  records_back i h = handed_out version (take end after) start (length places) (total_of (λ k. get_or coefficients k (pos 0)) (length places)) written_ends i h

-- Ask 3's call
module _ (currency : Currency) (places : List ℕ) (coefficients : List ℤ) (out : List ℕ) (start ended : ℕ)
    (said : write_said currency places coefficients (length out) start ≡ gives ended) where
  pub room_left : Writable Plain currency places [] coefficients (length out) start
  unfolding write_said
  room_left =
      writable currency places coefficients (length out) start
      (let_pass (start + file_size Plain (length places)) ended (write_rows currency places coefficients (length out) start) said)

  pub end_is : end Plain currency places [] coefficients out start room_left ≡ ended
  unfolding write_said
  end_is = same_value (start + file_size Plain (length places)) ended (write_rows currency places coefficients (length out) start) said

  pub read_written : read_said (take ended (buffer_after (gives ended) start (file_bytes (payout currency places coefficients) (length places)) out))
      ≡ gives (record { first = start; count = length places; sum = total_of (λ i. get_or coefficients i (pos 0)) (length places) })
  unfolding buffer_after
  read_written =
      ap (λ (k : ℕ). read_said (take k (pasted start (file_bytes (payout currency places coefficients) (length places)) out))) (sym end_is)
      ∙ file_said _ start (length places) (total_of (λ i. get_or coefficients i (pos 0)) (length places))
      (written_ends Plain currency places [] coefficients out start room_left)

-- Ask 13's call
module _ (currency : Currency) (places reasons : List ℕ) (coefficients : List ℤ) (out : List ℕ) (start ended : ℕ)
    (said : reasons_said currency places reasons coefficients (length out) start ≡ gives ended) where
  abbrev pub reasons_file : List ℕ
  reasons_file = file_of Reasons (payout_with currency places reasons coefficients) (length places)

  -- the bytes up to the end, afterwards
  abbrev pub written : List ℕ
  written = take ended (buffer_after (gives ended) start (file_of Reasons (payout_with currency places reasons coefficients) (length places)) out)

  pub reasons_room : Writable Reasons currency places reasons coefficients (length out) start
  unfolding reasons_said
  reasons_room =
      writable_reasons currency places reasons coefficients (length out) start
      (let_pass (start + file_size Reasons (length places)) ended (reasons_rows currency places reasons coefficients (length out) start) said)

  pub reasons_end_is : end Reasons currency places reasons coefficients out start reasons_room ≡ ended
  unfolding reasons_said
  reasons_end_is = same_value (start + file_size Reasons (length places)) ended (reasons_rows currency places reasons coefficients (length out) start) said

  pub reasons_end : Ends Reasons written start (length places) (total_of (λ i. get_or coefficients i (pos 0)) (length places))
  unfolding buffer_after
  reasons_end =
      subst (λ (k : ℕ). Ends Reasons (take k (pasted start reasons_file out)) start (length places) (total_of (λ i. get_or coefficients i (pos 0)) (length places))) reasons_end_is
      (written_ends Reasons currency places reasons coefficients out start reasons_room)

  -- what was written is read back, with version, start, count and sum
  pub read_reasons : any_said written ≡ gives (record { version = 2; summary = record { first = start; count = length places; sum = total_of (λ i. get_or coefficients i (pos 0)) (length places) } })
  read_reasons = any_file_said written Reasons start (length places) (total_of (λ i. get_or coefficients i (pos 0)) (length places)) reasons_end
