-- One pass over a text: a digit more brings the number of the digits before it to the number with it, so that what the digits from a place on make is the same from
-- every place that the pass came to; and what it answers behind the digits before the point is the call's answer. Assumes nothing.
use mathlib.Core.Path.{◌≡◌, refl, sym, ◌∙◌, ap}
use mathlib.Core.Bool.{Bool, true, false, not, ◌||◌}
use mathlib.Core.List.{List}
use Prim.Native.Nat.{ℕ, ◌+◌, ◌-◌, ◌*◌, ◌^◌, ◌≤◌, ◌<◌}
use native.Mathlib.Nat.{pow-suc}
use native.Mathlib.Numerals.{add-one}
use native.Mathlib.Omega.{arith}
use borrow.Author.Tests.{lt-ltb, le-ltb}
use lib.Dec.{ltb, eqb}
use lib.ListN.{length, get_or, take, drop, length-drop, drop_of_length-le}
use lib.Seq.{slice, drop-cons, take-length}
use Rattle.refusal.specs.Rows.{refuses}
use Rattle.lines.specs.Lines.{span, is_digit, worth}
use Rattle.lines.proofs.Spans.{span_le}
use Rattle.currency.specs.declared.Currency.{Currency}
use Rattle.currency.specs.Table.{unknown}
use Rattle.text.specs.Read.{start_in, digits_end, fraction_from, number_at, scale_at, bad_whole, bad_fraction, bad_shape, read_said, made_said}
use Rattle.text.specs.Scan.{digits_from, bad_point, rest_said}
use Rattle.text.proofs.Digits.{worth_join}
use Rattle.text.proofs.Accepted.{first_fails, cut}
use Rattle.text.proofs.Numbers.{malformed_said, shaped_said}

module _ (passes : ℕ → Bool) (bytes : List ℕ) (i m : ℕ) where
  abbrev from : ℕ → List ℕ
  from k = take (span passes (drop k bytes)) (drop k bytes)

  pub goes_on : i < length bytes → passes (get_or bytes i 0) ≡ true → worth m (from i) ≡ worth (m * 10 + (get_or bytes i 0 - 48)) (from (i + 1))
  unfolding span worth
  goes_on h e = rw (drop-cons bytes i 0 h, e, add-one)

  pub stops : i < length bytes → passes (get_or bytes i 0) ≡ false → worth m (from i) ≡ m
  unfolding span worth
  stops h e = rw (drop-cons bytes i 0 h, e)

  pub runs_out : length bytes ≤ i → worth m (from i) ≡ m
  unfolding span worth
  runs_out h = rw (drop_of_length-le bytes h)

-- one digit more
pub grows : (m i d : ℕ) → m < 10 ^ i → d ≤ 9 → m * 10 + d < 10 ^ (i + 1)
grows m i d h k = rw (add-one i) (omega (arith, pow-suc 10 i))

-- the tests of what follows the digits
regroup : (p z s r : Bool) → (p || (z || (s || r))) ≡ ((p || (z || s)) || r)
regroup true z s r = refl
regroup false true s r = refl
regroup false false s r = refl

module _ (bytes : List ℕ) (end : ℕ) where
  pub fraction_tests : end < length bytes → bad_fraction bytes end ≡ (bad_point bytes end || ltb (digits_end bytes (end + 1)) (length bytes))
  fraction_tests h =
      rw (lt-ltb end (length bytes) h)
      (regroup (not (eqb (get_or bytes end 0) 46)) (eqb (length bytes - (end + 1)) 0) (ltb 6 (length bytes - (end + 1))) (ltb (digits_end bytes (end + 1)) (length bytes)))

  -- digits up to the end are all that is left
  pub all_left : end < length bytes → length bytes ≤ digits_end bytes (end + 1) → digits_from bytes (end + 1) ≡ fraction_from bytes end
  all_left h l =
      let all : span is_digit (drop (end + 1) bytes) ≡ length (drop (end + 1) bytes) =
      omega (arith, span_le is_digit (drop (end + 1) bytes), length-drop (end + 1) bytes) in
      ap (λ (k : ℕ). take k (drop (end + 1) bytes)) all ∙ take-length (drop (end + 1) bytes)

module _ (currency : Currency) (negative : Bool) (bytes : List ℕ) (end number : ℕ) where
  pub rest_ended : length bytes ≤ end → made_said currency negative 0 number ≡ rest_said currency negative bytes end number
  unfolding rest_said worth
  rest_ended h =
      let scale : scale_at (length bytes) end ≡ 0 = omega arith in
      sym (rw (first_fails (ltb end (length bytes)) _ (le-ltb end (length bytes) h), scale, drop_of_length-le bytes {i = end + 1} (omega arith)))

  pub rest_refused : bad_fraction bytes end ≡ true → refuses 14 0 ≡ rest_said currency negative bytes end number
  unfolding rest_said
  rest_refused e = sym (rw e)

  pub rest_made
      : bad_fraction bytes end ≡ false → made_said currency negative (scale_at (length bytes) end) (worth number (fraction_from bytes end)) ≡ rest_said currency negative bytes end number
  unfolding rest_said
  rest_made e = sym (rw e)

-- a bad part is a bad shape
bad_part : (x y z : Bool) → (y || z) ≡ true → (x || (y || z)) ≡ true
bad_part true y z e = refl
bad_part false y z e = e

any : (y z : Bool) → z ≡ true → (y || z) ≡ true
any true z e = refl
any false z e = e

module _ (currency : Currency) (bytes : List ℕ) (start end : ℕ) (known : unknown currency ≡ false) (starts : start ≡ start_in bytes) (ends : end ≡ digits_end bytes start) where
  pub whole_refused : bad_whole bytes start end ≡ true → refuses 14 0 ≡ read_said currency bytes
  unfolding bad_shape
  whole_refused e =
      sym
      (malformed_said currency bytes start end known starts ends
      (bad_part (ltb 20 (length bytes)) (bad_whole bytes start end) (bad_fraction bytes end) (ap (λ (y : Bool). y || bad_fraction bytes end) e)))

  pub rest_is
      : (number : ℕ) → number ≡ worth 0 (digits_from bytes start) → length bytes ≤ 20 → bad_whole bytes start end ≡ false
      → rest_said currency (ltb 0 start) bytes end number ≡ read_said currency bytes
  unfolding bad_shape
  rest_is number makes short good = by (bad_fraction bytes end) refl
    where
      number_is : worth number (fraction_from bytes end) ≡ number_at bytes start end
      number_is =
          ap (λ (n : ℕ). worth n (fraction_from bytes end))
          (makes ∙ ap (worth 0) (sym (cut bytes start)) ∙ ap (λ (k : ℕ). worth 0 (slice start k bytes)) (sym ends))
          ∙ sym (worth_join 0 (slice start end bytes) (fraction_from bytes end))

      by : (b : Bool) → bad_fraction bytes end ≡ b → rest_said currency (ltb 0 start) bytes end number ≡ read_said currency bytes
      by true e =
          sym (rest_refused currency (ltb 0 start) bytes end number e)
          ∙ sym
          (malformed_said currency bytes start end known starts ends
          (bad_part (ltb 20 (length bytes)) (bad_whole bytes start end) (bad_fraction bytes end) (any (bad_whole bytes start end) (bad_fraction bytes end) e)))
      by false e =
          sym (rest_made currency (ltb 0 start) bytes end number e)
          ∙ ap (made_said currency (ltb 0 start) (scale_at (length bytes) end)) number_is
          ∙ shaped_said currency bytes start end known
          (record { starts = starts; ends = ends; good = rw (le-ltb 20 (length bytes) short, good, e) })
