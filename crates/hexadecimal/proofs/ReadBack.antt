-- What was put is read: the word of any bytes gives those bytes, where the list has places for them. Assumes nothing.
use mathlib.Core.Path.{◌≡◌, refl}
use mathlib.Core.Bool.{true, false}
use mathlib.Core.List.{List, [], ◌∷◌}
use Prim.Native.Nat.{ℕ, zero, suc, ◌+◌, ◌*◌, ◌/◌, ◌%◌, ◌≤◌, ◌<◌}
use native.Mathlib.Omega.{arith}
use borrow.Author.Tests.{lt-ltb, le-leb, eq-eqb, ne_eqb}
use lib.ListN.{length, get_or}
use Rattle.lines.specs.Lines.{span}
use Rattle.lines.specs.Texts.{put_at}
use Rattle.std.specs.Prelude.{Some}
use Rattle.hexadecimal.specs.Hexadecimal.{is_digit, bytes_of, is_pairs, is_dash, is_word, bytes_in, decoded_of, list_after, digit_of, digits_of, hex_of}
use Rattle.hexadecimal.proofs.Digits.{digits_length}
use Rattle.hexadecimal.proofs.Worths.{digit_worth}

-- each of them is a byte
abbrev pub AreBytes : List ℕ → Type 0
AreBytes bs = (i : ℕ) → get_or bs i 0 < 256

bytes_back : (bs : List ℕ) → AreBytes bs → bytes_of (digits_of bs) ≡ bs
unfolding bytes_of digits_of
bytes_back [] h = refl
bytes_back (b ∷ bs) h =
    let small : b < 256 = h zero in
    let whole : b / 16 * 16 + b % 16 ≡ b = omega arith in
    rw (digit_worth (b / 16) (omega arith), digit_worth (b % 16) (omega arith), bytes_back bs (λ i. h (suc i)), whole)

digit_passes : (n : ℕ) → n < 16 → is_digit (digit_of n) ≡ true
digit_passes n h = rw (digit_worth n h) (lt-ltb n 16 h)

digits_pass : (bs : List ℕ) → AreBytes bs → span is_digit (digits_of bs) ≡ length (digits_of bs)
unfolding span digits_of
digits_pass [] h = refl
digits_pass (b ∷ bs) h =
    let small : b < 256 = h zero in
    rw (digit_passes (b / 16) (omega arith), digit_passes (b % 16) (omega arith), digits_pass bs (λ i. h (suc i)))

-- the word of some bytes, of which there is at least one
module _ (b : ℕ) (bs : List ℕ) (h : AreBytes (b ∷ bs)) where
  no_dash : is_dash (digits_of (b ∷ bs)) ≡ false
  unfolding is_dash
  no_dash = rw (ne_eqb (length (digits_of (b ∷ bs))) 1 (λ e. omega (arith, digits_length (b ∷ bs))))

  pairs : is_pairs (digits_of (b ∷ bs)) ≡ true
  unfolding is_pairs
  pairs =
      let long : length (digits_of (b ∷ bs)) ≡ length (b ∷ bs) * 2 = digits_length (b ∷ bs) in
      rw
      (lt-ltb 0 (length (digits_of (b ∷ bs))) (omega arith), eq-eqb (length (digits_of (b ∷ bs)) % 2) 0 (omega arith), eq-eqb (span is_digit (digits_of (b ∷ bs))) (length (digits_of (b ∷ bs))) (digits_pass (b ∷ bs) h))

hex_some : (b : ℕ) (bs : List ℕ) → hex_of (b ∷ bs) ≡ digits_of (b ∷ bs)
unfolding hex_of
hex_some b bs = rw (ne_eqb (length (b ∷ bs)) 0 (λ e. omega arith))

no_bytes : hex_of [] ≡ 45 ∷ []
unfolding hex_of
no_bytes = refl

dash_word : (is_word (45 ∷ []) ≡ true) × (bytes_in (45 ∷ []) ≡ [])
unfolding is_dash bytes_in
dash_word = (refl, refl)

-- it is a word, and its bytes are they
pub word_of_bytes : (bs : List ℕ) → AreBytes bs → (is_word (hex_of bs) ≡ true) × (bytes_in (hex_of bs) ≡ bs)
unfolding bytes_in
word_of_bytes [] h = rw no_bytes dash_word
word_of_bytes (b ∷ bs) h =
    rw (hex_some b bs) (rw (no_dash b bs h) (pairs b bs h), rw (no_dash b bs h) (bytes_back (b ∷ bs) h))

pub read_back
    : (bs list : List ℕ) → AreBytes bs → length bs ≤ length list
    → (decoded_of (length list) (hex_of bs) ≡ Some (length bs)) × (list_after list (hex_of bs) ≡ put_at list 0 bs)
unfolding decoded_of list_after
read_back bs list h room =
    let both = word_of_bytes bs h in
    (rw (both.0, both.1, le-leb (length bs) (length list) room), rw (both.0, both.1))
