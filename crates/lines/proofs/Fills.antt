-- A number written from its last digit on, one division to a digit, stands there as its decimal digits; how many those are is told by the
-- first power of ten above it. Bytes put at a place leave the rest as it was, and where there is no room everything. Assumes nothing.
use mathlib.Core.Path.{◌≡◌, refl, sym, ◌∙◌, ap}
use mathlib.Core.List.{List, [], ◌∷◌, ◌++◌, append_assoc}
use Prim.Native.Nat.{ℕ, zero, suc, ◌+◌, ◌-◌, ◌*◌, ◌/◌, ◌%◌, ◌^◌, ◌≤◌, ◌<◌, max}
use native.Mathlib.Nat.{add-zero, add-suc, pow-suc, one-le-pow}
use native.Mathlib.Decide.{dec_lt}
use native.Mathlib.Numerals.{add-one}
use native.Mathlib.Omega.{arith}
use borrow.Author.Tests.{lt-ltb, le-ltb, le-leb, lt-leb}
use lib.ListN.{length, take, drop, set, length-append, length-set, take-append-drop}
use lib.Seq.{drop-cons, append_snoc, get_or-set_same, take-set-le, drop-set-lt, take-suc-set, take-length, paste}
use Rattle.lines.specs.Texts.{decimal, put_at, place_behind}

-- a number of one digit, and one of more
pub one_digit : (places n : ℕ) → n < 10 → decimal (suc places) n ≡ (48 + n) ∷ []
unfolding decimal
one_digit places n h = rw (lt-ltb n 10 h)

pub more_digits : (places n : ℕ) → 10 ≤ n → decimal (suc places) n ≡ decimal places (n / 10) ++ ((48 + n % 10) ∷ [])
unfolding decimal
more_digits places n h = rw (le-ltb n 10 h)

-- how many digits: one more than the powers of ten passed
pub digit_count : (places k n : ℕ) → k < places → n < 10 ^ suc k → 10 ^ suc k ≤ max (n * 10) 10 → length (decimal places n) ≡ suc k
digit_count zero k n h l m = absurd (omega arith)
digit_count (suc places) zero n h l m = rw (one_digit places n l)
digit_count (suc places) (suc k) n h l m =
    let power : 10 ^ suc (suc k) ≡ 10 ^ suc k * 10 = pow-suc 10 (suc k) in
    let lower : 10 ^ suc k ≡ 10 ^ k * 10 = pow-suc 10 k in
    let some : 1 ≤ 10 ^ k = one-le-pow k 10 (omega arith) in
    let more : 10 ≤ n = omega arith in
    let rest : length (decimal places (n / 10)) ≡ suc k = digit_count places k (n / 10) (omega arith) (omega arith) (omega arith) in
    rw (more_digits places n more, length-append, rest) (omega arith)

pub counted : (count n : ℕ) → 0 < count → count ≤ 20 → n < 10 ^ count → 10 ^ count ≤ max (n * 10) 10 → count ≡ length (decimal 20 n)
counted zero n h l m k = absurd (omega arith)
counted (suc count) n h l m k = sym (digit_count 20 count n (omega arith) m k)

-- the last digits of a number
last_digits : (count n : ℕ) → List ℕ
last_digits zero n = []
last_digits (suc count) n = last_digits count (n / 10) ++ ((48 + n % 10) ∷ [])

digits_are : (places n : ℕ) → decimal places n ≡ last_digits (length (decimal places n)) n
unfolding last_digits decimal
digits_are zero n = refl
digits_are (suc places) n = at (dec_lt n 10) (digits_are places (n / 10))
  where
    at
        : Dec (n < 10) → decimal places (n / 10) ≡ last_digits (length (decimal places (n / 10))) (n / 10)
        → decimal (suc places) n ≡ last_digits (length (decimal (suc places) n)) n
    at (yes h) e = rw (one_digit places n h) (ap (λ (d : ℕ). (48 + d) ∷ []) (omega arith))
    at (no h) e =
        let more : 10 ≤ n = omega arith in
        let one : length (decimal places (n / 10) ++ ((48 + n % 10) ∷ [])) ≡ suc (length (decimal places (n / 10))) =
        length-append (decimal places (n / 10)) ((48 + n % 10) ∷ []) ∙ omega arith in
        rw (more_digits places n more, one) (ap (λ (ds : List ℕ). ds ++ ((48 + n % 10) ∷ [])) e)

-- what the loop writes: the last digit behind, then the rest before it
pub filled : (out : List ℕ) (at count n : ℕ) → List ℕ
filled out at zero n = out
filled out at (suc count) n = filled (set out (at + count) (48 + n % 10)) at count (n / 10)

pub fill_step
    : (out : List ℕ) (at i n : ℕ) → 0 < i → filled out at i n ≡ filled (set out (at + (i - 1)) (48 + n % 10)) at (i - 1) (n / 10)
unfolding filled
fill_step out at zero n h = absurd (omega arith)
fill_step out at (suc i) n h = let e : suc i - 1 ≡ i = omega arith in rw e

pub fill_end : (out : List ℕ) (at i n : ℕ) → i ≤ 0 → filled out at i n ≡ out
unfolding filled
fill_end out at zero n h = refl
fill_end out at (suc i) n h = absurd (omega arith)

filled_is
    : (out : List ℕ) (at count n : ℕ) → at + count ≤ length out
    → filled out at count n ≡ take at out ++ (last_digits count n ++ drop (at + count) out)
unfolding filled last_digits
filled_is out at zero n h = rw (add-zero at) (sym (take-append-drop at out))
filled_is out at (suc count) n h =
    let next : List ℕ = set out (at + count) (48 + n % 10) in
    let inside : at + count < length out = omega arith in
    let rest : drop (at + count) next ≡ (48 + n % 10) ∷ drop (suc (at + count)) out =
    drop-cons next (at + count) 0 (omega (arith, length-set out (at + count) (48 + n % 10)))
    ∙ rw (get_or-set_same out (at + count) (48 + n % 10) 0 inside, drop-set-lt (suc (at + count)) out (at + count) (48 + n % 10) (omega arith)) in
    filled_is next at count (n / 10) (omega (arith, length-set out (at + count) (48 + n % 10)))
    ∙ rw (take-set-le at out (at + count) (48 + n % 10) (omega arith), rest, append_snoc (last_digits count (n / 10)) (48 + n % 10), add-suc)

-- put where there is room, and where there is none
module _ (out : List ℕ) (at : ℕ) (bytes : List ℕ) where
  pub no_room : length out < at + length bytes → (out ≡ put_at out at bytes) × (at ≡ place_behind out at bytes)
  unfolding put_at place_behind
  no_room h = (rw (lt-leb (at + length bytes) (length out) h), rw (lt-leb (at + length bytes) (length out) h))

  module _ (room : at + length bytes ≤ length out) where
    pub put : put_at out at bytes ≡ take at out ++ (bytes ++ drop (at + length bytes) out)
    unfolding put_at
    put = rw (le-leb (at + length bytes) (length out) room)

    pub behind : place_behind out at bytes ≡ at + length bytes
    unfolding place_behind
    behind = rw (le-leb (at + length bytes) (length out) room)

    -- a whole copy
    pub copied : paste out at bytes (length bytes) ≡ put_at out at bytes
    copied = rw (put, take-length bytes, append_assoc)

pub filled_put
    : (out : List ℕ) (at count n : ℕ) → count ≡ length (decimal 20 n) → at + count ≤ length out
    → filled out at count n ≡ put_at out at (decimal 20 n)
filled_put out at count n e h =
    let room : at + length (decimal 20 n) ≤ length out = omega arith in
    ap (λ (k : ℕ). filled out at k n) e
    ∙ filled_is out at (length (decimal 20 n)) n room
    ∙ ap (λ (ds : List ℕ). take at out ++ (ds ++ drop (at + length (decimal 20 n)) out)) (sym (digits_are 20 n))
    ∙ sym (put out at (decimal 20 n) room)

-- a byte in front, and the others behind it
pub put_first
    : (out : List ℕ) (at b : ℕ) (bytes : List ℕ) → at + suc (length bytes) ≤ length out
    → put_at (set out at b) (at + 1) bytes ≡ put_at out at (b ∷ bytes)
put_first out at b bytes h =
    let e : at + suc (length bytes) ≡ suc at + length bytes = omega arith in
    put (set out at b) (at + 1) bytes (omega (arith, length-set out at b))
    ∙ (rw (add-one at, take-suc-set out at b (omega arith), drop-set-lt (suc at + length bytes) out at b (omega arith), append_snoc (take at out) b, ← e))
    ∙ sym (put out at (b ∷ bytes) h)
