-- Which digits stand where among those of bytes, and which byte where among those of digits; how many they are. Assumes nothing.
use mathlib.Core.Path.{◌≡◌, refl}
use mathlib.Core.List.{List, [], ◌∷◌}
use Prim.Native.Nat.{ℕ, zero, suc, ◌+◌, ◌*◌, ◌/◌, ◌%◌, ◌<◌}
use native.Mathlib.Omega.{arith}
use lib.ListN.{length, get_or}
use Rattle.hexadecimal.specs.Hexadecimal.{worth_of, bytes_of, digit_of, digits_of}

pub digits_length : (bs : List ℕ) → length (digits_of bs) ≡ length bs * 2
unfolding digits_of
digits_length [] = refl
digits_length (b ∷ bs) = omega (arith, digits_length bs)

pub high_digit : (bs : List ℕ) (i : ℕ) → i < length bs → get_or (digits_of bs) (i * 2) 0 ≡ digit_of (get_or bs i 0 / 16)
unfolding digits_of
high_digit [] i h = absurd (omega arith)
high_digit (b ∷ bs) zero h = refl
high_digit (b ∷ bs) (suc i) h = let e : suc i * 2 ≡ suc (suc (i * 2)) = omega arith in rw e (high_digit bs i (omega arith))

pub low_digit : (bs : List ℕ) (i : ℕ) → i < length bs → get_or (digits_of bs) (i * 2 + 1) 0 ≡ digit_of (get_or bs i 0 % 16)
unfolding digits_of
low_digit [] i h = absurd (omega arith)
low_digit (b ∷ bs) zero h = refl
low_digit (b ∷ bs) (suc i) h = let e : suc i * 2 + 1 ≡ suc (suc (i * 2 + 1)) = omega arith in rw e (low_digit bs i (omega arith))

pub bytes_length : (ds : List ℕ) (n : ℕ) → length ds ≡ n * 2 → length (bytes_of ds) ≡ n
unfolding bytes_of
bytes_length [] zero e = refl
bytes_length [] (suc n) e = absurd (omega arith)
bytes_length (a ∷ ds) zero e = absurd (omega arith)
bytes_length (a ∷ []) (suc n) e = absurd (omega arith)
bytes_length (a ∷ (b ∷ ds)) (suc n) e = omega (arith, bytes_length ds n (omega arith))

pub byte_at
    : (ds : List ℕ) (i : ℕ) → i * 2 + 1 < length ds
    → get_or (bytes_of ds) i 0 ≡ worth_of (get_or ds (i * 2) 0) * 16 + worth_of (get_or ds (i * 2 + 1) 0)
unfolding bytes_of
byte_at [] i h = absurd (omega arith)
byte_at (a ∷ []) i h = absurd (omega arith)
byte_at (a ∷ (b ∷ ds)) zero h = refl
byte_at (a ∷ (b ∷ ds)) (suc i) h =
    let e : suc i * 2 ≡ suc (suc (i * 2)) = omega arith in
    let f : suc i * 2 + 1 ≡ suc (suc (i * 2 + 1)) = omega arith in
    rw (f, e) (byte_at ds i (omega arith))
