-- A number's bytes, read, give the number back where they hold it; and bytes, read and written, are the bytes. Assumes nothing.
use mathlib.Core.Path.{◌≡◌, refl, sym, ◌∙◌, ap, ap₂}
use mathlib.Core.List.{List, [], ◌∷◌, ◌++◌}
use Prim.Native.Nat.{ℕ, zero, suc, ◌+◌, ◌*◌, ◌-◌, ◌/◌, ◌%◌, ◌^◌, ◌≤◌, ◌<◌}
use native.Mathlib.Nat.{lt_of_lt_of_le, pow-le-pow_right, pow-suc, mod-add-div}
use native.Mathlib.Omega.{arith}
use lib.ListN.{length, get_or, take, drop, length-append}
use lib.Seq.{append_snoc, drop-cons, get_or_at}
use Rattle.statement.specs.Bytes.{little_endian, number_at}

-- what a list of bytes is
abbrev pub Bytes : List ℕ → Type 0
Bytes bytes = (i : ℕ) → get_or bytes i 0 < 256

pub length_little : (k n : ℕ) → length (little_endian k n) ≡ k
unfolding little_endian
length_little zero n = refl
length_little (suc k) n = ap suc (length_little k (n / 256))

-- a number of k bytes is below 256^k
pub number_below : (bytes : List ℕ) → Bytes bytes → (at k : ℕ) → number_at bytes at k < 256 ^ k
unfolding number_at
number_below bytes b at zero = omega arith
number_below bytes b at (suc k) = omega (arith, number_below bytes b (suc at) k, b at, pow-suc 256 k)

-- the bytes of a number hold it
pub read_back : (front back : List ℕ) (k n at : ℕ) → length front ≡ at → n < 256 ^ k → number_at (front ++ (little_endian k n ++ back)) at k ≡ n
unfolding number_at little_endian
read_back front back zero n at e h = omega arith
read_back front back (suc k) n at e h =
    let rest : List ℕ = little_endian k (n / 256) ++ back in
    let here : get_or (front ++ (n % 256 ∷ rest)) at 0 ≡ n % 256 = get_or_at front (n % 256) rest 0 at e in
    let there : number_at (front ++ (n % 256 ∷ rest)) (suc at) k ≡ n / 256 =
    ap (λ (l : List ℕ). number_at l (suc at) k) (sym (append_snoc front (n % 256) rest))
    ∙ read_back (front ++ (n % 256 ∷ [])) back k (n / 256) (suc at) (long front (n % 256) at e) (omega (arith, pow-suc 256 k)) in
    ap₂ (λ (x y : ℕ). x + 256 * y) here there ∙ mod-add-div n 256
  where
    long : (l : List ℕ) (x at : ℕ) → length l ≡ at → length (l ++ (x ∷ [])) ≡ suc at
    long l x at e = length-append l (x ∷ []) ∙ omega (arith, e)

-- and the bytes of the number that bytes hold are these
pub write_back : (bytes : List ℕ) → Bytes bytes → (at k : ℕ) → at + k ≤ length bytes → little_endian k (number_at bytes at k) ≡ take k (drop at bytes)
unfolding number_at little_endian
write_back bytes b at zero h = refl
write_back bytes b at (suc k) h =
    let x : ℕ = get_or bytes at 0 in
    let y : ℕ = number_at bytes (suc at) k in
    let least : (x + 256 * y) % 256 ≡ x = omega (arith, b at) in
    let others : (x + 256 * y) / 256 ≡ y = omega (arith, b at) in
    ap₂ (λ (u v : ℕ). u ∷ little_endian k v) least others
    ∙ ap (λ (l : List ℕ). x ∷ l) (write_back bytes b (suc at) k (omega arith))
    ∙ sym (ap (take (suc k)) (drop-cons bytes at 0 (omega arith)))

-- a loop that reads from the last byte on: none yet
pub none_read : (bytes : List ℕ) (at count : ℕ) → 0 ≡ number_at bytes (at + count) (count - count)
unfolding number_at
none_read bytes at count = let none : 0 ≡ count - count = omega arith in ap (number_at bytes (at + count)) none

-- one byte more
pub number_step : (bytes : List ℕ) (at i count number byte : ℕ) → 0 < i → i ≤ count → number ≡ number_at bytes (at + i) (count - i)
    → byte ≡ get_or bytes (at + (i - 1)) 0 → number * 256 + byte ≡ number_at bytes (at + (i - 1)) (count - (i - 1))
unfolding number_at
number_step bytes at i count number byte some h is here =
    let behind : suc (at + (i - 1)) ≡ at + i = omega arith in
    let more : suc (count - i) ≡ count - (i - 1) = omega arith in
    let all : number * 256 + byte ≡ get_or bytes (at + (i - 1)) 0 + 256 * number_at bytes (at + i) (count - i) = omega (arith, is, here) in
    all
    ∙ ap (λ (k : ℕ). get_or bytes (at + (i - 1)) 0 + 256 * number_at bytes k (count - i)) (sym behind)
    ∙ ap (number_at bytes (at + (i - 1))) more

-- and it still fits a word, where there are fewer than eight so far
pub number_fits : (bytes : List ℕ) → Bytes bytes → (at k : ℕ) → k ≤ 7 → number_at bytes at k < 256 ^ 7
number_fits bytes b at k h = lt_of_lt_of_le (number_below bytes b at k) (pow-le-pow_right {n = 256} (omega arith) h)
