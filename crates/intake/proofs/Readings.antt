-- The numbers counted are those before the first word that is none, however long the line: each word that is a number has a byte, so that a
-- line has at most as many of them as bytes. Assumes nothing.
use mathlib.Core.Path.{◌≡◌, refl, ap}
use mathlib.Core.Bool.{Bool, true, false, cond}
use mathlib.Core.List.{List}
use mathlib.Core.Logic.{◌⊎◌, inl, inr}
use Prim.Native.Nat.{ℕ, zero, suc, ◌≤◌, ◌<◌}
use native.Mathlib.Decide.{dec_le, dec_lt}
use native.Mathlib.Omega.{arith}
use lib.ListN.{length}
use Rattle.lines.proofs.FirstWord.{start_from}
use Rattle.intake.specs.Words.{is_number, behind_words, word_behind, number_behind, numbers_among, numbers_in}
use Rattle.intake.proofs.Words.{no_word, empty_none}

module _ (line : List ℕ) (from : ℕ) where
  counted
      : (t : Bool) (c : ℕ) → is_number (number_behind line from c) ≡ t → ((k : ℕ) → k < c → is_number (number_behind line from k) ≡ true)
      → (k : ℕ) → k < cond t (suc c) c → is_number (number_behind line from k) ≡ true
  counted false c e before k h = before k h
  counted true c e before k h = by (dec_lt k c)
    where
      by : Dec (k < c) → is_number (number_behind line from k) ≡ true
      by (yes l) = before k l
      by (no l) = let same : k ≡ c = omega arith in rw same e

  among : (n k : ℕ) → k < numbers_among line from n → is_number (number_behind line from k) ≡ true
  unfolding numbers_among
  among zero k h = absurd (omega arith)
  among (suc n) k h = counted _ (numbers_among line from n) refl (among n) k h

  stopped_next
      : (t : Bool) (n c : ℕ) → is_number (number_behind line from c) ≡ t → (c ≡ n) ⊎ (is_number (number_behind line from c) ≡ false)
      → (cond t (suc c) c ≡ suc n) ⊎ (is_number (number_behind line from (cond t (suc c) c)) ≡ false)
  stopped_next true n c e (inl s) = inl (ap suc s)
  stopped_next true n c e (inr s) = let z : ◌≡◌ {A = ℕ} 0 1 = cc in absurd (omega arith)
  stopped_next false n c e s = inr e

  stopped : (n : ℕ) → (numbers_among line from n ≡ n) ⊎ (is_number (number_behind line from (numbers_among line from n)) ≡ false)
  unfolding numbers_among
  stopped zero = inl refl
  stopped (suc n) = stopped_next _ n (numbers_among line from n) refl (stopped n)

  one_byte : (k : ℕ) → is_number (number_behind line from k) ≡ true → behind_words line from k < (word_behind line from k).end
  one_byte k e = by (dec_le (word_behind line from k).end (word_behind line from k).start)
    where
      by : Dec ((word_behind line from k).end ≤ (word_behind line from k).start) → behind_words line from k < (word_behind line from k).end
      by (yes h) =
          let none = empty_none line (word_behind line from k) h in
          let z : ◌≡◌ {A = ℕ} 0 1 = cc in absurd (omega arith)
      by (no h) = omega (arith, start_from line (behind_words line from k))

  as_many : (n : ℕ) → ((k : ℕ) → k < n → is_number (number_behind line from k) ≡ true) → n ≤ behind_words line from n
  unfolding behind_words
  as_many zero all = omega arith
  as_many (suc n) all = omega (arith, as_many n (λ k h. all k (omega arith)), one_byte n (all n (omega arith)))

  pub all_before : (k : ℕ) → k < numbers_in line from → is_number (number_behind line from k) ≡ true
  unfolding numbers_in
  all_before k h = among (length line) k h

  pub none_behind : is_number (number_behind line from (numbers_in line from)) ≡ false
  unfolding numbers_in
  none_behind = by (stopped (length line))
    where
      by
          : (numbers_among line from (length line) ≡ length line)
          ⊎ (is_number (number_behind line from (numbers_among line from (length line))) ≡ false)
          → is_number (number_behind line from (numbers_among line from (length line))) ≡ false
      by (inr e) = e
      by (inl e) =
          let c = numbers_among line from (length line) in
          let behind : length line ≤ behind_words line from c = omega (arith, as_many c (among (length line))) in
          empty_none line (word_behind line from c) (no_word line (behind_words line from c) behind)
