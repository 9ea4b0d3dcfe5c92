-- The word found from a place on is the first there is: nothing but spaces before it, no space in it, and a space or the end of the line
-- behind it; only at the line's end is it empty. A line has no newline in it, and one or the end of the text behind it. Assumes nothing.
use mathlib.Core.Path.{◌≡◌}
use mathlib.Core.Bool.{Bool, true, false, not}
use mathlib.Core.List.{List}
use mathlib.Core.Logic.{◌⊎◌, inl, inr}
use Prim.Native.Nat.{ℕ, ◌+◌, ◌-◌, ◌≤◌, ◌<◌}
use native.Mathlib.Decide.{dec_lt}
use native.Mathlib.Omega.{arith}
use borrow.Author.Tests.{not-true, not-false, le-leb}
use lib.ListN.{length, get_or, take, drop}
use Rattle.lines.specs.Lines.{is_space, is_newline, line_end, word_from, number_of}
use Rattle.lines.specs.Reads.{number_at}
use Rattle.lines.proofs.Spans.{ends, on, ends_from, ends_within, ends_inside, ends_behind}

-- what a scan to the first byte of a kind has behind it
stop
    : (kind : ℕ → Bool) (bs : List ℕ) (at : ℕ) → at ≤ length bs
    → (ends (λ b. not (kind b)) bs at ≡ length bs) ⊎ (kind (get_or bs (ends (λ b. not (kind b)) bs at) 0) ≡ true)
stop kind bs at h = by (dec_lt (ends (λ b. not (kind b)) bs at) (length bs))
  where
    by
        : Dec (ends (λ b. not (kind b)) bs at < length bs)
        → (ends (λ b. not (kind b)) bs at ≡ length bs) ⊎ (kind (get_or bs (ends (λ b. not (kind b)) bs at) 0) ≡ true)
    by (yes l) = inr (not-false _ (ends_behind (λ b. not (kind b)) bs at l))
    by (no l) = inl (omega (arith, ends_within (λ b. not (kind b)) bs at h))

module _ (line : List ℕ) (at : ℕ) where
  pub start_from : at ≤ (word_from line at).start
  unfolding word_from
  start_from = ends_from is_space line at

  pub start_end : (word_from line at).start ≤ (word_from line at).end
  unfolding word_from
  start_end = ends_from (λ b. not (is_space b)) line (ends is_space line at)

  pub end_within : at ≤ length line → (word_from line at).end ≤ length line
  unfolding word_from
  end_within h = ends_within (λ b. not (is_space b)) line (ends is_space line at) (ends_within is_space line at h)

  pub spaces_before : (k : ℕ) → at ≤ k → k < (word_from line at).start → is_space (get_or line k 0) ≡ true
  unfolding word_from
  spaces_before k h l = ends_inside is_space line at k h l

  pub no_space_inside : (k : ℕ) → (word_from line at).start ≤ k → k < (word_from line at).end → is_space (get_or line k 0) ≡ false
  unfolding word_from
  no_space_inside k h l = not-true _ (ends_inside (λ b. not (is_space b)) line (ends is_space line at) k h l)

  pub space_behind
      : at ≤ length line → ((word_from line at).end ≡ length line) ⊎ (is_space (get_or line (word_from line at).end 0) ≡ true)
  unfolding word_from
  space_behind h = stop is_space line (ends is_space line at) (ends_within is_space line at h)

  pub empty_at_end : at ≤ length line → (word_from line at).start ≡ (word_from line at).end → (word_from line at).start ≡ length line
  unfolding word_from
  empty_at_end h e = by (dec_lt (ends is_space line at) (length line))
    where
      by : Dec (ends is_space line at < length line) → ends is_space line at ≡ length line
      by (yes l) =
          let first : not (is_space (get_or line (ends is_space line at) 0)) ≡ true = rw (ends_behind is_space line at l) in
          let more : ends (λ b. not (is_space b)) line (ends is_space line at) ≡ ends (λ b. not (is_space b)) line (ends is_space line at + 1) =
          on (λ b. not (is_space b)) line (ends is_space line at) l first in
          absurd (omega arith)
      by (no l) = omega (arith, ends_within is_space line at h)

  -- such a word is never outside the line: what is read is its bytes
  pub word_read
      : at ≤ length line
      → number_at line (word_from line at)
      ≡ number_of (take ((word_from line at).end - (word_from line at).start) (drop (word_from line at).start line))
  unfolding number_at
  word_read h =
      rw
      (le-leb (word_from line at).start (word_from line at).end start_end, le-leb (word_from line at).end (length line) (end_within h))

module _ (text : List ℕ) (at : ℕ) where
  pub line_from : at ≤ line_end text at
  unfolding line_end
  line_from = ends_from (λ b. not (is_newline b)) text at

  pub line_within : at ≤ length text → line_end text at ≤ length text
  unfolding line_end
  line_within h = ends_within (λ b. not (is_newline b)) text at h

  pub no_newline_inside : (k : ℕ) → at ≤ k → k < line_end text at → is_newline (get_or text k 0) ≡ false
  unfolding line_end
  no_newline_inside k h l = not-true _ (ends_inside (λ b. not (is_newline b)) text at k h l)

  pub newline_behind : at ≤ length text → (line_end text at ≡ length text) ⊎ (is_newline (get_or text (line_end text at) 0) ≡ true)
  unfolding line_end
  newline_behind h = stop is_newline text at h
