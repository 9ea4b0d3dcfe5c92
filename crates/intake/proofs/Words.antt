-- Words read as numbers one after another. While all are numbers, as many are counted as were read; at the first that is none the count
-- stays, however many more are looked at, so it is the line's. Assumes nothing.
use mathlib.Core.Path.{◌≡◌, refl, sym, ◌∙◌, ap}
use mathlib.Core.Bool.{true, false, ◌&&◌}
use mathlib.Core.List.{List}
use Prim.Native.Nat.{ℕ, zero, suc, ◌+◌, ◌-◌, ◌≤◌, ◌<◌}
use native.Mathlib.Numerals.{add-one}
use native.Mathlib.Omega.{arith}
use borrow.Author.Tests.{lt-ltb, le-ltb}
use lib.Dec.{leb}
use lib.ListN.{length, set, drop_of_length-le}
use Rattle.lines.specs.Lines.{span, word_from, number_of}
use Rattle.lines.specs.Reads.{number_at}
use Rattle.lines.specs.declared.Word.{Word}
use Rattle.lines.specs.declared.Number.{Number}
use Rattle.lines.proofs.FirstWord.{start_from, end_within}
use Rattle.whole.specs.Lists.{filled}
use Rattle.whole.proofs.Lists.{fill_none, fill_more}
use Rattle.intake.specs.Words.{is_number, number_in, behind_words, word_behind, number_behind, numbers_among, numbers_in, given_of, numbers_of}
use Rattle.std.specs.Prelude.{Option, Some, None}
use Rattle.intake.proofs.Choices.{either}

-- behind the line's end there is no word, and an empty word is no number
pub no_word : (line : List ℕ) (at : ℕ) → length line ≤ at → (word_from line at).end ≤ (word_from line at).start
unfolding word_from span
no_word line at h =
    let more : length line ≤ at + 0 = omega arith in rw (drop_of_length-le line h, drop_of_length-le line more) (omega arith)

pub empty_none : (line : List ℕ) (word : Word) → word.end ≤ word.start → is_number (number_at line word) ≡ false
unfolding number_at number_of is_number
empty_none line word h =
    let none : word.end - word.start ≡ 0 = omega arith in
    rw none (either (λ (n : Option Number). is_number n ≡ false) (leb word.start word.end && leb word.end (length line)) (λ e. refl) (λ e. refl))

module _ (line : List ℕ) (from : ℕ) where
  one_more
      : (count : ℕ) → numbers_among line from count ≡ count → is_number (number_behind line from count) ≡ true
      → numbers_among line from (suc count) ≡ suc count
  unfolding numbers_among
  one_more count e n = rw (e, n)

  stays
      : (count : ℕ) → numbers_among line from count ≡ count → is_number (number_behind line from count) ≡ false
      → (more : ℕ) → numbers_among line from (count + more) ≡ count
  unfolding numbers_among
  stays count e n zero = let z : count + 0 ≡ count = omega arith in rw z e
  stays count e n (suc more) =
      let z : count + suc more ≡ suc (count + more) = omega arith in
      rw (z, stays count e n more, n)

  -- the words up to the first that is no number: they are all the numbers there are
  pub all_numbers
      : (count : ℕ) → count ≤ length line → numbers_among line from count ≡ count → is_number (number_behind line from count) ≡ false
      → numbers_in line from ≡ count
  unfolding numbers_in
  all_numbers count h e n =
      let z : length line ≡ count + (length line - count) = omega arith in
      ap (numbers_among line from) z ∙ stays count e n (length line - count)

  module _ (numbers₀ : List Number) where
    -- so many words are read, all of them numbers, and reading stands at a place
    pub record Taken (numbers : List Number) (at count : ℕ) : Type 0 where
      pub place : at ≡ behind_words line from count
      pub counted : numbers_among line from count ≡ count
      pub few : count ≤ length line
      pub before : count ≤ at
      pub are : numbers ≡ filled 0 (λ k. number_in (number_behind line from k)) count numbers₀

    pub none_taken : Taken numbers₀ from 0
    unfolding behind_words numbers_among
    none_taken =
        record {
          place = refl;
          counted = refl;
          few = omega arith;
          before = omega arith;
          are = fill_none 0 (λ k. number_in (number_behind line from k)) numbers₀;
        }

    module _ (numbers : List Number) (at count : ℕ) (t : Taken numbers at count) where
      -- the next word is the one behind so many
      next_number : (word : Word) → word ≡ word_from line at → number_at line word ≡ number_behind line from count
      next_number word w = rw (w, t.place)

      -- it ends behind where reading stands, and within the line
      pub word_places
          : (word : Word) → word ≡ word_from line at → at < length line → word.start < word.end → (at < word.end) × (word.end ≤ length line)
      word_places word w l s =
          let a : at ≤ word.start = rw w (start_from line at) in
          let b : word.end ≤ length line = rw w (end_within line at (omega arith)) in
          (omega arith, b)

      -- at a word that is no number reading ends
      abbrev Ended : Option ℕ → Type 0
      Ended given = (given ≡ given_of line from) × (numbers ≡ numbers_of line from numbers₀)

      list_is : numbers_in line from ≡ count → numbers ≡ numbers_of line from numbers₀
      unfolding numbers_of
      list_is e = rw e t.are

      no_more : (word_from line at).end ≤ (word_from line at).start → Ended (Some count)
      unfolding given_of
      no_more h =
          let word = word_behind line from count in
          let e : numbers_in line from ≡ count = all_numbers count t.few t.counted (empty_none line word (rw t.place at h)) in
          (rw (e, le-ltb word.start word.end (rw t.place at h)), list_is e)

      pub empty_word : (word : Word) → word ≡ word_from line at → word.end ≤ word.start → Ended (Some count)
      empty_word word w h = no_more (rw w at h)

      pub line_read : length line ≤ at → Ended (Some count)
      line_read h = no_more (no_word line at h)

      -- a word that is there is a number, which is put into the list, or it is none
      module _ (word : Word) (w : word ≡ word_from line at) (s : word.start < word.end) where
        pub one_taken
            : (number : Number) → at < length line → number_at line word ≡ Some number → Taken (set numbers count number) word.end (count + 1)
        unfolding behind_words is_number number_in
        one_taken number l told =
            let same : number_behind line from count ≡ Some number = sym (next_number word w) ∙ told in
            let places = word_places word w l s in
            record {
              place = rw (add-one count, w, t.place);
              counted = rw (add-one count) (one_more count t.counted (rw same));
              few = omega (arith, t.before);
              before = omega (arith, t.before);
              are =
                  fill_more 0 (λ k. number_in (number_behind line from k)) numbers₀ numbers count count number t.are (omega arith)
                  (sym (ap number_in same));
            }

        pub other_word : number_at line word ≡ None → Ended None
        unfolding given_of is_number
        other_word told =
            let same : word ≡ word_behind line from count = w ∙ ap (word_from line) t.place in
            let none : is_number (number_behind line from count) ≡ false = ap is_number (sym (next_number word w) ∙ told) in
            let e : numbers_in line from ≡ count = all_numbers count t.few t.counted none in
            (rw (e, ← same, lt-ltb word.start word.end s), list_is e)
