-- Words heard one after another: where there is no word more, what was read stays, however many turns are taken; so it is the line's. Assumes nothing.
use mathlib.Core.Path.{◌≡◌, refl, ◌∙◌, ap}
use mathlib.Core.List.{List}
use Prim.Native.Nat.{ℕ, zero, suc, ◌+◌, ◌-◌, ◌≤◌, ◌<◌}
use native.Mathlib.Numerals.{add-one}
use native.Mathlib.Omega.{arith}
use borrow.Author.Tests.{lt-ltb, le-ltb}
use lib.ListN.{length}
use Rattle.lines.specs.Lines.{word_from}
use Rattle.lines.specs.declared.Word.{Word}
use Rattle.lines.proofs.FirstWord.{start_from, end_within}
use Rattle.lines.specs.declared.Number.{Number}
use Rattle.intake.proofs.Words.{no_word}
use Rattle.spoken.specs.declared.Form.{Form}
use Rattle.spoken.specs.declared.Heard.{Heard}
use Rattle.spoken.specs.declared.Step.{Step}
use Rattle.spoken.specs.declared.Spoken.{Spoken}
use Rattle.spoken.specs.Hearing.{step_of}
use Rattle.spoken.specs.Reading.{put_numbers, Read, silence, turn_of, turns, read_of, spoken_of}

module _ (line : List ℕ) (form : Form) where
  stays
      : (r : Read) (n : ℕ) → turn_of line form (turns line form r n) ≡ turns line form r n
      → (more : ℕ) → turns line form r (n + more) ≡ turns line form r n
  unfolding turns
  stays r n e zero = let z : n + 0 ≡ n = omega arith in rw z refl
  stays r n e (suc more) = let z : n + suc more ≡ suc (n + more) = omega arith in rw (z, stays r n e more) e

  -- no word more
  no_turn : (r : Read) → (word_from line r.at).end ≤ (word_from line r.at).start → turn_of line form r ≡ r
  unfolding turn_of
  no_turn r h = rw (le-ltb (word_from line r.at).start (word_from line r.at).end h)

  module _ (from : ℕ) (numbers₀ : List Number) where
    abbrev first : Read
    first = record { at = from; heard = silence; numbers = numbers₀ }

    -- so many words are heard, and reading stands at a place
    pub record Stands (numbers : List Number) (at : ℕ) (heard : Heard) : Type 0 where
      pub words : ℕ
      pub is : turns line form first words ≡ record { at = at; heard = heard; numbers = numbers }
      pub few : words ≤ length line
      pub before : words ≤ at

    pub none_heard : (heard : Heard) → heard ≡ silence → Stands numbers₀ from heard
    unfolding turns
    none_heard heard e =
        record { words = 0; is = rw e refl; few = omega arith; before = omega arith }

    module _ (numbers : List Number) (at : ℕ) (heard : Heard) (s : Stands numbers at heard) where
      -- the word ends behind where reading stands, and within the line
      pub word_places
          : (word : Word) → word ≡ word_from line at → at < length line → word.start < word.end
          → ((word.start ≤ word.end) × (word.end ≤ length line)) × (at < word.end)
      word_places word w l h =
          let a : at ≤ word.start = rw w (start_from line at) in
          let b : word.end ≤ length line = rw w (end_within line at (omega arith)) in
          ((omega arith, b), omega arith)

      abbrev Ended : Spoken → Type 0
      Ended spoken =
          (spoken ≡ spoken_of (read_of line from form numbers₀).heard) × (numbers ≡ (read_of line from form numbers₀).numbers)

      ended : (spoken : Spoken) → spoken ≡ spoken_of heard → (word_from line at).end ≤ (word_from line at).start → Ended spoken
      ended spoken e h =
          let z : length line ≡ s.words + (length line - s.words) = omega (arith, s.few) in
          let still : turn_of line form (turns line form first s.words) ≡ turns line form first s.words =
          rw s.is (no_turn (record { at = at; heard = heard; numbers = numbers }) h) in
          let all : read_of line from form numbers₀ ≡ record { at = at; heard = heard; numbers = numbers } =
          ap (turns line form first) z ∙ stays first s.words still (length line - s.words) ∙ s.is in
          (rw all e, rw all refl)

      pub empty_word
          : (spoken : Spoken) → spoken ≡ spoken_of heard → (word : Word) → word ≡ word_from line at → word.end ≤ word.start → Ended spoken
      empty_word spoken e word w h = ended spoken e (rw w at h)

      pub line_heard : (spoken : Spoken) → spoken ≡ spoken_of heard → length line ≤ at → Ended spoken
      line_heard spoken e h = ended spoken e (no_word line at h)

      -- one word more
      pub one_heard
          : (word : Word) (step : Step) (numbers' : List Number) → word ≡ word_from line at → at < length line → word.start < word.end
          → step ≡ step_of line word form heard → numbers' ≡ put_numbers step heard.count numbers → Stands numbers' word.end step.next
      unfolding turns turn_of
      one_heard word step numbers' w l h is-step are =
          let places = word_places word w l h in
          let steps : step ≡ step_of line (word_from line at) form heard = is-step ∙ ap (λ (word : Word). step_of line word form heard) w in
          record {
            words = s.words + 1;
            is = rw (add-one s.words, s.is, lt-ltb (word_from line at).start (word_from line at).end (rw w at h), ← steps, w, are) refl;
            few = omega (arith, s.before, places);
            before = omega (arith, s.before, places);
          }
