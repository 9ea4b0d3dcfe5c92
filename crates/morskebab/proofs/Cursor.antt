-- Document 02, Ask 11, through the C face, and Ask 13's reader by the same argument: a cursor that begins at a statement's first record and takes the next
-- place of each answer for its own is handed the file's records, in order, each once, and is then told that it has ended, as often as it asks. Of fewer
-- than 2^63 bytes, which is more than C has. Assumes nothing.
use mathlib.Core.Path.{◌≡◌, refl, sym, ◌∙◌, ap, ap₂}
use mathlib.Core.Bool.{Bool, true, false, cond}
use mathlib.Core.List.{List}
use Prim.Native.Nat.{ℕ, zero, suc, ◌+◌, ◌≤◌, ◌<◌, ◌^◌}
use native.Mathlib.Decide.{dec_lt}
use native.Mathlib.Omega.{arith}
use borrow.Author.Tests.{lt-ltb, le-ltb}
use lib.IntN.{ℤ, pos}
use lib.ListN.{length, length-append}
use Rattle.std.specs.Prelude.{Option, Some, None}
use Rattle.statement.specs.declared.Payout.{Payout}
use Rattle.statement.specs.declared.Reasoned.{Reasoned}
use Rattle.statement.specs.declared.Version.{Version}
use Rattle.statement.specs.declared.Version.TheVariants.{Plain, Reasons}
use Rattle.statement.specs.Files.{version_of, record_width, trailer_width, Ends}
use Rattle.statement.specs.Walking.{ended, any_step, place_after, walked, step_at, any_step_at, any_place_after}
use Rattle.statement.proofs.Handed.{payout_of, reasoned_of, stays, handed_out, then_ended, by_version, place_by_version, plain_handed_out, plain_ended}
use Rattle.flat.specs.declared.MkbStep.{MkbStep}
use Rattle.flat.specs.declared.MkbAnyStep.{MkbAnyStep}
use Rattle.flat.specs.Given.{passed16, passed64}
use Rattle.flat.specs.Views.{step_of}
use Rattle.flat.specs.Reasons.{any_step_of}

-- what `mkb_payout_at` promises at a place, and `mkb_reasoned_at` at a version's number and a place
abbrev pub payout_in : List ℕ → (at : ℕ) → MkbStep
payout_in bytes at = step_of (step_at bytes (passed64 (pos at))) (place_after Plain bytes (passed64 (pos at)))

abbrev pub reasoned_in : (version : Version) → List ℕ → (at : ℕ) → MkbAnyStep
reasoned_in version bytes at =
    let number : ℕ = passed16 (pos (version_of version)) in any_step_of (any_step_at bytes number (passed64 (pos at))) (any_place_after bytes number (passed64 (pos at)))

-- a cursor's place after so many answers, by the next place that one at a place has
unfoldable pub gone_on : (next : ℕ → ℕ) → (first n : ℕ) → ℕ
gone_on next first zero = first
gone_on next first (suc n) = next (gone_on next first n)

-- a place that C has, and a version, are passed on as they are
kept : (at : ℕ) → at < 2 ^ 63 → passed64 (pos at) ≡ at
kept at h = omega arith

version_kept : (version : Version) → passed16 (pos (version_of version)) ≡ version_of version
version_kept Plain = refl
version_kept Reasons = refl

next_of : (s : Option Payout) (place : ℕ) → (step_of s place).next ≡ place
next_of (Some p) place = refl
next_of None place = refl

next_of_any : (s : Option Reasoned) (place : ℕ) → (any_step_of s place).next ≡ place
next_of_any (Some p) place = refl
next_of_any None place = refl

payout_is : (bytes : List ℕ) (at : ℕ) → at < 2 ^ 63 → payout_in bytes at ≡ step_of (step_at bytes at) (place_after Plain bytes at)
payout_is bytes at h = ap (λ (n : ℕ). step_of (step_at bytes n) (place_after Plain bytes n)) (kept at h)

reasoned_is : (version : Version) (bytes : List ℕ) (at : ℕ) → at < 2 ^ 63
    → reasoned_in version bytes at ≡ any_step_of (any_step version bytes at) (place_after version bytes at)
reasoned_is version bytes at h =
    ap₂ any_step_of
    (ap₂ (any_step_at bytes) (version_kept version) (kept at h) ∙ by_version version bytes at)
    (ap₂ (any_place_after bytes) (version_kept version) (kept at h) ∙ place_by_version version bytes at)

module _ (version : Version) (bytes : List ℕ) (first count : ℕ) (sum : ℤ) (e : Ends version bytes first count sum) (small : length bytes < 2 ^ 63) where
  -- the first record stands in the bytes, and so does each place that the walk comes to
  starts_inside : first ≤ length bytes
  starts_inside = let long = ap length e.whole ∙ length-append e.front _ in omega (arith, long, e.starts)

  stays_inside : (at : ℕ) → at ≤ length bytes → place_after version bytes at ≤ length bytes
  unfolding place_after
  stays_inside at h = go (dec_lt (length bytes) (at + record_width version + trailer_width))
    where
      go : Dec (length bytes < at + record_width version + trailer_width) → cond (ended (record_width version) (length bytes) at) at (at + record_width version) ≤ length bytes
      go (yes less) = rw (lt-ltb (length bytes) (at + record_width version + trailer_width) less) h
      go (no more) = rw (le-ltb (length bytes) (at + record_width version + trailer_width) (omega arith)) (omega arith)

  walked_inside : (n : ℕ) → walked version bytes first n ≤ length bytes
  unfolding walked
  walked_inside zero = starts_inside
  walked_inside (suc n) = stays_inside (walked version bytes first n) (walked_inside n)

  inside : (n : ℕ) → walked version bytes first n < 2 ^ 63
  inside n = omega (arith, walked_inside n, small)

  -- a cursor goes on as the walk does
  pub gone_on_lem : (next : ℕ → ℕ) → ((at : ℕ) → at < 2 ^ 63 → next at ≡ place_after version bytes at) → (n : ℕ) → gone_on next first n ≡ walked version bytes first n
  unfolding gone_on walked
  gone_on_lem next same zero = refl
  gone_on_lem next same (suc n) = ap next (gone_on_lem next same n) ∙ same (walked version bytes first n) (inside n)

  -- where it has ended it stays
  stayed : (i : ℕ) → count ≤ i → place_after version bytes (walked version bytes first i) ≡ walked version bytes first i
  unfolding walked
  stayed i h =
      let onward : count ≤ suc i = omega arith in stays version bytes first count sum e (suc i) onward ∙ sym (stays version bytes first count sum e i h)

  abbrev pub any_place : ℕ → ℕ
  any_place = gone_on (λ at. (reasoned_in version bytes at).next) first

  any_place_is : (n : ℕ) → any_place n ≡ walked version bytes first n
  any_place_is =
      gone_on_lem (λ at. (reasoned_in version bytes at).next)
      (λ at h. ap (λ (s : MkbAnyStep). s.next) (reasoned_is version bytes at h) ∙ next_of_any (any_step version bytes at) (place_after version bytes at))

  -- "hands out the records in file order, each once", with their codes
  pub handed_to_c : (i : ℕ) → i < count → reasoned_in version bytes (any_place i) ≡ any_step_of (Some (reasoned_of (e.piece i))) (any_place (suc i))
  unfolding walked
  handed_to_c i h =
      ap (reasoned_in version bytes) (any_place_is i)
      ∙ (reasoned_is version bytes (walked version bytes first i) (inside i)
      ∙ ap₂ any_step_of (handed_out version bytes first count sum e i h) (sym (any_place_is (suc i))))

  -- "then says that it has ended and goes on saying so"
  pub ended_for_c : (i : ℕ) → count ≤ i → reasoned_in version bytes (any_place i) ≡ any_step_of None (any_place i)
  ended_for_c i h =
      ap (reasoned_in version bytes) (any_place_is i)
      ∙ (reasoned_is version bytes (walked version bytes first i) (inside i)
      ∙ ap₂ any_step_of (then_ended version bytes first count sum e i h) (stayed i h ∙ sym (any_place_is i)))

-- the same of a file of version 1 by the cursor of Ask 11
module _ (bytes : List ℕ) (first count : ℕ) (sum : ℤ) (e : Ends Plain bytes first count sum) (small : length bytes < 2 ^ 63) where
  abbrev pub plain_place : ℕ → ℕ
  plain_place = gone_on (λ at. (payout_in bytes at).next) first

  plain_place_is : (n : ℕ) → plain_place n ≡ walked Plain bytes first n
  plain_place_is =
      gone_on_lem Plain bytes first count sum e small (λ at. (payout_in bytes at).next)
      (λ at h. ap (λ (s : MkbStep). s.next) (payout_is bytes at h) ∙ next_of (step_at bytes at) (place_after Plain bytes at))

  pub plain_handed_to_c : (i : ℕ) → i < count → payout_in bytes (plain_place i) ≡ step_of (Some (payout_of (e.piece i))) (plain_place (suc i))
  unfolding walked
  plain_handed_to_c i h =
      ap (payout_in bytes) (plain_place_is i)
      ∙ (payout_is bytes (walked Plain bytes first i) (inside Plain bytes first count sum e small i)
      ∙ ap₂ step_of (plain_handed_out bytes first count sum e i h) (sym (plain_place_is (suc i))))

  pub plain_ended_for_c : (i : ℕ) → count ≤ i → payout_in bytes (plain_place i) ≡ step_of None (plain_place i)
  plain_ended_for_c i h =
      ap (payout_in bytes) (plain_place_is i)
      ∙ (payout_is bytes (walked Plain bytes first i) (inside Plain bytes first count sum e small i)
      ∙ ap₂ step_of (plain_ended bytes first count sum e i h) (stayed Plain bytes first count sum e small i h ∙ sym (plain_place_is i)))
