-- Document 02, Ask 11: a walk over a statement "hands out the records in file order, each once, then says that it has ended and goes on saying so. The
-- records, as read, add to the trailer's sum." Of either version, by one argument over the width. Assumes nothing.
use mathlib.Core.Path.{◌≡◌, refl, ◌∙◌, ap}
use mathlib.Core.Bool.{Bool, true, false, cond}
use mathlib.Core.List.{List}
use Prim.Native.Nat.{ℕ, zero, suc, ◌+◌, ◌≤◌, ◌<◌}
use native.Mathlib.Decide.{dec_lt}
use native.Mathlib.Nat.{mul-le-mul_left}
use native.Mathlib.Omega.{arith}
use borrow.Author.Tests.{lt-ltb, le-ltb}
use lib.IntN.{ℤ}
use lib.ListN.{length}
use Rattle.statement.specs.declared.Reasoned.{Reasoned}
use Rattle.statement.specs.declared.Payout.{Payout}
use Rattle.std.specs.Prelude.{Option, Some, None}
use Rattle.statement.specs.Files.{Piece, version_of, record_width, trailer_width, total_of, Ends}
use Rattle.statement.specs.Reading.{record_place, coefficient_at}
use Rattle.statement.specs.Walking.{payout_at, reasoned_at, ended, any_step, place_after, walked, step_at, any_step_at, any_place_after}
use Rattle.statement.proofs.Totals.{total_same}
use Rattle.statement.proofs.Widths.{wide}
use Rattle.statement.proofs.Held.{at_nought, bytes_long, record_reads, coefficient_is}
use Rattle.statement.specs.declared.Version.TheVariants.{Plain, Reasons}
use Rattle.statement.specs.declared.Version.{Version}

-- what a record of the definition says, as it is handed out
abbrev pub payout_of : Piece → Payout
payout_of p = record { place = p.place; currency = p.currency; coefficient = p.coefficient }

abbrev pub reasoned_of : Piece → Reasoned
reasoned_of p = record { payout = payout_of p; reason = p.reason }

-- a step without its record's code
abbrev pub without_reason : Option Reasoned → Option Payout
without_reason (Some r) = Some r.payout
without_reason None = None

-- the walk of Ask 11 is that of version 1, without the codes
pub steps_same : (bytes : List ℕ) (at : ℕ) → step_at bytes at ≡ without_reason (any_step Plain bytes at)
unfolding step_at any_step
steps_same bytes at = go (ended (record_width Plain) (length bytes) at)
  where
    go : (b : Bool) → cond b None (Some (payout_at bytes at)) ≡ without_reason (cond b None (Some (reasoned_at Plain bytes at)))
    go true = refl
    go false = refl

module _ (version : Version) (bytes : List ℕ) (first count : ℕ) (sum : ℤ) (e : Ends version bytes first count sum) where
  abbrev width : ℕ
  width = record_width version

  on : (i : ℕ) → i < count → ended width (length bytes) (record_place width first i) ≡ false
  on i h =
      le-ltb (length bytes) (record_place width first i + width + trailer_width)
      (omega (arith, bytes_long version bytes first count sum e, mul-le-mul_left width h))

  off : ended width (length bytes) (record_place width first count) ≡ true
  off =
      lt-ltb (length bytes) (record_place width first count + width + trailer_width)
      (omega (arith, bytes_long version bytes first count sum e, wide version))

  -- the place after so many steps is that of the record with this number
  pub walked_to : (i : ℕ) → i ≤ count → walked version bytes first i ≡ record_place width first i
  unfolding walked place_after
  walked_to zero h = omega arith
  walked_to (suc i) h =
      let more : record_place width first i + width ≡ record_place width first (suc i) = omega arith in
      ap (place_after version bytes) (walked_to i (omega arith)) ∙ rw (on i (omega arith)) more

  -- and then it stays at the trailer's
  pub stays : (i : ℕ) → count ≤ i → walked version bytes first i ≡ record_place width first count
  unfolding walked place_after
  stays zero h = walked_to 0 (omega arith) ∙ let none : 0 ≡ count = omega arith in ap (record_place width first) none
  stays (suc i) h = go (dec_lt i count) (stays i)
    where
      go : Dec (i < count) → (count ≤ i → walked version bytes first i ≡ record_place width first count) → place_after version bytes (walked version bytes first i) ≡ record_place width first count
      go (yes less) earlier = let last : suc i ≡ count = omega arith in walked_to (suc i) (omega arith) ∙ ap (record_place width first) last
      go (no more) earlier = ap (place_after version bytes) (earlier (omega arith)) ∙ rw off

  -- "the records in file order, each once", with their codes
  pub handed_out : (i : ℕ) → i < count → any_step version bytes (walked version bytes first i) ≡ Some (reasoned_of (e.piece i))
  unfolding any_step
  handed_out i h =
      let reads = record_reads version bytes first count sum e i h in
      let place = at_nought bytes (record_place width first i) 2 (e.piece i).place reads.0 in
      let currency = reads.1.0 in
      let coefficient = coefficient_is version bytes first count sum e i h in
      let reason = reads.1.1.1.1.0 in
      let same : reasoned_at version bytes (record_place width first i) ≡ reasoned_of (e.piece i) = cc in
      ap (any_step version bytes) (walked_to i (omega arith)) ∙ rw (on i h) (ap Some same)

  -- "then says that it has ended and goes on saying so"
  pub then_ended : (i : ℕ) → count ≤ i → any_step version bytes (walked version bytes first i) ≡ None
  unfolding any_step
  then_ended i h = ap (any_step version bytes) (stays i h) ∙ rw off

  -- "The records, as read, add to the trailer's sum"
  pub add_up : total_of (λ i. coefficient_at bytes (walked version bytes first i)) count ≡ sum
  add_up =
      total_same (λ i. coefficient_at bytes (walked version bytes first i)) (λ i. (e.piece i).coefficient) count
      (λ i h. ap (coefficient_at bytes) (walked_to i (omega arith)) ∙ coefficient_is version bytes first count sum e i h)
      ∙ e.summed

-- the walk by the version's number is that of the version
pub by_version : (version : Version) (bytes : List ℕ) (at : ℕ) → any_step_at bytes (version_of version) at ≡ any_step version bytes at
unfolding any_step_at
by_version Plain bytes at = refl
by_version Reasons bytes at = refl

pub place_by_version : (version : Version) (bytes : List ℕ) (at : ℕ) → any_place_after bytes (version_of version) at ≡ place_after version bytes at
unfolding any_place_after
place_by_version Plain bytes at = refl
place_by_version Reasons bytes at = refl

-- the old walk over a file of version 1: the same, without the codes
module _ (bytes : List ℕ) (first count : ℕ) (sum : ℤ) (e : Ends Plain bytes first count sum) where
  pub plain_handed_out : (i : ℕ) → i < count → step_at bytes (walked Plain bytes first i) ≡ Some (payout_of (e.piece i))
  plain_handed_out i h = steps_same bytes (walked Plain bytes first i) ∙ ap without_reason (handed_out Plain bytes first count sum e i h)

  pub plain_ended : (i : ℕ) → count ≤ i → step_at bytes (walked Plain bytes first i) ≡ None
  plain_ended i h = steps_same bytes (walked Plain bytes first i) ∙ ap without_reason (then_ended Plain bytes first count sum e i h)
