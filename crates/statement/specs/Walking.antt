-- Document 02, Ask 11, "First the walk on plain bytes and a place", and Ask 13, "State the walk once for both record sizes": what stands at a place of a
-- statement's bytes, and the place behind it. Cited by `step_at`, `place_after`, `any_step_at` and `any_place_after`, and by the readers that
-- keep hold of the bytes. Assumes nothing.
use Rattle.std.specs.Prelude.{Bool, cond, Option, Some, None, List, ℕ, zero, suc, ◌+◌, ltb, eqb, length}
use Rattle.statement.specs.declared.Payout.{Payout}
use Rattle.statement.specs.declared.Reasoned.{Reasoned}
use Rattle.statement.specs.Bytes.{number_at}
use Rattle.statement.specs.Files.{version_of, record_width, code_bytes, trailer_width}
use Rattle.statement.specs.Reading.{coefficient_at}
use Rattle.statement.specs.declared.Version.TheVariants.{Plain, Reasons}
use Rattle.statement.specs.declared.Version.{Version}

-- what a record says of its payout, read at its place
abbrev pub payout_at : List ℕ → (at : ℕ) → Payout
payout_at bytes at = record { place = number_at bytes at 2; currency = number_at bytes (at + 2) 2; coefficient = coefficient_at bytes at }

-- and with its code: "gives code 0 for version 1 records", which have no bytes for it
abbrev pub reasoned_at : (version : Version) → List ℕ → (at : ℕ) → Reasoned
reasoned_at version bytes at = record { payout = payout_at bytes at; reason = number_at bytes (at + 16) (code_bytes version) }

-- at a place stands no whole record before the trailer
abbrev pub ended : (width long at : ℕ) → Bool
ended width long at = ltb long (at + width + trailer_width)

-- the record at a place, or the end
unfoldable pub any_step : (version : Version) → List ℕ → (at : ℕ) → Option Reasoned
any_step version bytes at = cond (ended (record_width version) (length bytes) at) None (Some (reasoned_at version bytes at))

-- the place behind it; a walk that has ended stays where it is
unfoldable pub place_after : (version : Version) → List ℕ → (at : ℕ) → ℕ
place_after version bytes at = cond (ended (record_width version) (length bytes) at) at (at + record_width version)

-- the place after so many steps from one on
unfoldable pub walked : (version : Version) → List ℕ → (first n : ℕ) → ℕ
walked version bytes first zero = first
walked version bytes first (suc n) = place_after version bytes (walked version bytes first n)

-- the walk of Ask 11: the same records without their codes
unfoldable pub step_at : List ℕ → (at : ℕ) → Option Payout
step_at bytes at = cond (ended (record_width Plain) (length bytes) at) None (Some (payout_at bytes at))

-- the walk by the version's number; one that is neither 1 nor 2 has no records
unfoldable pub any_step_at : List ℕ → (version at : ℕ) → Option Reasoned
any_step_at bytes version at =
    cond (eqb version (version_of Plain)) (any_step Plain bytes at) (cond (eqb version (version_of Reasons)) (any_step Reasons bytes at) None)

unfoldable pub any_place_after : List ℕ → (version at : ℕ) → ℕ
any_place_after bytes version at =
    cond (eqb version (version_of Plain)) (place_after Plain bytes at) (cond (eqb version (version_of Reasons)) (place_after Reasons bytes at) at)
