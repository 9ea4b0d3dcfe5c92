-- What the functions below the public ones hand each other; of the public promises only that of a `Version` made of its number cites it. Assumes nothing.
use Rattle.std.specs.Prelude.{◌≡◌, Bool, cond, not, Result, Ok, Err, ◌||◌, List, ℕ, ◌+◌, ◌*◌, ◌/◌, ◌≤◌, ◌<◌, ltb, eqb, ℤ, pos, length, get_or}
use Rattle.whole.specs.Whole.{magnitude_of}
use Rattle.currency.specs.declared.Currency.{Currency}
use Rattle.currency.specs.Table.{last_currency}
use Rattle.amount.specs.Amounts.{largest}
use Rattle.refusal.specs.declared.Refusal.{Refusal}
use Rattle.refusal.specs.declared.Refusal.TheVariants.{Malformed}
use Rattle.statement.specs.declared.Version.TheVariants.{Plain, Reasons}
use Rattle.statement.specs.declared.Reasoned.{Reasoned}
use Rattle.refusal.specs.Rows.{Row}
use Rattle.statement.specs.Writing.{any_over, any_past, run_rows}
use Rattle.statement.specs.Files.{Piece, version_of, record_width, most_records, last_place, last_reason, trailer_width, file_size}
use Rattle.statement.specs.declared.Version.{Version}

-- the version with a number, or 14
abbrev pub version_numbered : ℕ → Result Version Refusal
version_numbered number = cond (eqb number (version_of Plain)) (Ok Plain) (cond (eqb number (version_of Reasons)) (Ok Reasons) (Err Malformed))

abbrev pub Numbered : ℕ → Result Version Refusal → Type 0
Numbered number r = r ≡ version_numbered number

-- what a record is to say, as the definition has it
abbrev pub piece_of : Reasoned → Piece
piece_of r = record { place = r.payout.place; currency = r.payout.currency; coefficient = r.payout.coefficient; reason = r.reason }

-- what rows 9 ask of the lists of a run; version 1 has no codes
abbrev pub uneven_of : Version → (places codes : List ℕ) → (coefficients : List ℤ) → Bool
uneven_of Plain places codes coefficients = not (eqb (length places) (length coefficients))
uneven_of Reasons places codes coefficients = not (eqb (length places) (length coefficients)) || not (eqb (length places) (length codes))

abbrev pub far_of : Version → (places codes : List ℕ) → Bool
far_of Plain places codes = any_past last_place places
far_of Reasons places codes = any_past last_place places || any_past (last_reason Reasons) codes

-- the rows of a run of either version
abbrev pub rows_of : Version → Currency → (places codes : List ℕ) → (coefficients : List ℤ) → (room start : ℕ) → List Row
rows_of version currency places codes coefficients room start =
    run_rows version (any_over coefficients) currency (uneven_of version places codes coefficients) (far_of version places codes) (length places) room start

-- coefficients that are within L, at most so many as a file has
pub record Few (f : ℕ → ℤ) (count : ℕ) : Type 0 where
  pub few : count ≤ most_records
  pub each : (i : ℕ) → i < count → magnitude_of (f i) ≤ largest

-- lists that keep the limits of a file of a version, which has room from a start on
pub record Writable (version : Version) (currency : Currency) (places codes : List ℕ) (coefficients : List ℤ) (room start : ℕ) : Type 0 where
  pub even : length places ≡ length coefficients
  pub small : Few (λ i. get_or coefficients i (pos 0)) (length places)
  pub fits : start + file_size version (length places) ≤ room
  pub known : currency.0 ≤ last_currency
  pub placed : (i : ℕ) → i < length places → get_or places i 0 ≤ last_place
  pub coded : (i : ℕ) → i < length places → get_or codes i 0 ≤ last_reason version

-- records of a version and a trailer that stand inside the bytes
pub record Inside (version : Version) (long first count : ℕ) : Type 0 where
  pub ends : first + record_width version * count + trailer_width ≤ long
  pub few : count ≤ most_records

-- the first eight bytes of a record at once, as one number: the place below 16, then the currency, then zeros
abbrev pub bad_head : (head agreed : ℕ) → Bool
bad_head head agreed = ltb last_currency agreed || not (eqb (head / 16) (4096 * agreed))
