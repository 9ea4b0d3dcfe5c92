-- Two different lists of records have different files, and files of different versions differ: bytes tell their version, how many records they
-- hold, and each of them. Assumes nothing.
use Rattle.std.specs.Prelude.{Option, Some, None}
use Rattle.statement.specs.declared.Reasoned.{Reasoned}
use mathlib.Core.Path.{◌≡◌, refl, sym, ◌∙◌, ap, subst}
use mathlib.Core.List.{List, []}
use Prim.Native.Nat.{ℕ, ◌≤◌, ◌<◌}
use lib.IntN.{ℤ, pos}
use Rattle.refusal.specs.Rows.{Said, gives, refuses}
use Rattle.currency.specs.Table.{last_currency}
use Rattle.statement.specs.declared.SummaryOfAny.{SummaryOfAny}
use Rattle.statement.specs.Files.{Piece, file_of, total_of, most_records, Sound, Ends}
use Rattle.statement.proofs.Both.{version_in_is, any_file_said}
use Rattle.statement.proofs.Handed.{handed_out}
use Rattle.statement.specs.declared.Version.{Version}

-- records that a file of a version may hold
pub record Records (version : Version) (piece : ℕ → Piece) (count : ℕ) : Type 0 where
  pub few : count ≤ most_records
  pub currency : ℕ
  pub known : currency ≤ last_currency
  pub sound : (i : ℕ) → i < count → Sound version currency (piece i)

abbrev sum_of : (ℕ → Piece) → (count : ℕ) → ℤ
sum_of piece count = total_of (λ i. (piece i).coefficient) count

-- bytes that are a file of some records
abbrev ends_of : (version : Version) (bytes : List ℕ) (piece : ℕ → Piece) (count : ℕ) → Records version piece count → bytes ≡ file_of version piece count → Ends version bytes 0 count (sum_of piece count)
ends_of version bytes piece count r is =
    record {
      front = [];
      piece = piece;
      currency = r.currency;
      whole = is;
      starts = refl;
      few = r.few;
      known = r.known;
      sound = r.sound;
      summed = refl;
    }

abbrev count_in : Said SummaryOfAny → ℕ
count_in (gives s) = s.summary.count
count_in (refuses number blamed) = 0

abbrev piece_in : Option Reasoned → Piece
piece_in (Some r) = record { place = r.payout.place; currency = r.payout.currency; coefficient = r.payout.coefficient; reason = r.reason }
piece_in None = record { place = 0; currency = 0; coefficient = pos 0; reason = 0 }

module _ (one other : Version) (p q : ℕ → Piece) (m n : ℕ) (rp : Records one p m) (rq : Records other q n) (same : file_of one p m ≡ file_of other q n) where
  pub same_version : one ≡ other
  same_version =
      let bytes : List ℕ = file_of one p m in
      sym (version_in_is bytes one 0 m (sum_of p m) (ends_of one bytes p m rp refl)) ∙ version_in_is bytes other 0 n (sum_of q n) (ends_of other bytes q n rq same)

module _ (version : Version) (p q : ℕ → Piece) (m n : ℕ) (rp : Records version p m) (rq : Records version q n) (same : file_of version p m ≡ file_of version q n) where
  abbrev bytes : List ℕ
  bytes = file_of version p m

  abbrev ep : Ends version bytes 0 m (sum_of p m)
  ep = ends_of version bytes p m rp refl

  abbrev eq : Ends version bytes 0 n (sum_of q n)
  eq = ends_of version bytes q n rq same

  pub same_count : m ≡ n
  same_count = ap count_in (sym (any_file_said bytes version 0 m (sum_of p m) ep) ∙ any_file_said bytes version 0 n (sum_of q n) eq)

  pub same_records : (i : ℕ) → i < m → p i ≡ q i
  same_records i h =
      ap piece_in (sym (handed_out version bytes 0 m (sum_of p m) ep i h) ∙ handed_out version bytes 0 n (sum_of q n) eq i (subst (λ (k : ℕ). i < k) same_count h))
