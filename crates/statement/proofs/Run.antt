-- A loop that puts records into a buffer from a start on: its start, a turn and its end. Assumes nothing.
use mathlib.Core.Path.{◌≡◌, sym, ◌∙◌, ap}
use mathlib.Core.List.{List, [], ◌++◌}
use Prim.Native.Nat.{ℕ, ◌+◌, ◌*◌, ◌≤◌}
use native.Mathlib.Omega.{arith}
use lib.ListN.{length}
use Rattle.statement.specs.Bytes.{pasted}
use Rattle.statement.specs.Files.{Piece, record_width, record_fields, record_bytes, joined, trailer_fields, trailer_bytes, trailer_width}
use Rattle.statement.proofs.Pasting.{paste_nothing, paste_behind}
use Rattle.statement.proofs.Behind.{joined_none, joined_more, length_joined}
use Rattle.statement.proofs.Fields.{length_fields}
use lib.IntN.{ℤ}
use Rattle.statement.specs.declared.Version.TheVariants.{Plain, Reasons}
use Rattle.statement.specs.declared.Version.{Version}

pub length_record : (version : Version) (p : Piece) → length (record_bytes version p) ≡ record_width version
unfolding record_bytes
length_record Plain p = length_fields (record_fields Plain p)
length_record Reasons p = length_fields (record_fields Reasons p)

pub length_trailer : (width count : ℕ) (sum : ℤ) (version : ℕ) → length (trailer_bytes width count sum version) ≡ trailer_width
unfolding trailer_bytes
length_trailer width count sum version = length_fields (trailer_fields (width * count) count sum version)

module _ (f : ℕ → List ℕ) (width : ℕ) (each : (i : ℕ) → length (f i) ≡ width) (start : ℕ) (out : List ℕ) where
  pub run_start : out ≡ pasted start (joined f 0) out
  run_start = paste_nothing start [] out ∙ ap (λ (l : List ℕ). pasted start l out) (sym (joined_none f))

  module _ (i : ℕ) (held : List ℕ) (so_far : held ≡ pasted start (joined f i) out) where
    -- what is put in behind the records
    pub run_behind : (new after : List ℕ) (at : ℕ) → at ≡ start + width * i → start ≤ length out → after ≡ pasted at new held
        → after ≡ pasted start (joined f i ++ new) out
    run_behind new after at e h put =
        let here : at ≡ start + length (joined f i) = omega (arith, length_joined f width each i) in
        put
        ∙ ap (λ (l : List ℕ). pasted at new l) so_far
        ∙ ap (λ (k : ℕ). pasted k new (pasted start (joined f i) out)) here
        ∙ paste_behind start (joined f i) out new h

    -- one record more
    pub run_more : (after : List ℕ) (at : ℕ) → at ≡ start + width * i → start ≤ length out → after ≡ pasted at (f i) held
        → after ≡ pasted start (joined f (i + 1)) out
    run_more after at e h put = run_behind (f i) after at e h put ∙ ap (λ (l : List ℕ). pasted start l out) (joined_more f i)
