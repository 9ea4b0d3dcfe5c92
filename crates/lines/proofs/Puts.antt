-- What is put at a place keeps the length, what stands before the place and what stands behind the bytes; in between stand the bytes.
-- Assumes nothing.
use mathlib.Core.Path.{◌≡◌, ◌∙◌, ap}
use mathlib.Core.List.{List, ◌++◌, append_assoc}
use Prim.Native.Nat.{ℕ, ◌+◌, ◌≤◌}
use native.Mathlib.Decide.{dec_le}
use native.Mathlib.Omega.{arith}
use lib.ListN.{length, take, drop, length-append, length-drop}
use lib.Seq.{length-take-le, take_at, drop_at}
use Rattle.lines.specs.Texts.{put_at, place_behind}
use Rattle.lines.proofs.Fills.{no_room, put, behind}

module _ (out : List ℕ) (at : ℕ) (bytes : List ℕ) where
  -- with room
  module _ (room : at + length bytes ≤ length out) where
    head_length : length (take at out ++ bytes) ≡ at + length bytes
    head_length = length-append (take at out) bytes ∙ ap (λ (k : ℕ). k + length bytes) (length-take-le at out (omega arith))

    joined : put_at out at bytes ≡ (take at out ++ bytes) ++ drop (at + length bytes) out
    joined = rw (put out at bytes room, append_assoc)

    pub put_behind : take (place_behind out at bytes) (put_at out at bytes) ≡ take at out ++ bytes
    put_behind = rw (joined, behind out at bytes room) (take_at (take at out ++ bytes) (drop (at + length bytes) out) (at + length bytes) head_length)

    rest : drop (place_behind out at bytes) (put_at out at bytes) ≡ drop (place_behind out at bytes) out
    rest = rw (joined, behind out at bytes room) (drop_at (take at out ++ bytes) (drop (at + length bytes) out) (at + length bytes) head_length)

    before : take at (put_at out at bytes) ≡ take at out
    before = rw (put out at bytes room) (take_at (take at out) (bytes ++ drop (at + length bytes) out) at (length-take-le at out (omega arith)))

    whole : length (put_at out at bytes) ≡ length out
    whole = rw (joined, length-append (take at out ++ bytes), head_length, length-drop) (omega arith)

  -- with room or with none
  pub put_length : length (put_at out at bytes) ≡ length out
  put_length = by (dec_le (at + length bytes) (length out))
    where
      by : Dec (at + length bytes ≤ length out) → length (put_at out at bytes) ≡ length out
      by (yes h) = whole h
      by (no h) = rw (← (no_room out at bytes (omega arith)).0)

  pub put_before : take at (put_at out at bytes) ≡ take at out
  put_before = by (dec_le (at + length bytes) (length out))
    where
      by : Dec (at + length bytes ≤ length out) → take at (put_at out at bytes) ≡ take at out
      by (yes h) = before h
      by (no h) = rw (← (no_room out at bytes (omega arith)).0)

  pub put_rest : drop (place_behind out at bytes) (put_at out at bytes) ≡ drop (place_behind out at bytes) out
  put_rest = by (dec_le (at + length bytes) (length out))
    where
      by : Dec (at + length bytes ≤ length out) → drop (place_behind out at bytes) (put_at out at bytes) ≡ drop (place_behind out at bytes) out
      by (yes h) = rest h
      by (no h) = rw (← (no_room out at bytes (omega arith)).0)

  pub place_within : at ≤ length out → (at ≤ place_behind out at bytes) × (place_behind out at bytes ≤ length out)
  place_within l = by (dec_le (at + length bytes) (length out))
    where
      by : Dec (at + length bytes ≤ length out) → (at ≤ place_behind out at bytes) × (place_behind out at bytes ≤ length out)
      by (yes h) = omega (arith, behind out at bytes h)
      by (no h) = omega (arith, (no_room out at bytes (omega arith)).1)
