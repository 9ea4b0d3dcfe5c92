-- The text of so many units at a place of a buffer: in front of what is lent from the place on. Assumes nothing.
use mathlib.Core.Path.{◌≡◌, sym, ◌∙◌, ap}
use mathlib.Core.Bool.{Bool}
use mathlib.Core.List.{List, [], ◌++◌, append-nil}
use Prim.Native.Nat.{ℕ, ◌+◌, ◌-◌, ◌≤◌, ◌<◌}
use native.Mathlib.Decide.{dec_le}
use native.Mathlib.Omega.{arith}
use borrow.Author.Tests.{lt-ltb, le-ltb}
use lib.ListN.{length, take, drop, length-drop}
use lib.Seq.{take_all, drop-drop, drop-length}
use Rattle.lines.specs.Texts.{put_at, place_behind}
use Rattle.lines.proofs.Fills.{no_room, put, behind}
use Rattle.amount.specs.Amounts.{last_scale}
use Rattle.text.specs.Putting.{units_text}
use Rattle.text.specs.Written.{spelled}
use Rattle.text.proofs.Placed.{put_none}

-- what stands afterwards, and the place
abbrev pub Put : (out : List ℕ) (at : ℕ) (bytes after : List ℕ) (place : ℕ) → Type 0
Put out at bytes after place = (after ≡ put_at out at bytes) × (place ≡ place_behind out at bytes)

-- no bytes
none_put : (out : List ℕ) (at : ℕ) → Put out at [] out at
none_put out at = by (dec_le at (length out))
  where
    by : Dec (at ≤ length out) → Put out at [] out at
    by (yes h) = (sym (put_none out at h), sym (behind out at [] (omega arith) ∙ omega arith))
    by (no h) = no_room out at [] (omega arith)

module _ (out : List ℕ) (at : ℕ) (sign : Bool) (m scale : ℕ) where
  pub no_scale : last_scale < scale → Put out at (units_text sign m scale) out at
  no_scale h = rw (lt-ltb last_scale scale h) (none_put out at)

  module _ (scaled : scale ≤ last_scale) where
    pub no_place : length out < at + length (spelled sign m scale) → Put out at (units_text sign m scale) out at
    no_place h = rw (le-ltb last_scale scale scaled) (no_room out at (spelled sign m scale) h)

    -- `tail` is what the part from the place on holds afterwards
    pub placed
        : at + length (spelled sign m scale) ≤ length out → (tail : List ℕ) → tail ≡ put_at (take (length out - at) (drop at out)) 0 (spelled sign m scale)
        → (place : ℕ) → place ≡ at + length (spelled sign m scale)
        → Put out at (units_text sign m scale) (take at out ++ (tail ++ drop (length out - at) (drop at out))) place
    placed room tail is place p =
        let text : List ℕ = spelled sign m scale in
        let fits : 0 + length text ≤ length (drop at out) = omega (arith, length-drop at out) in
        let all : take (length out - at) (drop at out) ≡ drop at out = take_all (length out - at) (drop at out) (omega (arith, length-drop at out)) in
        let none : drop (length out - at) (drop at out) ≡ [] =
        ap (λ (k : ℕ). drop k (drop at out)) (sym (length-drop at out)) ∙ drop-length (drop at out) in
        let behind_it : drop (0 + length text) (drop at out) ≡ drop (at + length text) out =
        drop-drop (0 + length text) at out ∙ ap (λ (k : ℕ). drop k out) {x = at + (0 + length text)} {y = at + length text} (omega arith) in
        let held : tail ++ drop (length out - at) (drop at out) ≡ text ++ drop (at + length text) out =
        ap (λ (xs : List ℕ). tail ++ xs) none ∙ append-nil tail ∙ is ∙ ap (λ (xs : List ℕ). put_at xs 0 text) all ∙ put (drop at out) 0 text fits
        ∙ ap (λ (xs : List ℕ). text ++ xs) behind_it in
        rw (le-ltb last_scale scale scaled) (ap (λ (xs : List ℕ). take at out ++ xs) held ∙ sym (put out at text room), p ∙ sym (behind out at text room))
