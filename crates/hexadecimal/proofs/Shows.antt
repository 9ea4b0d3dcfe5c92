-- What is put for bytes: a dash for none; their digits where there is room for two to each, and else nothing. Assumes nothing.
use mathlib.Core.Path.{◌≡◌, sym, ◌∙◌, ap}
use mathlib.Core.List.{List, [], ◌∷◌}
use Prim.Native.Nat.{ℕ, ◌+◌, ◌*◌, ◌≤◌, ◌<◌}
use native.Mathlib.Omega.{arith}
use borrow.Author.Tests.{eq-eqb, ne_eqb}
use lib.ListN.{length}
use Rattle.lines.specs.Texts.{put_at, place_behind}
use Rattle.lines.proofs.Fills.{no_room, behind}
use Rattle.hexadecimal.specs.Hexadecimal.{digits_of, hex_of}
use Rattle.hexadecimal.proofs.Digits.{digits_length}

module _ (out : List ℕ) (at : ℕ) (bytes : List ℕ) where
  -- what the promise says of the buffer and the place
  abbrev pub Shown : List ℕ → ℕ → Type 0
  Shown out' r = (out' ≡ put_at out at (hex_of bytes)) × (r ≡ place_behind out at (hex_of bytes))

  dash : length bytes ≡ 0 → hex_of bytes ≡ 45 ∷ []
  unfolding hex_of
  dash e = rw (eq-eqb (length bytes) 0 e)

  digits : (length bytes ≡ 0 → ⊥) → hex_of bytes ≡ digits_of bytes
  unfolding hex_of
  digits e = rw (ne_eqb (length bytes) 0 e)

  pub none_shown
      : (out' : List ℕ) (r : ℕ) → length bytes ≡ 0 → (out' ≡ put_at out at (45 ∷ [])) × (r ≡ place_behind out at (45 ∷ [])) → Shown out' r
  none_shown out' r e h = rw (dash e) h

  module _ (some : length bytes ≡ 0 → ⊥) where
    pub no_place : length out < at + length bytes * 2 → Shown out at
    no_place h = rw (digits some) (no_room out at (digits_of bytes) (omega (arith, digits_length bytes)))

    pub all_shown : (out' : List ℕ) → at + length bytes * 2 ≤ length out → out' ≡ put_at out at (digits_of bytes) → Shown out' (at + length bytes * 2)
    all_shown out' h e =
        let long : length (digits_of bytes) ≡ length bytes * 2 = digits_length bytes in
        rw (digits some) (e, sym (behind out at (digits_of bytes) (omega arith) ∙ ap (λ (n : ℕ). at + n) long))
