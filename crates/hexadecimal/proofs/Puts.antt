-- The digits of bytes put one byte after another from a place on. Assumes nothing.
use mathlib.Core.Path.{◌≡◌, sym, ◌∙◌, ap}
use mathlib.Core.List.{List}
use Prim.Native.Nat.{ℕ, suc, ◌+◌, ◌*◌, ◌/◌, ◌%◌, ◌≤◌, ◌<◌}
use native.Mathlib.Omega.{arith}
use lib.ListN.{length, get_or, set, length-set}
use lib.Seq.{paste, paste-suc}
use Rattle.lines.specs.Texts.{put_at}
use Rattle.lines.proofs.Fills.{copied}
use Rattle.hexadecimal.specs.Hexadecimal.{digit_of, digits_of}
use Rattle.hexadecimal.proofs.Digits.{digits_length, high_digit, low_digit}

module _ (out₀ : List ℕ) (at : ℕ) (bytes : List ℕ) where
  -- the digits of so many bytes stand there, and the rest stays
  pub record Put (out : List ℕ) (i : ℕ) : Type 0 where
    pub inside : i ≤ length bytes
    pub sized : length out ≡ length out₀
    pub is : out ≡ paste out₀ at (digits_of bytes) (i * 2)

  module _ (out : List ℕ) (i : ℕ) (p : Put out i) (room : at + length bytes * 2 ≤ length out₀) where
    pub two_put
        : (high low : ℕ) → i < length bytes → high ≡ digit_of (get_or bytes i 0 / 16) → low ≡ digit_of (get_or bytes i 0 % 16)
        → Put (set (set out (at + i * 2) high) (at + i * 2 + 1) low) (i + 1)
    two_put high low l h e =
        let long : length (digits_of bytes) ≡ length bytes * 2 = digits_length bytes in
        let to : ℕ = at + i * 2 in
        let first : set out to high ≡ paste out₀ at (digits_of bytes) (suc (i * 2)) =
        ap (set out (at + i * 2)) (h ∙ sym (high_digit bytes i l))
        ∙ ap (λ (o : List ℕ). set o (at + i * 2) (get_or (digits_of bytes) (i * 2) 0)) p.is
        ∙ paste-suc out₀ at (digits_of bytes) (i * 2) 0 (omega arith) (omega arith) in
        let behind : to + 1 ≡ at + suc (i * 2) = omega arith in
        let odd : i * 2 + 1 ≡ suc (i * 2) = omega arith in
        let digit : low ≡ get_or (digits_of bytes) (suc (i * 2)) 0 = e ∙ sym (low_digit bytes i l) ∙ ap (λ (k : ℕ). get_or (digits_of bytes) k 0) odd in
        let next : suc (suc (i * 2)) ≡ (i + 1) * 2 = omega arith in
        record {
          inside = omega arith;
          sized = length-set (set out to high) (to + 1) low ∙ length-set out to high ∙ p.sized;
          is =
              ap (λ (k : ℕ). set (set out to high) k low) behind
              ∙ ap (set (set out to high) (at + suc (i * 2))) digit
              ∙ ap (λ (o : List ℕ). set o (at + suc (i * 2)) (get_or (digits_of bytes) (suc (i * 2)) 0)) first
              ∙ paste-suc out₀ at (digits_of bytes) (suc (i * 2)) 0 (omega arith) (omega arith)
              ∙ ap (paste out₀ at (digits_of bytes)) next;
        }

    pub all_put : length bytes ≤ i → out ≡ put_at out₀ at (digits_of bytes)
    all_put h =
        let long : length (digits_of bytes) ≡ length bytes * 2 = digits_length bytes in
        let z : i * 2 ≡ length (digits_of bytes) = omega (arith, p.inside) in
        p.is ∙ ap (paste out₀ at (digits_of bytes)) z ∙ copied out₀ at (digits_of bytes) (omega arith)
