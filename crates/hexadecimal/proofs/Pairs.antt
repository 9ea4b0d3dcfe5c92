-- A word of digit pairs read one pair after another into the front of a list. Assumes nothing.
use mathlib.Core.Path.{◌≡◌, sym, ◌∙◌, ap}
use mathlib.Core.List.{List}
use Prim.Native.Nat.{ℕ, suc, ◌+◌, ◌*◌, ◌≤◌, ◌<◌}
use native.Mathlib.Numerals.{add-one}
use native.Mathlib.Omega.{arith}
use borrow.Author.Tests.{ltb-true}
use lib.ListN.{length, get_or, set, length-set}
use lib.Seq.{paste, paste-suc}
use Rattle.lines.specs.Lines.{span}
use Rattle.lines.specs.Texts.{put_at}
use Rattle.lines.proofs.Fills.{copied}
use Rattle.lines.proofs.Spans.{span_inside}
use Rattle.hexadecimal.specs.Hexadecimal.{worth_of, is_digit, bytes_of}
use Rattle.hexadecimal.proofs.Digits.{bytes_length, byte_at}

module _ (word bytes₀ : List ℕ) where
  -- so many bytes stand at the front, and the others stay
  pub record Filled (bytes : List ℕ) (i : ℕ) : Type 0 where
    pub sized : length bytes ≡ length bytes₀
    pub is : bytes ≡ paste bytes₀ 0 (bytes_of word) i

  module _ (bytes : List ℕ) (i : ℕ) (f : Filled bytes i) (count : ℕ) (even : length word ≡ count * 2) (room : count ≤ length bytes₀) where
    pub one_filled
        : (x : ℕ) → i < count → x ≡ worth_of (get_or word (i * 2) 0) * 16 + worth_of (get_or word (i * 2 + 1) 0)
        → Filled (set bytes i x) (i + 1)
    one_filled x l e =
        let z : 0 + i ≡ i = omega arith in
        let long : length (bytes_of word) ≡ count = bytes_length word count even in
        let byte : x ≡ get_or (bytes_of word) i 0 = e ∙ sym (byte_at word i (omega arith)) in
        let next : set (paste bytes₀ 0 (bytes_of word) i) (0 + i) (get_or (bytes_of word) i 0) ≡ paste bytes₀ 0 (bytes_of word) (suc i) =
        paste-suc bytes₀ 0 (bytes_of word) i 0 (omega arith) (omega arith) in
        record {
          sized = length-set bytes i x ∙ f.sized;
          is =
              ap (λ (k : ℕ). set bytes k x) (sym z)
              ∙ ap (set bytes (0 + i)) byte
              ∙ ap (λ (l : List ℕ). set l (0 + i) (get_or (bytes_of word) i 0)) f.is
              ∙ next
              ∙ ap (paste bytes₀ 0 (bytes_of word)) (sym (add-one i));
        }

    pub all_filled : i ≡ count → bytes ≡ put_at bytes₀ 0 (bytes_of word)
    all_filled h =
        let long : length (bytes_of word) ≡ count = bytes_length word count even in
        let z : i ≡ length (bytes_of word) = omega arith in
        f.is ∙ ap (paste bytes₀ 0 (bytes_of word)) z ∙ copied bytes₀ 0 (bytes_of word) (omega arith)

-- each byte of a word of digits alone is one
pub digit_inside : (word : List ℕ) → span is_digit word ≡ length word → (i : ℕ) → i < length word → worth_of (get_or word i 0) < 16
digit_inside word e i h = ltb-true (worth_of (get_or word i 0)) 16 (span_inside is_digit word i (omega arith))
