-- What a word is by each way through the reading, and the list afterwards. Assumes nothing.
use mathlib.Core.Path.{◌≡◌}
use mathlib.Core.Bool.{true, false}
use mathlib.Core.List.{List, []}
use Prim.Native.Nat.{ℕ, ◌*◌, ◌/◌, ◌≤◌, ◌<◌}
use native.Mathlib.Omega.{arith}
use borrow.Author.Tests.{le-leb, lt-leb}
use lib.ListN.{length}
use Rattle.lines.specs.Lines.{span}
use Rattle.lines.specs.Texts.{put_at}
use Rattle.lines.proofs.Fills.{put, no_room}
use Rattle.std.specs.Prelude.{Option}
use Rattle.std.specs.Prelude.{Some, None}
use Rattle.hexadecimal.specs.Hexadecimal.{is_digit, bytes_of, is_pairs, is_dash, bytes_in, decoded_of, list_after, count_in}
use Rattle.hexadecimal.proofs.Digits.{bytes_length}
use Rattle.hexadecimal.proofs.Accepted.{pairs_are, all_passed}

module _ (word list : List ℕ) where
  -- what the promise says of an answer and the list
  abbrev pub Read : Option ℕ → List ℕ → Type 0
  Read r bytes = (r ≡ decoded_of (length list) word) × (bytes ≡ list_after list word) × (count_in r ≤ length list)

  nothing_put : put_at list 0 [] ≡ list
  nothing_put = put list 0 [] (omega arith)

  pub dash_read : is_dash word ≡ true → Read (Some 0) list
  unfolding decoded_of list_after bytes_in
  dash_read e = (rw (e, le-leb 0 (length list) (omega arith)), rw (e, nothing_put), omega arith)

  module _ (no-dash : is_dash word ≡ false) where
    pub other_word : is_pairs word ≡ false → Read None list
    unfolding decoded_of list_after
    other_word e = (rw (no-dash, e), rw (no-dash, e), omega arith)

    module _ (pairs : is_pairs word ≡ true) where
      -- half as many bytes as digits
      pub halves : length word ≡ length word / 2 * 2
      halves = let p = pairs_are word pairs in omega (arith, p.even)

      long : length (bytes_of word) ≡ length word / 2
      long = bytes_length word (length word / 2) halves

      pub digits_alone : span is_digit word ≡ length word
      digits_alone = all_passed word (pairs_are word pairs)

      pub short_list : length list < length word / 2 → Read None list
      unfolding decoded_of list_after bytes_in
      short_list h =
          let same : list ≡ put_at list 0 (bytes_of word) = (no_room list 0 (bytes_of word) (omega (arith, long))).0 in
          (rw (no-dash, pairs, long, lt-leb (length word / 2) (length list) h), rw (no-dash, pairs) same, omega arith)

      pub all_read
          : (bytes : List ℕ) → length word / 2 ≤ length list → bytes ≡ put_at list 0 (bytes_of word) → Read (Some (length word / 2)) bytes
      unfolding decoded_of list_after bytes_in
      all_read bytes h e =
          (rw (no-dash, pairs, long, le-leb (length word / 2) (length list) h), rw (no-dash, pairs) e, h)
