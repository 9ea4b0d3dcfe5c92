-- A number's bytes as they are put into a list from a place on. Assumes nothing.
use mathlib.Core.Path.{◌≡◌, refl, sym, ◌∙◌, ap}
use mathlib.Core.List.{List, [], ◌∷◌, ◌++◌, append_assoc, append-nil}
use Prim.Native.Nat.{ℕ, suc, ◌+◌, ◌/◌, ◌%◌, ◌≤◌}
use native.Mathlib.Omega.{arith}
use lib.ListN.{length, length-append}
use Rattle.std.specs.Int.{w64, to_le_bytes}
use Rattle.std.proofs.lemmas.Slice.{put_mid-paste}
use borrow.Rule.Slice.PartMut.{put_mid}
use lib.ListN.{take}
use Prim.Native.Nat.{zero}
use Rattle.statement.specs.Bytes.{little_endian, Field, field, field_bytes, pasted}
use Rattle.statement.proofs.Pasting.{paste_all, paste_nothing, paste_behind}
use Rattle.statement.proofs.ReadBack.{length_little}

-- the first bytes of so many are so many of the number's
take_little : (count k n : ℕ) → count ≤ k → take count (little_endian k n) ≡ little_endian count n
unfolding little_endian
take_little zero k n h = refl
take_little (suc count) zero n h = absurd (omega arith)
take_little (suc count) (suc k) n h = ap (λ (l : List ℕ). n % 256 ∷ l) (take_little count k (n / 256) (omega arith))

-- as std writes a word
eight_little : (n : ℕ) → to_le_bytes w64 n ≡ little_endian 8 n
unfolding little_endian
eight_little n =
    let e1 : n / 256 % 256 ≡ n / 256 % 256 = refl in
    let e2 : n / 65536 ≡ n / 256 / 256 = omega arith in
    let e3 : n / 16777216 ≡ n / 256 / 256 / 256 = omega arith in
    let e4 : n / 4294967296 ≡ n / 256 / 256 / 256 / 256 = omega arith in
    let e5 : n / 1099511627776 ≡ n / 256 / 256 / 256 / 256 / 256 = omega arith in
    let e6 : n / 281474976710656 ≡ n / 256 / 256 / 256 / 256 / 256 / 256 = omega arith in
    let e7 : n / 72057594037927936 ≡ n / 256 / 256 / 256 / 256 / 256 / 256 / 256 = omega arith in
    rw (e2, e3, e4, e5, e6, e7)

pub first_bytes : (count n : ℕ) → count ≤ 8 → take count (to_le_bytes w64 n) ≡ little_endian count n
first_bytes count n h = ap (take count) (eight_little n) ∙ take_little count 8 n h

-- a part of a list with others in its place
pub put_in : (out new held : List ℕ) (at k : ℕ) → held ≡ new → length new ≡ k → put_mid at k out held ≡ pasted at new out
put_in out new held at k is long = put_mid-paste at k out held new (length new) is long refl ∙ paste_all at new out

-- fields put in one after the other, each at its place
abbrev pub puts : (off : ℕ) → List Field → List ℕ → List ℕ
puts off [] out = out
puts off (field count number ∷ fields) out = puts (off + count) fields (pasted off (little_endian count number) out)

puts_behind : (out before : List ℕ) (off : ℕ) (fields : List Field) → off ≡ length before
    → puts off fields (pasted 0 before out) ≡ pasted 0 (before ++ field_bytes fields) out
unfolding field_bytes
puts_behind out before off [] e = ap (λ (l : List ℕ). pasted 0 l out) (sym (append-nil before))
puts_behind out before off (field count number ∷ fields) e =
    let new : List ℕ = little_endian count number in
    let here : off ≡ 0 + length before = omega (arith, e) in
    let next : off + count ≡ length (before ++ new) = omega (arith, e, length-append before new, length_little count number) in
    ap (puts (off + count) fields) (ap (λ (k : ℕ). pasted k new (pasted 0 before out)) here ∙ paste_behind 0 before out new (omega arith))
    ∙ puts_behind out (before ++ new) (off + count) fields next
    ∙ ap (λ (l : List ℕ). pasted 0 l out) (append_assoc before new (field_bytes fields))

-- are the fields put in at once
pub puts_are : (out : List ℕ) (fields : List Field) → puts 0 fields out ≡ pasted 0 (field_bytes fields) out
puts_are out fields = ap (puts 0 fields) (paste_nothing 0 [] out) ∙ puts_behind out [] 0 fields refl
