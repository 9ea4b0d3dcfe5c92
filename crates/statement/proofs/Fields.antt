-- Fields that stand in bytes are read there as their numbers, and bytes that are read as some fields' numbers are these fields. Assumes nothing.
use mathlib.Core.Path.{◌≡◌, refl, sym, ◌∙◌, ap, ap₂, subst}
use mathlib.Core.List.{List, [], ◌∷◌, ◌++◌, append_assoc}
use Prim.Native.Nat.{ℕ, ◌+◌, ◌≤◌, ◌<◌, ◌^◌}
use native.Mathlib.Omega.{arith}
use lib.ListN.{length, take, drop, length-append}
use lib.Seq.{take-add, drop-drop}
use Rattle.statement.specs.Bytes.{Field, field, field_bytes, little_endian, number_at}
use Rattle.statement.proofs.ReadBack.{Bytes, length_little, read_back, write_back}

abbrev pub width_of : List Field → ℕ
width_of [] = 0
width_of (field count number ∷ fields) = count + width_of fields

-- each field's number fits its bytes
abbrev pub Fit : List Field → Type 0
Fit [] = Unit {0}
Fit (field count number ∷ fields) = (number < 256 ^ count) × Fit fields

-- each field's number is read at its place, which is so many bytes behind another
abbrev pub Reads : List ℕ → (at off : ℕ) → List Field → Type 0
Reads bytes at off [] = Unit {0}
Reads bytes at off (field count number ∷ fields) = (number_at bytes (at + off) count ≡ number) × Reads bytes at (off + count) fields

pub length_fields : (fields : List Field) → length (field_bytes fields) ≡ width_of fields
unfolding field_bytes
length_fields [] = refl
length_fields (field count number ∷ fields) =
    length-append (little_endian count number) (field_bytes fields) ∙ ap₂ (λ (a b : ℕ). a + b) (length_little count number) (length_fields fields)

pub fields_read : (front back : List ℕ) (at off : ℕ) (fields : List Field) → length front ≡ at + off → Fit fields
    → Reads (front ++ (field_bytes fields ++ back)) at off fields
unfolding field_bytes
fields_read front back at off [] e fit = tt
fields_read front back at off (field count number ∷ fields) e fit =
    let here : List ℕ = little_endian count number in
    let rest : List ℕ = field_bytes fields in
    let one : front ++ ((here ++ rest) ++ back) ≡ front ++ (here ++ (rest ++ back)) = ap (λ (l : List ℕ). front ++ l) (append_assoc here rest back) in
    let other : front ++ ((here ++ rest) ++ back) ≡ (front ++ here) ++ (rest ++ back) = one ∙ sym (append_assoc front here (rest ++ back)) in
    let long : length (front ++ here) ≡ at + (off + count) =
    length-append front here ∙ omega (arith, e, length_little count number) in (
      ap (λ (l : List ℕ). number_at l (at + off) count) one ∙ read_back front (rest ++ back) count number (at + off) e fit.0,
      subst (λ (l : List ℕ). Reads l at (off + count) fields) (sym other) (fields_read (front ++ here) back at (off + count) fields long fit.1),
    )

pub fields_written : (bytes : List ℕ) → Bytes bytes → (at off : ℕ) (fields : List Field) → at + off + width_of fields ≤ length bytes
    → Reads bytes at off fields → take (width_of fields) (drop (at + off) bytes) ≡ field_bytes fields
unfolding field_bytes
fields_written bytes b at off [] h reads = refl
fields_written bytes b at off (field count number ∷ fields) h reads =
    take-add count (width_of fields) (drop (at + off) bytes)
    ∙ ap₂ (λ (l r : List ℕ). l ++ r)
    (sym (write_back bytes b (at + off) count (omega arith)) ∙ ap (little_endian count) reads.0)
    (ap (take (width_of fields)) (drop-drop count (at + off) bytes ∙ ap (λ (n : ℕ). drop n bytes) (there at off count))
    ∙ fields_written bytes b at (off + count) fields (omega arith) reads.1)
  where
    there : (a b c : ℕ) → a + b + c ≡ a + (b + c)
    there a b c = omega arith
