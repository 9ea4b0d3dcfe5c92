-- The five fields are put in one behind the other. Assumes nothing.
use mathlib.Core.Path.{◌≡◌, ◌∙◌, ap, ap₂}
use Prim.Native.Nat.{ℕ, ◌*◌}
use mathlib.Core.List.{List}
use mir.Syntax.{w64}
use mir.ValLaws.{to_z-of_z}
use Rattle.statement.specs.Bytes.{little_endian, word_of, pasted}
use Rattle.statement.specs.Files.{version_of, record_width, trailer_fields, trailer_bytes}
use Rattle.statement.proofs.Putting.{puts_are}
use Rattle.statement.proofs.records.put_trailer.Goals as goal

pub returns : goal.returns
unfolding trailer_bytes
returns c = let start = c in
    let a = start.args in
    let width = record_width a.version in
    let far : c.put_number.new.out ≡ pasted 0 (little_endian 4 (width * a.count)) a.out.now =
    c.put_number.ensures ∙ ap (λ (w : ℕ). pasted 0 (little_endian 4 (w * a.count)) a.out.now) c.width.ensures in
    let numbered : c.put_number-4.new.out ≡ pasted 16 (little_endian 2 (version_of a.version)) c.put_number-3.new.out =
    c.put_number-4.ensures ∙ ap (λ (n : ℕ). pasted 16 (little_endian 2 n) c.put_number-3.new.out) (c.from.ensures ∙ c.number.ensures) in
    let word : c.word_of.result ≡ word_of a.sum = c.word_of.ensures ∙ ap word_of (to_z-of_z w64 a.sum start.ranges.sum) in
    c.put_number-5.ensures
    ∙ ap (pasted 18 (little_endian 6 0))
    (numbered
    ∙ ap (pasted 16 (little_endian 2 (version_of a.version)))
    (c.put_number-3.ensures
    ∙ ap₂ (λ (l : List ℕ) (w : ℕ). pasted 8 (little_endian 8 w) l)
    (c.put_number-2.ensures ∙ ap (pasted 4 (little_endian 4 a.count)) far) word))
    ∙ puts_are a.out.now (trailer_fields (width * a.count) a.count a.sum (version_of a.version))
