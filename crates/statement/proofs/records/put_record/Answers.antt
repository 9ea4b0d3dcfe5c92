-- The six fields are put in one behind the other. Assumes nothing.
use mathlib.Core.Path.{◌≡◌, ◌∙◌, ap, ap₂}
use mathlib.Core.List.{List}
use Prim.Native.Nat.{ℕ, ◌+◌}
use native.Mathlib.Omega.{arith}
use Rattle.whole.proofs.Laws.{read_back}
use Rattle.statement.specs.Parts.{piece_of}
use Rattle.statement.specs.Bytes.{little_endian, word_of, pasted}
use Rattle.statement.specs.Files.{code_bytes, code_zeros, record_fields, record_bytes}
use Rattle.statement.proofs.Putting.{puts_are}
use Rattle.statement.proofs.records.put_record.Goals as goal

pub returns : goal.returns
unfolding record_bytes
returns c = let start = c in
    let a = start.args in
    let p = a.reasoned.payout in
    let word : c.word_of.result ≡ word_of p.coefficient = c.word_of.ensures ∙ ap word_of (read_back p.coefficient (omega arith)) in
    let placed : c.put_number.new.out ≡ pasted 0 (little_endian 2 p.place) a.out.now =
    c.put_number.ensures ∙ ap (λ (n : ℕ). pasted 0 (little_endian 2 n) a.out.now) c.from.ensures in
    let numbered : c.put_number-2.new.out ≡ pasted 2 (little_endian 2 p.currency) c.put_number.new.out =
    c.put_number-2.ensures ∙ ap (λ (n : ℕ). pasted 2 (little_endian 2 n) c.put_number.new.out) c.from-2.ensures in
    c.put_code.ensures
    ∙ ap (λ (l : List ℕ). pasted (16 + code_bytes a.version) (little_endian (code_zeros a.version) 0) (pasted 16 (little_endian (code_bytes a.version) a.reasoned.reason) l))
    (c.put_number-4.ensures
    ∙ ap₂ (λ (l : List ℕ) (w : ℕ). pasted 8 (little_endian 8 w) l)
    (c.put_number-3.ensures
    ∙ ap (pasted 4 (little_endian 4 0)) (numbered ∙ ap (pasted 2 (little_endian 2 p.currency)) placed))
    word)
    ∙ puts_are a.out.now (record_fields a.version (piece_of a.reasoned))
