-- None of the records passed is bad, and the sum so far is theirs. Assumes nothing.
use Rattle.std.proofs.Common.{refl, ℕ, ℤ, ◌≡◌, ◌+◌, ◌*◌, ◌<◌, Bool, false, List, w64, to_z, of_z, sym, ap, ap₂, ◌∙◌, arith}
use Rattle.whole.proofs.Laws.{read_back}
use Rattle.statement.specs.Files.{record_width, most_records}
use Rattle.statement.specs.Writing.{any_of}
use Rattle.statement.specs.Reading.{record_place, agreed_in, bad_record, coefficient_at, coefficients_in}
use Rattle.statement.specs.Parts.{Few}
use Rattle.statement.specs.declared.Version.{Version}
use Rattle.statement.proofs.ReadBack.{number_below}
use Rattle.statement.proofs.Any.{none_yet, still_none, found}
use Rattle.statement.proofs.Totals.{total_none, sum_fits, sum_more}
use Rattle.statement.proofs.Accepted.{all_small}
use Rattle.statement.proofs.looking.check_records.Goals as goal

module _ (version : Version) (bytes : List ℕ) (first : ℕ) where
  -- whether a record of the file is bad
  abbrev bad_at : ℕ → Bool
  bad_at i = bad_record version bytes (agreed_in bytes first) (record_place (record_width version) first i)

  module _ (i width : ℕ) (wide : width ≡ record_width version) where
    here : first + width * i ≡ record_place (record_width version) first i
    here = ap (λ (w : ℕ). first + w * i) wide

    -- what was looked at is that record
    looked : (agreed : ℕ) (bad : Bool) → agreed ≡ agreed_in bytes first → bad ≡ bad_record version bytes agreed (first + width * i) → bad_at i ≡ bad
    looked agreed bad agrees is = sym (is ∙ ap₂ (bad_record version bytes) agrees here)

    -- and what was read is that record's coefficient
    read : (z : ℤ) → to_z w64 (of_z w64 z) ≡ z → z ≡ coefficient_at bytes (first + width * i) → to_z w64 (of_z w64 z) ≡ coefficients_in bytes (record_width version) first i
    read z held is = held ∙ is ∙ ap (coefficient_at bytes) here

  -- a record more that is not bad
  module _ (i : ℕ) (few : i < most_records) (none : any_of bad_at i ≡ false) (good : bad_at i ≡ false) where
    still : any_of bad_at (i + 1) ≡ false
    still = still_none bad_at i none good

    small : Few (coefficients_in bytes (record_width version) first) (i + 1)
    small = all_small version bytes first (i + 1) (omega arith) still

pub loop-i-init : goal.loop-i-init
loop-i-init c =
    let a = c.args in
    (none_yet (bad_at a.version a.bytes.now a.first), sym (total_none (coefficients_in a.bytes.now (record_width a.version) a.first)))

pub bad_record-requires-clause-agreed_bound : goal.bad_record-requires-clause-agreed_bound
bad_record-requires-clause-agreed_bound c =
    let a = c.args in
    omega (arith, c.number_at-agreed.ensures, number_below a.bytes.now (λ i. (c.type_inv.bytes i).fits) (a.first + 2) 2)

pub returns-then-bad_record : goal.returns-then-bad_record
returns-then-bad_record c =
    let a = c.args in
    let at = c.loop-i in
    let bad = looked a.version a.bytes.now a.first at.i c.width.result c.width.ensures _ _ c.number_at-agreed.ensures c.bad_record.ensures ∙ c.if-bad_record.true in
    rw (found (bad_at a.version a.bytes.now a.first) a.count at.i (omega arith) bad)

pub overflow_add-sum : goal.overflow_add-sum
overflow_add-sum c =
    let a = c.args in
    let at = c.loop-i in
    let z = c.coefficient_at-sum.result in
    let good = looked a.version a.bytes.now a.first at.i c.width.result c.width.ensures _ _ c.number_at-agreed.ensures c.bad_record.ensures ∙ c.if-bad_record.false in
    sum_fits (coefficients_in a.bytes.now (record_width a.version) a.first) (at.i + 1) (small a.version a.bytes.now a.first at.i (omega arith) at.invariant.0 good)
    at.i _ at.invariant.1 (omega arith) _ (read a.version a.bytes.now a.first at.i c.width.result c.width.ensures z (read_back z c.coefficient_at-sum.type_inv) c.coefficient_at-sum.ensures)

pub loop-i-preserved : goal.loop-i-preserved
loop-i-preserved c =
    let a = c.args in
    let at = c.loop-i in
    let z = c.coefficient_at-sum.result in
    let good = looked a.version a.bytes.now a.first at.i c.width.result c.width.ensures _ _ c.number_at-agreed.ensures c.bad_record.ensures ∙ c.if-bad_record.false in (
      still a.version a.bytes.now a.first at.i (omega arith) at.invariant.0 good,
      sum_more (coefficients_in a.bytes.now (record_width a.version) a.first) (at.i + 1) (small a.version a.bytes.now a.first at.i (omega arith) at.invariant.0 good)
          at.i _ at.invariant.1 (omega arith) _ (read a.version a.bytes.now a.first at.i c.width.result c.width.ensures z (read_back z c.coefficient_at-sum.type_inv) c.coefficient_at-sum.ensures) _ refl,
    )
