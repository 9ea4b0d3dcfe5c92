-- The first byte that doesn't pass is where the scan ends. Assumes nothing.
use Rattle.std.proofs.Common.{length, take, ◌-◌, ◌≡◌, ◌+◌, not, refl, ap, rules, drop, arith, sym, ◌∙◌}
use Rattle.std.proofs.lemmas.Slice.{between_to_end}
use Rattle.std.proofs.lemmas.Iterator.{YieldsList-from_slice}
use Rattle.std.proofs.lemmas.Iterator.Search.{position_from_yields_List}
use Rattle.lines.proofs.Spans.{out, first_found}
use Rattle.lines.proofs.words.end_from.Goals as goal

pub returns-then-text-at : goal.returns-then-text-at
returns-then-text-at g c passes is = sym (out passes c.args.text.now c.args.at (omega arith))

pub returns : goal.returns
returns g c passes is =
    let text = c.args.text.now in
    let all : take (length text - c.args.at) (drop c.args.at text) ≡ drop c.args.at text = between_to_end text c.args.at (length text) (omega arith) in
    let found = position_from_yields_List (λ b. not (passes b)) _ _ c.position.result c.position.ensures.ran (YieldsList-from_slice (drop c.args.at text) (c.iter.ensures.rest ∙ all)) (λ x b q k. search (rules, is)) in
    ap (λ n. c.args.at + n) (c.unwrap_or.ensures ∙ rw all (first_found passes (drop c.args.at text) c.position.result _ refl found))
