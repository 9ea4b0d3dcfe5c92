-- Each test is one of the definition's. Assumes nothing.
use Prim.Native.Nat.{◌%◌, ◌<◌}
use mathlib.Core.Path.{◌∙◌}
use lib.ListN.{length}
use borrow.Author.Tests.{lt-ltb, eq-eqb}
use Rattle.std.proofs.Common.{rules, arith}
use Rattle.std.proofs.lemmas.Iterator.{YieldsList-from_slice}
use Rattle.std.proofs.lemmas.Iterator.Search.{all_from_yields_List}
use Rattle.hexadecimal.specs.Hexadecimal.{is_digit, is_pairs}
use Rattle.hexadecimal.proofs.Worths.{digits_all}
use Rattle.hexadecimal.proofs.reading.is_pairs.Goals as goal

pub returns : goal.returns
unfolding is_pairs
returns c =
    let word = c.args.word.now in
    let some : 0 < length word = search rules in
    let all = all_from_yields_List is_digit _ _ c.all.result c.all.ensures.ran (YieldsList-from_slice word c.iter.ensures.rest) (λ x b q k. search rules) in
    rw (lt-ltb 0 (length word) some, eq-eqb (length word % 2) 0 (omega arith)) (all ∙ digits_all word)
