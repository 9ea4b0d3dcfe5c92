-- A dash for no bytes, else their digits where there is room. Assumes nothing.
use native.Mathlib.Omega.{arith}
use mathlib.Core.Path.{◌≡◌}
use lib.ListN.{length}
use Rattle.std.proofs.Common.{rules, ◌≢◌}
use Rattle.hexadecimal.proofs.Shows.{none_shown, no_place, all_shown}
use Rattle.hexadecimal.proofs.putting.put_hex.Goals as goal

pub returns-then-is_empty : goal.returns-then-is_empty
returns-then-is_empty c =
    let none : length c.args.bytes.now ≡ 0 = search rules in
    let all = none_shown c.args.out.now c.args.at c.args.bytes.now _ _ none (c.put_bytes.ensures.out_after, c.put_bytes.ensures.value) in
    record { out_after = all.0; value = all.1 }

pub returns-then-out-at : goal.returns-then-out-at
returns-then-out-at c =
    let some : length c.args.bytes.now ≢ 0 = search rules in
    let all = no_place c.args.out.now c.args.at c.args.bytes.now some (omega arith) in
    record { out_after = all.0; value = all.1 }

pub returns-then-out-at-2 : goal.returns-then-out-at-2
returns-then-out-at-2 c =
    let some : length c.args.bytes.now ≢ 0 = search rules in
    let all = no_place c.args.out.now c.args.at c.args.bytes.now some (omega arith) in
    record { out_after = all.0; value = all.1 }

pub returns : goal.returns
returns c =
    let some : length c.args.bytes.now ≢ 0 = search rules in
    let all = all_shown c.args.out.now c.args.at c.args.bytes.now some c.fill_digits.new.out (omega arith) c.fill_digits.ensures in
    record { out_after = all.0; value = all.1 }
