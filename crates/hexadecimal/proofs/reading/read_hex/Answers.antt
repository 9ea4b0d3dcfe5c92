-- By what the word is, and whether the list has places for its bytes. Assumes nothing.
use mathlib.Core.Path.{sym, ◌∙◌}
use native.Mathlib.Omega.{arith}
use Rattle.hexadecimal.proofs.Decodes.{dash_read, other_word, halves, digits_alone, short_list, all_read}
use Rattle.hexadecimal.proofs.reading.read_hex.Goals as goal

pub returns-then-is_dash : goal.returns-then-is_dash
returns-then-is_dash c =
    let all = dash_read c.args.word.now c.args.bytes.now (sym c.is_dash.ensures ∙ c.if-is_dash.true) in
    record { said = all.0; list = all.1; within = all.2 }

pub returns-then-not-is_pairs : goal.returns-then-not-is_pairs
returns-then-not-is_pairs c =
    let no-dash = sym c.is_dash.ensures ∙ c.if-is_dash.false in
    let all = other_word c.args.word.now c.args.bytes.now no-dash (sym c.is_pairs.ensures ∙ c.if-not-is_pairs.true) in
    record { said = all.0; list = all.1; within = all.2 }

pub returns-then-bytes-count : goal.returns-then-bytes-count
returns-then-bytes-count c =
    let no-dash = sym c.is_dash.ensures ∙ c.if-is_dash.false in
    let all = short_list c.args.word.now c.args.bytes.now no-dash (sym c.is_pairs.ensures ∙ c.if-not-is_pairs.false) c.if-bytes-count.true in
    record { said = all.0; list = all.1; within = all.2 }

pub fill-requires : goal.fill-requires
fill-requires c =
    let no-dash = sym c.is_dash.ensures ∙ c.if-is_dash.false in
    let pairs = sym c.is_pairs.ensures ∙ c.if-not-is_pairs.false in
    (halves c.args.word.now c.args.bytes.now no-dash pairs, omega arith, digits_alone c.args.word.now c.args.bytes.now no-dash pairs)

pub returns : goal.returns
returns c =
    let no-dash = sym c.is_dash.ensures ∙ c.if-is_dash.false in
    let pairs = sym c.is_pairs.ensures ∙ c.if-not-is_pairs.false in
    let all = all_read c.args.word.now c.args.bytes.now no-dash pairs c.fill.new.bytes (omega arith) c.fill.ensures in
    record { said = all.0; list = all.1; within = all.2 }
