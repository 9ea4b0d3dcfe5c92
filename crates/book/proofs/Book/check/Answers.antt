-- Row 3 decides first, and behind it the others. Assumes nothing.
use Rattle.std.specs.Prelude.{Err}
use mathlib.Core.Path.{refl, sym, ap, ◌∙◌}
use native.Mathlib.Omega.{arith}
use Prim.Native.Nat.{◌≤◌, ◌<◌}
use borrow.Author.Tests.{lt-ltb, le-ltb}
use Rattle.refusal.specs.Rows.{check_of}
use Rattle.refusal.proofs.Joined.{front_passed}
use Rattle.amount.specs.Amounts.{largest}
use Rattle.book.specs.declared.Past.{Past}
use Rattle.book.specs.Books.{net_of}
use Rattle.book.specs.Checks.{settled_rows, past_of, rest_rows}
use Rattle.book.proofs.Exits.{at_exit, was_refused, was_passed}
use Rattle.book.proofs.SettledSaid.{listed_parts}
use Rattle.book.proofs.Book.check.Goals as goal

pub returns-then-net_of-gt-L : goal.returns-then-net_of-gt-L
returns-then-net_of-gt-L c =
    let b = c.args.self in
    let over : largest < net_of b = omega (arith, c.net_of.ensures, c.if-net_of-gt-L.true) in
    rw (← listed_parts b c.args.broken c.args.short, lt-ltb largest (net_of b) over)

pub returns-in_err-past : goal.returns-in_err-past
returns-in_err-past c =
    let b = c.args.self in
    let within : net_of b ≤ largest = omega (arith, c.net_of.ensures, c.if-net_of-gt-L.false) in
    let front = settled_rows b.net b.settled in
    let known = past_of b.count b.settled in
    let refused = was_refused known _ front c.past_in.ensures c.in_err-past.field-0.0 c.in_err-past.was in
    rw (← listed_parts b c.args.broken c.args.short, le-ltb largest (net_of b) within)
    (at_exit (Err c.in_err-past.field-0.0) _ front (rest_rows b known c.args.broken c.args.short) _ c.from_residual.ensures.1 (sym refused) refl)

pub returns : goal.returns
returns c =
    let b = c.args.self in
    let within : net_of b ≤ largest = omega (arith, c.net_of.ensures, c.if-net_of-gt-L.false) in
    let front = settled_rows b.net b.settled in
    let known = past_of b.count b.settled in
    let passed = was_passed known _ front c.past_in.ensures c.in_ok-past.past c.in_ok-past.was in
    rw (← listed_parts b c.args.broken c.args.short, le-ltb largest (net_of b) within)
    (c.check_rest.ensures ∙ ap (λ (p : Past). check_of (rest_rows b p c.args.broken c.args.short)) (sym passed.1)
    ∙ sym (front_passed front (rest_rows b known c.args.broken c.args.short) passed.0))
