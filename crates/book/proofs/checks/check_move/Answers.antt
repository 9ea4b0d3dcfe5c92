-- Rows 2 and 3 decide first, and behind them the others. Assumes nothing.
use mathlib.Core.Path.{◌≡◌, sym, ap, ap₂, ◌∙◌}
use mathlib.Core.List.{List, ◌++◌}
use Prim.Native.Nat.{ℕ}
use Rattle.refusal.specs.Rows.{Said, gives, Row, first_row, check_of}
use Rattle.refusal.proofs.Check.{passed}
use Rattle.amount.specs.declared.Amount.{Amount}
use Rattle.book.specs.declared.Book.{Book}
use Rattle.book.specs.declared.Past.{Past}
use Rattle.book.specs.Books.{net_of, settled_sum}
use Rattle.book.specs.Moves.{units_of, move_rows}
use Rattle.book.specs.Checks.{size_rows, settled_rows, past_of, behind_rows}
use Rattle.book.proofs.Exits.{call_exit, exit_behind, pass_behind, was_refused, was_passed}
use Rattle.book.proofs.SettledSaid.{move_parts}
use Rattle.book.proofs.checks.check_move.Goals as goal

-- the parts of the rows: of the sizes, of the settled totals and those behind
abbrev sizes : Book → Amount → List Row
sizes b a = size_rows a.scale (units_of a) a.currency (net_of b)

abbrev settled : Book → List Row
settled b = settled_rows b.net b.settled

abbrev others : Book → Amount → List Row
others b a = behind_rows b (past_of b.count b.settled) a

abbrev answer : Book → Said ℕ
answer b = gives (settled_sum b)

-- the rows that are asked first are of the magnitudes as the program has them
asked : (b : Book) (a : Amount) (units net : ℕ) → units ≡ units_of a → net ≡ net_of b → check_of (size_rows a.scale units a.currency net) ≡ check_of (sizes b a)
asked b a units net u n = ap₂ (λ (m n : ℕ). check_of (size_rows a.scale m a.currency n)) u n

whole : (b : Book) (a : Amount) → first_row (sizes b a ++ (settled b ++ others b a)) (answer b) ≡ first_row (move_rows b a) (answer b)
whole b a = ap (λ (rows : List Row). first_row rows (answer b)) (move_parts b a)

pub returns-in_err-check_size : goal.returns-in_err-check_size
returns-in_err-check_size c =
    let b = c.args.book in
    let a = c.args.amount in
    exit_behind (answer b) (sizes b a) (settled b ++ others b a) _ _ c.from_residual.ensures.1
    (sym (c.check_size.ensures ∙ asked b a _ _ c.units_of-units.ensures c.net_of-net.ensures) ∙ c.in_err-check_size.was)
    ∙ whole b a

pub returns-in_err-past : goal.returns-in_err-past
returns-in_err-past c =
    let b = c.args.book in
    let a = c.args.amount in
    let first = sym (c.check_size.ensures ∙ asked b a _ _ c.units_of-units.ensures c.net_of-net.ensures) ∙ c.in_ok-check_size.was in
    exit_behind (answer b) (settled b) (others b a) _ _ c.from_residual-in_err-past.ensures.1
    (was_refused (past_of b.count b.settled) _ (settled b) c.past_in.ensures _ c.in_err-past.was)
    ∙ sym (pass_behind (answer b) (sizes b a) (settled b ++ others b a) first)
    ∙ whole b a

pub returns-in_err-check_behind : goal.returns-in_err-check_behind
returns-in_err-check_behind c =
    let b = c.args.book in
    let a = c.args.amount in
    let first = sym (c.check_size.ensures ∙ asked b a _ _ c.units_of-units.ensures c.net_of-net.ensures) ∙ c.in_ok-check_size.was in
    let known = was_passed (past_of b.count b.settled) _ (settled b) c.past_in.ensures c.in_ok-past.past c.in_ok-past.was in
    call_exit (answer b) _ _ (others b a) _ c.from_residual-in_err-check_behind.ensures.1
    (c.check_behind.ensures ∙ ap (λ (p : Past). check_of (behind_rows b p a)) (sym known.1)) c.in_err-check_behind.was
    ∙ sym (pass_behind (answer b) (settled b) (others b a) known.0)
    ∙ sym (pass_behind (answer b) (sizes b a) (settled b ++ others b a) first)
    ∙ whole b a

pub returns : goal.returns
returns c =
    let b = c.args.book in
    let a = c.args.amount in
    let first = sym (c.check_size.ensures ∙ asked b a _ _ c.units_of-units.ensures c.net_of-net.ensures) ∙ c.in_ok-check_size.was in
    let known = was_passed (past_of b.count b.settled) _ (settled b) c.past_in.ensures c.in_ok-past.past c.in_ok-past.was in
    let last = sym (c.check_behind.ensures ∙ ap (λ (p : Past). check_of (behind_rows b p a)) (sym known.1)) ∙ c.in_ok-check_behind.was in
    ap (λ (p : Past). gives p.sum) (sym known.1)
    ∙ sym (passed (answer b) (others b a) last)
    ∙ sym (pass_behind (answer b) (settled b) (others b a) known.0)
    ∙ sym (pass_behind (answer b) (sizes b a) (settled b ++ others b a) first)
    ∙ whole b a
