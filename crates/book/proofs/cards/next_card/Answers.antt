-- The running totals are the rule's at the card's net total, and each sum is within L. Assumes nothing.
use mathlib.Core.Path.{◌≡◌, ap, ◌∙◌}
use mathlib.Core.List.{List}
use Prim.Native.Nat.{◌+◌}
use borrow.Author.Rules.{rules}
use lib.IntN.{ℤ, pos}
use lib.ListN.{length}
use Rattle.units.specs.Rule.{totals}
use Rattle.running.proofs.Total.{totals_are}
use Rattle.book.specs.Books.{partners, net_of}
use Rattle.book.specs.Checks.{added_by}
use Rattle.book.proofs.CardAnswered.{sums_fit, added_are}
use Rattle.book.proofs.cards.next_card.Goals as goal

pub grown-settled-requires : goal.grown-settled-requires
grown-settled-requires c =
    let made : c.totals_at-totals.result ≡ totals c.args.book.weights (net_of c.args.book) =
    let b = c.args.book in
    c.totals_at-totals.ensures ∙ totals_are b.weights c.requires.some c.requires.most _ ∙ ap (totals b.weights) c.net_of.ensures in
    rw made (sums_fit c.args.book c.requires)

pub returns : goal.returns
returns c =
    let made : c.totals_at-totals.result ≡ totals c.args.book.weights (net_of c.args.book) =
    let b = c.args.book in
    c.totals_at-totals.ensures ∙ totals_are b.weights c.requires.some c.requires.most _ ∙ ap (totals b.weights) c.net_of.ensures in
    let weights_long : length c.args.book.weights ≡ partners = search rules in
    let settled_long : length c.args.book.settled ≡ partners = search rules in
    let b = c.args.book in
    ap (λ (zs : List ℤ). record { currency = b.currency; count = b.count; weights = c.args.weights; net = pos 0; card = b.card + 1; settled = zs })
    (c.grown-settled.ensures ∙ ap (added_by b.settled) made ∙ added_are b c.requires settled_long weights_long)
