-- What is known goes over the bytes, one after another. Assumes nothing.
use Rattle.std.proofs.Common.{rules, ◌≡◌, refl, sym, ◌∙◌, ap}
use Rattle.std.proofs.lemmas.Iterator.{YieldsList-from_slice}
use Rattle.std.proofs.lemmas.Fn.{fold_over, fronts}
use Rattle.intake.specs.Leads.{lead_after, lead_of}
use Rattle.intake.proofs.Heads.{one_more}
use Rattle.intake.proofs.leads.lead_of.Goals as goal

pub returns : goal.returns
unfolding lead_of
returns c =
    fold_over fronts (λ y. y.now) _ (λ ys l. l ≡ lead_of c.args.known ys) _
    (λ ys l x after f' known k.
    let next : after ≡ lead_after l x.now = search rules in
    (next ∙ ap (λ lead. lead_after lead x.now) known ∙ sym (one_more c.args.known ys x.now), search rules))
    c.iter.result c.args.bytes.now c.args.known c.fold.result (YieldsList-from_slice c.args.bytes.now c.iter.ensures.rest).runs refl c.fold.ensures.ran
