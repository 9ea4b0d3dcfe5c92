-- Whatever slots are lent, whoever is ahead at the end of a window has one more than its full units. Assumes nothing.
use mathlib.Core.Path.{sym, ap₂, ◌∙◌}
use mathlib.Core.List.{List}
use Prim.Native.Nat.{ℕ, ◌+◌}
use lib.ListN.{get_or}
use Rattle.units.proofs.Loops.{units_end}
use Rattle.running.proofs.Fitting.{some_weight}
use Rattle.running.proofs.full.Split.by_size.Goals as goal

pub returns : goal.returns
returns g c i b =
    let s = c.args.self.now in
    let st = c.requires.starts in
    units_end s.weights (some_weight s) s.n c.args.u st.light st.before i
    ∙ ap₂ (λ (x : ℕ) (l : List ℕ). x + get_or l i 0) (sym (s.shares i b)) (sym c.by_slots.ensures)
