-- `taker_of` answers as the wording of document 01 says, and the wording leaves one answer: both are the scan's laws, read at the
-- weights. Assumes nothing.
use mathlib.Core.Path.{◌≡◌}
use mathlib.Core.Bool.{false}
use mathlib.Core.List.{List}
use Prim.Native.Nat.{ℕ, ◌<◌}
use lib.ListN.{length}
use Rattle.units.specs.Rule.{Taker, nobody, place, may_at, due_at, taker_of}
use Rattle.units.specs.Wording.{Takes}
use Rattle.units.proofs.Best.{Best, best_of_lem, best_one}

module _ (ws held : List ℕ) (t : ℕ) where
  -- the best of all places
  abbrev pub BestAt : Taker → Type 0
  BestAt = Best (may_at ws held t) (due_at ws held) (length ws)

  pub taker_best : BestAt (taker_of ws held t)
  unfolding taker_of
  taker_best = best_of_lem (may_at ws held t) (due_at ws held) (length ws)

  pub taker_of_best : (b : Taker) → BestAt b → taker_of ws held t ≡ b
  taker_of_best b c = best_one (may_at ws held t) (due_at ws held) (length ws) (taker_of ws held t) b taker_best c

  pub best_takes : (p : ℕ) → BestAt (place p) → Takes ws held t p
  best_takes p c = record { partner = c.partner; may = c.eligible; smallest = c.smallest; lower = c.lower }

  pub takes_best : (p : ℕ) → Takes ws held t p → BestAt (place p)
  takes_best p c = record { partner = c.partner; eligible = c.may; smallest = c.smallest; lower = c.lower }

  -- the rule's answer meets the wording
  pub taker_takes : (p : ℕ) → taker_of ws held t ≡ place p → Takes ws held t p
  taker_takes p e = best_takes p (rw e at taker_best)

  -- where it answers nobody, no place may take the unit
  pub nobody_may : taker_of ws held t ≡ nobody → (i : ℕ) → i < length ws → may_at ws held t i ≡ false
  nobody_may e = rw e at taker_best

  -- what meets the wording is the rule's answer, so the wording leaves one
  pub takes_taker : (p : ℕ) → Takes ws held t p → taker_of ws held t ≡ place p
  takes_taker p c = taker_of_best (place p) (takes_best p c)

  pub takes_one : (p q : ℕ) → Takes ws held t p → Takes ws held t q → p ≡ q
  takes_one p q c d = let e = takes_taker p c in let f = takes_taker q d in cc
