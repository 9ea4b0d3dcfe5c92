-- Document 02, Ask 12: "One at a time, each voucher goes to the greatest weight / (held + 1), ties to the lower place (the rule of D'Hondt)".
-- Cited by `vouchers`. Assumes nothing.
use Rattle.std.specs.Prelude.{cond, List, ℕ, zero, suc, ◌+◌, ◌*◌, ltb, length, get_or, set, replicate}

-- the place of "the greatest weight / (held + 1)" among the first n, "ties to the lower place": place n takes over where its own is greater,
-- compared crosswise
unfoldable pub highest : (ws held : List ℕ) → ℕ → ℕ
highest ws held zero = 0
highest ws held (suc n) =
    cond (ltb (get_or ws (highest ws held n) 0 * (get_or held n 0 + 1)) (get_or ws n 0 * (get_or held (highest ws held n) 0 + 1))) n (highest ws held n)

-- "each voucher goes to the greatest weight / (held + 1)"
unfoldable pub give : (ws held : List ℕ) → List ℕ
give ws held = set held (highest ws held (length ws)) (get_or held (highest ws held (length ws)) 0 + 1)

-- "One at a time": so many vouchers more than are held
unfoldable pub give_out : ℕ → (ws held : List ℕ) → List ℕ
give_out zero ws held = held
give_out (suc vouchers) ws held = give ws (give_out vouchers ws held)

-- the holdings after so many vouchers, from nothing held
unfoldable pub vouchers_of : ℕ → List ℕ → List ℕ
vouchers_of count ws = give_out count ws (replicate (length ws) 0)
