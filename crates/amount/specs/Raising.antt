-- A coefficient at a greater scale as the machine holds it, what `raised` hands the functions above it. No public promise cites it. Assumes nothing.
use Rattle.std.specs.Prelude.{cond, ℕ, ◌+◌, ◌*◌, ltb, ℤ}
use Rattle.whole.specs.Whole.{negative, magnitude_of, signed_of}
use Rattle.amount.specs.Amounts.{largest}

-- so far from 0 that no amount within L, added to it, brings it back to L
abbrev pub far : ℕ
far = 2 * largest + 1

-- a magnitude that is at most that
abbrev pub nearest : ℕ → ℕ
nearest m = cond (ltb far m) far m

-- the number, at most so far from 0
unfoldable pub nearer : ℤ → ℤ
nearer z = signed_of (negative z) (nearest (magnitude_of z))
