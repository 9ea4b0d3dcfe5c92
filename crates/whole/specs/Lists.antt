-- A list that is filled place by place, as a loop fills a lent one. Cited wherever a loop does. Assumes nothing.
use Rattle.std.specs.Prelude.{List, ℕ, zero, suc, ◌+◌, set}

-- the list with f 0, f 1 and so on at the places from one on, so many of them, where it has them; the others stay
unfoldable pub filled : {A : Type 0} → (from : ℕ) (f : ℕ → A) (count : ℕ) → List A → List A
filled from f zero xs = xs
filled from f (suc count) xs = set (filled from f count xs) (from + count) (f count)
