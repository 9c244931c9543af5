-- What turns back a lent pair index: rows and order list of n pairs. Assumes nothing.
use Rattle.std.specs.Prelude.{Bool, not, ◌||◌, List, ℕ, ltb, length, take}
use Rattle.limits.specs.Limits.{too_few_rows}
use Rattle.index_order.specs.Order.{is_order}

-- 01, Turned back, 4: a lent array shorter than its count needs
abbrev pub short_pairs : ℕ → List ℕ → List ℕ → Bool
short_pairs n rows order = too_few_rows n rows || ltb (length order) n

-- 01, Turned back, 8: the order list isn't the one defined above
abbrev pub wrong_order : ℕ → List ℕ → List ℕ → Bool
wrong_order n rows order = not (is_order n rows (take n order))
