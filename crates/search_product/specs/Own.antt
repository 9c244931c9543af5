-- What an index build that wasn't turned back leaves is an index of its own, in demand 3's sense; proofs/OwnPairs has the proof. And what a bank build and an index
-- build over it leave passes the product search's tests; proofs/Accepted has the proof. Assumes nothing.
use Rattle.std.specs.Prelude.{◌≡◌, false, List, Result, ℕ, ◌^◌}
use Rattle.limits.specs.Refusal.{says, answer}
use Rattle.limits.specs.declared.Refusal.{Refusal}
use Rattle.probe_points.specs.declared.Point.{Point}
use Rattle.row_lent.specs.Range.{reaches}
use Rattle.bank_spec.specs.Encoding as Bank
use Rattle.bank.specs.Build.{BankBuilt}
use Rattle.index.specs.declared.BuiltIndex.{BuiltIndex}
use Rattle.index.specs.Build.{Arrays, IndexBuilt}
use Rattle.search_product_forms.specs.Written.{forms}
use Rattle.search_product.specs.Answer.{search_refusal}
use Rattle.search_product.specs.Demand.{OwnIndex}

-- 01, Built means: count, arrays and order list are as an index build that wasn't turned back left them
abbrev pub BuiltIsOwn : Type 0
BuiltIsOwn =
    (w count : ℕ) (atoms : List ℕ) (L : ℕ) (old left : Arrays) (r : Result BuiltIndex Refusal) (said : BuiltIndex)
    → IndexBuilt w count atoms L old left r → says r ≡ answer said
    → OwnIndex w count atoms L said.pairs left.rows left.order

-- 02, 2.4: no bank and no index that its build left is turned back for its formulas, its pairs, its counts or its order list, at whatever widths they were built
abbrev pub BuiltPasses : Type 0
BuiltPasses =
    (nv v : ℕ) (points : List Point) (seeding : List ℕ) (old left : Bank.Arrays) (old_work left_work : List ℕ) (b : Result ℕ Refusal) (count : ℕ)
    → BankBuilt nv v points seeding old left old_work left_work b → says b ≡ answer count
    → (w L : ℕ) (lent made : Arrays) (r : Result BuiltIndex Refusal) (said : BuiltIndex)
    → IndexBuilt w count left.rows L lent made r → says r ≡ answer said
    → (target : List ℕ) → reaches (2 ^ w) target ≡ false
    → search_refusal w count left.rows said.pairs made.rows made.order target (forms left.lengths left.ops left.operands made.pairs) ≡ 0
