-- Laws of one slot of the arrays: the arrays by their fields, and what is read back. Assumes nothing.
use mathlib.Core.Path.{◌≡◌, sym, ap, ◌∙◌}
use mathlib.Core.List.{List}
use Prim.Native.Nat.{ℕ, ◌+◌, ◌*◌, ◌<◌}
use native.Mathlib.Omega.{arith}
use lib.ListN.{length, get_or}
use Rattle.arrays.specs.Parts.{part_at}
use Rattle.arrays.proofs.Parts.{get_d_part}
use Rattle.expr_cost.specs.declared.Cost.{Cost}
use Rattle.bank_spec.specs.Push.{Atom, no_atom}
use Rattle.bank_spec.specs.Encoding.{Arrays, written}
use Rattle.bank_spec.proofs.Encodings.{length_at, ops-at, operands-at, cost-at, row_at}
use Rattle.bank_atom.specs.declared.Entry.{Entry}
use Rattle.bank_atom.specs.Entry.{entry_of}
use Rattle.bank_parts.specs.Parts.{texts, held_cost, Loaded}

-- ---- the arrays by their fields
-- four equal arrays are equal together
pub texts-are : {l l' o o' p p' c c' : List ℕ} → l ≡ l' → o ≡ o' → p ≡ p' → c ≡ c' → texts l o p c ≡ texts l' o' p' c'
texts-are el eo ep ec = λ i. texts (el i) (eo i) (ep i) (ec i)

-- ---- reading back
-- the cost that stands at a slot is the atom's
pub cost-held : (bank : List Atom) (old : Arrays) (k : ℕ) → k < length bank → held_cost (written bank old).costs k ≡ (get_or bank k no_atom).cost
cost-held bank old k h = λ i. record { size = size i; products = products i; depth = depth i }
  where
    l : List ℕ
    l = (written bank old).costs

    c : Cost
    c = (get_or bank k no_atom).cost

    size : get_or l (3 * k) 0 ≡ c.size
    size =
        let e : 3 * k ≡ 3 * k + 0 = omega arith in
        ap (λ (m : ℕ). get_or l m 0) e ∙ sym (get_d_part 3 l k 0 (omega arith)) ∙ ap (λ (z : List ℕ). get_or z 0 0) (cost-at bank old k h)

    products : get_or l (3 * k + 1) 0 ≡ c.products
    products = sym (get_d_part 3 l k 1 (omega arith)) ∙ ap (λ (z : List ℕ). get_or z 1 0) (cost-at bank old k h)

    depth : get_or l (3 * k + 2) 0 ≡ c.depth
    depth = sym (get_d_part 3 l k 2 (omega arith)) ∙ ap (λ (z : List ℕ). get_or z 2 0) (cost-at bank old k h)

-- what is loaded from a slot is the atom there
pub loaded : (now : Arrays) (k : ℕ) (ops operands row : List ℕ) (cost : Cost) → ops ≡ part_at 6 now.ops k → operands ≡ part_at 6 now.operands k
    → cost ≡ held_cost now.costs k → row ≡ part_at 16 now.rows k
    → Loaded now k (record { text = record { len = get_or now.lengths k 0; ops = ops; operands = operands }; cost = cost; row = row })
loaded now k ops operands row cost eo ep ec er = record { entry = entry }
  where
    entry : (old : Arrays) (bank : List Atom) → now ≡ written bank old → k < length bank → length (get_or bank k no_atom).row ≡ 16
        → ◌≡◌ {A = Entry} (record { text = record { len = get_or now.lengths k 0; ops = ops; operands = operands }; cost = cost; row = row }) (entry_of (get_or bank k no_atom))
    entry old bank is h wide =
        let l : get_or now.lengths k 0 ≡ _ = ap (λ (z : Arrays). get_or z.lengths k 0) is ∙ length_at bank old k h in
        let o : ops ≡ _ = eo ∙ ap (λ (z : Arrays). part_at 6 z.ops k) is ∙ ops-at bank old k h in
        let p : operands ≡ _ = ep ∙ ap (λ (z : Arrays). part_at 6 z.operands k) is ∙ operands-at bank old k h in
        let c : cost ≡ _ = ec ∙ ap (λ (z : Arrays). held_cost z.costs k) is ∙ cost-held bank old k h in
        let r : row ≡ _ = er ∙ ap (λ (z : Arrays). part_at 16 z.rows k) is ∙ row_at bank old k h wide in
        λ i. record { text = record { len = l i; ops = o i; operands = p i }; cost = c i; row = r i }
