-- The bank's five lent arrays, slot by slot: what is written to a slot, replaced at it and loaded from it. Assumes nothing.
use Rattle.std.specs.Prelude.{◌≡◌, cond, List, [], ◌∷◌, ℕ, ◌+◌, ◌*◌, ◌≤◌, ◌<◌, length, get_or}
use Rattle.limits.specs.Limits.{atoms_max}
use Rattle.arrays.specs.Parts.{put_part}
use Rattle.expr_cost.specs.declared.Cost.{Cost}
use Rattle.expr_cost.specs.Cost.{is_better}
use Rattle.bank_spec.specs.Push.{Atom, no_atom}
use Rattle.bank_spec.specs.Encoding.{Arrays, written, cost_numbers}
use Rattle.bank_atom.specs.declared.Formula.{Formula}
use Rattle.bank_atom.specs.declared.Entry.{Entry}
use Rattle.bank_atom.specs.Entry.{entry_of}

-- the lent arrays by their contents
abbrev pub arrays : (lengths ops operands costs rows : List ℕ) → Arrays
arrays l o p c r = record { lengths = l; ops = o; operands = p; costs = c; rows = r }

-- the four of them that hold formulas and costs
pub record Texts : Type 0 where
  pub lengths : List ℕ
  pub ops : List ℕ
  pub operands : List ℕ
  pub costs : List ℕ

-- the same by their contents, and those of the five
abbrev pub texts : (lengths ops operands costs : List ℕ) → Texts
texts l o p c = record { lengths = l; ops = o; operands = p; costs = c }

abbrev pub texts_of : Arrays → Texts
texts_of a = texts a.lengths a.ops a.operands a.costs

-- a formula and its cost stored at slot k; every other place stays
abbrev pub put_text : Texts → ℕ → Formula → Cost → Texts
put_text t k text cost = record {
  lengths = put_part 1 t.lengths k (text.len ∷ []);
  ops = put_part 6 t.ops k text.ops;
  operands = put_part 6 t.operands k text.operands;
  costs = put_part 3 t.costs k (cost_numbers cost);
}

-- 01, From heap ..: lent arrays for 479 atoms: per atom one length, 6 opcodes, 6 operands, 3 cost numbers and 16 row words
pub record TextRoom (t : Texts) : Type 0 where
  pub lengths : atoms_max ≤ length t.lengths
  pub ops : 6 * atoms_max ≤ length t.ops
  pub operands : 6 * atoms_max ≤ length t.operands
  pub costs : 3 * atoms_max ≤ length t.costs

-- the same of all five
pub record Room (a : Arrays) : Type 0 where
  pub texts : TextRoom (texts_of a)
  pub rows : 16 * atoms_max ≤ length a.rows

-- the cost that stands at slot k
abbrev pub held_cost : List ℕ → ℕ → Cost
held_cost costs k = record { size = get_or costs (3 * k) 0; products = get_or costs (3 * k + 1) 0; depth = get_or costs (3 * k + 2) 0 }

-- 01, Bank: a row already held replaces that slot's formula and cost exactly if strictly better
abbrev pub put_better : Texts → ℕ → Formula → Cost → Texts
put_better t k text cost = cond (is_better cost (held_cost t.costs k)) (put_text t k text cost) t

-- what `load_entry` gives: the atom at slot k, whatever bank the arrays hold
pub record Loaded (now : Arrays) (k : ℕ) (r : Entry) : Type 0 where
  pub entry : (old : Arrays) (bank : List Atom) → now ≡ written bank old → k < length bank → length (get_or bank k no_atom).row ≡ 16
      → r ≡ entry_of (get_or bank k no_atom)
