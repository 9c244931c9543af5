-- The bank in 01's five lent arrays, with the map of its rows: what a push is called with and what it leaves. Assumes nothing.
use Rattle.std.specs.Prelude.{◌≡◌, List, [], ◌∷◌, ℕ, ◌+◌, ◌*◌, ◌≤◌, ◌<◌, length, get_or}
use Rattle.limits.specs.Limits.{atoms_max}
use Rattle.arrays.specs.Parts.{put_part}
use Rattle.row_map.specs.Map.{Held}
use Rattle.bank_spec.specs.Push.{Atom, no_atom, push}
use Rattle.bank_spec.specs.Encoding.{Arrays, written, cost_numbers}
use Rattle.bank_atom.specs.declared.Entry.{Entry}
use Rattle.bank_atom.specs.Entry.{entry_of}
use Rattle.bank_parts.specs.Parts.{Room}

-- an atom stored at slot k; every other place stays
abbrev pub put_entry : Arrays → ℕ → Entry → Arrays
put_entry a k e = record {
  lengths = put_part 1 a.lengths k (e.text.len ∷ []);
  ops = put_part 6 a.ops k e.text.ops;
  operands = put_part 6 a.operands k e.text.operands;
  costs = put_part 3 a.costs k (cost_numbers e.cost);
  rows = put_part 16 a.rows k e.row;
}

-- what a push into a bank of n atoms is called with, and what it leaves.
-- 01, From heap ..: `ValMap` becomes a lent work area of 4 × (L + 479) u32; for the bank, L counts as 0. It holds the map of the first n rows
pub record Ready (a : Arrays) (work : List ℕ) (n : ℕ) : Type 0 where
  pub room : Room a
  pub area : 4 * atoms_max ≤ length work
  pub held : Held work a.rows 10 n

-- the arrays hold the bank of n atoms, and past them what they held at first; rows are of sixteen words, and no two atoms share one
pub record IsBank (old now : Arrays) (n : ℕ) (bank : List Atom) : Type 0 where
  pub count : n ≡ length bank
  pub arrays : now ≡ written bank old
  pub wide : (k : ℕ) → k < length bank → length (get_or bank k no_atom).row ≡ 16
  pub distinct : (i j : ℕ) → i < j → j < length bank → (get_or bank i no_atom).row ≡ (get_or bank j no_atom).row → ⊥

-- what `append` does: the atom stands at slot n, and the map holds its row too
pub record Appended (a a' : Arrays) (work' : List ℕ) (n : ℕ) (e : Entry) : Type 0 where
  pub ready : Ready a' work' (n + 1)
  pub arrays : a' ≡ put_entry a n e
  pub wide : length e.row ≡ 16

-- 01, Bank: a row already held replaces that slot's formula and cost exactly if strictly better; a new one gets the next slot (`push` of bank_spec specs/Push).
-- Whatever bank the arrays hold, they hold it afterwards with the atom pushed
pub record Pushed (a a' : Arrays) (work' : List ℕ) (n : ℕ) (e : Entry) (r : ℕ) : Type 0 where
  pub ready : Ready a' work' r
  pub few : (n ≤ r) × (r ≤ n + 1)
  pub bank : (old : Arrays) (bank : List Atom) (x : Atom) → e ≡ entry_of x → IsBank old a n bank → IsBank old a' r (push bank x)

-- what `start` does: a push may follow, and no atom is held
pub record Started (work : List ℕ) : Type 0 where
  pub ready : (a : Arrays) → Room a → Ready a work 0
  pub bank : (old : Arrays) → IsBank old old 0 []
