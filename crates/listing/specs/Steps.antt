-- What the contracts of src/inner.rt cite, beside specs/Listing; no caller of the crate needs it. Assumes nothing.
use Rattle.std.specs.Prelude.{Bool, ◌||◌, List, map, ℕ, ◌^◌, ◌≤◌, take, drop}
use Rattle.limits.specs.Refusal.{refuse}
use Rattle.probe_points.specs.declared.Point.{Point}
use Rattle.index_spec.specs.Index.{Index, all_gates, index_of}
use Rattle.bank_spec.specs.Push.{Atom}
use Rattle.bank_spec.specs.Bank.{bank_of}
use Rattle.bank_spec.specs.Encoding.{pad_to}
use Rattle.row_lent.specs.Range.{reaches}
use Rattle.bank.specs.Build.{points_reach}
use Rattle.bank_unary.specs.Phases.{Asked}
use Rattle.text_print.specs.Printing.{Shown, Holding}
use Rattle.listing.specs.declared.inner.Demand.{Demand}
use Rattle.listing.specs.Listing.{count_of, width_of, limit_of, points_of, target_of}

-- a point of nv words from place `base` on
abbrev pub point_from : List ℕ → ℕ → ℕ → Point
point_from numbers base nv = record { words = pad_to 6 0 (take nv (drop base numbers)) }

-- 01, Turned back, 1, 2 and 3: a variable count, a width and a limit that are not refused
pub record InRange (ns : List ℕ) : Type 0 where
  pub some : 1 ≤ count_of ns
  pub few : count_of ns ≤ 6
  pub wide : 1 ≤ width_of ns
  pub narrow : width_of ns ≤ 64
  pub most : limit_of ns ≤ 500

-- 01, Turned back, 5: what is left of `numbers_refusal` where 1, 2 and 3 do not apply
abbrev pub reach_refusal : List ℕ → ℕ
reach_refusal ns = refuse (points_reach (2 ^ width_of ns) (count_of ns) (points_of ns) || reaches (2 ^ width_of ns) (target_of ns)) 5 0

-- the index of a bank with the limit L
abbrev pub bank_index : ℕ → ℕ → List Atom → Index
bank_index w L bank = index_of w L all_gates (map (λ (a : Atom). a.row) bank)

-- a variable count, a width and a limit that are not refused
pub record IsDemand (d : Demand) : Type 0 where
  pub asked : Asked d.setting.nv d.setting.w
  pub most : d.limit ≤ 500

-- the bank that is listed, and its index
abbrev pub atoms_for : Demand → List Atom
atoms_for d = bank_of d.setting.nv d.setting.w d.setting.points d.target

abbrev pub index_for : Demand → Index
index_for d = bank_index d.setting.w d.limit (atoms_for d)

-- the arrays hold the bank and its index, and may be printed
pub record Both (lengths ops operands costs : List ℕ) (n : ℕ) (pairs : List ℕ) (m : ℕ) (cut : Bool) (bank : List Atom) (index : Index) : Type 0 where
  pub shown : Shown lengths ops operands costs n pairs m
  pub holding : Holding lengths ops operands costs n pairs m cut bank index
