-- What a phase of a bank build (the stock, the turns, the seeds) asks for and what it leaves. Assumes nothing.
use Rattle.std.specs.Prelude.{List, [], ◌∷◌, ℕ, ◌*◌, ◌≤◌, length}
use Rattle.limits.specs.Limits.{atoms_max}
use Rattle.expr.specs.declared.Token.TheVariants.{Not, Neg}
use Rattle.probe_points.specs.declared.Point.{Point}
use Rattle.bank_spec.specs.Push.{Atom, turns}
use Rattle.bank_spec.specs.Encoding.{Arrays}
use Rattle.bank_spec.specs.Facts.{base_of}
use Rattle.bank_parts.specs.Parts.{Room}
use Rattle.bank_push.specs.Steps.{Ready, IsBank}

-- 01, Turned back, 1 and 2: what the build needs of a variable count and a width that are not refused
pub record Asked (nv w : ℕ) : Type 0 where
  pub least : 1 ≤ nv
  pub most : nv ≤ 6
  pub width : w ≤ 64

-- the arrays hold a bank of n atoms, and a push may follow
pub record Holding (a : Arrays) (work : List ℕ) (n : ℕ) (atoms : List Atom) : Type 0 where
  pub ready : Ready a work n
  pub bank : IsBank a a n atoms

-- what a phase leaves: the arrays hold the bank over what they held before, and a push may follow
pub record Phase (a a' : Arrays) (work' : List ℕ) (r : ℕ) (atoms : List Atom) : Type 0 where
  pub ready : Ready a' work' r
  pub bank : IsBank a a' r atoms

-- 01, Bank: then, for each of the atoms present at that moment, in slot order, Neg and Not of its formula as it is when its turn comes
abbrev pub turned_of : ℕ → ℕ → List Point → List Atom
turned_of nv w points = turns w points (Neg ∷ (Not ∷ [])) (base_of nv w points) 0 (length (base_of nv w points))

-- 01, From heap ..: lent arrays for 479 atoms, and a work area of 4 × 479
pub record Fits (a : Arrays) (work : List ℕ) : Type 0 where
  pub room : Room a
  pub area : 4 * atoms_max ≤ length work
