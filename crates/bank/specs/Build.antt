-- What a bank build is asked for and what it leaves. Assumes nothing.
use Rattle.std.specs.Prelude.{◌≡◌, Bool, true, false, ◌||◌, List, [], ◌∷◌, ℕ, ◌*◌, ◌^◌, ltb, length, take, Result}
use Rattle.limits.specs.Refusal.{refuse, unless_refused, bad_count, bad_width, says, outcome}
use Rattle.limits.specs.declared.Refusal.{Refusal}
use Rattle.limits.specs.Limits.{atoms_max}
use Rattle.row_lent.specs.Range.{reaches}
use Rattle.probe_points.specs.declared.Point.{Point}
use Rattle.bank_spec.specs.Bank.{bank_of}
use Rattle.bank_spec.specs.Encoding.{Arrays, written}
use Rattle.bank.specs.declared.Sizes.{Sizes}

-- the lengths of the six lent arrays
abbrev pub sizes_of : Arrays → List ℕ → Sizes
sizes_of a work = record {
  lengths = length a.lengths;
  ops = length a.ops;
  operands = length a.operands;
  costs = length a.costs;
  rows = length a.rows;
  work = length work;
}

-- 01, Turned back, 4: a lent array shorter than stated: 479 atoms, and a work area of 4 × 479
abbrev pub too_small : Sizes → Bool
too_small s =
    ltb s.lengths atoms_max
    || (ltb s.ops (6 * atoms_max)
    || (ltb s.operands (6 * atoms_max)
    || (ltb s.costs (3 * atoms_max)
    || (ltb s.rows (16 * atoms_max)
    || ltb s.work (4 * atoms_max)))))

-- 01, Turned back, 5: a point word not below 2^w, here m; 01, Points: places past the variable count nv are ignored
unfoldable pub points_reach : ℕ → ℕ → List Point → Bool
unfolding reaches
points_reach m nv [] = false
points_reach m nv (p ∷ points) = reaches m (take nv p.words) || points_reach m nv points

-- 01, Turned back: building a bank 1, 2, 4, 5, the least applicable number first
abbrev pub bank_refusal : ℕ → ℕ → List Point → List ℕ → Sizes → ℕ
bank_refusal nv w points target sizes =
    refuse (bad_count nv) 1
    (refuse (bad_width w) 2
    (refuse (too_small sizes) 4
    (refuse (points_reach (2 ^ w) nv points || reaches (2 ^ w) target) 5 0)))

-- 01, Agreed between us: the result (how many atoms there are) and the final contents of every array. The work area is the program's own where nothing is refused
pub record BankBuilt (nv w : ℕ) (points : List Point) (target : List ℕ) (old now : Arrays) (old_work nowWork : List ℕ) (r : Result ℕ Refusal) : Type 0 where
  pub result : says r ≡ outcome (bank_refusal nv w points target (sizes_of old old_work)) (length (bank_of nv w points target))
  pub arrays : now ≡ unless_refused (bank_refusal nv w points target (sizes_of old old_work)) (written (bank_of nv w points target) old) old
  pub work : ltb 0 (bank_refusal nv w points target (sizes_of old old_work)) ≡ true → nowWork ≡ old_work
