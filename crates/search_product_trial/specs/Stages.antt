-- The stages of a product search and what they keep, as the contracts of src/inner.rt have them; a reader of demand 3 needs Trying alone. Assumes nothing.
use Rattle.std.specs.Prelude as std
use Rattle.std.specs.Prelude.{◌≡◌, Bool, true, List, ℕ, ◌*◌, ◌^◌, ◌≤◌, ◌<◌, length, get_or, Some, None}
use Rattle.std.proofs.Math.Option.{Option, none, some}
use Rattle.arrays.specs.Least.{kept, keep_least}
use Rattle.limits.specs.Limits.{atoms_max}
use Rattle.expr_cost.specs.declared.Cost.{Cost}
use Rattle.search_filter.specs.Places.{Ordered}
use Rattle.search_product_forms.specs.Forms.{Forms}
use Rattle.search_product_forms.specs.Written.{Written, Paired}
use Rattle.search_product_trial.specs.declared.inner.Found.{Found}
use Rattle.search_product_trial.specs.declared.inner.Found.TheVariants.{Atoms, AtomPair}
use Rattle.search_product_trial.specs.declared.inner.Best.{Best}
use Rattle.search_product_trial.specs.Trying.{Product, product_cost, cheaper}

-- what no refusal turns back
pub record Lent (w count : ℕ) (atoms : List ℕ) (n : ℕ) (listed order target : List ℕ) (f : Forms) : Type 0 where
  pub least : 1 ≤ w
  pub width : w ≤ 64
  pub few : count ≤ atoms_max
  pub atoms-fit : 16 * count ≤ length atoms
  pub ordered : Ordered n listed order
  pub long : length target ≡ 16
  pub reduced : (j : ℕ) → j < 16 → get_or target j 0 < 2 ^ w
  pub written : Written count f
  pub paired : Paired count n f

-- what each case of `Found` says. 01, Product search: two atom slots, or an atom slot and a pair slot
abbrev pub product_of : Found → Product
product_of (Atoms a b) = Product.of_atoms a.0 b.0
product_of (AtomPair a s) = Product.of_pair a.0 s.0

-- .. or none
abbrev pub found_says : std.Option Found → Option Product
found_says None = none
found_says (Some found) = some (product_of found)

-- nothing counts as dearer than every formula; `NO_SIZE` of src/inner.rt is the same number
abbrev pub none_cost : Cost
none_cost = record { size = 4294967295; products = 0; depth = 0 }

abbrev pub kept_cost : Forms → Option Product → Cost
kept_cost f none = none_cost
kept_cost f (some x) = product_cost f x

-- a product and its cost
abbrev pub best_of : Found → Cost → Best
best_of found cost = record { found = Some found; cost = cost }

-- what is kept, with its cost
pub record Keeps (f : Forms) (o : Option Product) (best : Best) : Type 0 where
  pub says : found_says best.found ≡ o
  pub cost : best.cost ≡ kept_cost f o

-- from what was kept to what is kept after a trial that fits
abbrev pub Offered : Forms → Product → Best → Best → Type 0
Offered f x best r = (test : Product → Bool) (o : Option Product) → test x ≡ true → Keeps f o best → Keeps f (kept test (cheaper f) o x) r

-- .. and after all these trials
abbrev pub Tried : Forms → (Product → Bool) → List Product → Best → Best → Type 0
Tried f test trials best r = (o : Option Product) → Keeps f o best → Keeps f (keep_least test (cheaper f) o trials) r
