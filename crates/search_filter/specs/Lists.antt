-- What is said above of an order list's rows, order and count, of a lent list. Assumes nothing.
use Rattle.std.specs.Prelude.{ℕ, length}
use Rattle.search_filter.specs.declared.inner.Residue.{Residue}
use Rattle.search_filter.specs.declared.inner.Sorted.{Sorted}
use Rattle.search_filter.specs.declared.inner.Sweep.{Sweep}
use Rattle.search_filter.specs.Places.{Ordered, Sampled, Lower, FirstOf}
use Rattle.search_filter.specs.Sweeps.{in_class, Sweeping, Settled}

-- the list is the order list of its rows, and its samples are taken of it
pub record IsSorted (l : Sorted) : Type 0 where
  pub ordered : Ordered l.n l.rows.now l.order.now
  pub sampled : Sampled l.n l.rows.now l.order.now l.samples.now (length l.samples.now)

-- r is the first place of the list from lo on whose word is key or more
abbrev pub LowerIn : Sorted → ℕ → ℕ → ℕ → Type 0
LowerIn l lo key r = Lower l.n l.rows.now l.order.now lo key r

-- r is the first place of the list from a on whose word is of the class, n if there is none
abbrev pub FirstIn : Residue → Sorted → ℕ → ℕ → Type 0
FirstIn c l a r = FirstOf (in_class c l.rows.now) l.n l.order.now a r

-- where a sweep over the list stands
abbrev pub SweepingIn : Residue → Sorted → Sweep → Type 0
SweepingIn c l s = Sweeping c l.n l.rows.now l.order.now s

-- the first place of the list from a on whose word is of the class
abbrev pub SettledIn : Residue → Sorted → ℕ → Sweep → Type 0
SettledIn c l a s = Settled c l.n l.rows.now l.order.now a s
