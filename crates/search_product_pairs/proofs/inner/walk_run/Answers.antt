-- `search_product_pairs::inner::walk_run` meets its contract: nothing fits up to place k. Where the second products differ none fits. Assumes nothing.
use mathlib.Core.Path.{◌≡◌, sym, ◌∙◌}
use mathlib.Core.Bool.{false}
use Prim.Native.Nat.{ℕ, ◌<◌}
use lib.ListN.{get_or}
use Rattle.search_filter.proofs.PlaceLaws.{skips-more}
use Rattle.search_filter.proofs.Words.{slot-below}
use Rattle.search_product_trial.specs.Steps.{fits_at}
use Rattle.search_product_trial.proofs.Trials.{fits_not}
use native.Mathlib.Omega.{arith}
use Rattle.search_product_pairs.proofs.inner.walk_run.Goals as goal

pub bounds-listed-first : goal.bounds-listed-first
bounds-listed-first c =
    let below : (k : ℕ) → k < c.args.n → get_or c.args.order.now k 0 < c.args.n
    = let a = c.args in slot-below a.n a.listed.now a.order.now c.requires.0 in
    omega (arith, below c.args.at c.requires.1, c.requires.0.rows_fit)

pub bounds-listed-slot : goal.bounds-listed-slot
bounds-listed-slot c =
    let below : (k : ℕ) → k < c.args.n → get_or c.args.order.now k 0 < c.args.n
    = let a = c.args in slot-below a.n a.listed.now a.order.now c.requires.0 in
    omega (arith, below c.loop-k.k c.loop-k-test.true, c.requires.0.rows_fit)

pub bounds-listed-slot-in-loop-k : goal.bounds-listed-slot-in-loop-k
bounds-listed-slot-in-loop-k c =
    let below : (k : ℕ) → k < c.args.n → get_or c.args.order.now k 0 < c.args.n
    = let a = c.args in slot-below a.n a.listed.now a.order.now c.requires.0 in
    omega (arith, below c.loop-k.k c.loop-k-test.true, c.requires.0.rows_fit)

pub fits-requires : goal.fits-requires
fits-requires c =
    let below : (k : ℕ) → k < c.args.n → get_or c.args.order.now k 0 < c.args.n
    = let a = c.args in slot-below a.n a.listed.now a.order.now c.requires.0 in
    (c.requires.2, omega (arith, below c.loop-k.k c.loop-k-test.true, c.requires.0.rows_fit), c.requires.3)

pub loop-k-preserved : goal.loop-k-preserved
loop-k-preserved c =
    let l = c.loop-k in
    let a = c.args in
    let test = fits_at a.w a.target.now a.atoms.now a.a a.listed.now in
    let slot = get_or a.order.now l.k 0 in
    let miss : test slot ≡ false = elim c.if-mod_mul-t.branch [
      | goal.then-mod_mul-t+else-fits w ↦ sym w.fits.ensures ∙ w.if-fits.false
      | goal.else-mod_mul-t w ↦ fits_not a.w a.target.now a.atoms.now a.listed.now a.a slot c.requires.3 1 c.mod_mul.result (omega arith) c.mod_mul.ensures w.if-mod_mul-t.false
    ] in
    skips-more test a.order.now a.at l.k l.invariant miss
