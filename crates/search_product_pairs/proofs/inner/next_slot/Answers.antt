-- `search_product_pairs::inner::next_slot` meets its contract: nothing fits up to slot s. Where the second products differ none fits. Assumes nothing.
use mathlib.Core.Path.{◌≡◌, sym, ◌∙◌}
use mathlib.Core.Bool.{false}
use Rattle.search_product_trial.specs.Steps.{fits_at}
use Rattle.search_product_trial.proofs.Trials.{fits_not}
use Rattle.search_product_trial.proofs.Firsts.{skip_more}
use native.Mathlib.Omega.{arith}
use Rattle.search_product_pairs.proofs.inner.next_slot.Goals as goal

pub loop-s-preserved : goal.loop-s-preserved
loop-s-preserved c =
    let l = c.loop-s in
    let a = c.args in
    let test = fits_at a.w a.target.now a.atoms.now a.a a.listed.now in
    let miss : test l.s ≡ false = elim c.if-mod_mul-t.branch [
      | goal.then-mod_mul-t+else-fits w ↦ sym w.fits.ensures ∙ w.if-fits.false
      | goal.else-mod_mul-t w ↦ fits_not a.w a.target.now a.atoms.now a.listed.now a.a l.s c.requires.3 1 c.mod_mul.result (omega arith) c.mod_mul.ensures w.if-mod_mul-t.false
    ] in
    skip_more test a.from l.s l.invariant miss
