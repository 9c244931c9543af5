-- `search_product_atoms::inner::next_atom` meets its contract: nothing fits up to atom b. Where the first products differ none fits. Assumes nothing.
use mathlib.Core.Path.{◌≡◌, sym, ◌∙◌}
use mathlib.Core.Bool.{false}
use Rattle.search_product_trial.specs.Steps.{fits_at}
use Rattle.search_product_trial.proofs.Firsts.{first-not, skip_more}
use Rattle.search_product_atoms.proofs.inner.next_atom.Goals as goal

pub loop-b-preserved : goal.loop-b-preserved
loop-b-preserved c =
    let l = c.loop-b in
    let a = c.args in
    let test = fits_at a.w a.target.now a.atoms.now a.a a.atoms.now in
    let miss : test l.b ≡ false = elim c.if-mod_mul-t.branch [
      | goal.then-mod_mul-t+else-fits w ↦ sym w.fits.ensures ∙ w.if-fits.false
      | goal.else-mod_mul-t w ↦ first-not a.w a.target.now a.atoms.now a.atoms.now a.a l.b c.requires.4 _ _ c.mod_mul.result (c.requires.0.is a.a c.requires.1) (c.requires.0.is l.b c.loop-b-test.true) c.mod_mul.ensures w.if-mod_mul-t.false
    ] in
    skip_more test a.from l.b l.invariant miss
