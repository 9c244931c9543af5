-- `search_product_trial::inner::fits` meets its contract: the products of the words passed are the target's words. Assumes nothing.
use mathlib.Core.Path.{sym}
use Rattle.search_product_trial.proofs.Trials.{fits_not, fits_all}
use native.Mathlib.Omega.{arith}
use Rattle.search_product_trial.proofs.inner.fits.Goals as goal

pub returns-then-mod_mul-target : goal.returns-then-mod_mul-target
returns-then-mod_mul-target c =
    let l = c.loop-j in
    let a = c.args in
    sym (fits_not a.w a.target.now a.xs.now a.ys.now a.a a.b c.requires.2 l.j c.mod_mul.result (omega arith) c.mod_mul.ensures c.if-mod_mul-target.true)

pub returns : goal.returns
returns c =
    let l = c.loop-j in
    let a = c.args in
    sym (fits_all a.w a.target.now a.xs.now a.ys.now a.a a.b c.requires.2 c.requires.0 c.requires.1 (λ j h. l.invariant j (omega arith)))
