-- `index::build_index` meets its contract: refused as the table says, or built in arrays that are long enough. Assumes nothing.
use mathlib.Core.Path.{sym, ap, ◌∙◌}
use Rattle.std.proofs.lemmas.Result.{err_from_is_err_and}
use Rattle.limits.specs.Refusal.{number_of}
use lib.ListN.{length}
use Rattle.index.specs.Build.{arrays_of}
use Rattle.index.proofs.Passing.{none-refused}
use Rattle.index.proofs.WholeLaws.{refused-built, made-built, fits_of}
use Rattle.index.proofs.build_index.Goals as goal

pub returns-in_err-check : goal.returns-in_err-check
returns-in_err-check c =
    let a = c.args in
    let e = err_from_is_err_and c.from_residual.result c.from_residual.ensures.1 in
    let built = refused-built a.w a.atom_count a.atom_rows.now a.limit (arrays_of a.pairs.now a.pair_rows.now a.order.now a.work.now) e.0 (ap number_of e.2 ∙ c.in_err-check.ensures) in
    rw e.1 built

pub build-made-requires : goal.build-made-requires
build-made-requires c =
    let a = c.args in
    let passed = none-refused a.w a.atom_count a.limit (length a.atom_rows.now) (length a.pairs.now) (length a.pair_rows.now) (length a.order.now) (length a.work.now) (sym c.in_ok-check.ensures) in
    fits_of a.atom_rows.now a.work.now a.pairs.now a.pair_rows.now a.order.now passed

pub returns : goal.returns
returns c =
    let a = c.args in
    made-built a.w a.atom_count a.atom_rows.now a.limit (arrays_of a.pairs.now a.pair_rows.now a.order.now a.work.now) _ c.build-made.result c.in_ok-check.ensures c.build-made.ensures
