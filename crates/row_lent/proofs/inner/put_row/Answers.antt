-- `row_lent::inner::put_row` meets its contract: the row's own sixteen words are lent. Assumes nothing.
use mathlib.Core.Path.{ap, ◌∙◌}
use Rattle.arrays.specs.Parts.{put_part}
use Rattle.arrays.proofs.Parts.{put_is}
use Rattle.row_lent.proofs.inner.put_row.Goals as goal

pub returns : goal.returns
returns c =
    let a = c.args in
    put_is 16 a.rows.now a.slot _ ∙ ap (put_part 16 a.rows.now a.slot) c.write_row.ensures
