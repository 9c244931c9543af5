-- `search_product::inner::search_rows` meets its contract: the second stage goes on from what the first kept. Assumes nothing.
use Rattle.search_product_forms.specs.Lent.{forms_of}
use Rattle.search_product_trial.proofs.Rounds.{both}
use Rattle.search_product.proofs.inner.search_rows.Goals as goal

pub two_atoms-first-requires : goal.two_atoms-first-requires
two_atoms-first-requires c =
    let lent = c.requires in
    record { fit = lent.atoms-fit; target = record { width = lent.width; long = lent.long; reduced = lent.reduced }; written = lent.written }

pub returns : goal.returns
returns c =
    let a = c.args in
    (both a.search.now.w a.search.now.forms.count a.search.now.atoms.now a.search.now.forms.n a.search.now.listed.now a.search.now.target.now (forms_of a.search.now.forms) c.two_atoms-first.result c.atom_and_pair-best.result
    (c.two_atoms-first.ensures a.search.now.listed.now a.search.now.forms.pairs.now) c.atom_and_pair-best.ensures).says
