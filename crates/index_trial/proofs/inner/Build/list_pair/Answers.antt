-- `index_trial::inner::Build::list_pair` meets its contract: the row, the pair and the map each get their own part. Assumes nothing.
use mathlib.Core.Path.{◌≡◌, sym, ap, ◌∙◌}
use native.Mathlib.Omega.{arith}
use lib.ListN.{length, length-drop}
use Rattle.index_maps.specs.Area.{bank_area}
use Rattle.index_spec.proofs.RowLaws.{put-long}
use Rattle.index_trial.proofs.StepLaws.{ready-more}
use Rattle.index_trial.proofs.inner.Build.list_pair.Goals as goal

pub insert_pair-requires : goal.insert_pair-requires
insert_pair-requires c =
    let size = c.requires.0.sized in
    let able = c.requires.1 in (
      omega (arith, size.area),
      record {
        small = size.heads;
        link = omega (arith, length-drop bank_area c.args.self.now.work.now, size.area, able.room);
        entry = omega (arith, size.most, able.room);
        chain = able.chain;
      },
    )

pub returns-clause-listed : goal.returns-clause-listed
returns-clause-listed c =
    let a = c.args in
    let size = c.requires.0.sized in
    let able = c.requires.1 in
    let long : length a.row ≡ 16 = put-long a.n.0 a.self.now.listed.now a.row (omega (arith, size.rows_fit, able.room)) (sym (ap length c.put_row.ensures) ∙ c.put_row.auto.listed) in
    record {
      ready = ready-more a.self.now.job a.self.now.atoms.now a.self.now.work.now a.self.now.pairs.now a.self.now.listed.now a.n.0 c.requires.0 _ _ _ a.home a.row a.t.b.0 a.t.c.0 c.requires.1 long
          c.insert_pair.auto.work c.put_pair.auto.pairs c.put_row.ensures c.insert_pair.ensures;
      pairs-are = c.put_pair.ensures;
      rows_are = c.put_row.ensures;
    }
