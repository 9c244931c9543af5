-- `log_run::inner::run_over` meets its contract: the rules over the records, and then what is shown. Assumes nothing.
use mathlib.Core.Path.{refl, ◌∙◌}
use Rattle.log_rules.specs.Lent.{rules_of}
use Rattle.log_run.specs.Steps.{open_log}
use Rattle.log_run.proofs.Stepping.{after_is}
use native.Mathlib.Omega.{arith}
use Rattle.log_run.proofs.inner.run_over.Goals as goal

pub feed_rules-requires : goal.feed_rules-requires
feed_rules-requires c = record {
  lends = c.requires.lends;
  n_in_bounds = c.requires.le_n.1;
}

pub note_all-requires : goal.note_all-requires
note_all-requires c = omega (arith, c.requires.le_n.1.1.0, c.feed_rules.auto.fired)

pub returns : goal.returns
returns c = let a = c.args in
    let x = a.records.now in
    let f = c.in_ok-feed_rules.ensures in
    record {
      number = f.value;
      log = λ e. after_is x.nv x.w (rules_of a.rules.now) c.requires.lends.1.0.few x.words.now (open_log a.seen.now a.shown) refl x.n c.requires.le_n.0 c.feed_rules.new.fired c.feed_rules.new.seen (c.feed_rules.auto.seen ∙ c.requires.lends.1.1) (λ i l. f.i_after refl i) (f.k_after refl) c.note_all.result c.note_all.ensures;
    }
