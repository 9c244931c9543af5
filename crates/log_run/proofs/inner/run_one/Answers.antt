-- `log_run::inner::run_one` meets its contract: the rules over one record, and then what is shown. Assumes nothing.
use mathlib.Core.Path.{◌≡◌, refl, sym, subst, ◌∙◌}
use mathlib.Core.List.{[], ◌∷◌}
use Prim.Native.Nat.{ℕ}
use native.Mathlib.Omega.{arith}
use lib.ListN.{get_or}
use Rattle.arrays.proofs.Lists.{first_alone}
use Rattle.log_rules.specs.Steps.{Lends, rank_at}
use Rattle.log_rules.specs.Lent.{rules_of}
use Rattle.log_run.specs.Steps.{open_log, Took, Takes}
use Rattle.log_run.proofs.Stepping.{after_is, noted_one}
use Rattle.log_run.proofs.inner.run_one.Goals as goal

pub feed_record-requires : goal.feed_record-requires
feed_record-requires c =
    let x = c.args.records.now in
    (subst (λ (k : ℕ). Lends x.nv x.w (rules_of c.args.rules.now) k x.words.now) c.requires.1 c.requires.0.0, c.requires.0.1)

pub returns : goal.returns
returns c =
    let a = c.args in
    let x = a.records.now in
    let rules = rules_of a.rules.now in
    let took : Took = record { shown = c.note.result; refusal = 0 } in
    let one : Takes x.nv x.w rules x.words.now 1 a.seen.now a.shown c.feed_record.new.seen took = record {
      number = c.in_ok-rank.ensures.refusal_value;
      log = λ e.
          after_is x.nv x.w rules c.requires.0.1.0.few x.words.now (open_log a.seen.now a.shown) refl 1 (omega arith) (c.in_ok-rank.rank ∷ []) c.feed_record.new.seen (c.feed_record.auto.seen ∙ c.requires.0.1.1) (λ i l. c.in_ok-rank.ensures.i_after refl i)
          (first_alone (λ (k : ℕ). get_or (c.in_ok-rank.rank ∷ []) k 0 ≡ rank_at x.nv x.w rules x.words.now a.seen.now a.rules.now.count k) (c.in_ok-rank.ensures.rank_value _ refl)) c.note.result (noted_one c.in_ok-rank.rank a.shown c.note.result c.note.ensures);
    } in
    subst (λ (k : ℕ). Takes x.nv x.w rules x.words.now k a.seen.now a.shown c.feed_record.new.seen took) (sym c.requires.1) one
