-- `log_run::inner::run_parts` meets its contract: part after part. Assumes nothing.
use Rattle.arrays.proofs.Parts.{part_from}
use mathlib.Core.Path.{◌≡◌, refl, sym, ap, ◌∙◌}
use mathlib.Core.List.{List}
use Prim.Native.Nat.{ℕ, ◌+◌, ◌-◌, ◌*◌, ◌≤◌, ◌<◌}
use lib.ListN.{length, take, drop}
use Rattle.log_rules.specs.Rules.{Rules}
use Rattle.log_rules.specs.Lent.{rules_of}
use Rattle.log_run.specs.declared.Log.{Log}
use Rattle.log_run.specs.Step.{log_after}
use Rattle.log_run.specs.Steps.{open_log}
use Rattle.log_rules.specs.Steps.{Lends}
use Rattle.log_run.proofs.Stepping.{after_none, after-joined, fits_part, lends_part}
use borrow.Author.Rules.{rules}
use native.Mathlib.Omega.{arith}
use Rattle.log_run.proofs.inner.run_parts.Goals as goal

-- the records of a part are within the array
fits : {nv w n at size : ℕ} {rules : Rules} {records : List ℕ} → Lends nv w rules n records → at < n → size ≤ n - at → nv * at + nv * size ≤ length records
fits {nv = nv} {n = n} {at = at} {size = size} {records = records} l h s = fits_part nv at size n (length records) (omega (arith, h, s)) l.fits

pub loop-at-init : goal.loop-at-init
loop-at-init c = let a = c.args in
    let x = a.records.now in (search rules, (refl, ((λ h. absurd (omega (arith, h))), sym (after_none x.nv x.w (rules_of a.rules.now) x.words.now (open_log a.seen.now a.shown)))))

pub overflow_mul-from : goal.overflow_mul-from
overflow_mul-from c = let h = fits c.requires.lends.0 c.loop-at-test.true c.at_once-size.ensures.1.0 in search rules

pub overflow_mul-part : goal.overflow_mul-part
overflow_mul-part c = let h = fits c.requires.lends.0 c.loop-at-test.true c.at_once-size.ensures.1.0 in search rules

pub overflow_add-part : goal.overflow_add-part
overflow_add-part c = let h = fits c.requires.lends.0 c.loop-at-test.true c.at_once-size.ensures.1.0 in search rules

pub offset_bounds-words-from : goal.offset_bounds-words-from
offset_bounds-words-from c = let h = fits c.requires.lends.0 c.loop-at-test.true c.at_once-size.ensures.1.0 in search rules

pub slice_bounds-part-count : goal.slice_bounds-part-count
slice_bounds-part-count c = let h = fits c.requires.lends.0 c.loop-at-test.true c.at_once-size.ensures.1.0 in search rules

pub slice_bounds-part-start : goal.slice_bounds-part-start
slice_bounds-part-start c = let h = fits c.requires.lends.0 c.loop-at-test.true c.at_once-size.ensures.1.0 in search rules

pub slice_bounds-part-end : goal.slice_bounds-part-end
slice_bounds-part-end c = let h = fits c.requires.lends.0 c.loop-at-test.true c.at_once-size.ensures.1.0 in search rules

pub run_within-requires : goal.run_within-requires
run_within-requires c =
    let room : c.loop-at.at + c.at_once-size.result ≤ c.args.records.now.n
    = omega (arith, c.at_once-size.ensures.1.0, c.loop-at-test.true) in
    let a = c.args in
    let x = a.records.now in
    let l = c.loop-at in
    let o = c.at_once-size in record {
      lends = (lends_part x.nv x.w (rules_of a.rules.now) x.n x.words.now l.at o.result room c.requires.lends.0, (c.requires.lends.1.0, l.invariant.1.0 ∙ c.requires.lends.1.1));
      le_n = (o.ensures.0, (o.ensures.1.1, omega arith));
    }

pub overflow_add-at : goal.overflow_add-at
overflow_add-at c =
    let room : c.loop-at.at + c.at_once-size.result ≤ c.args.records.now.n
    = omega (arith, c.at_once-size.ensures.1.0, c.loop-at-test.true) in
    omega (arith, room, c.type_inv.records.1.1.0.1)

pub loop-at-smaller : goal.loop-at-smaller
loop-at-smaller c =
    let room : c.loop-at.at + c.at_once-size.result ≤ c.args.records.now.n
    = omega (arith, c.at_once-size.ensures.1.0, c.loop-at-test.true) in
    omega (arith, room, c.at_once-size.ensures.0, c.loop-at-test.true)

pub loop-at-preserved : goal.loop-at-preserved
loop-at-preserved c =
    let room : c.loop-at.at + c.at_once-size.result ≤ c.args.records.now.n
    = omega (arith, c.at_once-size.ensures.1.0, c.loop-at-test.true) in
    let fits : c.args.records.now.nv * c.loop-at.at + c.args.records.now.nv * c.at_once-size.result ≤ length c.args.records.now.words.now
    = fits_part c.args.records.now.nv c.loop-at.at c.at_once-size.result c.args.records.now.n (length c.args.records.now.words.now) room c.requires.lends.0.fits in
    let a = c.args in
    let x = a.records.now in
    let l = c.loop-at in
    let size = c.at_once-size.result in
    let part : List ℕ = take (x.nv * l.at + x.nv * size - x.nv * l.at) (drop (x.nv * l.at) x.words.now) in (
      room,
      (
        omega (arith, c.run_within.auto.seen, l.invariant.1.0),
        (
          (λ h. sym c.in_ok-now.ensures.number),
          c.in_ok-now.ensures.log refl ∙ ap (λ (y : Log). log_after x.nv x.w (rules_of a.rules.now) part y size) l.invariant.1.1.1 ∙ after-joined x.nv x.w (rules_of a.rules.now) x.words.now part (open_log a.seen.now a.shown) l.at size (part_from x.nv x.words.now l.at size fits),
        ),
      ),
    )

pub returns : goal.returns
returns c = let a = c.args in
    let x = a.records.now in
    let l = c.loop-at in
    let end : l.at ≡ x.n = search rules in
    record {
      number = sym (l.invariant.1.1.0 (omega (arith, end, c.requires.le_n)));
      log = λ e. l.invariant.1.1.1 ∙ ap (log_after x.nv x.w (rules_of a.rules.now) x.words.now (open_log a.seen.now a.shown)) end;
    }
