-- `rule_run::inner::run_rows` meets its contract: sixteen after sixteen. Assumes nothing.
use Rattle.std.proofs.Common.{◌≡◌, ℕ, ◌+◌, ◌*◌, ◌≤◌, ◌<◌, List, length, sym, refl, ap, ◌∙◌, mul_assoc, mul_comm, arith, rules}
use Rattle.arrays.specs.Parts.{part_at}
use Rattle.arrays.proofs.Parts.{part_within, part_is, part_part, length-part}
use Rattle.rule_run.specs.Steps.{Ready}
use Rattle.rule_run.specs.Lent.{tokens_of, marks}
use Rattle.rule_run.proofs.Feeding.{fed_at, mark-is}
use Rattle.rule_run.proofs.inner.run_rows.Goals as goal

-- the k-th sixteen records are within the array
fits : {nv w count : ℕ} {ops operands : List ℕ} {m window : ℕ} {records : List ℕ} {k : ℕ} (rows : ℕ) → Ready nv w count ops operands m window (16 * rows) records → k < rows
    → 16 * nv * k + 16 * nv ≤ length records
fits {nv = nv} {k = k} rows r h =
    let same : nv * (16 * rows) ≡ 16 * nv * rows = sym (mul_assoc nv 16 rows) ∙ ap (λ (n : ℕ). n * rows) (mul_comm nv 16) in
    let p = part_within (16 * nv) k rows h in
    omega (arith, p, r.fits, same)

pub returns-then-rows-eq0 : goal.returns-then-rows-eq0
returns-then-rows-eq0 c = λ s old f. fed_at (16 * c.args.rows) (omega (arith, c.if-rows-eq0.true)) f

pub overflow_mul-step : goal.overflow_mul-step
overflow_mul-step c = omega (arith, c.requires.0.few)

pub loop-k-init : goal.loop-k-init
loop-k-init c = (refl, (refl, λ s old f. f))

pub overflow_mul-from : goal.overflow_mul-from
overflow_mul-from c = let h = fits c.args.rows c.requires.0 c.loop-k-test.true in search rules

pub overflow_add-from : goal.overflow_add-from
overflow_add-from c = let h = fits c.args.rows c.requires.0 c.loop-k-test.true in search rules

pub offset_bounds-words-from : goal.offset_bounds-words-from
offset_bounds-words-from c = let h = fits c.args.rows c.requires.0 c.loop-k-test.true in search rules

pub slice_bounds-eval_row-count : goal.slice_bounds-eval_row-count
slice_bounds-eval_row-count c = let h = fits c.args.rows c.requires.0 c.loop-k-test.true in search rules

pub slice_bounds-eval_row-start : goal.slice_bounds-eval_row-start
slice_bounds-eval_row-start c = let h = fits c.args.rows c.requires.0 c.loop-k-test.true in search rules

pub slice_bounds-eval_row-end-in-loop-k : goal.slice_bounds-eval_row-end-in-loop-k
slice_bounds-eval_row-end-in-loop-k c = let h = fits c.args.rows c.requires.0 c.loop-k-test.true in search rules

pub eval_row-row-requires : goal.eval_row-row-requires
eval_row-row-requires c =
    let fits = fits c.args.rows c.requires.0 c.loop-k-test.true in
    let l = c.loop-k in
    record {
      narrow = c.requires.0.narrow;
      few = c.requires.0.few;
      formula = c.requires.0.formula;
      long = ap length (part_is (16 * c.args.records.now.nv) c.args.records.now.words.now l.k) ∙ length-part (16 * c.args.records.now.nv) c.args.records.now.words.now l.k fits ∙ mul_comm 16 c.args.records.now.nv;
      room = l.invariant.0;
    }

pub feed_row-bits-requires : goal.feed_row-bits-requires
feed_row-bits-requires c = (omega (arith, c.requires.1, c.loop-k.invariant.1.0), (omega (arith, c.requires.0.least, c.requires.0.reach), c.requires.0.most))

pub loop-k-preserved : goal.loop-k-preserved
loop-k-preserved c =
    let a = c.args in
    let r = a.rule.now in
    let x = a.records.now in
    let l = c.loop-k in (
      c.eval_row-row.auto.stack ∙ l.invariant.0,
      (
        c.feed_row-bits.auto.answers ∙ l.invariant.1.0,
        λ s old f.
            fed_at (16 * (l.k + 1)) (omega arith)
            (c.feed_row-bits.ensures (marks r x) s old
            (λ j h.
            mark-is x.nv x.w (tokens_of r) x.words.now _ (16 * l.k + j) _
            (ap (λ (p : List ℕ). part_at x.nv p j) (part_is (16 * x.nv) x.words.now l.k) ∙ part_part x.nv 16 x.words.now l.k j h)
            (c.eval_row-row.ensures j h))
            (l.invariant.1.1 s old f)),
      ),
    )

pub returns : goal.returns
returns c =
    let a = c.args in
    let l = c.loop-k in
    λ s old f. fed_at (16 * a.rows) (omega arith) (l.invariant.1.1 s old f)
