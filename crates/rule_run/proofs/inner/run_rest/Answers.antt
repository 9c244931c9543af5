-- `rule_run::inner::run_rest` meets its contract: one record after the other. Assumes nothing.
use Rattle.std.proofs.Common.{ℕ, ◌+◌, ◌*◌, ◌≤◌, List, ◌<◌, length, refl, ap, ◌∙◌, arith, rules}
use Rattle.arrays.proofs.Parts.{part_within, part_is, length-part}
use Rattle.expr.specs.Formula.{is_formula}
use Rattle.rule_run.specs.Steps.{Ready}
use Rattle.rule_run.specs.Lent.{tokens_of, marks}
use Rattle.rule_run.proofs.Feeding.{fed_at, mark-is}
use Rattle.rule_run.proofs.inner.run_rest.Goals as goal

-- record k is within the array
fits : {nv w count : ℕ} {ops operands : List ℕ} {m window n : ℕ} {records : List ℕ} {k : ℕ} → Ready nv w count ops operands m window n records → k < n → nv * k + nv ≤ length records
fits {nv = nv} {n = n} {k = k} r h = let p = part_within nv k n h in omega (arith, p, r.fits)

pub loop-k-init : goal.loop-k-init
loop-k-init c = (refl, λ s old f. f)

pub overflow_mul-from : goal.overflow_mul-from
overflow_mul-from c = let h = fits c.requires.0 c.loop-k-test.true in search rules

pub overflow_add-from : goal.overflow_add-from
overflow_add-from c = let h = fits c.requires.0 c.loop-k-test.true in search rules

pub offset_bounds-words-from : goal.offset_bounds-words-from
offset_bounds-words-from c = let h = fits c.requires.0 c.loop-k-test.true in search rules

pub slice_bounds-eval_tokens-count : goal.slice_bounds-eval_tokens-count
slice_bounds-eval_tokens-count c = let h = fits c.requires.0 c.loop-k-test.true in search rules

pub slice_bounds-eval_tokens-start : goal.slice_bounds-eval_tokens-start
slice_bounds-eval_tokens-start c = let h = fits c.requires.0 c.loop-k-test.true in search rules

pub slice_bounds-eval_tokens-end : goal.slice_bounds-eval_tokens-end
slice_bounds-eval_tokens-end c = let h = fits c.requires.0 c.loop-k-test.true in search rules

pub eval_tokens-value-requires : goal.eval_tokens-value-requires
eval_tokens-value-requires c =
    let fits = fits c.requires.0 c.loop-k-test.true in
    let l = c.loop-k in
    record {
      width = c.requires.0.narrow;
      formula = ap (λ (n : ℕ). is_formula n (tokens_of c.args.rule.now)) (ap length (part_is c.args.records.now.nv c.args.records.now.words.now l.k) ∙ length-part c.args.records.now.nv c.args.records.now.words.now l.k fits) ∙ c.requires.0.formula;
    }

pub feed-bits-requires : goal.feed-bits-requires
feed-bits-requires c = (omega (arith, c.requires.1.1, c.loop-k.invariant.0), (omega (arith, c.requires.0.least, c.requires.0.reach), c.requires.0.most))

pub loop-k-preserved : goal.loop-k-preserved
loop-k-preserved c =
    let a = c.args in
    let r = a.rule.now in
    let x = a.records.now in
    let l = c.loop-k in (
      c.feed-bits.auto.answers ∙ l.invariant.0,
      λ s old f.
          c.feed-bits.ensures (marks r x) s old
          (mark-is x.nv x.w (tokens_of r) x.words.now _ l.k c.eval_tokens-value.result (part_is x.nv x.words.now l.k) c.eval_tokens-value.ensures)
          (l.invariant.1 s old f),
    )

pub returns : goal.returns
returns c =
    let a = c.args in
    let l = c.loop-k in
    λ s old f. fed_at a.records.now.n (omega arith) (l.invariant.1 s old f)
