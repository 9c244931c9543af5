-- `row_fingerprint::fingerprint` meets its contract: what is folded so far and the words to come give the whole. Assumes nothing.
use mathlib.Core.Path.{refl, sym, ap, ◌∙◌}
use Prim.Native.Nat.{ℕ, ◌+◌}
use borrow.Author.Rules.{rules}
use lib.ListN.{drop}
use Rattle.row_fingerprint.specs.Fingerprint.{mixed, finished, fingerprint_of}
use Rattle.row_fingerprint.proofs.Folding.{mixed-step, mixed_end}
use Rattle.row_fingerprint.proofs.fingerprint.Goals as goal

pub loop-i-init : goal.loop-i-init
unfolding fingerprint_of
loop-i-init c = refl

pub loop-i-preserved : goal.loop-i-preserved
loop-i-preserved c =
    let row = c.args.row in
    ap (λ (x : ℕ). finished (mixed x (drop (c.loop-i.i + 1) row))) c.mix_word-h.ensures
    ∙ ap finished (sym (mixed-step c.loop-i.h row c.loop-i.i (search rules)))
    ∙ c.loop-i.invariant

pub returns : goal.returns
returns c =
    c.finish.ensures ∙ ap finished (sym (mixed_end c.loop-i.h c.args.row c.loop-i.i (search rules))) ∙ c.loop-i.invariant
