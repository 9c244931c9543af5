-- `row_gates::inner::row_matches` meets its contract: the places passed hold the target's words. Assumes nothing.
use mathlib.Core.Path.{sym, ap, ◌∙◌}
use mathlib.Core.List.{List}
use Prim.Native.Nat.{ℕ}
use native.Mathlib.Omega.{arith}
use borrow.Author.Rules.{rules}
use lib.ListN.{get_or}
use lib.Seq.{ext_get_or}
use Rattle.row_gates.specs.Gates.{gate_row}
use Rattle.row_gates.proofs.Rows.{length-gate_row, get_or-gate_row, same-row_of, same-row-not}
use Rattle.row_gates.proofs.inner.row_matches.Goals as goal

pub returns-then-gate_apply_lane-target : goal.returns-then-gate_apply_lane-target
returns-then-gate_apply_lane-target c =
    let at = get_or-gate_row c.args.g c.args.w c.args.a c.args.b c.loop-place.place (search rules) (search rules) in
    sym (same-row-not (gate_row c.args.g c.args.w c.args.a c.args.b) c.args.target
    (λ e. c.if-gate_apply_lane-target.true (c.gate_apply_lane.ensures ∙ sym at ∙ ap (λ (l : List ℕ). get_or l c.loop-place.place 0) e)))

pub returns : goal.returns
returns c =
    let long = length-gate_row c.args.g c.args.w c.args.a c.args.b (search rules) in
    sym (same-row_of (ext_get_or 0 (gate_row c.args.g c.args.w c.args.a c.args.b) c.args.target (long ∙ (search rules))
    (λ k h. get_or-gate_row c.args.g c.args.w c.args.a c.args.b k (omega (arith, long)) (search rules) ∙ c.loop-place.invariant k (search rules))))
