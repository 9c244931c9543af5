-- `simjaldek_abi::inner::replies::log_state` meets its contract: field by field, with the mark as a number. Assumes nothing.
use mathlib.Core.Path.{ap}
use Prim.Native.Nat.{ℕ}
use Rattle.simjaldek_abi.specs.declared.LogState.{LogState}
use Rattle.simjaldek_abi.proofs.inner.replies.log_state.Goals as goal

pub returns : goal.returns
returns c =
    let l = c.args.log in
    let state : ℕ → LogState = λ (mark : ℕ). record { «open» = mark; rank = l.shown.rank; number = l.shown.number; closed_at = l.shown.close; later = l.shown.later; windows = l.windows } in
    ap state c.mark_of.ensures
