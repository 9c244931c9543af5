-- `compare_formulas::read_tokens` is safe: each token takes at most two numbers. Assumes nothing.
use Prim.Native.Nat.{◌+◌, ◌*◌, ◌≤◌}
use Rattle.compare_formulas.proofs.read_tokens.Given as goal

abbrev pub invariant-loop-i : goal.invariant-loop-i
invariant-loop-i l = l.end ≤ 4 + 2 * l.i
