-- `compare_logs::times` meets its contract: 64 times 10 are 640. Assumes nothing.
use Prim.Native.Nat.{◌*◌, ◌≤◌}
use native.Mathlib.Nat.{mul-le-mul}
use native.Mathlib.Omega.{arith}
use Rattle.compare_logs.proofs.times.Goals as goal

pub overflow_mul-result : goal.overflow_mul-result
overflow_mul-result c =
    let few : c.args.stride * c.args.rules ≤ 640
    = mul-le-mul {n₁ = c.args.stride} {m₁ = c.args.rules} {n₂ = 64} {m₂ = 10} c.requires.0 c.requires.1 in
    omega (arith, few)

pub returns : goal.returns
returns c =
    let few : c.args.stride * c.args.rules ≤ 640
    = mul-le-mul {n₁ = c.args.stride} {m₁ = c.args.rules} {n₂ = 64} {m₂ = 10} c.requires.0 c.requires.1 in
    omega (arith, few)
