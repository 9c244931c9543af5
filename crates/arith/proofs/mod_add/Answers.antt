-- `arith::mod_add` meets its contract: what wraps at 64 bits and is then reduced is reduced. Assumes nothing.
use Rattle.std.proofs.Common.{ℕ, ◌+◌, ◌%◌, ap, ◌∙◌}
use Rattle.arith.specs.Word.{modulus}
use Rattle.arith.proofs.Remainders.{wrap_reduce}
use Rattle.arith.proofs.mod_add.Goals as goal

pub returns : goal.returns
returns c =
    let s = c.args in
    c.reduce.ensures ∙ ap (λ (x : ℕ). x % modulus s.w) c.wrapping_add_u64.ensures.value ∙ wrap_reduce (s.a + s.b) s.w
