-- `arith::mod_neg` meets its contract: it is a difference from 0. Assumes nothing.
use Rattle.std.proofs.Common.{ℕ, ◌-◌, ◌%◌, ap, ◌∙◌, zero-add}
use Rattle.arith.specs.Word.{modulus}
use Rattle.arith.proofs.mod_neg.Goals as goal

pub returns : goal.returns
returns c =
    let s = c.args in
    let m = modulus s.w in
    c.mod_sub.ensures ∙ ap (λ (x : ℕ). x % m) (zero-add (m - s.v % m))
