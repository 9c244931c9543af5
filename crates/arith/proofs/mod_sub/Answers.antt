-- `arith::mod_sub` meets its contract: b added to the result gives a, at 64 bits and so at w. Assumes nothing.
use Rattle.std.proofs.Common.{ℕ, ◌+◌, ◌%◌, min, sym, ap, ◌∙◌, pow_pos}
use Rattle.arith.specs.Word.{modulus}
use Rattle.arith.specs.Cong.{Cong}
use Rattle.arith.proofs.Remainders.{wrap_reduce}
use Rattle.arith.proofs.Congruence.{cong_sub}
use Rattle.arith.proofs.mod_sub.Goals as goal

pub returns : goal.returns
returns c =
    let s = c.args in
    let back : Cong (modulus s.w) (c.wrapping_sub_u64.result + s.b) s.a
    = record { same = sym (wrap_reduce (c.wrapping_sub_u64.result + s.b) s.w) ∙ ap (λ (x : ℕ). x % modulus s.w) c.wrapping_sub_u64.ensures.value } in
    c.reduce.ensures ∙ cong_sub (modulus s.w) s.a s.b c.wrapping_sub_u64.result (pow_pos (min s.w 64)) back
