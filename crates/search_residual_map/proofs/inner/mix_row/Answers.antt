-- `search_residual_map::inner::mix_row` meets its contract: the sum so far and the words to come give the whole. Assumes nothing.
use Rattle.std.proofs.Common.{◌≡◌, ℕ, ◌+◌, ◌*◌, ◌%◌, ◌^◌, get_or, drop, sym, refl, ap, ◌∙◌, ap₂, arith}
use lib.Bits.{bit_xor}
use Rattle.arrays.specs.Parts.{part_at}
use Rattle.arrays.proofs.Parts.{length-part, get_d_part}
use Rattle.search_residual_map.specs.Map.{swapped_of, mixed_from, mixed}
use Rattle.search_residual_map.proofs.Mixing.{mixed-step, mixed_end}
use Rattle.search_residual_map.proofs.inner.mix_row.Goals as goal

pub loop-i-init : goal.loop-i-init
unfolding mixed
loop-i-init c = refl

pub loop-i-preserved : goal.loop-i-preserved
loop-i-preserved c =
    let l = c.loop-i in
    let rows = c.args.rows.now in
    let slot = c.args.slot in
    let row = part_at 16 rows slot in
    let long = length-part 16 rows slot c.requires in
    let place : 16 * slot + (2 * l.i + 1) ≡ 16 * slot + 2 * l.i + 1 = omega arith in
    let first = get_d_part 16 rows slot (2 * l.i) (omega arith) in
    let second = get_d_part 16 rows slot (2 * l.i + 1) (omega arith) ∙ ap (λ (k : ℕ). get_or rows k 0) place in
    let word = ap₂ (λ (x y : ℕ). bit_xor x y) (sym first) (c.swapped.ensures ∙ ap swapped_of (sym second)) in
    ap₂ (λ (x y : ℕ). mixed_from x y (drop (2 * (l.i + 1)) row))
    (c.wrapping_add_u64-sum.ensures.value ∙ ap (λ (x : ℕ). (l.sum + x) % 2 ^ 64) (c.wrapping_mul.ensures ∙ ap (λ (x : ℕ). x * l.power % 2 ^ 64) word))
    c.wrapping_mul-power.ensures
    ∙ sym (mixed-step l.sum l.power row l.i (omega arith))
    ∙ l.invariant

pub returns : goal.returns
returns c =
    let l = c.loop-i in
    let row = part_at 16 c.args.rows.now c.args.slot in
    let long = length-part 16 c.args.rows.now c.args.slot c.requires in
    sym (mixed_end l.sum l.power row l.i (omega arith)) ∙ l.invariant
