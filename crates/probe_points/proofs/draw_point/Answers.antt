-- `probe_points::draw_point` meets its contract: after i turns the first i words are drawn and the rest are 0. Assumes nothing.
use Rattle.std.proofs.Common.{◌≡◌, ℕ, ◌-◌, ◌%◌, ◌^◌, List, ◌++◌, set, replicate, sym, refl, ap, ◌∙◌, add-one, arith}
use Rattle.arith.proofs.Remainders.{modulus-is}
use Rattle.probe_points.specs.declared.Draw.{Draw}
use Rattle.probe_points.specs.Points.{next_state, word_of, drawn, state_after, words_from, point_from}
use Rattle.probe_points.proofs.Draws.{state-after-suc, word_more}
use Rattle.probe_points.proofs.draw_point.Goals as goal

pub loop-i-init : goal.loop-i-init
unfolding state_after words_from
loop-i-init c = (refl, refl)

pub loop-i-preserved : goal.loop-i-preserved
loop-i-preserved c =
    let a = c.args in
    let i = c.loop-i.i in
    let d = c.splitmix64-d in
    let from : drawn c.loop-i.s ≡ drawn (state_after i a.state) = ap drawn c.loop-i.invariant.0 in
    let state : d.result.state ≡ next_state (state_after i a.state) = ap (λ (x : Draw). x.state) (d.ensures ∙ from) in
    let word : c.reduce.result ≡ word_of (next_state (state_after i a.state)) % 2 ^ a.w
    = c.reduce.ensures ∙ ap (λ (m : ℕ). d.result.word % m) (modulus-is a.w c.requires.1) ∙ ap (λ (x : Draw). x.word % 2 ^ a.w) (d.ensures ∙ from) in (
      state ∙ state-after-suc i a.state ∙ ap (λ (n : ℕ). state_after n a.state) (sym (add-one i)),
      ap (λ (x : List ℕ). set x i c.reduce.result) c.loop-i.invariant.1 ∙ word_more a.w i a.state c.reduce.result (omega arith) word,
    )

pub returns : goal.returns
unfolding point_from
returns c =
    let a = c.args in
    let z : c.loop-i.i ≡ a.nv = omega arith in
    record {
      state = c.loop-i.invariant.0 ∙ ap (λ (n : ℕ). state_after n a.state) z;
      point = λ j. record { words = (c.loop-i.invariant.1 ∙ ap (λ (n : ℕ). words_from a.w n a.state ++ replicate (6 - n) 0) z) j };
    }
