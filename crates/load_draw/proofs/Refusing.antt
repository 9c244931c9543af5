-- The call's refusals, number by number. Assumes nothing.
use mathlib.Core.Path.{◌≡◌, refl, sym, ap, ◌∙◌}
use mathlib.Core.Bool.{Bool, true, false, not, ◌&&◌}
use mathlib.Core.List.{List}
use Prim.Native.Nat.{ℕ, ◌≤◌}
use native.Mathlib.Omega.{arith}
use borrow.Author.Tests.{ltb-false, le-ltb}
use lib.Dec.{ltb}
use lib.ListN.{length}
use Rattle.limits.specs.Refusal.{bad_count, bad_width}
use Rattle.limits.proofs.Refusals.{refused_here, refused-later, or_later, passed, within, inside, neither}
use Rattle.expr.specs.Answers.{too_short}
use Rattle.load_draw.specs.Draw.{bad_limit, draw_refusal}
use Rattle.load_draw.specs.Steps.{Ready}

module _ (nv w limit : ℕ) (ops operands : List ℕ) where
  pub refusal_1 : bad_count nv ≡ true → 1 ≡ draw_refusal nv w limit ops operands
  unfolding draw_refusal
  refusal_1 a = sym (refused_here 1 _ a)

  module _ (a : bad_count nv ≡ false) where
    pub refusal_2 : bad_width w ≡ true → 2 ≡ draw_refusal nv w limit ops operands
    unfolding draw_refusal
    refusal_2 b = sym (refused-later 1 a (refused_here 2 _ b))

    module _ (b : bad_width w ≡ false) where
      pub refusal_6 : bad_limit limit ≡ true → 6 ≡ draw_refusal nv w limit ops operands
      unfolding draw_refusal
      refusal_6 c = sym (refused-later 1 a (refused-later 2 b (refused-later 4 (ap (λ (x : Bool). not x && too_short limit ops operands) c) (refused_here 6 _ c))))

      module _ (c : bad_limit limit ≡ false) where
        pub refusal_4 : too_short limit ops operands ≡ true → 4 ≡ draw_refusal nv w limit ops operands
        unfolding draw_refusal
        refusal_4 d = sym (refused-later 1 a (refused-later 2 b (refused_here 4 _ (ap (λ (x : Bool). not x && too_short limit ops operands) c ∙ d))))

        pub refusal-none : too_short limit ops operands ≡ false → 0 ≡ draw_refusal nv w limit ops operands
        unfolding draw_refusal
        refusal-none d = sym (refused-later 1 a (refused-later 2 b (refused-later 4 (ap (λ (x : Bool). not x && too_short limit ops operands) c ∙ d) (refused-later 6 c refl))))

  -- where none applies, all may be drawn with
  pub ready : draw_refusal nv w limit ops operands ≡ 0 → Ready nv w limit ops operands
  unfolding draw_refusal
  ready e =
      let one = passed (bad_count nv) 1 _ (omega arith) e in
      let two = passed (bad_width w) 2 _ (omega arith) one.1 in
      let four = passed (not (bad_limit limit) && too_short limit ops operands) 4 _ (omega arith) two.1 in
      let six = passed (bad_limit limit) 6 0 (omega arith) four.1 in
      let long = neither (ltb (length ops) limit) (ltb (length operands) limit) (sym (ap (λ (x : Bool). not x && too_short limit ops operands) six.0) ∙ four.0) in
      let vars = within 1 6 nv one.0 in
      let width = within 1 64 w two.0 in
      let range = within 1 64 limit six.0 in
      record {
        some = vars.least;
        few = vars.most;
        wide = width.least;
        narrow = width.most;
        least = range.least;
        most = range.most;
        ops-fit = ltb-false (length ops) limit long.0;
        operands-fit = ltb-false (length operands) limit long.1;
      }

  -- and the other way
  pub ready-none : Ready nv w limit ops operands → draw_refusal nv w limit ops operands ≡ 0
  ready-none g =
      sym
      (refusal-none
      (inside 1 6 nv g.some g.few)
      (inside 1 64 w g.wide g.narrow)
      (inside 1 64 limit g.least g.most)
      (or_later (le-ltb (length ops) limit g.ops-fit) (le-ltb (length operands) limit g.operands-fit)))

-- a smaller limit, in the same arrays
pub ready_less : (nv w limit n : ℕ) (ops operands : List ℕ) → Ready nv w limit ops operands → 1 ≤ n → n ≤ limit → Ready nv w n ops operands
ready_less nv w limit n ops operands g a b = record {
  some = g.some;
  few = g.few;
  wide = g.wide;
  narrow = g.narrow;
  least = a;
  most = omega (arith, g.most);
  ops-fit = omega (arith, g.ops-fit);
  operands-fit = omega (arith, g.operands-fit);
}
