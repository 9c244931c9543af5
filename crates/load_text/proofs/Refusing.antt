-- What is refused of a load, number by number, and that the draw refuses no other. Assumes nothing.
use mathlib.Core.Path.{◌≡◌, refl, sym}
use mathlib.Core.Bool.{true, false}
use mathlib.Core.List.{List}
use Prim.Native.Nat.{ℕ, ◌≤◌}
use native.Mathlib.Omega.{arith}
use lib.ListN.{length}
use Rattle.limits.specs.Refusal.{bad_count, bad_width}
use Rattle.limits.proofs.Refusals.{refused_here, refused-later, passed, Within, within, inside}
use Rattle.load_draw.specs.Draw.{bad_limit, draw_refusal}
use Rattle.load_draw.specs.Steps.{Ready}
use Rattle.load_draw.proofs.Refusing.{ready-none}
use Rattle.load_text.specs.Text.{load_refusal}

-- ---- the table's order
module _ (nv w limit : ℕ) where
  pub number_1 : bad_count nv ≡ true → 1 ≡ load_refusal nv w limit
  unfolding load_refusal
  number_1 a = sym (refused_here 1 _ a)

  module _ (a : bad_count nv ≡ false) where
    pub number_2 : bad_width w ≡ true → 2 ≡ load_refusal nv w limit
    unfolding load_refusal
    number_2 b = sym (refused-later 1 a (refused_here 2 _ b))

    module _ (b : bad_width w ≡ false) where
      pub number_6 : bad_limit limit ≡ true → 6 ≡ load_refusal nv w limit
      unfolding load_refusal
      number_6 c = sym (refused-later 1 a (refused-later 2 b (refused_here 6 _ c)))

      pub number-none : bad_limit limit ≡ false → 0 ≡ load_refusal nv w limit
      unfolding load_refusal
      number-none c = sym (refused-later 1 a (refused-later 2 b (refused-later 6 c refl)))

  -- where none applies
  pub record Fit : Type 0 where
    pub vars : Within 1 6 nv
    pub width : Within 1 64 w
    pub tokens : Within 1 64 limit

  pub fit : load_refusal nv w limit ≡ 0 → Fit
  unfolding load_refusal
  fit e =
      let one = passed (bad_count nv) 1 _ (omega arith) e in
      let two = passed (bad_width w) 2 _ (omega arith) one.1 in
      let six = passed (bad_limit limit) 6 0 (omega arith) two.1 in
      record { vars = within 1 6 nv one.0; width = within 1 64 w two.0; tokens = within 1 64 limit six.0 }

  -- the draw's refusals in arrays that are long enough are the same
  module _ (ops operands : List ℕ) where
    pub draw_none : load_refusal nv w limit ≡ 0 → 64 ≤ length ops → 64 ≤ length operands → draw_refusal nv w limit ops operands ≡ 0
    draw_none e a b = let f = fit e in ready-none nv w limit ops operands (record {
      some = f.vars.least;
      few = f.vars.most;
      wide = f.width.least;
      narrow = f.width.most;
      least = f.tokens.least;
      most = f.tokens.most;
      ops-fit = omega (arith, a, f.tokens.most);
      operands-fit = omega (arith, b, f.tokens.most);
    })

    pub load-none : Ready nv w limit ops operands → load_refusal nv w limit ≡ 0
    load-none g = sym (number-none (inside 1 6 nv g.some g.few) (inside 1 64 w g.wide g.narrow) (inside 1 64 limit g.least g.most))
