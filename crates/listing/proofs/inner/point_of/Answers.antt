-- `listing::inner::point_of` meets its contract: the words stored are the first of the point, zeros follow. Assumes nothing.
use mathlib.Core.Path.{◌≡◌, refl, ap, ◌∙◌}
use mathlib.Core.List.{List, [], ◌∷◌}
use Prim.Native.Nat.{ℕ}
use borrow.Author.Rules.{rules}
use lib.ListN.{length}
use Rattle.bank_spec.specs.Encoding.{pad_to}
use Rattle.listing.specs.Steps.{point_from}
use Rattle.listing.proofs.Numbers.{point-more}
use Rattle.listing.proofs.inner.point_of.Goals as goal

-- no word is stored
zeros : 0 ∷ (0 ∷ (0 ∷ (0 ∷ (0 ∷ (0 ∷ []))))) ≡ pad_to 6 0 []
unfolding pad_to
zeros = refl

pub loop-i-init : goal.loop-i-init
loop-i-init c = (search rules, zeros)

pub loop-i-preserved : goal.loop-i-preserved
loop-i-preserved c =
    let all : length c.args.numbers ≡ 115 = search rules in
    (search rules, point-more c.args.numbers c.loop-i.words c.args.base c.loop-i.i _ (search rules) (search rules) refl c.loop-i.invariant.1)

pub returns : goal.returns
returns c =
    let i : c.loop-i.i ≡ c.args.nv = search rules in
    ap (λ (words : List ℕ). record { words = words }) c.loop-i.invariant.1 ∙ ap (λ (n : ℕ). point_from c.args.numbers c.args.base n) i
