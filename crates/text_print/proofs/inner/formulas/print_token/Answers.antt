-- `text_print::inner::formulas::print_token` meets its contract: its sign, or what has none. Assumes nothing.
use native.Mathlib.Omega.{arith}
use borrow.Author.Rules.{rules}
use mathlib.Core.List.{[], ◌∷◌}
use mathlib.Core.Path.{sym, ap, ◌∙◌}
use Prim.Native.Nat.{ℕ}
use Rattle.text_print.proofs.Decimals.{reads}
use Rattle.text_print.proofs.Listings.{sign_text}
use Rattle.text_print.proofs.inner.formulas.print_token.Goals as goal

pub returns-then-sign-ne0 : goal.returns-then-sign-ne0
returns-then-sign-ne0 c = let e = c.sign_of-sign.ensures in
    let signed = sign_text c.args.t (λ z. c.if-sign-ne0.true (e ∙ z)) in record {
      wrote = reads (ap (λ (n : ℕ). n ∷ []) e ∙ signed) c.print_sign.ensures.wrote;
      upper_bound = omega (arith, c.print_sign.ensures.value);
    }

pub print_signless-requires : goal.print_signless-requires
print_signless-requires c = (sym c.sign_of-sign.ensures ∙ c.if-sign-ne0.false, search rules)
