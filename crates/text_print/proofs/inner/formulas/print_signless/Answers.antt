-- `text_print::inner::formulas::print_signless` meets its contract, token by token: no gate, `!` or `-` comes here. Assumes nothing.
use native.Mathlib.Omega.{arith}
use Rattle.text_print.specs.Text.{token_text}
use Rattle.text_print.proofs.Decimals.{nothing}
use Rattle.text_print.proofs.Listings.{gate_signed, not_signed, neg_signed}
use Rattle.text_print.proofs.inner.formulas.print_signless.Goals as goal

pub returns-in-Constant : goal.returns-in-Constant
unfolding token_text
returns-in-Constant c = record {
  wrote = rw c.in-Constant.is c.print_leaf.ensures.wrote;
  upper_bound = c.print_leaf.ensures.upper_bound;
}

pub returns-in-Variable : goal.returns-in-Variable
unfolding token_text
returns-in-Variable c = record {
  wrote = rw c.in-Variable.is c.print_leaf-in-Variable.ensures.wrote;
  upper_bound = c.print_leaf-in-Variable.ensures.upper_bound;
}

pub returns-in-Binary : goal.returns-in-Binary
returns-in-Binary c = record { wrote = absurd (gate_signed c.in-Binary.is c.requires.0); upper_bound = absurd (gate_signed c.in-Binary.is c.requires.0) }

pub returns-in-Not : goal.returns-in-Not
returns-in-Not c = record { wrote = absurd (not_signed c.in-Not.is c.requires.0); upper_bound = absurd (not_signed c.in-Not.is c.requires.0) }

pub returns-in-Neg : goal.returns-in-Neg
returns-in-Neg c = record { wrote = absurd (neg_signed c.in-Neg.is c.requires.0); upper_bound = absurd (neg_signed c.in-Neg.is c.requires.0) }

pub returns-in-Bad : goal.returns-in-Bad
unfolding token_text
returns-in-Bad c = record {
  wrote = rw c.in-Bad.is nothing;
  upper_bound = omega arith;
}
