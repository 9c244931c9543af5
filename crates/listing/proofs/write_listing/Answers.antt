-- `listing::write_listing` meets its contract: what the end of the reading says chooses the text. Assumes nothing.
use mathlib.Core.Path.{refl, sym, ap, ◌∙◌}
use Prim.Native.Nat.{ℕ}
use native.Mathlib.Omega.{arith}
use Rattle.limits.proofs.Answers.{number-positive}
use Rattle.text_print.specs.Text.{refused_line}
use Rattle.listing.proofs.Refusing.{none-refused}
use Rattle.listing.proofs.Keeping.{listing_nine, given-refused, given-text, laid}
use Rattle.listing.proofs.write_listing.Goals as goal

pub returns-then-out-lt-TEXT_MAX : goal.returns-then-out-lt-TEXT_MAX
returns-then-out-lt-TEXT_MAX c = record {
  short = λ h. (refl, refl);
  written = λ h. absurd (omega (arith, h, c.if-out-lt-TEXT_MAX.true));
}

pub returns-in_default : goal.returns-in_default
returns-in_default c = record {
  short = λ h. absurd (omega (arith, h, c.if-out-lt-TEXT_MAX.false));
  written = λ h text few reads. laid _ _ (ap (λ (n : ℕ). refused_line n) c.from.ensures ∙ listing_nine text ((c.in_default.ensures text few reads).refused refl)) c.print_refusal.ensures.wrote (omega (arith, c.print_refusal.ensures.upper_bound));
}

pub returns-in-Err : goal.returns-in-Err
returns-in-Err c = record {
  short = λ h. absurd (omega (arith, h, c.if-out-lt-TEXT_MAX.false));
  written = λ h text few reads.
      laid _ _ (given-refused text _ ((c.in-Some.ensures text few reads).given _ refl) _ (c.from-in-Err.ensures ∙ c.in-Err.ensures) (omega (arith, c.from-in-Err.ensures, number-positive c.in-Err.refusal)))
      c.print_refusal-in-Err.ensures.wrote
      (omega (arith, c.print_refusal-in-Err.ensures.upper_bound));
}

pub list_numbers-requires : goal.list_numbers-requires
list_numbers-requires c = (none-refused _ (sym c.in_default-check.ensures), omega (arith, c.if-out-lt-TEXT_MAX.false))

pub returns : goal.returns
returns c = record {
  short = λ h. absurd (omega (arith, h, c.if-out-lt-TEXT_MAX.false));
  written = λ h text few reads.
      laid _ _ (given-text text _ ((c.in-Some.ensures text few reads).given _ refl) (sym c.in_default-check.ensures)) c.list_numbers.ensures.wrote c.list_numbers.ensures.upper_bound;
}
