-- `text_parse::is_right` meets its contract: where 19 can be taken away and the rest is a multiple of 16, the quotient is compared; 16 × first, which may not fit a word, is never made. Assumes nothing.
use Rattle.std.proofs.Common.{◌≡◌, ℕ, ◌+◌, ◌-◌, ◌*◌, ◌/◌, ◌%◌, ◌<◌, ◌≤◌, false, eqb, sym, ◌∙◌, arith, eq-eqb, ne_eqb}
use native.Mathlib.Decide.{ℕ_discrete}
use Rattle.text_parse.proofs.is_right.Goals as goal

too_few : (n first : ℕ) → n < 19 → eqb n (19 + 16 * first) ≡ false
too_few n first h = ne_eqb n (19 + 16 * first) (λ e. omega arith)

between : (n first : ℕ) → 19 ≤ n → ((n - 19) % 16 ≡ 0 → ⊥) → eqb n (19 + 16 * first) ≡ false
between n first h remains = ne_eqb n (19 + 16 * first) (λ e. remains (omega arith))

divided : (n first : ℕ) → 19 ≤ n → (n - 19) % 16 ≡ 0 → eqb ((n - 19) / 16) first ≡ eqb n (19 + 16 * first)
divided n first h whole =
    elim (ℕ_discrete ((n - 19) / 16) first) [
      | yes e ↦ eq-eqb _ _ e ∙ sym (eq-eqb n (19 + 16 * first) (omega arith))
      | no d ↦ ne_eqb _ _ d ∙ sym (ne_eqb n (19 + 16 * first) (λ e. d (omega arith)))
    ]

pub returns-then-count-lt-NUMBERS_LEAST : goal.returns-then-count-lt-NUMBERS_LEAST
returns-then-count-lt-NUMBERS_LEAST c = sym (too_few c.args.count c.args.first (omega arith))

pub returns-then-more-ne0 : goal.returns-then-more-ne0
returns-then-more-ne0 c = sym (between _ _ c.if-count-lt-NUMBERS_LEAST.false c.if-more-ne0.true)

pub returns : goal.returns
returns c = divided _ _ c.if-count-lt-NUMBERS_LEAST.false c.if-more-ne0.false
