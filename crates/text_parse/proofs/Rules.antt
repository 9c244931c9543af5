-- Numbers that a rule lets through are right many by it. Assumes nothing.
use Rattle.std.proofs.Common.{◌≡◌, ℕ, Bool, true, cond, List, sym, ap, ◌∙◌, inl, inr, arith}
use mathlib.Core.Option.{Option, none, some}
use Rattle.arrays.proofs.Lists.{bool_cases}
use Rattle.text_parse.specs.Text.{if_many, numbers_of, words_of, read_text}

none-some : (ns : List ℕ) → ◌≡◌ {A = Option (List ℕ)} none (some ns) → ⊥
none-some ns e = let z : ◌≡◌ {A = ℕ} 0 1 = cc in omega arith

right_of : (right : List ℕ → Bool) (o : Option (List ℕ)) (ns : List ℕ) → if_many right o ≡ some ns → right ns ≡ true
unfolding if_many
right_of right none ns e = absurd (none-some ns e)
right_of right (some ms) ns e = elim (bool_cases (right ms)) [
  | inl t ↦ go t (sym (ap (λ (b : Bool). cond b (some ms) none) t) ∙ e)
  | inr f ↦ absurd (none-some ns (sym (ap (λ (b : Bool). cond b (some ms) none) f) ∙ e))
]
  where
    go : right ms ≡ true → some ms ≡ some ns → right ns ≡ true
    go t e = let same : ms ≡ ns = cc in ap right (sym same) ∙ t

pub right-many : (right : List ℕ → Bool) (text ns : List ℕ) → read_text right text ≡ some ns → right ns ≡ true
unfolding read_text
right-many right text ns e = right_of right (numbers_of (words_of text)) ns e
