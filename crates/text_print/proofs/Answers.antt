-- What a program answers to the numbers that it read: 9, another refusal, or the text of them. Assumes nothing.
use mathlib.Core.Path.{◌≡◌, sym, ap, ◌∙◌}
use mathlib.Core.Bool.{Bool, true, false, cond}
use mathlib.Core.List.{List}
use mathlib.Core.Option.{Option, none, some}
use Prim.Native.Nat.{ℕ, ◌<◌}
use native.Mathlib.Omega.{arith}
use borrow.Author.Tests.{lt-ltb, le-ltb}
use lib.Dec.{ltb}
use Rattle.text_print.specs.Text.{refused_line, answer_of}

module _ (refusal : List ℕ → ℕ) (write : List ℕ → List ℕ) (o : Option (List ℕ)) where
  pub answer_nine : o ≡ none → refused_line 9 ≡ answer_of refusal write o
  unfolding answer_of
  answer_nine e = sym (ap (answer_of refusal write) e)

  module _ (ns : List ℕ) (e : o ≡ some ns) where
    pub answer-refused : (n : ℕ) → n ≡ refusal ns → 0 < n → refused_line n ≡ answer_of refusal write o
    unfolding answer_of
    answer-refused n f h =
        let t : ltb 0 (refusal ns) ≡ true = lt-ltb 0 (refusal ns) (omega (arith, f, h)) in
        ap refused_line f ∙ sym (ap (λ (b : Bool). cond b (refused_line (refusal ns)) (write ns)) t) ∙ sym (ap (answer_of refusal write) e)

    pub answer-text : refusal ns ≡ 0 → write ns ≡ answer_of refusal write o
    unfolding answer_of
    answer-text f =
        let t : ltb 0 (refusal ns) ≡ false = le-ltb 0 (refusal ns) (omega (arith, f)) in
        sym (ap (λ (b : Bool). cond b (refused_line (refusal ns)) (write ns)) t) ∙ sym (ap (answer_of refusal write) e)
