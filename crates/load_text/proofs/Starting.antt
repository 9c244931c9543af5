-- The load that a text asks for: the kept numbers ask for what the text's do. Assumes nothing.
use mathlib.Core.Path.{◌≡◌, sym, ap, ◌∙◌}
use mathlib.Core.List.{List}
use mathlib.Core.Option.{none}
use Prim.Native.Nat.{ℕ, ◌<◌}
use native.Mathlib.Omega.{arith}
use borrow.Author.Tests.{eqb-true}
use lib.ListN.{length, get_or}
use Rattle.limits.proofs.Refusals.{unless_refused_lem, unless_not}
use Rattle.text_parse.specs.Text.{load_many, read_text}
use Rattle.text_parse.specs.Reading.{Given}
use Rattle.text_parse.proofs.Rules.{right-many}
use Rattle.load_text.specs.declared.Load.{Load}
use Rattle.load_text.specs.Text.{load_refusal, numbers_refusal}
use Rattle.load_text.specs.Writing.{bare_load, load_of, start_of}

module _ (text : List ℕ) where
  pub start_nine : read_text load_many text ≡ none → bare_load 9 1 ≡ start_of (read_text load_many text)
  start_nine e = sym (ap start_of e)

  module _ (numbers : List ℕ) (given : Given load_many numbers text) where
    five : length given.ns ≡ 5
    unfolding load_many
    five = eqb-true (length given.ns) 5 (right-many load_many text given.ns given.is)

    same : (i : ℕ) → i < 5 → get_or numbers i 0 ≡ get_or given.ns i 0
    same i h = given.keeps.is i (omega (arith, h)) (omega (arith, five, h))

    load_same : load_of numbers ≡ load_of given.ns
    load_same = λ i. record {
      number = 0;
      state = same 0 (omega arith) i;
      nv = same 1 (omega arith) i;
      w = same 2 (omega arith) i;
      limit = same 3 (omega arith) i;
      left = same 4 (omega arith) i;
    }

    refusal-same : numbers_refusal numbers ≡ numbers_refusal given.ns
    refusal-same = ap (λ (l : Load). load_refusal l.nv l.w l.limit) load_same

    pub start-refused : (n : ℕ) → n ≡ numbers_refusal numbers → 0 < n → bare_load n 1 ≡ start_of (read_text load_many text)
    start-refused n e h =
        ap (λ (k : ℕ). bare_load k 1) (e ∙ refusal-same)
        ∙ sym (unless_refused_lem (numbers_refusal given.ns) (load_of given.ns) (bare_load (numbers_refusal given.ns) 1) (omega (arith, h, e, refusal-same)))
        ∙ sym (ap start_of given.is)

    pub start-load : numbers_refusal numbers ≡ 0 → load_of numbers ≡ start_of (read_text load_many text)
    start-load e =
        load_same
        ∙ sym (unless_not (numbers_refusal given.ns) (load_of given.ns) (bare_load (numbers_refusal given.ns) 1) (sym refusal-same ∙ e))
        ∙ sym (ap start_of given.is)
