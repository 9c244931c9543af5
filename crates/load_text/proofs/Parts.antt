-- What a call writes, case by case. Assumes nothing.
use mathlib.Core.Path.{◌≡◌, sym, ap, ◌∙◌}
use mathlib.Core.Bool.{Bool, cond}
use mathlib.Core.Logic.{inl, inr}
use mathlib.Core.List.{List, []}
use Prim.Native.Nat.{ℕ, ◌≤◌, ◌<◌}
use native.Mathlib.Omega.{arith}
use borrow.Author.Tests.{lt-ltb, le-ltb}
use lib.Dec.{ltb}
use lib.ListN.{length}
use lib.Seq.{sets}
use Rattle.std.specs.Prelude.{Ok}
use Rattle.std.specs.declared.result.Result.{Result}
use Rattle.limits.specs.declared.Refusal.{Refusal}
use Rattle.limits.specs.Refusal.{unless_refused}
use Rattle.limits.proofs.Refusals.{le_or_lt, unless_refused_lem, unless_not}
use Rattle.text_print.specs.Text.{refused_line}
use Rattle.load_text.specs.declared.Load.{Load}
use Rattle.load_text.specs.declared.LoadPart.{LoadPart}
use Rattle.load_text.specs.Text.{load_refusal}
use Rattle.load_text.specs.Writing.{line_max, bare_load, lines_in, lines_part, Part, part_of}
use Rattle.load_text.specs.Steps.{Answers, WroteFit}
use Rattle.load_text.proofs.Lines.{in_fewer}

module _ (l : Load) (room : ℕ) where
  abbrev lines : Part
  lines = lines_part l (lines_in l.nv l.w l.limit room l.left l.state)

  abbrev unfit : Part
  unfit = record { text = []; load = bare_load 0 0 }

  abbrev told : Part
  told = record { text = refused_line l.number; load = bare_load 0 0 }

  abbrev refusal : ℕ
  refusal = load_refusal l.nv l.w l.limit

  pub part_none : l.left ≡ 0 → part_of l room ≡ record { text = []; load = l }
  unfolding part_of
  part_none e = ap (λ (b : Bool). cond b (cond (ltb 0 l.number) told (unless_refused refusal lines unfit)) (record { text = []; load = l })) (le-ltb 0 l.left (omega (arith, e)))

  module _ (some : 0 < l.left) where
    here : part_of l room ≡ cond (ltb 0 l.number) told (unless_refused refusal lines unfit)
    unfolding part_of
    here = ap (λ (b : Bool). cond b (cond (ltb 0 l.number) told (unless_refused refusal lines unfit)) (record { text = []; load = l })) (lt-ltb 0 l.left some)

    pub part_told : 0 < l.number → part_of l room ≡ told
    part_told h = here ∙ ap (λ (b : Bool). cond b told (unless_refused refusal lines unfit)) (lt-ltb 0 l.number h)

    module _ (none : l.number ≡ 0) where
      drawn : part_of l room ≡ unless_refused refusal lines unfit
      drawn = here ∙ ap (λ (b : Bool). cond b told (unless_refused refusal lines unfit)) (le-ltb 0 l.number (omega (arith, none)))

      pub part_lines : refusal ≡ 0 → part_of l room ≡ lines
      part_lines e = drawn ∙ unless_not refusal lines unfit e

      pub part_unfit : 0 < refusal → part_of l room ≡ unfit
      part_unfit h = drawn ∙ unless_refused_lem refusal lines unfit h

-- the answer and the buffer, where the part that was written is the call's
module _ (l : Load) (out out' : List ℕ) (r : LoadPart) (part : Part) (e : part_of l (length out) ≡ part) (a : Answers part out out' r) where
  pub answers : (◌≡◌ {A = Result LoadPart Refusal} (Ok r) (Ok (record { length = length (part_of l (length out)).text; load = (part_of l (length out)).load }))) × (out' ≡ sets out 0 (part_of l (length out)).text)
  answers = (
    (λ i. Ok (record { length = long i; load = handed i })),
    a.wrote.laid ∙ ap (λ (p : Part). sets out 0 p.text) (sym e),
  )
    where
      long : r.length ≡ length (part_of l (length out)).text
      long = let n : r.length ≡ length part.text = omega (arith, a.wrote.next) in n ∙ ap (λ (p : Part). length p.text) (sym e)

      handed : r.load ≡ (part_of l (length out)).load
      handed = a.load ∙ ap (λ (p : Part). p.load) (sym e)

-- the same of a load with lines to draw, whether or not it may be drawn
pub fit-answers : (l : Load) (out out' : List ℕ) (r : LoadPart) → 0 < l.left → l.number ≡ 0 → WroteFit l out out' r
    → (◌≡◌ {A = Result LoadPart Refusal} (Ok r) (Ok (record { length = length (part_of l (length out)).text; load = (part_of l (length out)).load }))) × (out' ≡ sets out 0 (part_of l (length out)).text)
fit-answers l out out' r some none w = elim (le_or_lt 1 (load_refusal l.nv l.w l.limit)) [
  | inl h ↦ answers l out out' r _ (part_unfit l (length out) some none h) (w.nothing h)
  | inr h ↦ let z : load_refusal l.nv l.w l.limit ≡ 0 = omega (arith, h) in answers l out out' r _ (part_lines l (length out) some none z) (w.lines z)
]

-- where a line is left, and room for it, fewer are left after the call
pub part_fewer : (l : Load) (room : ℕ) → line_max ≤ room → 0 < l.left → (part_of l room).load.left < l.left
part_fewer l room long some = elim (le_or_lt 1 l.number) [
  | inl h ↦ by (part_told l room some h) some
  | inr h ↦
      let none : l.number ≡ 0 = omega (arith, h) in
      elim (le_or_lt 1 (load_refusal l.nv l.w l.limit)) [
        | inl k ↦ by (part_unfit l room some none k) some
        | inr k ↦ by (part_lines l room some none (omega (arith, k))) (in_fewer l.nv l.w l.limit room l.left l.state long some)
      ]
]
  where
    by : {p : Part} → part_of l room ≡ p → p.load.left < l.left → (part_of l room).load.left < l.left
    by e h = omega (arith, ap (λ (q : Part). q.load.left) e, h)
