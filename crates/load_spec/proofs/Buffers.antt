-- The statements of specs/Buffers. Assumes nothing.
use mathlib.Core.Path.{◌≡◌, refl, sym, ap, ◌∙◌}
use mathlib.Core.Bool.{Bool, cond}
use mathlib.Core.Logic.{◌⊎◌, inl, inr}
use mathlib.Core.List.{List, [], ◌∷◌, ◌++◌, append-nil, append_assoc}
use mathlib.Core.Option.{Option, none, some}
use Prim.Native.Nat.{ℕ, zero, suc, ◌-◌, ◌≤◌, ◌<◌}
use native.Mathlib.Omega.{arith}
use borrow.Author.Tests.{lt-ltb, le-ltb, leb-true}
use lib.Dec.{ltb, leb}
use lib.ListN.{length, length-append}
use Rattle.limits.specs.Refusal.{unless_refused}
use Rattle.limits.proofs.Refusals.{le_or_lt, unless_refused_lem, unless_not, and_left, and_right}
use Rattle.text_parse.specs.Text.{load_many, read_text}
use Rattle.text_print.specs.Text.{formula_line, refused_line, answer_of}
use Rattle.text_print.proofs.Answers.{answer_nine, answer-refused, answer-text}
use Rattle.text_print.proofs.Lengths.{line-length, refused-length}
use Rattle.load_draw.specs.Draw.{formula_from}
use Rattle.load_draw.proofs.Drawing.{form-most}
use Rattle.load_text.specs.declared.Load.{Load}
use Rattle.load_text.specs.Text.{numbers_refusal, load_refusal, lines_from, lines_for, load_text}
use Rattle.load_text.specs.Writing.{line_max, bare_load, load_of, start_of, further, owed, Lines, after, lines_in, Part, part_of}
use Rattle.load_text.proofs.Refusing.{fit}
use Rattle.load_text.proofs.Lines.{lines_none, lines_more, in_none, in_short, in_more}
use Rattle.load_text.proofs.Parts.{part_none, part_told, part_lines, part_unfit, part_fewer}
use Rattle.load_spec.specs.Buffers.{StartOwes, written_in, long_enough, BufferAfterBuffer, PartFits}

-- ---- what is owed, case by case
module _ (l : Load) where
  abbrev lines : List ℕ
  lines = lines_from l.nv l.w l.limit l.left l.state

  abbrev refusal : ℕ
  refusal = load_refusal l.nv l.w l.limit

  abbrev some-owed : List ℕ
  some-owed = cond (ltb 0 l.number) (refused_line l.number) (unless_refused refusal lines [])

  pub owed_none : l.left ≡ 0 → owed l ≡ []
  unfolding owed
  owed_none e = ap (λ (b : Bool). cond b some-owed []) (le-ltb 0 l.left (omega (arith, e)))

  module _ (some : 0 < l.left) where
    here : owed l ≡ some-owed
    unfolding owed
    here = ap (λ (b : Bool). cond b some-owed []) (lt-ltb 0 l.left some)

    pub owed-told : 0 < l.number → owed l ≡ refused_line l.number
    owed-told h = here ∙ ap (λ (b : Bool). cond b (refused_line l.number) (unless_refused refusal lines [])) (lt-ltb 0 l.number h)

    drawn : l.number ≡ 0 → owed l ≡ unless_refused refusal lines []
    drawn e = here ∙ ap (λ (b : Bool). cond b (refused_line l.number) (unless_refused refusal lines [])) (le-ltb 0 l.number (omega (arith, e)))

    pub owed-unfit : l.number ≡ 0 → 0 < refusal → owed l ≡ []
    owed-unfit e h = drawn e ∙ unless_refused_lem refusal lines [] h

  -- the lines of a load that may be drawn, also where none is left
  pub owed-lines : l.number ≡ 0 → refusal ≡ 0 → owed l ≡ lines
  owed-lines e f = go (le_or_lt 1 l.left)
    where
      go : (1 ≤ l.left) ⊎ (l.left < 1) → owed l ≡ lines
      go (inl h) = drawn h e ∙ unless_not refusal lines [] f
      go (inr h) =
          let z : l.left ≡ 0 = omega (arith, h) in
          owed_none z ∙ sym (ap (λ (n : ℕ). lines_from l.nv l.w l.limit n l.state) z ∙ lines_none l.nv l.w l.limit l.state)

-- ---- the start
start_by : (o : Option (List ℕ)) → owed (start_of o) ≡ answer_of numbers_refusal lines_for o
start_by none = owed-told (bare_load 9 1) (omega arith) (omega arith) ∙ answer_nine numbers_refusal lines_for none refl
start_by (some ns) = go (le_or_lt 1 (numbers_refusal ns))
  where
    go : (1 ≤ numbers_refusal ns) ⊎ (numbers_refusal ns < 1) → owed (start_of (some ns)) ≡ answer_of numbers_refusal lines_for (some ns)
    go (inl h) =
        ap owed (unless_refused_lem (numbers_refusal ns) (load_of ns) (bare_load (numbers_refusal ns) 1) h)
        ∙ owed-told (bare_load (numbers_refusal ns) 1) (omega arith) h
        ∙ answer-refused numbers_refusal lines_for (some ns) ns refl (numbers_refusal ns) refl h
    go (inr h) =
        let z : numbers_refusal ns ≡ 0 = omega (arith, h) in
        ap owed (unless_not (numbers_refusal ns) (load_of ns) (bare_load (numbers_refusal ns) 1) z)
        ∙ owed-lines (load_of ns) refl z
        ∙ answer-text numbers_refusal lines_for (some ns) ns refl z

pub start_owes : StartOwes
unfolding load_text
start_owes text = start_by (read_text load_many text)

-- ---- a call
module _ (nv w limit : ℕ) where
  -- the first line from state s on, and the state after it
  abbrev line : ℕ → List ℕ
  line s = formula_line (formula_from nv w limit s).form

  abbrev next : ℕ → ℕ
  next s = (formula_from nv w limit s).state

  -- the lines that a call writes, and those left
  lines_split : (room n s : ℕ) → let f = lines_in nv w limit room n s in lines_from nv w limit n s ≡ f.text ++ lines_from nv w limit f.left f.state
  lines_split room zero s = sym (ap (λ (f : Lines). f.text ++ lines_from nv w limit f.left f.state) (in_none nv w limit room 0 s refl))
  lines_split room (suc n) s = go (le_or_lt line_max room) (lines_split (room - length (line s)) n (next s))
    where
      go : (line_max ≤ room) ⊎ (room < line_max) → (let f = lines_in nv w limit (room - length (line s)) n (next s) in lines_from nv w limit n (next s) ≡ f.text ++ lines_from nv w limit f.left f.state)
          → let f = lines_in nv w limit room (suc n) s in lines_from nv w limit (suc n) s ≡ f.text ++ lines_from nv w limit f.left f.state
      go (inr h) more = sym (ap (λ (f : Lines). f.text ++ lines_from nv w limit f.left f.state) (in_short nv w limit room (suc n) s h))
      go (inl h) more =
          let one : suc n - 1 ≡ n = omega arith in
          lines_more nv w limit n s
          ∙ ap (λ (t : List ℕ). line s ++ t) more
          ∙ sym (append_assoc (line s) (lines_in nv w limit (room - length (line s)) n (next s)).text _)
          ∙ sym (ap (λ (f : Lines). f.text ++ lines_from nv w limit f.left f.state) (in_more nv w limit room (suc n) s h (omega arith) ∙ ap (λ (k : ℕ). after (line s) (lines_in nv w limit (room - length (line s)) k (next s))) one))

pub owed_on : (l : Load) (room : ℕ) → 0 < l.left → owed l ≡ (part_of l room).text ++ owed (part_of l room).load
owed_on l room left = go (le_or_lt 1 l.number) (le_or_lt 1 (load_refusal l.nv l.w l.limit))
  where
    by : {p : Part} → part_of l room ≡ p → owed l ≡ p.text ++ owed p.load → owed l ≡ (part_of l room).text ++ owed (part_of l room).load
    by e h = h ∙ sym (ap (λ (p : Part). p.text ++ owed p.load) e)

    nothing : (t : List ℕ) → t ≡ t ++ owed (bare_load 0 0)
    nothing t = sym (ap (λ (x : List ℕ). t ++ x) (owed_none (bare_load 0 0) refl) ∙ append-nil t)

    go : (1 ≤ l.number) ⊎ (l.number < 1) → (1 ≤ load_refusal l.nv l.w l.limit) ⊎ (load_refusal l.nv l.w l.limit < 1) → owed l ≡ (part_of l room).text ++ owed (part_of l room).load
    go (inl h) k = by (part_told l room left h) (owed-told l left h ∙ nothing (refused_line l.number))
    go (inr h) (inl k) = let untold : l.number ≡ 0 = omega (arith, h) in by (part_unfit l room left untold k) (owed-unfit l left untold k ∙ nothing [])
    go (inr h) (inr k) =
        let untold : l.number ≡ 0 = omega (arith, h) in
        let fits : load_refusal l.nv l.w l.limit ≡ 0 = omega (arith, k) in
        let f = lines_in l.nv l.w l.limit room l.left l.state in
        by (part_lines l room left untold fits)
        (owed-lines l untold fits
        ∙ lines_split l.nv l.w l.limit room l.left l.state
        ∙ ap (λ (x : List ℕ). f.text ++ x) (sym (owed-lines (further l f.left f.state) refl fits)))

-- ---- call after call
pub buffer_after_buffer : BufferAfterBuffer
unfolding written_in long_enough
buffer_after_buffer l [] long few = sym (owed_none l (omega arith))
buffer_after_buffer l (room ∷ more) long few = go (le_or_lt 1 l.left) (buffer_after_buffer (part_of l room).load more (and_right (leb line_max room) (long_enough more) long))
  where
    go : (1 ≤ l.left) ⊎ (l.left < 1) → ((part_of l room).load.left ≤ length more → written_in (part_of l room).load more ≡ owed (part_of l room).load) → written_in l (room ∷ more) ≡ owed l
    go (inl h) rest =
        ap (λ (b : Bool). cond b ((part_of l room).text ++ written_in (part_of l room).load more) []) (lt-ltb 0 l.left h)
        ∙ ap (λ (t : List ℕ). (part_of l room).text ++ t) (rest (omega (arith, few, part_fewer l room (leb-true line_max room (and_left (leb line_max room) (long_enough more) long)) h)))
        ∙ sym (owed_on l room h)
    go (inr h) rest =
        ap (λ (b : Bool). cond b ((part_of l room).text ++ written_in (part_of l room).load more) []) (le-ltb 0 l.left (omega (arith, h)))
        ∙ sym (owed_none l (omega (arith, h)))

-- ---- no call writes past its buffer
module _ (nv w limit : ℕ) (least : 1 ≤ limit) (most : limit ≤ 64) where
  lines_fit : (room n s : ℕ) → length (lines_in nv w limit room n s).text ≤ room
  lines_fit room zero s = omega (arith, ap (λ (f : Lines). length f.text) (in_none nv w limit room 0 s refl))
  lines_fit room (suc n) s = go (le_or_lt line_max room) (lines_fit (room - length (line nv w limit s)) n (next nv w limit s))
    where
      go : (line_max ≤ room) ⊎ (room < line_max) → length (lines_in nv w limit (room - length (line nv w limit s)) n (next nv w limit s)).text ≤ room - length (line nv w limit s) → length (lines_in nv w limit room (suc n) s).text ≤ room
      go (inr h) more = omega (arith, ap (λ (f : Lines). length f.text) (in_short nv w limit room (suc n) s h))
      go (inl h) more =
          let one : suc n - 1 ≡ n = omega arith in
          let e = ap (λ (f : Lines). length f.text) (in_more nv w limit room (suc n) s h (omega arith) ∙ ap (λ (k : ℕ). after (line nv w limit s) (lines_in nv w limit (room - length (line nv w limit s)) k (next nv w limit s))) one) in
          omega (
            arith,
            e,
            length-append (line nv w limit s) (lines_in nv w limit (room - length (line nv w limit s)) n (next nv w limit s)).text,
            line-length (formula_from nv w limit s).form,
            form-most nv w limit s least,
            more,
          )

pub part_fits : PartFits
part_fits l room long = go (le_or_lt 1 l.left) (le_or_lt 1 l.number) (le_or_lt 1 (load_refusal l.nv l.w l.limit))
  where
    by : {p : Part} → part_of l room ≡ p → length p.text ≤ room → length (part_of l room).text ≤ room
    by e h = omega (arith, ap (λ (p : Part). length p.text) e, h)

    go : (1 ≤ l.left) ⊎ (l.left < 1) → (1 ≤ l.number) ⊎ (l.number < 1) → (1 ≤ load_refusal l.nv l.w l.limit) ⊎ (load_refusal l.nv l.w l.limit < 1) → length (part_of l room).text ≤ room
    go (inr a) b c = by (part_none l room (omega (arith, a))) (omega arith)
    go (inl a) (inl b) c = by (part_told l room a b) (omega (arith, refused-length l.number))
    go (inl a) (inr b) (inl c) = by (part_unfit l room a (omega (arith, b)) c) (omega arith)
    go (inl a) (inr b) (inr c) =
        let z : load_refusal l.nv l.w l.limit ≡ 0 = omega (arith, c) in
        let g = fit l.nv l.w l.limit z in
        by (part_lines l room a (omega (arith, b)) z) (lines_fit l.nv l.w l.limit g.tokens.least g.tokens.most room l.left l.state)
