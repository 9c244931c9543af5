-- Laws of a load's lines: one line more, and line after line into a buffer. Assumes nothing.
use mathlib.Core.Path.{◌≡◌, refl, sym, ap, ap₂, ◌∙◌, subst}
use mathlib.Core.Bool.{Bool, cond}
use mathlib.Core.Logic.{◌⊎◌, inl, inr}
use mathlib.Core.List.{List, [], ◌++◌, map, flat_map, append_assoc, append-nil}
use Prim.Native.Nat.{ℕ, zero, suc, ◌+◌, ◌-◌, ◌≤◌, ◌<◌}
use native.Mathlib.Omega.{arith}
use borrow.Author.Tests.{lt-ltb, le-ltb}
use lib.ListN.{length}
use Rattle.limits.proofs.Refusals.{le_or_lt}
use Rattle.expr.specs.declared.Token.{Token}
use Rattle.expr.specs.Formula.{opcode_of, operand_of, tokens}
use Rattle.text_print.specs.Text.{formula_line}
use Rattle.text_print.specs.Printing.{Wrote}
use Rattle.text_print.proofs.Decimals.{then, nothing, reads, wrote-length}
use Rattle.arrays.specs.Lists.{laid}
use Rattle.load_draw.specs.Draw.{Drawn, formula_from, load_from}
use Rattle.load_draw.specs.Steps.{Ready}
use Rattle.load_draw.proofs.Drawing.{laid-reads}
use Rattle.load_text.specs.declared.Load.{Load}
use Rattle.load_text.specs.declared.LoadPart.{LoadPart}
use Rattle.load_text.specs.Text.{lines_from}
use Rattle.load_text.specs.Writing.{line_max, further, Lines, after, lines_in}
use Rattle.load_text.specs.Steps.{WroteLines}

-- ---- all lines
pub lines_none : (nv w limit s : ℕ) → lines_from nv w limit 0 s ≡ []
unfolding lines_from load_from flat_map
lines_none nv w limit s = refl

pub lines_more : (nv w limit n s : ℕ) → lines_from nv w limit (suc n) s ≡ formula_line (formula_from nv w limit s).form ++ lines_from nv w limit n (formula_from nv w limit s).state
unfolding lines_from load_from flat_map
lines_more nv w limit n s = refl

-- the line of what was drawn into arrays
pub line-is : (ts : List Token) (count : ℕ) (ops operands ops' operands' : List ℕ) → count ≡ length ts → ops' ≡ laid (map opcode_of ts) ops → operands' ≡ laid (map operand_of ts) operands
    → formula_line (tokens count ops' operands') ≡ formula_line ts
line-is ts count ops operands ops' operands' n p q =
    ap (λ (k : ℕ). formula_line (tokens k ops' operands')) n
    ∙ ap₂ (λ (a b : List ℕ). formula_line (tokens (length ts) a b)) p q
    ∙ ap formula_line (laid-reads ts ops operands)

-- ---- the lines that there is room for
module _ (nv w limit : ℕ) where
  abbrev line : ℕ → List ℕ
  line s = formula_line (formula_from nv w limit s).form

  -- no line is left, or no room
  pub in_none : (room n s : ℕ) → n ≡ 0 → lines_in nv w limit room n s ≡ record { text = []; left = n; state = s }
  unfolding lines_in
  in_none room zero s e = refl
  in_none room (suc n) s e = absurd (omega (arith, e))

  pub in_short : (room n s : ℕ) → room < line_max → lines_in nv w limit room n s ≡ record { text = []; left = n; state = s }
  unfolding lines_in
  in_short room zero s h = refl
  in_short room (suc n) s h =
      ap (λ (b : Bool). cond b (record { text = []; left = suc n; state = s }) (after (line s) (lines_in nv w limit (room - length (line s)) n (formula_from nv w limit s).state))) (lt-ltb room line_max h)

  -- one more
  pub in_more : (room n s : ℕ) → line_max ≤ room → 0 < n → lines_in nv w limit room n s ≡ after (line s) (lines_in nv w limit (room - length (line s)) (n - 1) (formula_from nv w limit s).state)
  unfolding lines_in
  in_more room zero s h some = absurd (omega (arith, some))
  in_more room (suc n) s h some =
      let e : n ≡ suc n - 1 = omega arith in
      ap (λ (b : Bool). cond b (record { text = []; left = suc n; state = s }) (after (line s) (lines_in nv w limit (room - length (line s)) n (formula_from nv w limit s).state))) (le-ltb room line_max h)
      ∙ ap (λ (k : ℕ). after (line s) (lines_in nv w limit (room - length (line s)) k (formula_from nv w limit s).state)) e

  after-after : (xs ys : List ℕ) (f : Lines) → after xs (after ys f) ≡ after (xs ++ ys) f
  after-after xs ys f = ap (λ (l : List ℕ). record { text = l; left = f.left; state = f.state }) (sym (append_assoc xs ys f.text))

-- ---- line after line
-- the lines for which there is room are those in the buffer up to place p, and then those for which there still is
pub record Going (l : Load) (out₀ out ops operands : List ℕ) (state left p : ℕ) : Type 0 where
  pub long : length out ≡ length out₀
  pub at : p ≤ length out₀
  pub ready : Ready l.nv l.w l.limit ops operands
  pub part : List ℕ
  pub wrote : Wrote out₀ 0 out p part
  pub fill : lines_in l.nv l.w l.limit (length out₀) l.left l.state ≡ after part (lines_in l.nv l.w l.limit (length out₀ - p) left state)

module _ (l : Load) (out₀ : List ℕ) where
  pub going_start : (ops operands : List ℕ) → Ready l.nv l.w l.limit ops operands → Going l out₀ out₀ ops operands l.state l.left 0
  going_start ops operands g = record {
    long = refl;
    at = omega arith;
    ready = g;
    part = [];
    wrote = nothing;
    fill = ap (λ (k : ℕ). lines_in l.nv l.w l.limit k l.left l.state) (omega arith);
  }

  module _ (out ops operands : List ℕ) (state left p : ℕ) (g : Going l out₀ out ops operands state left p) where
    abbrev d : Drawn
    d = formula_from l.nv l.w l.limit state

    -- one line more
    pub going_next : (out' ops' operands' : List ℕ) (state' next : ℕ) → p + line_max ≤ length out₀ → 0 < left
        → Wrote out p out' next (formula_line d.form) → next ≤ p + line_max → state' ≡ d.state → Ready l.nv l.w l.limit ops' operands'
        → Going l out₀ out' ops' operands' state' (left - 1) next
    going_next out' ops' operands' state' next room some wrote few e ready = record {
      long = wrote-length wrote ∙ g.long;
      at = omega (arith, room, few);
      ready = ready;
      part = g.part ++ formula_line d.form;
      wrote = then g.wrote wrote;
      fill = g.fill
          ∙ ap (after g.part) (in_more l.nv l.w l.limit (length out₀ - p) left state (omega (arith, room)) some)
          ∙ after-after l.nv l.w l.limit g.part (formula_line d.form) _
          ∙ ap₂ (λ (k s : ℕ). after (g.part ++ formula_line d.form) (lines_in l.nv l.w l.limit k (left - 1) s)) less (sym e);
    }
      where
        less : length out₀ - p - length (formula_line d.form) ≡ length out₀ - next
        less = omega (arith, wrote.next)

    -- at the end, where no line is left or no room
    module _ (r : LoadPart) (is : r ≡ record { length = p; load = further l left state }) where
      ended : lines_in l.nv l.w l.limit (length out₀ - p) left state ≡ record { text = []; left = left; state = state } → WroteLines l out₀ out r
      ended e = subst (WroteLines l out₀ out) (sym is) (record {
        wrote = reads (sym (ap (λ (f : Lines). f.text) all)) g.wrote;
        load = ap (λ (f : Lines). further l f.left f.state) (sym all);
      })
        where
          all : lines_in l.nv l.w l.limit (length out₀) l.left l.state ≡ record { text = g.part; left = left; state = state }
          all = g.fill ∙ ap (after g.part) e ∙ ap (λ (t : List ℕ). record { text = t; left = left; state = state }) (append-nil g.part)

      pub going_done : left ≡ 0 → WroteLines l out₀ out r
      going_done z = ended (in_none l.nv l.w l.limit (length out₀ - p) left state z)

      pub going_full : length out₀ < p + line_max → WroteLines l out₀ out r
      going_full h = ended (in_short l.nv l.w l.limit (length out₀ - p) left state (omega (arith, h, g.at)))

-- ---- lines get fewer
module _ (nv w limit : ℕ) where
  pub in_least : (room n s : ℕ) → (lines_in nv w limit room n s).left ≤ n
  in_least room zero s = omega (arith, ap (λ (f : Lines). f.left) (in_none nv w limit room 0 s refl))
  in_least room (suc n) s = go (le_or_lt line_max room) (in_least (room - length (line nv w limit s)) n (formula_from nv w limit s).state)
    where
      go : (line_max ≤ room) ⊎ (room < line_max) → (lines_in nv w limit (room - length (line nv w limit s)) n (formula_from nv w limit s).state).left ≤ n → (lines_in nv w limit room (suc n) s).left ≤ suc n
      go (inl h) k =
          let n' : suc n - 1 ≡ n = omega arith in
          let e = ap (λ (f : Lines). f.left) (in_more nv w limit room (suc n) s h (omega arith)) in
          omega (arith, e, ap (λ (m : ℕ). (lines_in nv w limit (room - length (line nv w limit s)) m (formula_from nv w limit s).state).left) n', k)
      go (inr h) k = omega (arith, ap (λ (f : Lines). f.left) (in_short nv w limit room (suc n) s h))

  -- where there is room for one, by one at least
  pub in_fewer : (room n s : ℕ) → line_max ≤ room → 0 < n → (lines_in nv w limit room n s).left < n
  in_fewer room n s h some =
      omega (arith, ap (λ (f : Lines). f.left) (in_more nv w limit room n s h some), in_least (room - length (line nv w limit s)) (n - 1) (formula_from nv w limit s).state)
