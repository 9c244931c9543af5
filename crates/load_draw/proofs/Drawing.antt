-- Laws of drawn tokens: one token more, and how long a formula is. Assumes nothing.
use mathlib.Core.Path.{◌≡◌, refl, sym, ap, ap₂, ◌∙◌}
use mathlib.Core.Bool.{true}
use mathlib.Core.List.{List, [], ◌∷◌, ◌++◌, map, map-append, append-nil}
use Prim.Native.Nat.{ℕ, zero, suc, ◌+◌, ◌-◌, ◌%◌, ◌^◌, ◌≤◌, ◌<◌}
use native.Mathlib.Nat.{mod-lt}
use native.Mathlib.Omega.{arith}
use lib.ListN.{length, set, drop, length-map, length-append}
use lib.Seq.{append_snoc}
use Rattle.arrays.specs.Lists.{laid}
use Rattle.arrays.proofs.Fill.{laid_more}
use Rattle.probe_points.specs.declared.Draw.{Draw}
use Rattle.probe_points.specs.Points.{next_state, drawn}
use Rattle.expr.specs.declared.Token.{Token}
use Rattle.expr.specs.Formula.{token_of, arity, opcode_of, operand_of, tokens}
use Rattle.expr.proofs.Tokens.{tokens-back}
use Rattle.load_draw.specs.Draw.{drawn_word, takes, may_pick, picked_by, token_from, state_from, Drawn, onto, rest_from, formula_from, counted}
use Rattle.load_draw.proofs.Picking.{picked_may, picked_below, may-takes, may-rest, can_most}

-- ---- one token
-- the token has the opcode that was picked, and takes what that takes
pub token_opcode : (nv w o s : ℕ) → o < 9 → opcode_of (token_from nv w o s) ≡ o
unfolding token_from token_of
token_opcode nv w zero s h = refl
token_opcode nv w (suc zero) s h = refl
token_opcode nv w (suc (suc zero)) s h = refl
token_opcode nv w (suc (suc (suc zero))) s h = refl
token_opcode nv w (suc (suc (suc (suc zero)))) s h = refl
token_opcode nv w (suc (suc (suc (suc (suc zero))))) s h = refl
token_opcode nv w (suc (suc (suc (suc (suc (suc zero)))))) s h = refl
token_opcode nv w (suc (suc (suc (suc (suc (suc (suc zero))))))) s h = refl
token_opcode nv w (suc (suc (suc (suc (suc (suc (suc (suc zero)))))))) s h = refl
token_opcode nv w (suc (suc (suc (suc (suc (suc (suc (suc (suc o))))))))) s h = absurd (omega arith)

pub token_takes : (nv w o s : ℕ) → arity (token_from nv w o s) ≡ takes o
unfolding token_from token_of arity
token_takes nv w zero s = refl
token_takes nv w (suc zero) s = refl
token_takes nv w (suc (suc o)) s = refl

-- the state after it, and its operand
pub state-constant : (o s : ℕ) → o ≡ 0 → state_from o s ≡ next_state s
unfolding state_from
state-constant o s e = ap (λ (n : ℕ). state_from n s) e

pub state-variable : (o s : ℕ) → o ≡ 1 → state_from o s ≡ next_state s
unfolding state_from
state-variable o s e = ap (λ (n : ℕ). state_from n s) e

pub state_other : (o s : ℕ) → 1 < o → state_from o s ≡ s
unfolding state_from
state_other zero s h = absurd (omega arith)
state_other (suc zero) s h = absurd (omega arith)
state_other (suc (suc o)) s h = refl

pub operand_constant : (nv w o s : ℕ) → o ≡ 0 → operand_of (token_from nv w o s) ≡ drawn_word s % 2 ^ w
unfolding token_from
operand_constant nv w o s e = ap (λ (n : ℕ). operand_of (token_from nv w n s)) e

pub operand_variable : (nv w o s : ℕ) → o ≡ 1 → operand_of (token_from nv w o s) ≡ drawn_word s % nv
unfolding token_from
operand_variable nv w o s e = ap (λ (n : ℕ). operand_of (token_from nv w n s)) e

pub operand_other : (nv w o s : ℕ) → 1 < o → operand_of (token_from nv w o s) ≡ 0
unfolding token_from token_of
operand_other nv w zero s h = absurd (omega arith)
operand_other nv w (suc zero) s h = absurd (omega arith)
operand_other nv w (suc (suc zero)) s h = refl
operand_other nv w (suc (suc (suc zero))) s h = refl
operand_other nv w (suc (suc (suc (suc zero)))) s h = refl
operand_other nv w (suc (suc (suc (suc (suc zero))))) s h = refl
operand_other nv w (suc (suc (suc (suc (suc (suc zero)))))) s h = refl
operand_other nv w (suc (suc (suc (suc (suc (suc (suc zero))))))) s h = refl
operand_other nv w (suc (suc (suc (suc (suc (suc (suc (suc zero)))))))) s h = refl
operand_other nv w (suc (suc (suc (suc (suc (suc (suc (suc (suc o))))))))) s h = refl

-- ---- what is laid
-- one token more: its opcode or operand, in the place after those laid
map-laid-more : (part : Token → ℕ) (done : List Token) (t : Token) (old l : List ℕ) (i v : ℕ) → length done ≡ i → i < length old → v ≡ part t → l ≡ laid (map part done) old
    → set l i v ≡ laid (map part (done ++ (t ∷ []))) old
map-laid-more part done t old l i v e h p q =
    ap₂ (λ (k : List ℕ) (x : ℕ). set k i x) q p
    ∙ laid_more (map part done) old i (part t) (length-map done part ∙ e) h
    ∙ ap (λ (xs : List ℕ). laid xs old) (sym (map-append part done (t ∷ [])))

-- what is laid reads back
pub laid-reads : (ts : List Token) (ops operands : List ℕ) → tokens (length ts) (laid (map opcode_of ts) ops) (laid (map operand_of ts) operands) ≡ ts
laid-reads ts ops operands = tokens-back ts (drop (length (map opcode_of ts)) ops) (drop (length (map operand_of ts)) operands)

-- ---- token after token
-- the first i tokens are laid, and the rest from here on gives what the whole gives
pub record Stage (nv w count state : ℕ) (ops₀ operands₀ ops operands : List ℕ) (s depth i : ℕ) : Type 0 where
  pub done : List Token
  pub many : length done ≡ i
  pub at : i ≤ count
  pub can : depth ≤ count - i + 1
  pub form : (rest_from nv w count 0 state).form ≡ done ++ (rest_from nv w (count - i) depth s).form
  pub last : (rest_from nv w count 0 state).state ≡ (rest_from nv w (count - i) depth s).state
  pub ops-are : ops ≡ laid (map opcode_of done) ops₀
  pub operands-are : operands ≡ laid (map operand_of done) operands₀

module _ (nv w count state : ℕ) (ops₀ operands₀ : List ℕ) where
  pub stage_start : Stage nv w count state ops₀ operands₀ ops₀ operands₀ state 0 0
  stage_start = record {
    done = [];
    many = refl;
    at = omega arith;
    can = omega arith;
    form = ap (λ (n : ℕ). (rest_from nv w n 0 state).form) (omega arith);
    last = ap (λ (n : ℕ). (rest_from nv w n 0 state).state) (omega arith);
    ops-are = refl;
    operands-are = refl;
  }

  module _ (ops operands : List ℕ) (s depth i : ℕ) (g : Stage nv w count state ops₀ operands₀ ops operands s depth i) where
    pub stage_can : i < count → depth ≤ count - i - 1 + 2
    stage_can h = omega (arith, g.can)

    -- the next token, where its opcode is o
    module _ (h : i < count) (o : ℕ) (e : o ≡ picked_by depth (count - i - 1) (drawn_word s)) where
      may : may_pick depth (count - i - 1) (picked_by depth (count - i - 1) (drawn_word s)) ≡ true
      may = picked_may depth (count - i - 1) (drawn_word s) (stage_can h)

      pub stage_below : o < 9
      stage_below = omega (arith, e, picked_below depth (count - i - 1) (drawn_word s) (stage_can h))

      pub stage_takes : takes o ≤ depth
      stage_takes = rw e (may-takes depth (count - i - 1) (picked_by depth (count - i - 1) (drawn_word s)) may)

      abbrev t : Token
      t = token_from nv w o (next_state s)

      abbrev rest : Drawn
      rest = rest_from nv w (count - (i + 1)) (depth - takes o + 1) (state_from o (next_state s))

      more : rest_from nv w (count - i) depth s ≡ onto t rest
      unfolding rest_from
      more =
          let r : ℕ = count - (i + 1) in
          let same : picked_by depth r (drawn_word s) ≡ o = ap (λ (n : ℕ). picked_by depth n (drawn_word s)) (omega arith) ∙ sym e in
          let left : count - i ≡ suc (count - (i + 1)) = omega arith in
          ap (λ (n : ℕ). rest_from nv w n depth s) left
          ∙ ap (λ (x : ℕ). onto (token_from nv w x (next_state s)) (rest_from nv w r (depth - takes x + 1) (state_from x (next_state s)))) same

      pub stage_next : (s' depth' : ℕ) (operands' : List ℕ) → s' ≡ state_from o (next_state s) → depth' ≡ depth - takes o + 1 → operands' ≡ set operands i (operand_of t)
          → i < length ops₀ → i < length operands₀ → Stage nv w count state ops₀ operands₀ (set ops i o) operands' s' depth' (i + 1)
      stage_next s' depth' operands' p q v fits fits' = record {
        done = g.done ++ (t ∷ []);
        many = length-append g.done (t ∷ []) ∙ ap (λ (n : ℕ). n + 1) g.many;
        at = omega arith;
        can = omega (arith, q, can_most (depth - takes o + 1) (count - i - 1) (rw e (may-rest depth (count - i - 1) (picked_by depth (count - i - 1) (drawn_word s)) may)));
        form = g.form
            ∙ ap (λ (d : Drawn). g.done ++ d.form) more
            ∙ sym (append_snoc g.done t rest.form)
            ∙ ap₂ (λ (n k : ℕ). (g.done ++ (t ∷ [])) ++ (rest_from nv w (count - (i + 1)) n k).form) (sym q) (sym p);
        last = g.last
            ∙ ap (λ (d : Drawn). d.state) more
            ∙ ap₂ (λ (n k : ℕ). (rest_from nv w (count - (i + 1)) n k).state) (sym q) (sym p);
        ops-are = map-laid-more opcode_of g.done t ops₀ ops i o g.many fits (sym (token_opcode nv w o (next_state s) stage_below)) g.ops-are;
        operands-are = v ∙ map-laid-more operand_of g.done t operands₀ operands i (operand_of t) g.many fits' refl g.operands-are;
      }

    -- at the end all are laid
    module _ (h : count ≤ i) where
      none_left : rest_from nv w (count - i) depth s ≡ record { form = []; state = s }
      unfolding rest_from
      none_left = let z : count - i ≡ 0 = omega arith in ap (λ (n : ℕ). rest_from nv w n depth s) z

      all : (rest_from nv w count 0 state).form ≡ g.done
      all = g.form ∙ ap (λ (d : Drawn). g.done ++ d.form) none_left ∙ append-nil g.done

      pub stage_state : s ≡ (rest_from nv w count 0 state).state
      stage_state = sym (g.last ∙ ap (λ (d : Drawn). d.state) none_left)

      pub stage_ops : ops ≡ laid (map opcode_of (rest_from nv w count 0 state).form) ops₀
      stage_ops = g.ops-are ∙ ap (λ (ts : List Token). laid (map opcode_of ts) ops₀) (sym all)

      pub stage_operands : operands ≡ laid (map operand_of (rest_from nv w count 0 state).form) operands₀
      stage_operands = g.operands-are ∙ ap (λ (ts : List Token). laid (map operand_of ts) operands₀) (sym all)

-- ---- how long a formula is
pub rest-length : (nv w n d s : ℕ) → length (rest_from nv w n d s).form ≡ n
unfolding rest_from
rest-length nv w zero d s = refl
rest-length nv w (suc r) d s =
    let o : ℕ = picked_by d r (drawn_word s) in ap suc (rest-length nv w r (d - takes o + 1) (state_from o (next_state s)))

pub form-length : (nv w limit s : ℕ) → length (formula_from nv w limit s).form ≡ 1 + drawn_word s % limit
unfolding formula_from
form-length nv w limit s = rest-length nv w (1 + drawn_word s % limit) 0 (next_state s)

pub form-most : (nv w limit s : ℕ) → 1 ≤ limit → length (formula_from nv w limit s).form ≤ limit
form-most nv w limit s h = omega (arith, form-length nv w limit s, mod-lt (drawn_word s) h)

-- ---- the whole formula, and the answer
pub whole : (nv w limit s : ℕ) (x : Draw) → x ≡ drawn s → rest_from nv w (1 + x.word % limit) 0 x.state ≡ formula_from nv w limit s
unfolding formula_from
whole nv w limit s x e = ap (λ (y : Draw). rest_from nv w (1 + y.word % limit) 0 y.state) e

pub drew : (nv w limit s count last : ℕ) → count ≡ length (formula_from nv w limit s).form → last ≡ (formula_from nv w limit s).state
    → record { count = count; state = last } ≡ counted (formula_from nv w limit s)
drew nv w limit s count last p q = λ i. record { count = p i; state = q i }
