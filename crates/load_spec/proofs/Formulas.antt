-- The statements of specs/Formulas. Assumes nothing.
use mathlib.Core.Path.{◌≡◌, refl, sym, ap, ◌∙◌, subst}
use mathlib.Core.Bool.{true}
use mathlib.Core.Logic.{◌⊎◌, inl, inr}
use mathlib.Core.List.{List, [], ◌∷◌}
use Prim.Native.Nat.{ℕ, zero, suc, ◌+◌, ◌-◌, ◌%◌, ◌^◌, ◌≤◌, ◌<◌}
use native.Mathlib.Nat.{mod-lt}
use native.Mathlib.Omega.{arith}
use borrow.Author.Tests.{lt-ltb, le-leb}
use lib.ListN.{length, get_or}
use lib.Pow.{pow_pos}
use Rattle.arrays.specs.Lists.{count_up, In}
use Rattle.arrays.proofs.Lists.{in_at, in_up, up_in, keep_in, in_keep}
use Rattle.limits.proofs.Refusals.{within, inside, and_both}
use Rattle.probe_points.specs.Points.{next_state, state_after}
use Rattle.expr.specs.declared.Token.{Token}
use Rattle.expr.specs.declared.Token.TheVariants.{Constant, Variable, Binary, Not, Neg, Bad}
use Rattle.expr.specs.Formula.{token_of, arity, opcode_of, operand_of, known}
use Rattle.expr.proofs.Machine.{passes, passes_ok, passes_end, formula_inside}
use Rattle.load_draw.specs.Draw.{drawn_word, takes, can_leave_one, may_pick, choices, picked_by, token_from, state_from, rest_from, formula_from}
use Rattle.load_draw.proofs.Picking.{can_yes, can_least, can_most, may-takes, may-rest, some_choice, picked_may, picked_below}
use Rattle.load_draw.proofs.Drawing.{token_opcode, token_takes, form-length, form-most}
use Rattle.load_spec.specs.Formulas.{Ending, CanLeaveExactly, ChoicesExactly, ChoiceExactly, EveryFormulaPasses, LengthDrawn, ConstantsReduced, leaves, OneDrawForEachChoice}
use Rattle.load_spec.proofs.Machine.{to-leaves, from-leaves, arity-most, Proper, proper, First, first, onto-leaves, leaves_can, tail}

-- ---- which opcodes may be picked
pub can_leave_exactly : CanLeaveExactly
can_leave_exactly d r = record {
  does = λ h nv. let t = tail nv r d h in record { rest = t.rest; many = t.many; all = t.all; one = from-leaves t.rest d t.one };
  only = λ rest many e. subst (λ (n : ℕ). can_leave_one d n ≡ true) many (leaves_can rest d (to-leaves rest d e));
}

pub choices_exactly : ChoicesExactly
unfolding choices may_pick
choices_exactly d r t = record {
  does = λ i nv. go (proper t) (keep_in (may_pick d r) (count_up 0 9) (opcode_of t) i) nv;
  only = λ rest many e. let f = first t rest d (to-leaves (t ∷ rest) d e) in
      in_keep (may_pick d r) (count_up 0 9) (opcode_of t) (up_in 9 (opcode_of t) f.good.below) (may f (subst (λ (n : ℕ). can_leave_one (d - arity t + 1) n ≡ true) many (leaves_can rest (d - arity t + 1) f.rest)));
}
  where
    go : (t ≡ Bad) ⊎ Proper t → In (opcode_of t) (count_up 0 9) × (may_pick d r (opcode_of t) ≡ true) → (nv : ℕ) → Ending nv (t ∷ []) d r
    go (inl b) i nv = absurd (omega (arith, in_up 9 (opcode_of t) i.0, ap opcode_of b))
    go (inr p) i nv =
        let enough : arity t ≤ d = omega (arith, p.same, may-takes d r (opcode_of t) i.1) in
        let can = subst (λ (n : ℕ). can_leave_one (d - n + 1) r ≡ true) p.same (may-rest d r (opcode_of t) i.1) in
        let x = tail nv r (d - arity t + 1) can in
        record { rest = x.rest; many = x.many; all = x.all; one = from-leaves (t ∷ x.rest) d (onto-leaves t x.rest d p enough x.one) }

    may : {rest : List Token} → First t rest d → can_leave_one (d - arity t + 1) r ≡ true → may_pick d r (opcode_of t) ≡ true
    may f can = and_both (le-leb (takes (opcode_of t)) d (omega (arith, f.good.same, f.enough))) (subst (λ (n : ℕ). can_leave_one (d - n + 1) r ≡ true) (sym f.good.same) can)

pub choice_exactly : ChoiceExactly
unfolding choices
choice_exactly d r = record {
  does = λ h. some_choice d r (omega (arith, can_most d (suc r) h));
  only = λ h. let o = get_or (choices d r) 0 0 in let may = (keep_in (may_pick d r) (count_up 0 9) o (in_at 0 (choices d r) 0 h)).1 in
      can_yes d (suc r) (omega arith) (omega (arith, may-takes d r o may, can_most (d - takes o + 1) r (may-rest d r o may), arity-most (token_of o 0)));
}

-- ---- what is drawn
-- a token that is drawn may stand in a formula
token_known : (nv w o s : ℕ) → 0 < nv → o < 9 → known nv (token_from nv w o s) ≡ true
unfolding known token_from token_of
token_known nv w zero s p h = refl
token_known nv w (suc zero) s p h = lt-ltb (drawn_word s % nv) nv (mod-lt (drawn_word s) p)
token_known nv w (suc (suc zero)) s p h = refl
token_known nv w (suc (suc (suc zero))) s p h = refl
token_known nv w (suc (suc (suc (suc zero)))) s p h = refl
token_known nv w (suc (suc (suc (suc (suc zero))))) s p h = refl
token_known nv w (suc (suc (suc (suc (suc (suc zero)))))) s p h = refl
token_known nv w (suc (suc (suc (suc (suc (suc (suc zero))))))) s p h = refl
token_known nv w (suc (suc (suc (suc (suc (suc (suc (suc zero)))))))) s p h = refl
token_known nv w (suc (suc (suc (suc (suc (suc (suc (suc (suc o))))))))) s p h = absurd (omega arith)

-- the last n tokens pass, where they can leave one value
rest-passes : (nv w n d s : ℕ) → 0 < nv → can_leave_one d n ≡ true → passes nv (rest_from nv w n d s).form d ≡ true
unfolding rest_from
rest-passes nv w zero d s p h =
    let e : d ≡ 1 = omega (arith, can_least d 0 h, can_most d 0 h) in ap (λ (k : ℕ). passes nv [] k) e ∙ sym (passes_end nv 1)
rest-passes nv w (suc r) d s p h =
    let o = picked_by d r (drawn_word s) in
    let t = token_from nv w o (next_state s) in
    let few : d ≤ r + 2 = omega (arith, can_most d (suc r) h) in
    let may = picked_may d r (drawn_word s) few in
    let same = token_takes nv w o (next_state s) in
    passes_ok nv t (rest_from nv w r (d - takes o + 1) (state_from o (next_state s))).form d (token_known nv w o (next_state s) p (picked_below d r (drawn_word s) few)) (omega (arith, same, may-takes d r o may))
    ∙ ap (λ (k : ℕ). passes nv (rest_from nv w r (d - takes o + 1) (state_from o (next_state s))).form (d - k + 1)) same
    ∙ rest-passes nv w r (d - takes o + 1) (state_from o (next_state s)) p (may-rest d r o may)

pub every-formula-passes : EveryFormulaPasses
unfolding formula_from
every-formula-passes nv w limit s a b =
    let n = within 1 6 nv a in
    let l = within 1 64 limit b in
    let most = form-most nv w limit s l.least in
    sym (formula_inside nv (formula_from nv w limit s).form (inside 1 64 (length (formula_from nv w limit s).form) (omega (arith, form-length nv w limit s)) (omega (arith, most, l.most))))
    ∙ rest-passes nv w (1 + drawn_word s % limit) 0 (next_state s) n.least (can_yes 0 (1 + drawn_word s % limit) (omega arith) (omega arith))

pub length-drawn : LengthDrawn
length-drawn nv w limit s = form-length nv w limit s

-- a constant that is drawn is below 2^w
constant-below : (nv w o s k : ℕ) → o < 9 → Constant k ≡ token_from nv w o s → k < 2 ^ w
unfolding token_from
constant-below nv w zero s k h e = omega (arith, ap operand_of e, mod-lt (drawn_word s) (pow_pos w))
constant-below nv w (suc o) s k h e = absurd (omega (arith, ap opcode_of e, token_opcode nv w (suc o) s h))

rest-reduced : (nv w n d s k : ℕ) → d ≤ n + 1 → In (Constant k) (rest_from nv w n d s).form → k < 2 ^ w
unfolding rest_from
rest-reduced nv w zero d s k few i = absurd i
rest-reduced nv w (suc r) d s k few i = go i (λ j. rest-reduced nv w r (d - takes o + 1) (state_from o (next_state s)) k (can_most (d - takes o + 1) r (may-rest d r o may)) j)
  where
    o : ℕ
    o = picked_by d r (drawn_word s)

    may : may_pick d r o ≡ true
    may = picked_may d r (drawn_word s) (omega arith)

    go : In (Constant k) (rest_from nv w (suc r) d s).form → (In (Constant k) (rest_from nv w r (d - takes o + 1) (state_from o (next_state s))).form → k < 2 ^ w) → k < 2 ^ w
    go (inl e) more = constant-below nv w o (next_state s) k (picked_below d r (drawn_word s) (omega arith)) e
    go (inr j) more = more j

pub constants-reduced : ConstantsReduced
unfolding formula_from
constants-reduced nv w limit s k i = rest-reduced nv w (1 + drawn_word s % limit) 0 (next_state s) k (omega arith) i

-- ---- how many draws
once : (n s : ℕ) → next_state s ≡ state_after (suc n - n) s
unfolding state_after
once n s = let e : 1 ≡ suc n - n = omega arith in ap (λ (k : ℕ). state_after k s) e

never : (n s : ℕ) → s ≡ state_after (n - n) s
unfolding state_after
never n s = let e : 0 ≡ n - n = omega arith in ap (λ (k : ℕ). state_after k s) e

-- after the opcode a leaf draws once more, any other token not
token_draws : (nv w o s : ℕ) (ts : List Token) → state_from o s ≡ state_after (leaves (token_from nv w o s ∷ ts) - leaves ts) s
unfolding state_from token_from token_of leaves state_after
token_draws nv w zero s ts = once (leaves ts) s
token_draws nv w (suc zero) s ts = once (leaves ts) s
token_draws nv w (suc (suc zero)) s ts = never (leaves ts) s
token_draws nv w (suc (suc (suc zero))) s ts = never (leaves ts) s
token_draws nv w (suc (suc (suc (suc zero)))) s ts = never (leaves ts) s
token_draws nv w (suc (suc (suc (suc (suc zero))))) s ts = never (leaves ts) s
token_draws nv w (suc (suc (suc (suc (suc (suc zero)))))) s ts = never (leaves ts) s
token_draws nv w (suc (suc (suc (suc (suc (suc (suc zero))))))) s ts = never (leaves ts) s
token_draws nv w (suc (suc (suc (suc (suc (suc (suc (suc zero)))))))) s ts = never (leaves ts) s
token_draws nv w (suc (suc (suc (suc (suc (suc (suc (suc (suc o))))))))) s ts = never (leaves ts) s

leaves-least : (t : Token) (ts : List Token) → leaves ts ≤ leaves (t ∷ ts)
unfolding leaves
leaves-least (Constant k) ts = omega arith
leaves-least (Variable i) ts = omega arith
leaves-least (Binary g) ts = omega arith
leaves-least Not ts = omega arith
leaves-least Neg ts = omega arith
leaves-least Bad ts = omega arith

after-add : (n m s : ℕ) → state_after n (state_after m s) ≡ state_after (m + n) s
unfolding state_after
after-add n zero s = let e : n ≡ zero + n = omega arith in ap (λ (k : ℕ). state_after k s) e
after-add n (suc m) s = let e : suc (m + n) ≡ suc m + n = omega arith in after-add n m (next_state s) ∙ ap (λ (k : ℕ). state_after k s) e

rest_draws : (nv w n d s : ℕ) → (rest_from nv w n d s).state ≡ state_after (n + leaves (rest_from nv w n d s).form) s
unfolding rest_from leaves state_after
rest_draws nv w zero d s = let e : 0 ≡ zero + 0 = omega arith in ap (λ (k : ℕ). state_after k s) e
rest_draws nv w (suc r) d s =
    let o = picked_by d r (drawn_word s) in
    let t = token_from nv w o (next_state s) in
    let ts = (rest_from nv w r (d - takes o + 1) (state_from o (next_state s))).form in
    let all : suc (leaves (t ∷ ts) - leaves ts + (r + leaves ts)) ≡ suc r + leaves (t ∷ ts) = omega (arith, leaves-least t ts) in
    rest_draws nv w r (d - takes o + 1) (state_from o (next_state s))
    ∙ ap (state_after (r + leaves ts)) (token_draws nv w o (next_state s) ts)
    ∙ after-add (r + leaves ts) (leaves (t ∷ ts) - leaves ts) (next_state s)
    ∙ ap (λ (k : ℕ). state_after k s) all

pub one_draw_for_each_choice : OneDrawForEachChoice
unfolding formula_from state_after
one_draw_for_each_choice nv w limit s =
    let ts : List Token = (formula_from nv w limit s).form in
    let one : suc (length ts + leaves ts) ≡ 1 + (length ts + leaves ts) = omega arith in
    rest_draws nv w (1 + drawn_word s % limit) 0 (next_state s)
    ∙ ap (λ (k : ℕ). state_after (k + leaves (formula_from nv w limit s).form) (next_state s)) (sym (form-length nv w limit s))
    ∙ ap (λ (k : ℕ). state_after k s) one
