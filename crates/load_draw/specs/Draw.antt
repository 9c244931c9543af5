-- One formula of a test load, drawn with splitmix64. Assumes nothing.
use Rattle.std.specs.Prelude.{Bool, not, ◌&&◌, List, [], ◌∷◌, map, ℕ, zero, suc, ◌+◌, ◌-◌, ◌%◌, ◌^◌, leb, length, get_or}
use Rattle.arrays.specs.Lists.{count_up, keep, laid}
use Rattle.limits.specs.Refusal.{refuse, unless_refused, Outcome, outcome, outside_of, bad_count, bad_width}
use Rattle.probe_points.specs.Points.{next_state, word_of}
use Rattle.expr.specs.declared.Token.{Token}
use Rattle.expr.specs.declared.Token.TheVariants.{Constant, Variable}
use Rattle.expr.specs.Formula.{token_of, arity, opcode_of, operand_of}
use Rattle.expr.specs.Answers.{too_short}
use Rattle.load_draw.specs.declared.DrawnFormula.{DrawnFormula}

-- 02, 2.2: with splitmix64, one draw for each choice. The word that a draw in state s gives; the state after it is `next_state s`
abbrev pub drawn_word : ℕ → ℕ
drawn_word s = word_of (next_state s)

-- ---- which opcodes may come next
-- how many values the token of an opcode takes
abbrev pub takes : ℕ → ℕ
takes o = arity (token_of o 0)

-- 02, 2.2: the rest of the length, r tokens, can still leave exactly one value of d: each token makes it one value more or less at most (exactly if some r tokens do: load_spec specs/Formulas)
unfoldable pub can_leave_one : ℕ → ℕ → Bool
can_leave_one d r = leb (1 - d) r && leb (d - 1) r

-- 02, 2.2: the opcodes after which it can, with d values before the token and r tokens after it; one whose operands are missing is none of them
unfoldable pub may_pick : ℕ → ℕ → ℕ → Bool
unfolding can_leave_one arity token_of
may_pick d r o = leb (takes o) d && can_leave_one (d - takes o + 1) r

-- 02, 2.2: the m opcodes, in number order
unfoldable pub choices : ℕ → ℕ → List ℕ
unfolding may_pick keep count_up
choices d r = keep (may_pick d r) (count_up 0 9)

-- 02, 2.2: a draw modulo m picks among them
unfoldable pub picked_by : ℕ → ℕ → ℕ → ℕ
unfolding choices
picked_by d r word = get_or (choices d r) (word % length (choices d r)) 0

-- ---- tokens
-- 02, 2.2: a constant then draws its word, reduced, and a variable its number, modulo the variable count. The token of opcode o, in state s after the opcode's draw
unfoldable pub token_from : ℕ → ℕ → ℕ → ℕ → Token
unfolding word_of next_state token_of
token_from nv w zero s = Constant (drawn_word s % 2 ^ w)
token_from nv w (suc zero) s = Variable (drawn_word s % nv)
token_from nv w (suc (suc o)) s = token_of (suc (suc o)) 0

-- the state after the token
unfoldable pub state_from : ℕ → ℕ → ℕ
unfolding next_state
state_from zero s = next_state s
state_from (suc zero) s = next_state s
state_from (suc (suc o)) s = s

-- tokens, and the state after them
pub record Drawn : Type 0 where
  pub form : List Token
  pub state : ℕ

-- a token before them
abbrev pub onto : Token → Drawn → Drawn
onto t d = record { form = t ∷ d.form; state = d.state }

-- 02, 2.2: then, left to right. The last n tokens of a formula, with d values before them
unfoldable pub rest_from : ℕ → ℕ → ℕ → ℕ → ℕ → Drawn
unfolding picked_by token_from state_from
rest_from nv w zero d s = record { form = []; state = s }
rest_from nv w (suc r) d s =
    let o : ℕ = picked_by d r (drawn_word s) in
    onto (token_from nv w o (next_state s)) (rest_from nv w r (d - takes o + 1) (state_from o (next_state s)))

-- 02, 2.2: a length is 1 plus a draw modulo the limit
unfoldable pub formula_from : ℕ → ℕ → ℕ → ℕ → Drawn
unfolding rest_from
formula_from nv w limit s = rest_from nv w (1 + drawn_word s % limit) 0 (next_state s)

-- 02, 2.2: the state runs on from formula to formula. A load of n
unfoldable pub load_from : ℕ → ℕ → ℕ → ℕ → ℕ → List (List Token)
unfolding formula_from
load_from nv w limit zero s = []
load_from nv w limit (suc n) s = (formula_from nv w limit s).form ∷ load_from nv w limit n (formula_from nv w limit s).state

-- the state after it
unfoldable pub load_state : ℕ → ℕ → ℕ → ℕ → ℕ → ℕ
unfolding formula_from
load_state nv w limit zero s = s
load_state nv w limit (suc n) s = load_state nv w limit n (formula_from nv w limit s).state

-- ---- the call
-- 02, 2.2, Errors: 6 if the token limit isn't 1 to 64
abbrev pub bad_limit : ℕ → Bool
bad_limit limit = outside_of 1 64 limit

-- 02, 2.2, Errors, after 01's 1 and 2: 4 if a token array has fewer places than a limit of 1 to 64; 6
unfoldable pub draw_refusal : ℕ → ℕ → ℕ → List ℕ → List ℕ → ℕ
draw_refusal nv w limit ops operands =
    refuse (bad_count nv) 1
    (refuse (bad_width w) 2
    (refuse (not (bad_limit limit) && too_short limit ops operands) 4
    (refuse (bad_limit limit) 6 0)))

-- the answer of a formula that was drawn: how many tokens it has, and the state handed on
abbrev pub counted : Drawn → DrawnFormula
counted d = record { count = length d.form; state = d.state }

-- what stands in an array of opcodes or of operands: refused, what it held
abbrev pub laid_or : ℕ → (Token → ℕ) → Drawn → List ℕ → List ℕ
laid_or number part d old = unless_refused number (laid (map part d.form) old) old

-- a call's answer, and what it leaves in the arrays
pub record Called : Type 0 where
  pub answer : Outcome DrawnFormula
  pub ops : List ℕ
  pub operands : List ℕ

abbrev pub called : ℕ → ℕ → ℕ → ℕ → List ℕ → List ℕ → Called
called s nv w limit ops operands = record {
  answer = outcome (draw_refusal nv w limit ops operands) (counted (formula_from nv w limit s));
  ops = laid_or (draw_refusal nv w limit ops operands) opcode_of (formula_from nv w limit s) ops;
  operands = laid_or (draw_refusal nv w limit ops operands) operand_of (formula_from nv w limit s) operands;
}
