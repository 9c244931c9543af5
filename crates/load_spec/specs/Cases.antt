-- 02, 2.2 in small cases, worked out by another program from the request's sentences; proofs/Worked has their proofs. Assumes nothing.
use Rattle.std.specs.Prelude.{◌≡◌, List, [], ◌∷◌, ℕ}
use Rattle.row_gates.specs.declared.Gate.TheVariants.{And, Or, Add}
use Rattle.expr.specs.declared.Token.{Token}
use Rattle.expr.specs.declared.Token.TheVariants.{Constant, Variable, Binary, Not, Neg}
use Rattle.load_draw.specs.Draw.{choices, formula_from, load_from}
use Rattle.load_text.specs.Text.{load_text}

-- what is drawn in state s: these tokens, and the state after them
abbrev pub Draws : ℕ → ℕ → ℕ → ℕ → List Token → ℕ → Type 0
Draws nv w limit s form state = formula_from nv w limit s ≡ record { form = form; state = state }

pub record Cases : Type 0 where
  -- the choices of each depth: leaves alone; Not and Neg at the end, and leaves too before it; all; no leaf; gates alone
  pub none : choices 0 0 ≡ 0 ∷ (1 ∷ [])
  pub last : choices 1 0 ≡ 7 ∷ (8 ∷ [])
  pub one : choices 1 1 ≡ 0 ∷ (1 ∷ (7 ∷ (8 ∷ [])))
  pub all : choices 2 2 ≡ 0 ∷ (1 ∷ (2 ∷ (3 ∷ (4 ∷ (5 ∷ (6 ∷ (7 ∷ (8 ∷ []))))))))
  pub narrow : choices 2 1 ≡ 2 ∷ (3 ∷ (4 ∷ (5 ∷ (6 ∷ (7 ∷ (8 ∷ []))))))
  pub gates : choices 2 0 ≡ 2 ∷ (3 ∷ (4 ∷ (5 ∷ (6 ∷ []))))
  -- formulas of the load of seed 1, each from the state that the one before handed on
  pub first : Draws 2 32 7 1 (Variable 0 ∷ (Neg ∷ (Neg ∷ []))) 1663341875487337578
  pub second : Draws 2 32 7 1663341875487337578 (Variable 1 ∷ (Constant 1952540566 ∷ (Binary And ∷ []))) 14727398570297873640
  pub fourth : Draws 2 32 7 9344711191398858086 (Constant 1945068808 ∷ (Not ∷ (Constant 3511979981 ∷ (Binary Or ∷ (Neg ∷ (Neg ∷ [])))))) 1270680123050334755
  pub three : load_from 2 32 7 3 1 ≡ (Variable 0 ∷ (Neg ∷ (Neg ∷ []))) ∷ ((Variable 1 ∷ (Constant 1952540566 ∷ (Binary And ∷ []))) ∷ ((Constant 2430050954 ∷ (Constant 2776189499 ∷ (Binary Add ∷ []))) ∷ []))
  -- a choice of one takes its draw too: the length of a limit of 1, the number of one variable; each state is three draws on
  pub one-variable : Draws 1 8 1 1 (Variable 0 ∷ []) 15755400384260043840
  pub one_token : Draws 1 8 1 0 (Constant 79 ∷ []) 15755400384260043839
  -- a constant of one bit
  pub one_bit : Draws 3 1 3 0 (Constant 1 ∷ (Not ∷ [])) 8709371129873690708
  -- `1 2 32 7 2` as a text, and its two lines; `1 0 99 0 0`: 1 before 2 and 6, also where n is 0; four numbers: 9
  pub lines : load_text (49 ∷ (32 ∷ (50 ∷ (32 ∷ (51 ∷ (50 ∷ (32 ∷ (55 ∷ (32 ∷ (50 ∷ [])))))))))) ≡ 118 ∷ (48 ∷ (32 ∷ (45 ∷ (32 ∷ (45 ∷ (10 ∷ (118 ∷ (49 ∷ (32 ∷ (99 ∷ (49 ∷ (57 ∷ (53 ∷ (50 ∷ (53 ∷ (52 ∷ (48 ∷ (53 ∷ (54 ∷ (54 ∷ (32 ∷ (38 ∷ (10 ∷ [])))))))))))))))))))))))
  pub count-first : load_text (49 ∷ (32 ∷ (48 ∷ (32 ∷ (57 ∷ (57 ∷ (32 ∷ (48 ∷ (32 ∷ (48 ∷ [])))))))))) ≡ 114 ∷ (101 ∷ (102 ∷ (117 ∷ (115 ∷ (101 ∷ (100 ∷ (32 ∷ (49 ∷ (10 ∷ [])))))))))
  pub four_numbers : load_text (49 ∷ (32 ∷ (48 ∷ (32 ∷ (57 ∷ (57 ∷ (32 ∷ (48 ∷ [])))))))) ≡ 114 ∷ (101 ∷ (102 ∷ (117 ∷ (115 ∷ (101 ∷ (100 ∷ (32 ∷ (57 ∷ (10 ∷ [])))))))))
