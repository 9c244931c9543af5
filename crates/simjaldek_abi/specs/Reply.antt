-- The answers of the calls as structs of numbers, for callers through the C interface. Assumes nothing.
use Rattle.std.specs.Prelude.{Bool, true, false, not, cond, List, map, ℕ, eqb, replicate}
use Rattle.std.proofs.Math.Option.{Option, none, some}
use Rattle.limits.specs.Refusal.{unless_refused, Outcome, refused, answer}
use Rattle.row_gates.specs.declared.Gate.{Gate}
use Rattle.row_gates.specs.Gates.{gate_number, applied, residual}
use Rattle.expr.specs.declared.Token.{Token}
use Rattle.expr.specs.Formula.{opcode_of, operand_of}
use Rattle.expr_cost.specs.declared.Cost.{Cost}
use Rattle.probe_points.specs.declared.Draw.{Draw}
use Rattle.probe_points.specs.declared.Point.{Point}
use Rattle.probe_points.specs.declared.Points.{Points}
use Rattle.load_draw.specs.declared.DrawnFormula.{DrawnFormula}
use Rattle.rule_run.specs.Window.{Reply as RuleReplied}
use Rattle.log_run.specs.declared.Log.{Log}
use Rattle.log_run.specs.Step.{Reply as LogReplied}
use Rattle.search_product_trial.specs.Trying.{Product}
use Rattle.search_residual_trial.specs.Trying.{Completion}
use Rattle.index.specs.declared.BuiltIndex.{BuiltIndex}
use Rattle.simjaldek_abi.specs.declared.Reply.{Reply}
use Rattle.simjaldek_abi.specs.declared.ResidualReply.{ResidualReply}
use Rattle.simjaldek_abi.specs.declared.WordReply.{WordReply}
use Rattle.simjaldek_abi.specs.declared.CostReply.{CostReply}
use Rattle.simjaldek_abi.specs.declared.RowReply.{RowReply}
use Rattle.simjaldek_abi.specs.declared.DrawReply.{DrawReply}
use Rattle.simjaldek_abi.specs.declared.PointWords.{PointWords}
use Rattle.simjaldek_abi.specs.declared.PointsReply.{PointsReply}
use Rattle.simjaldek_abi.specs.declared.TokenReply.{TokenReply}
use Rattle.simjaldek_abi.specs.declared.TextReply.{TextReply}
use Rattle.simjaldek_abi.specs.declared.FormulaReply.{FormulaReply}
use Rattle.simjaldek_abi.specs.declared.RuleReply.{RuleReply}
use Rattle.simjaldek_abi.specs.declared.LogState.{LogState}
use Rattle.simjaldek_abi.specs.declared.LogReply.{LogReply}

-- 01, Turned back: the least applicable number counts. A number found before the call, else what the call answers
abbrev pub or_else : {A : Type 0} → ℕ → Outcome A → Outcome A
or_else number call = unless_refused number call (refused number)

-- ---- answers by numbers
-- 01, Turned back: only zeros beside a number of the table
abbrev pub refused_reply : ℕ → Reply
refused_reply number = record { refusal = number; kind = 0; a = 0; b = 0 }

-- an answer of this kind, with its numbers
abbrev pub reply : ℕ → ℕ → ℕ → Reply
reply kind a b = record { refusal = 0; kind = kind; a = a; b = b }

-- 01, Product search: nothing, two atoms, or an atom and a pair
abbrev pub product_reply : Outcome (Option Product) → Reply
product_reply (refused number) = refused_reply number
product_reply (answer none) = reply 0 0 0
product_reply (answer (some (Product.of_atoms a b))) = reply 1 a b
product_reply (answer (some (Product.of_pair a s))) = reply 2 a s

-- 01, Turned back: only zeros beside a number of the table
abbrev pub refused_residual : ℕ → ResidualReply
refused_residual number = record { refusal = number; kind = 0; gate = 0; a = 0; b = 0 }

-- an answer of this kind, with its gate's number and its slots
abbrev pub completed : ℕ → ℕ → ℕ → ℕ → ResidualReply
completed kind gate a b = record { refusal = 0; kind = kind; gate = gate; a = a; b = b }

-- 02, 2.1: nothing, two atoms, or an atom and a pair; the outer gate by its number
abbrev pub residual_reply : Outcome (Option Completion) → ResidualReply
residual_reply (refused number) = refused_residual number
residual_reply (answer none) = completed 0 0 0 0
residual_reply (answer (some (Completion.of_atoms g a b))) = completed 1 (gate_number g) a b
residual_reply (answer (some (Completion.of_pair g a s))) = completed 2 (gate_number g) a s

-- a number or none: 01, Also added, the least slot with a row; 01, Candidates, how many there are, or "not used"
abbrev pub option_reply : Outcome (Option ℕ) → Reply
option_reply (refused number) = refused_reply number
option_reply (answer none) = reply 0 0 0
option_reply (answer (some n)) = reply 1 n 0

-- a mark as a number
abbrev pub mark_of : Bool → ℕ
mark_of true = 1
mark_of false = 0

-- 01, Index: how many pairs are listed, and the mark "cut"
abbrev pub index_reply : Outcome BuiltIndex → Reply
index_reply (refused number) = refused_reply number
index_reply (answer s) = reply 0 s.pairs (mark_of s.cut)

-- a number: 01, Bank: how many atoms there are; 01, Also added: where the part of the row buffer begins that is handed back
abbrev pub number_reply : Outcome ℕ → Reply
number_reply (refused number) = refused_reply number
number_reply (answer n) = reply 0 n 0

-- 01, cobra-simd lib.rs: `gate_matches` compares all sixteen
abbrev pub match_reply : Outcome Bool → Reply
match_reply (refused number) = refused_reply number
match_reply (answer true) = reply 1 0 0
match_reply (answer false) = reply 0 0 0

-- ---- words, costs, rows and points
-- 01, Turned back: only zeros beside a number of the table
abbrev pub word_reply : Outcome ℕ → WordReply
word_reply (refused number) = record { refusal = number; word = 0 }
word_reply (answer word) = record { refusal = 0; word = word }

-- 01, Turned back: a cost record holds only zeros beside a number of the table
abbrev pub cost_reply : Outcome Cost → CostReply
cost_reply (refused number) = record { refusal = number; size = 0; products = 0; depth = 0 }
cost_reply (answer x) = record { refusal = 0; size = x.size; products = x.products; depth = x.depth }

-- a cost by its three numbers
abbrev pub cost_from : ℕ → ℕ → ℕ → Cost
cost_from size products depth = record { size = size; products = products; depth = depth }

-- a state of splitmix64 and its word
abbrev pub draw_reply : Draw → DrawReply
draw_reply x = record { state = x.state; word = x.word }

-- 01, Turned back: a row that a call hands back by value holds only zeros when turned back, beside the number
abbrev pub refused_row : ℕ → RowReply
refused_row number = record { refusal = number; row = replicate 16 0 }

abbrev pub row_reply : Outcome (List ℕ) → RowReply
row_reply (refused number) = refused_row number
row_reply (answer row) = record { refusal = 0; row = row }

-- the sixteen points beside their refusal, word by word
abbrev pub point_words : Point → PointWords
point_words p = record { words = p.words }

abbrev pub points_reply : Points → PointsReply
points_reply x = record { refusal = x.refusal; points = map point_words x.points }

-- 01, cobra-simd lib.rs: a gate on rows, or the row that completes one to a target
abbrev pub gate_call : Bool → Gate → ℕ → List ℕ → List ℕ → Outcome (List ℕ)
gate_call undo g w a b = cond undo (residual g w a b) (applied g w a b)

-- ---- tokens and texts
-- 01, From heap ..: opcodes 0 to 8, 255 for what is no token, and the operand
abbrev pub token_parts : ℕ → ℕ → TokenReply
token_parts opcode operand = record { opcode = opcode; operand = operand }

abbrev pub token_reply : Token → TokenReply
token_reply t = token_parts (opcode_of t) (operand_of t)

-- 02, 2.2: how many tokens were drawn, and the state handed on; beside a refusal no token, and the state as it was lent
abbrev pub formula_reply : ℕ → Outcome DrawnFormula → FormulaReply
formula_reply lent (refused number) = record { refusal = number; count = 0; state = lent }
formula_reply lent (answer x) = record { refusal = 0; count = x.count; state = x.state }

-- 02, 2.6: the state handed back
abbrev pub rule_reply : RuleReplied → RuleReply
rule_reply x = record { refusal = x.refusal; state = x.state.past }

-- 02, 2.7: a log out of its numbers: a sounding is open exactly if `open` isn't 0
abbrev pub log_of : LogState → Log
log_of s = record {
  begun = not (eqb s.«open» 0);
  shown = record { number = s.number; close = s.closed_at; rank = s.rank; later = s.later };
  windows = s.windows;
}

-- a log by its numbers, `open` 1 or 0
abbrev pub log_state : Log → LogState
log_state l = record {
  «open» = mark_of l.begun;
  rank = l.shown.rank;
  number = l.shown.number;
  closed_at = l.shown.close;
  later = l.shown.later;
  windows = l.windows;
}

-- 02, 2.7: the log handed back; beside a refusal as it was lent
abbrev pub log_reply : LogState → LogReplied → LogReply
log_reply lent x = record { refusal = x.refusal; log = unless_refused x.refusal (log_state x.log) lent }

-- how long the text is that a call wrote, and the reply of a refusal
abbrev pub text_reply : Outcome ℕ → TextReply
text_reply (refused number) = record { refusal = number; length = 0 }
text_reply (answer length) = record { refusal = 0; length = length }
