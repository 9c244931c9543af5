-- The rules that are lent to the closing log, and what is refused of them. Assumes nothing.
use Rattle.std.specs.Prelude.{Bool, false, ◌||◌, List, ℕ, zero, suc, ◌*◌, ltb, eqb, length, get_or}
use Rattle.arrays.specs.Parts.{part_at}
use Rattle.limits.specs.Refusal.{refuse, outside_of, bad_count, bad_width}
use Rattle.expr.specs.Answers.{not_formula}
use Rattle.rule_run.specs.Window.{bad_window}

-- f holds somewhere below n
unfoldable pub any_below : ℕ → (ℕ → Bool) → Bool
any_below zero f = false
any_below (suc n) f = any_below n f || f n

-- ---- the rules
-- 02, 2.7: the windowed rules, 2.6's: M, W and a formula
pub record Rule : Type 0 where
  pub m : ℕ
  pub window : ℕ
  pub token_count : ℕ
  pub ops : List ℕ
  pub operands : List ℕ

-- S13: how many rules are claimed, and the arrays that hold them
pub record Rules : Type 0 where
  pub count : ℕ
  pub ranks : List ℕ
  pub ms : List ℕ
  pub windows : List ℕ
  pub token_counts : List ℕ
  pub ops : List ℕ
  pub operands : List ℕ

abbrev pub rules_in : ℕ → List ℕ → List ℕ → List ℕ → List ℕ → List ℕ → List ℕ → Rules
rules_in count ranks ms windows token_counts ops operands = record {
  count = count;
  ranks = ranks;
  ms = ms;
  windows = windows;
  token_counts = token_counts;
  ops = ops;
  operands = operands;
}

-- S13: per rule its rank, M, W, token count, 64 opcodes and 64 operands. The rank and the rule at place i
abbrev pub rank_of : Rules → ℕ → ℕ
rank_of rules i = get_or rules.ranks i 0

abbrev pub rule_in : List ℕ → List ℕ → List ℕ → List ℕ → List ℕ → ℕ → Rule
rule_in ms windows token_counts ops operands i = record {
  m = get_or ms i 0;
  window = get_or windows i 0;
  token_count = get_or token_counts i 0;
  ops = part_at 64 ops i;
  operands = part_at 64 operands i;
}

abbrev pub rule_at : Rules → ℕ → Rule
rule_at rules i = rule_in rules.ms rules.windows rules.token_counts rules.ops rules.operands i

-- ---- what is refused
-- 01, Turned back, 4: a lent array shorter than its count needs
unfoldable pub short_rules : Rules → Bool
short_rules rules =
    ltb (length rules.ranks) rules.count
    || (ltb (length rules.ms) rules.count
    || (ltb (length rules.windows) rules.count
    || (ltb (length rules.token_counts) rules.count
    || (ltb (length rules.ops) (64 * rules.count)
    || ltb (length rules.operands) (64 * rules.count)))))

-- S13: a bad formula, a bad M or W
abbrev pub bad_formula : ℕ → Rule → Bool
bad_formula nv r = not_formula nv r.token_count r.ops r.operands

abbrev pub bad_range : Rule → Bool
bad_range r = bad_window r.m r.window

-- 02, 2.7, Errors: two equal ranks: place i has the rank of an earlier one
abbrev pub same_rank : List ℕ → ℕ → Bool
same_rank ranks i = any_below i (λ (j : ℕ). eqb (get_or ranks j 0) (get_or ranks i 0))

-- 02, 2.7, Errors: 11 if no rule, more than eight, a rank outside 1 to 8 or two equal ranks
unfoldable pub bad_ranks : ℕ → List ℕ → Bool
unfolding any_below
bad_ranks count ranks = outside_of 1 8 count || any_below count (λ (i : ℕ). outside_of 1 8 (get_or ranks i 0) || same_rank ranks i)

-- 02, 2.7, Errors, after 01's 1, 2, 4 and 6, and 2.6's 10: 11. S13: the least first, over every claimed rule, a ninth too
unfoldable pub log_refusal : ℕ → ℕ → Rules → ℕ → List ℕ → ℕ
unfolding short_rules any_below bad_ranks
log_refusal nv w rules n records =
    refuse (bad_count nv) 1
    (refuse (bad_width w) 2
    (refuse (short_rules rules || ltb (length records) (nv * n)) 4
    (refuse (any_below rules.count (λ (i : ℕ). bad_formula nv (rule_at rules i))) 6
    (refuse (any_below rules.count (λ (i : ℕ). bad_range (rule_at rules i))) 10
    (refuse (bad_ranks rules.count rules.ranks) 11 0)))))
