-- What the load program writes of a text. Assumes nothing.
use mathlib.Core.List.{List, flat_map}
use Rattle.std.specs.Prelude.{ℕ, get_or}
use Rattle.limits.specs.Refusal.{refuse, bad_count, bad_width}
use Rattle.text_parse.specs.Text.{load_many, read_text}
use Rattle.text_print.specs.Text.{formula_line, answer_of}
use Rattle.load_draw.specs.Draw.{bad_limit, load_from}

-- ---- 02, 2.2: the program reads seed, variable count, width, limit and n
abbrev pub seed_of : List ℕ → ℕ
seed_of ns = get_or ns 0 0

abbrev pub vars_of : List ℕ → ℕ
vars_of ns = get_or ns 1 0

abbrev pub width_of : List ℕ → ℕ
width_of ns = get_or ns 2 0

abbrev pub limit_of : List ℕ → ℕ
limit_of ns = get_or ns 3 0

abbrev pub many_of : List ℕ → ℕ
many_of ns = get_or ns 4 0

-- 02, 2.2, Errors, after 9: 1, 2, 6; the program's own arrays are never too short
unfoldable pub load_refusal : ℕ → ℕ → ℕ → ℕ
load_refusal nv w limit = refuse (bad_count nv) 1 (refuse (bad_width w) 2 (refuse (bad_limit limit) 6 0))

-- the numbers as they were read, also for n = 0
abbrev pub numbers_refusal : List ℕ → ℕ
numbers_refusal ns = load_refusal (vars_of ns) (width_of ns) (limit_of ns)

-- 02, 2.2: a program writes them in the listing's postfix form. The lines of a load of n
unfoldable pub lines_from : ℕ → ℕ → ℕ → ℕ → ℕ → List ℕ
unfolding load_from formula_line flat_map
lines_from nv w limit n s = flat_map formula_line (load_from nv w limit n s)

-- the lines that the numbers ask for
abbrev pub lines_for : List ℕ → List ℕ
lines_for ns = lines_from (vars_of ns) (width_of ns) (limit_of ns) (many_of ns) (seed_of ns)

-- 02, 2.2: it reads its numbers as the listing does, and tells a refusal as it does. What is written of what is read
unfoldable pub load_text : List ℕ → List ℕ
unfolding answer_of load_refusal lines_from load_many read_text
load_text text = answer_of numbers_refusal lines_for (read_text load_many text)
