-- The text of a load, buffer after buffer: what is still to be written, and what a call writes of it. Assumes nothing.
use Rattle.std.specs.Prelude.{◌≡◌, cond, List, [], ◌++◌, ℕ, zero, suc, ◌-◌, ◌≤◌, ◌<◌, ltb, length, Ok, Err}
use Rattle.std.specs.declared.result.Result.{Result}
use Rattle.std.proofs.Math.Option.{Option, none, some}
use Rattle.std.proofs.lemmas.List.Edits.{sets}
use Rattle.limits.specs.declared.Refusal.{Refusal}
use Rattle.limits.specs.declared.Refusal.TheVariants.{ShortArray}
use Rattle.limits.specs.Refusal.{unless_refused}
use Rattle.text_print.specs.Text.{formula_line, refused_line}
use Rattle.load_draw.specs.Draw.{formula_from}
use Rattle.load_text.specs.declared.Load.{Load}
use Rattle.load_text.specs.declared.LoadPart.{LoadPart}
use Rattle.load_text.specs.Text.{seed_of, vars_of, width_of, limit_of, many_of, load_refusal, numbers_refusal, lines_from}

-- 64 tokens of at most 21 bytes, each with room for a blank before it, and the line's end: no line is longer
abbrev pub line_max : ℕ
line_max = 1409

-- ---- loads
-- one that draws no formula: a number and the line that tells it, or, with 0 and 0, nothing
abbrev pub bare_load : ℕ → ℕ → Load
bare_load number left = record { number = number; state = 0; nv = 1; w = 1; limit = 1; left = left }

-- the load that the numbers of a text ask for
abbrev pub load_of : List ℕ → Load
load_of ns = record { number = 0; state = seed_of ns; nv = vars_of ns; w = width_of ns; limit = limit_of ns; left = many_of ns }

-- the load of what was read: a refusal's one line, or the lines of the numbers
abbrev pub start_of : Option (List ℕ) → Load
start_of none = bare_load 9 1
start_of (some ns) = unless_refused (numbers_refusal ns) (load_of ns) (bare_load (numbers_refusal ns) 1)

-- the load l further on
abbrev pub further : Load → ℕ → ℕ → Load
further l left state = record { number = 0; state = state; nv = l.nv; w = l.w; limit = l.limit; left = left }

-- what a load has still to write: where a line is left, that of its refusal, or all that are left; of a load that may not be drawn, which is never started, nothing
unfoldable pub owed : Load → List ℕ
unfolding load_refusal lines_from refused_line
owed l =
    cond (ltb 0 l.left)
    (cond (ltb 0 l.number) (refused_line l.number) (unless_refused (load_refusal l.nv l.w l.limit) (lines_from l.nv l.w l.limit l.left l.state) []))
    []

-- ---- a call
-- some lines, and how many are left after them from which state on
pub record Lines : Type 0 where
  pub text : List ℕ
  pub left : ℕ
  pub state : ℕ

abbrev pub after : List ℕ → Lines → Lines
after line f = record { text = line ++ f.text; left = f.left; state = f.state }

-- line after line, as long as one is left and there is room for the longest
unfoldable pub lines_in : ℕ → ℕ → ℕ → ℕ → ℕ → ℕ → Lines
unfolding formula_from formula_line
lines_in nv w limit room zero s = record { text = []; left = 0; state = s }
lines_in nv w limit room (suc n) s =
    let line : List ℕ = formula_line (formula_from nv w limit s).form in
    cond (ltb room line_max) (record { text = []; left = suc n; state = s }) (after line (lines_in nv w limit (room - length line) n (formula_from nv w limit s).state))

-- what a call writes, and the load that it hands on
pub record Part : Type 0 where
  pub text : List ℕ
  pub load : Load

abbrev pub lines_part : Load → Lines → Part
lines_part l f = record { text = f.text; load = further l f.left f.state }

unfoldable pub part_of : Load → ℕ → Part
unfolding load_refusal lines_in refused_line
part_of l room =
    cond (ltb 0 l.left)
    (cond (ltb 0 l.number)
    (record { text = refused_line l.number; load = bare_load 0 0 })
    (unless_refused (load_refusal l.nv l.w l.limit) (lines_part l (lines_in l.nv l.w l.limit room l.left l.state)) (record { text = []; load = bare_load 0 0 })))
    (record { text = []; load = l })

-- a buffer that is too short for a line is refused and stays as it is; else the text is laid from its start on
pub record WroteSome (l : Load) (out out' : List ℕ) (r : Result LoadPart Refusal) : Type 0 where
  pub short : length out < line_max → (r ≡ Err ShortArray) × (out' ≡ out)
  pub written : line_max ≤ length out
      → (r ≡ Ok (record { length = length (part_of l (length out)).text; load = (part_of l (length out)).load })) × (out' ≡ sets out 0 (part_of l (length out)).text)
