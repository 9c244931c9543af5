-- What the contracts of src/inner.rt cite, beside specs/Writing. Assumes nothing.
use Rattle.std.specs.Prelude.{◌≡◌, List, [], ℕ, ◌<◌, length}
use Rattle.text_print.specs.Printing.{Wrote}
use Rattle.load_text.specs.declared.Load.{Load}
use Rattle.load_text.specs.declared.LoadPart.{LoadPart}
use Rattle.load_text.specs.Text.{load_refusal}
use Rattle.load_text.specs.Writing.{Part, bare_load, lines_in, lines_part}

-- the part is written from the buffer's start on, and the answer is its length and its load
pub record Answers (part : Part) (out out' : List ℕ) (r : LoadPart) : Type 0 where
  pub wrote : Wrote out 0 out' r.length part.text
  pub load : r.load ≡ part.load

-- the lines of l that there is room for
abbrev pub WroteLines : Load → List ℕ → List ℕ → LoadPart → Type 0
WroteLines l out out' r = Answers (lines_part l (lines_in l.nv l.w l.limit (length out) l.left l.state)) out out' r

-- the same of a load that may be drawn, and nothing of any other
pub record WroteFit (l : Load) (out out' : List ℕ) (r : LoadPart) : Type 0 where
  pub lines : load_refusal l.nv l.w l.limit ≡ 0 → WroteLines l out out' r
  pub nothing : 0 < load_refusal l.nv l.w l.limit → Answers (record { text = []; load = bare_load 0 0 }) out out' r
