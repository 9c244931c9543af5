-- 02, 2.2: what the program writes, buffer after buffer, is the text of the load, and it ends. Assumes nothing.
use Rattle.std.specs.Prelude.{◌≡◌, Bool, true, ◌&&◌, cond, List, [], ◌∷◌, ◌++◌, ℕ, ◌≤◌, leb, ltb, length}
use Rattle.text_parse.specs.Text.{load_many, read_text}
use Rattle.load_text.specs.declared.Load.{Load}
use Rattle.load_text.specs.Text.{load_text}
use Rattle.load_text.specs.Writing.{line_max, start_of, owed, part_of}

-- the load that is started of what was read owes the program's text of it
abbrev pub StartOwes : Type 0
StartOwes = (text : List ℕ) → owed (start_of (read_text load_many text)) ≡ load_text text

-- what the program writes into buffers of these lengths, one after the other, as long as a line is left: each time what `write_some` lays, which hands on the load
unfoldable pub written_in : Load → List ℕ → List ℕ
unfolding part_of
written_in l [] = []
written_in l (room ∷ more) = cond (ltb 0 l.left) ((part_of l room).text ++ written_in (part_of l room).load more) []

-- each buffer has room for a line
unfoldable pub long_enough : List ℕ → Bool
long_enough [] = true
long_enough (room ∷ more) = leb line_max room && long_enough more

-- as many buffers as lines suffice, and what is written in all is what is owed, nothing twice and nothing left out
abbrev pub BufferAfterBuffer : Type 0
BufferAfterBuffer = (l : Load) (rooms : List ℕ) → long_enough rooms ≡ true → l.left ≤ length rooms → written_in l rooms ≡ owed l

-- no call writes past its buffer
abbrev pub PartFits : Type 0
PartFits = (l : Load) (room : ℕ) → line_max ≤ room → length (part_of l room).text ≤ room
