-- What one read of a reader does to a reading. Assumes nothing.
use Rattle.std.specs.Prelude.{ℕ, ◌+◌, ◌^◌, ◌<◌, List, [], ◌++◌, length, Some, None}
use Rattle.std.specs.Io.KnownBytes.{Consumes, IsAtEnd}
use Rattle.std.specs.declared.option.Option.{Option}
use Rattle.text_parse.specs.declared.Parse.{Parse}
use Rattle.text_parse.specs.Reading.{Reads}

-- of the bytes that the reader had left it took a part, and q is the reading p after that part
pub record TookPart (old new : Option (List ℕ)) (p q : Parse) : Type 0 where
  pub part : List ℕ
  pub took : Consumes old new part
  pub fed : (text : List ℕ) → length text + length part < 2 ^ 64 → Reads p text → Reads q (text ++ part)

-- it took none, and none is left
pub record Ended (old new : Option (List ℕ)) : Type 0 where
  pub took : Consumes old new []
  pub ended : IsAtEnd new

-- what one read does: the reading goes on, or it is at the text's end
abbrev pub ReadsOn : Option (List ℕ) → Option (List ℕ) → Parse → Option Parse → Type 0
ReadsOn old new p (Some q) = TookPart old new p q
ReadsOn old new p None = Ended old new
