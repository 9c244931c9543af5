-- `text_parse::feed` meets its contract: after some bytes numbers and scan are the state of the text and these bytes of the part. Assumes nothing.
use Rattle.std.proofs.Common.{◌≡◌, ℕ, ◌+◌, ◌^◌, ◌<◌, List, ◌++◌, length, take}
use Rattle.text_parse.specs.Reading.{kept, Reads}
use Rattle.text_parse.specs.Steps.{joined}
use Rattle.text_parse.proofs.feed.Given as goal

abbrev pub invariant-loop-b : goal.invariant-loop-b
invariant-loop-b l =
    (length l.numbers ≡ kept)
    × ((text : List ℕ) → length text + length l.part < 2 ^ 64 → Reads (joined l.initial.numbers l.initial.s) text → Reads (joined l.numbers l.s) (text ++ take l.b-index l.part))
