-- `text_parse::keep` meets its contract: the place `count` gets the number, where there is one. Assumes nothing.
use Rattle.text_parse.proofs.Readings.{keeps-set, keeps-full}
use Rattle.text_parse.proofs.keep.Goals as goal

pub returns-then-count-numbers : goal.returns-then-count-numbers
returns-then-count-numbers c = let a = c.args in λ done long k. keeps-set a.numbers.now done a.count a.value c.if-count-numbers.true long k

pub returns-else-count-numbers : goal.returns-else-count-numbers
returns-else-count-numbers c = let a = c.args in λ done long k. keeps-full a.numbers.now done a.count a.value c.if-count-numbers.false long k
