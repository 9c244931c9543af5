-- `text_print::inner::decimal::put_eight` meets its contract: the lanes of a word that has the bytes of four pairs. Assumes nothing.
use borrow.Author.Rules.{rules}
use Rattle.text_print.proofs.Decimals.{then, reads}
use Rattle.text_print.proofs.Lanes.{eight_is}
use Rattle.text_print.proofs.inner.decimal.put_eight.Goals as goal

pub returns : goal.returns
returns c = let d = c.digits_of-w in
    let high = then c.put_lane-p.ensures.wrote c.put_lane-q.ensures.wrote in
    let low = then c.put_lane-s.ensures.wrote c.put_lane.ensures.wrote in record {
      wrote = reads (eight_is c.args.x d.result (search rules) d.ensures) (then high low);
      value = search rules;
    }
