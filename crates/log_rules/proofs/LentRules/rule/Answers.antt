-- `log_rules::LentRules::rule` meets its contract: the 64 places from place 64 i on are part i. Assumes nothing.
use lib.ListN.{get_or}
use Rattle.arrays.proofs.Parts.{part_is}
use Rattle.log_rules.proofs.LentRules.rule.Goals as goal

pub returns : goal.returns
returns c = λ j. record {
  m = get_or c.args.self.now.ms.now c.args.i 0;
  window = get_or c.args.self.now.windows.now c.args.i 0;
  token_count = get_or c.args.self.now.token_counts.now c.args.i 0;
  ops = part_is 64 c.args.self.now.ops.now c.args.i j;
  operands = part_is 64 c.args.self.now.operands.now c.args.i j;
}
