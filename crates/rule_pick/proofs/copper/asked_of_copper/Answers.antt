use Rattle.std.proofs.Common.{map}
use Rattle.int_algebra.proofs.Order.{le_trans}
use Rattle.cond_lang.specs.Rules.{plain_rule}
use Rattle.rule_pick.proofs.CopperAsked.{of_rules}
use Rattle.rule_pick.proofs.copper.asked_of_copper.Goals as goal

pub returns : goal.returns
returns c = record {
  by_rules = of_rules c.raised_by_rules.result.nm (map plain_rule c.args.rules.now) c.raised_by_rules.ensures.most;
  by_board = λ micro kind of. le_trans _ c.asked_by_board.result.nm c.raised_by_rules.result.nm (c.asked_by_board.ensures micro kind of) c.raised_by_rules.ensures.from;
}
