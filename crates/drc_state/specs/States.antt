-- What is edited: a board, under the classes of a project and rules.
use Rattle.board_items.specs.Boards.{PlainBoard}
use Rattle.net_class.specs.NetClasses.{PlainClasses}
use Rattle.rule_text.specs.RulesOf.{PlainRules}
use Rattle.pair_check.specs.Rows.{Checked}

pub record State : Type 0 where
  pub board : PlainBoard
  pub classes : PlainClasses
  pub rules : PlainRules

-- what of it is checked
abbrev pub checked_in : State → Checked
checked_in s = record { board = s.board; classes = s.classes; rules = s.rules.rules }
