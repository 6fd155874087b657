-- What a session holds while it runs.
use Rattle.std.specs.Prelude.{◌≡◌, ℤ, List}
use Rattle.plain_types.specs.Limits.{AreCounted}
use Rattle.plain_types.specs.Lengths.{IsLength}
use Rattle.board_items.specs.Boards.{PlainBoard}
use Rattle.rule_text.specs.RuleValues.{plain_rules}
use Rattle.net_class.specs.NetClasses.{PlainClasses}
use Rattle.cond_lang.specs.Rules.{PlainRule}
use Rattle.box_index.specs.Tiles.{PlainIndex}
use Rattle.board_index.specs.IndexedItems.{IsIndexOfItems}
use Rattle.rule_pick.specs.AllFacts.{HasFacts}
use Rattle.rule_pick.specs.Reach.{IsReach}
use Rattle.row_check.specs.RowsOfTile.{IsIndexOf}
use Rattle.pair_check.specs.Rows.{AreRows}
use Rattle.net_groups.specs.NetParts.{AreParts}
use Rattle.drc_state.specs.States.{State, checked_in}
use Rattle.drc_session.specs.declared.parts.Parts.{Parts}

-- the state that it is a session of
abbrev pub state_of : Parts → State
state_of parts = record { board = parts.board; classes = parts.classes; rules = plain_rules parts.rules }

-- the same with another board
abbrev pub state_with : PlainBoard → Parts → State
state_with board parts = record { board = board; classes = parts.classes; rules = plain_rules parts.rules }

-- the reach, from 0 to 500 mm, is how far checks of the board reach, and the index, of all its items, reaches as far
pub record IsReached (board : PlainBoard) (classes : PlainClasses) (rules : List PlainRule) (reach : ℤ) (index : PlainIndex) : Type 0 where
  pub value : IsReach board classes rules reach
  pub in_range : IsLength reach
  pub items : IsIndexOfItems board index
  pub as_far : index.reach ≡ reach

-- the facts, the index, the rows and the nets are those of this board, under the classes and the rules; the reach, from
-- 0 to 500 mm, is that of the index
pub record IsKeptOf (board : PlainBoard) (parts : Parts) : Type 0 where
  pub facts : HasFacts board parts.classes parts.facts
  pub index : IsIndexOf (checked_in (state_with board parts)) parts.index
  pub reach : parts.reach ≡ parts.index.reach
  pub in_range : IsLength parts.reach
  pub rows : AreRows (checked_in (state_with board parts)) parts.rows.items
  pub nets : AreParts board parts.nets.items
  pub few : AreCounted parts.rules.rules

-- they are those of the board that is edited
abbrev pub IsKept : Parts → Type 0
IsKept parts = IsKeptOf parts.board parts
