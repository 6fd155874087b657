-- The facts of all items of a board, by id.
use Rattle.std.specs.Prelude.{◌≡◌, ℕ, List, Option, Some, IsSome}
use Rattle.one_item.specs.declared.item.Item.{Item}
use Rattle.board_items.specs.Boards.{PlainBoard, item_at}
use Rattle.net_class.specs.NetClasses.{PlainClasses}
use Rattle.rule_pick.specs.declared.facts.Facts.{Facts}
use Rattle.rule_pick.specs.ById.{facts_at}
use Rattle.rule_pick.specs.FactsOf.{AreFacts}

-- whoever has facts is an item of the board and has its facts, and each item of the board has some
pub record HasFacts (board : PlainBoard) (classes : PlainClasses) (facts : List (Option Facts)) : Type 0 where
  pub right : (id : ℕ) (f : Facts) → facts_at facts id ≡ Some f → AreFacts board classes id f
  pub all : (id : ℕ) (item : Item) → item_at board.items id ≡ Some item → IsSome (facts_at facts id)
