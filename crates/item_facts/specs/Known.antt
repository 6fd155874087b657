-- Classes of nets that were found, and facts of items that were.
use Rattle.std.specs.Prelude.{◌≡◌, ◌⊎◌, ℕ, List, Option, Some, IsSome, nat_eq}
use Rattle.indexmap.specs.IndexMap.{IndexMap, get}
use denote.Ref.{Bor}
use Rattle.one_item.specs.declared.item.Item.{Item}
use Rattle.board_items.specs.Boards.{PlainBoard, IsRising, item_at}
use Rattle.net_class.specs.declared.lengths.Class.{Class}
use Rattle.net_class.specs.NetClasses.{PlainClasses}
use Rattle.net_class.specs.ClassValues.{plain_class}
use Rattle.rule_pick.specs.ById.{facts_at}
use Rattle.rule_pick.specs.FactsOf.{class_of_net, AreFacts}
use Rattle.rule_pick.specs.declared.facts.Facts.{Facts}

-- each net that is there has its class
pub record AreKnown {S : Type 0} (classes : PlainClasses) (board : PlainBoard) (known : IndexMap ℕ (Bor Class) S) : Type 0 where
  pub right : (net : ℕ) (c : Bor Class) → get nat_eq known net ≡ Some c → plain_class c.now ≡ class_of_net classes board net

-- the items that are left, of these
pub record AreLeft (items left : List (ℕ × Item)) : Type 0 where
  pub rising : IsRising left
  pub same : (id : ℕ) (item : Item) → item_at left id ≡ Some item → item_at items id ≡ Some item

-- all entries are right, and each item that is not left has one
pub record HasFactsSoFar (board : PlainBoard) (classes : PlainClasses) (left : List (ℕ × Item)) (facts : List (Option Facts)) : Type 0 where
  pub right : (id : ℕ) (f : Facts) → facts_at facts id ≡ Some f → AreFacts board classes id f
  pub all : (id : ℕ) (item : Item) → item_at board.items id ≡ Some item → (item_at left id ≡ Some item) ⊎ IsSome (facts_at facts id)
