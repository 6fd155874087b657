-- Private words of the search, which asks all items of a board: touches within a net.
use Rattle.std.specs.Prelude.{◌≡◌, ◌≢◌, ℕ, List, [], Some}
use Rattle.one_item.specs.declared.item.Item.{Item}
use Rattle.board_items.specs.Boards.{PlainBoard, item_at}
use Rattle.one_item.specs.CopperPairs.{CopperMeets}
use Rattle.net_groups.specs.StepChains.{Chain}
use Rattle.net_groups.specs.ConnectedClasses.{AreClasses}

-- the two items have the same net, which is one, and their copper meets
pub record Touching (a b : Item) : Type 0 where
  pub same_net : a.net ≡ b.net
  pub some_net : a.net ≢ 0
  pub meet : CopperMeets a b

-- the items of two ids of the board do so
pub record TouchOn (board : PlainBoard) (i j : ℕ) : Type 0 where
  pub a : Item
  pub b : Item
  pub first : item_at board.items i ≡ Some a
  pub second : item_at board.items j ≡ Some b
  pub touch : Touching a b

-- the id is that of an item of the net with copper
pub record IsConductor (board : PlainBoard) (net id : ℕ) : Type 0 where
  pub item : Item
  pub found : item_at board.items id ≡ Some item
  pub own_net : item.net ≡ net
  pub some_net : net ≢ 0
  pub copper : item.copper ≢ []

-- the groups of a net, said of the whole board
abbrev pub AreGroupsOn : PlainBoard → ℕ → List (List ℕ) → Type 0
AreGroupsOn board net groups = AreClasses (IsConductor board net) (Chain (TouchOn board)) groups
