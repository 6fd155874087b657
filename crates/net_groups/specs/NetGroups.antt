-- The groups of a net: what touching copper joins. All is said of the items of the net alone, so what happens to other nets
-- changes nothing.
use Rattle.std.specs.Prelude.{◌≡◌, ◌≢◌, ℕ, Bool, ◌&&◌, not, nat_eq, List, [], filter, Some, IsSome}
use Rattle.one_item.specs.declared.item.Item.{Item}
use Rattle.board_items.specs.Boards.{PlainBoard, item_at}
use Rattle.one_item.specs.CopperPairs.{CopperMeets}
use Rattle.net_groups.specs.StepChains.{Chain}
use Rattle.net_groups.specs.ConnectedClasses.{AreClasses}

-- the item is one of the net; net 0 is no net and has none
abbrev pub is_of_net : ℕ → Item → Bool
is_of_net net item = nat_eq item.net net && not (nat_eq net 0)

-- the items of the net with their ids
abbrev pub items_of : ℕ → List (ℕ × Item) → List (ℕ × Item)
items_of net items = filter (λ entry. is_of_net net entry.1) items

-- the id is that of an item with copper
pub record HasCopper (items : List (ℕ × Item)) (id : ℕ) : Type 0 where
  pub item : Item
  pub found : item_at items id ≡ Some item
  pub copper : item.copper ≢ []

-- the copper of the items of two ids meets, also by touching, on a layer that both share
pub record Touch (items : List (ℕ × Item)) (i j : ℕ) : Type 0 where
  pub a : Item
  pub b : Item
  pub first : item_at items i ≡ Some a
  pub second : item_at items j ≡ Some b
  pub meet : CopperMeets a b

-- the ids of the items with copper, put into groups by chains of touches
abbrev pub AreGroupsOf : List (ℕ × Item) → List (List ℕ) → Type 0
AreGroupsOf items groups = AreClasses (HasCopper items) (Chain (Touch items)) groups

-- the groups of a net of a board
abbrev pub AreGroups : PlainBoard → ℕ → List (List ℕ) → Type 0
AreGroups board net groups = AreGroupsOf (items_of net board.items) groups

-- the id is that of an item of the board
abbrev pub HasItem : PlainBoard → ℕ → Type 0
HasItem board id = IsSome (item_at board.items id)
