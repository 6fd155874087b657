-- What the iterators over a board have still to give.
use Rattle.std.specs.Prelude.{ℕ, List}
use denote.Ref.{Bor}
use Rattle.one_item.specs.declared.item.Item.{Item}
use Rattle.board_items.specs.ItemSlots.{present, unit_items}
use Rattle.board_items.specs.Tags.{named_from}
use Rattle.board_items.specs.declared.walk.BoardIter.{BoardIter}
use Rattle.board_items.specs.declared.walk.UnitIter.{UnitIter}
use Rattle.board_items.specs.declared.walk.BoardNets.{BoardNets}
use Rattle.board_items.specs.declared.walk.NamedIter.{NamedIter}

-- an id with its item, and a number with its name
abbrev pub entry_of : ℕ × Bor Item → ℕ × Item
entry_of given = (given.0, given.1.now)

abbrev pub net_of : ℕ × Bor (List ℕ) → ℕ × List ℕ
net_of given = (given.0, given.1.now)

abbrev pub items_left : BoardIter → List (ℕ × Item)
items_left walk = present walk.first walk.slots.now

abbrev pub unit_left : UnitIter → List (ℕ × Item)
unit_left walk = unit_items walk.unit walk.first walk.slots.now

abbrev pub named_left : NamedIter → List (ℕ × Item)
named_left walk = named_from walk.name.now walk.first walk.slots.now

abbrev pub nets_left : BoardNets → List (ℕ × List ℕ)
nets_left walk = walk.nets
