-- The nets that an edit touches.
use Rattle.std.specs.Prelude.{ℕ, List, Contains}
use Rattle.one_item.specs.declared.item.Item.{Item}
use Rattle.board_items.specs.Boards.{PlainBoard}
use Rattle.board_laws.specs.Edits.{WasOrIs}

-- among the nets is that of each item of the ids, as it was and as it is
pub record AreTouched (old new : PlainBoard) (ids nets : List ℕ) : Type 0 where
  pub all : (id : ℕ) (item : Item) → Contains ids id → WasOrIs old new id item → Contains nets item.net
