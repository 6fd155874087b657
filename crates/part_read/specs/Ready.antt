-- Items that a board takes.
use Rattle.std.specs.Prelude.{◌≡◌, ℕ, ◌<◌, ◌≤◌, true, List, length, All}
use Rattle.one_item.specs.declared.item.Item.{Item}
use Rattle.board_items.specs.Boards.{PlainBoard, is_admitted}
use Rattle.board_items.specs.ItemRefusals.{capacity_of}

-- it may stand on the board, as one of this unit
pub record IsReady (board : PlainBoard) (unit : ℕ) (item : Item) : Type 0 where
  pub admitted : is_admitted board item ≡ true
  pub of_unit : item.unit ≡ unit

-- all may, and the board has room for them and a number for their unit
pub record AreReady (board : PlainBoard) (unit : ℕ) (items : List Item) : Type 0 where
  pub each : All (IsReady board unit) items
  pub capacity : length items ≤ capacity_of board
  pub numbered : 0 < length items → unit < 4294967295
