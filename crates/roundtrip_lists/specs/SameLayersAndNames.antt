-- Two boards on which lists that are equal up to translation give the same.
use Rattle.std.specs.Prelude.{◌≡◌, ℕ}
use Rattle.board_items.specs.Boards.{PlainBoard, name_of}

-- both have the same copper layers, and a number names the same net on both
pub record SameLayersAndNames (board other : PlainBoard) : Type 0 where
  pub copper : other.copper ≡ board.copper
  pub names : (n : ℕ) → name_of board n ≡ name_of other n
