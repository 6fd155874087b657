-- Items for which there is room.
use Rattle.std.proofs.Common.{◌≡◌, ℕ, ◌<◌, arith, [], true, ltb}
use Rattle.std.proofs.lemmas.Bool.{ltb-true, and_parts}
use Rattle.std.proofs.lemmas.List.Elements.{All-nil}
use Rattle.board_items.specs.Boards.{PlainBoard}
use Rattle.board_items.specs.ItemRefusals.{capacity_of}
use Rattle.part_read.specs.Ready.{IsReady, AreReady}
use Rattle.part_read.specs.Capacity.{has_capacity_after}

pub capacity_by : (found : ℕ) (board : PlainBoard) (unit : ℕ) → has_capacity_after found board unit ≡ true → (found < capacity_of board) × (unit < 4294967295)
capacity_by found board unit h =
    let both = and_parts (ltb found (capacity_of board)) (ltb unit 4294967295) h in
    (ltb-true found (capacity_of board) both.0, ltb-true unit 4294967295 both.1)

-- none need any
pub none_ready : (board : PlainBoard) (unit : ℕ) → AreReady board unit []
none_ready board unit = record { each = All-nil (IsReady board unit); capacity = omega arith; numbered = λ h. absurd (omega (arith, h)) }
