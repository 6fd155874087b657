-- Which operations a board takes, and which are inverse.
use Rattle.std.specs.Prelude.{◌≡◌, true, [], ◌∷◌, map, ⊤}
use Rattle.board_items.specs.Back.{kept_entry, FitsBack}
use Rattle.board_items.specs.Boards.{PlainBoard}
use Rattle.board_items.specs.UnitMoves.{unit_stays}
use Rattle.part_read.specs.Ready.{AreReady}
use Rattle.board_edits.specs.declared.operation.Operation.{Operation}
use Rattle.board_edits.specs.declared.operation.Operation.TheVariants.{Nothing, Append, PutBack, TakeOut, Shift}
use Rattle.board_edits.specs.Operations.{PlainOperation, nothing, append, put_back, take_out, shift, After}

-- as the code has it
abbrev pub plain_operation : Operation → PlainOperation
plain_operation Nothing = nothing
plain_operation (Append items) = append items.items
plain_operation (PutBack items) = put_back (map kept_entry items.items)
plain_operation (TakeOut unit) = take_out unit
plain_operation (Shift unit dx dy) = shift unit dx dy

-- the board takes it: added items are of the unit that comes next, and a unit that is moved stays on the board
abbrev pub OperationFits : PlainBoard → PlainOperation → Type 0
OperationFits board nothing = Unit {0}
OperationFits board (append items) = AreReady board board.next_unit items
OperationFits board (put_back items) = FitsBack board items
OperationFits board (take_out unit) = Unit {0}
OperationFits board (shift unit dx dy) = unit_stays unit dx dy board.items ≡ true

-- no id and no unit number is given twice: a board that comes back goes on with those of the present
abbrev pub returned_board : PlainBoard → PlainBoard → PlainBoard
returned_board board now = record board { next_id = now.next_id; next_unit = now.next_unit }

-- made of the new board, it gives the old one, but for the numbers that come next
pub record IsInverseOperation (back : PlainOperation) (new old : PlainBoard) : Type 0 where
  pub fits : OperationFits new back
  pub leads : After new back (returned_board old new)

-- nothing is done, or no item is added
abbrev pub GivesNothing : PlainOperation → Type 0
GivesNothing nothing = ⊤
GivesNothing (append []) = ⊤
GivesNothing (append (item ∷ items)) = ⊥
GivesNothing (put_back items) = ⊥
GivesNothing (take_out unit) = ⊥
GivesNothing (shift unit dx dy) = ⊥

-- what leads back adds no items that are new
abbrev pub AddsNone : PlainOperation → Type 0
AddsNone (append items) = ⊥
AddsNone operation = Unit {0}
