-- Boards that are the same but for ids and unit numbers.
use Rattle.std.specs.Prelude.{◌≡◌, ℕ, List, ◌↔◌, Some, Ok}
use Rattle.std.specs.List.{AllZip, slice_get}
use Rattle.one_item.specs.declared.item.Item.{Item}
use Rattle.board_items.specs.Boards.{PlainBoard}
use Rattle.pcb_read.specs.BoardText.{BoardSays}
use Rattle.edit_script.specs.Commands.{PlainCommand}
use Rattle.edit_script.specs.Fits.{AreShallow}
use Rattle.roundtrip_boards.specs.WrittenBoard.{IsWritten}

-- equal but for their units
abbrev pub IsSameItem : ℕ × Item → ℕ × Item → Type 0
IsSameItem a b = record a.1 { unit = 0 } ≡ record b.1 { unit = 0 }

pub record IsSame (a b : PlainBoard) : Type 0 where
  pub copper : a.copper ≡ b.copper
  pub nets : a.nets ≡ b.nets
  pub items : AllZip IsSameItem a.items b.items
  -- two items share a unit in the one exactly where they do in the other
  pub units : (i j : ℕ) (p q r s : ℕ × Item) → slice_get a.items i ≡ Some p → slice_get a.items j ≡ Some q → slice_get b.items i ≡ Some r → slice_get b.items j ≡ Some s
      → (p.1.unit ≡ q.1.unit) ↔ (r.1.unit ≡ s.1.unit)

-- reading the written text again gives the board after the commands, where no added list is too deep to stand in that of a board
abbrev pub IsReadBack : Type 0
IsReadBack = (text : List ℕ) (commands : List PlainCommand) (out : List ℕ) (last : PlainBoard) → AreShallow commands → IsWritten text commands out last → (again : PlainBoard) × BoardSays out (Ok again) × IsSame again last
