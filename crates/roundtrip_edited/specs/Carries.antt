-- The list of a unit, as it is rewritten, and the items that the unit has become.
use Rattle.std.specs.Prelude.{◌≡◌, List, Option, Some}
use Rattle.std.specs.List.{AllZip}
use Rattle.sexpr_read.specs.declared.place.Span.{Span}
use Rattle.sexpr_read.specs.Tree.{Forest, Tree, branch}
use Rattle.one_item.specs.declared.item.Item.{Item}
use Rattle.roundtrip_text.specs.Pieces.{SameTrees}
use Rattle.roundtrip_lists.specs.Translated.{Shift}
use Rattle.roundtrip_lists.specs.Carried.{shift_of, Becomes}
use Rattle.pcb_read.specs.declared.sorts.Sort.{Sort}
use Rattle.pcb_read.specs.Sorts.{sort_of}
use Rattle.roundtrip_boards.specs.WrittenBoard.{moved_if}

-- the second list is the first one, moved if the unit was, and the items were moved with it
pub record Carries (sort : Sort) (t u : Tree) (items now : List Item) : Type 0 where
  pub shift : Option Shift
  pub old : Span
  pub new : Span
  pub inside : Forest
  pub within : Forest
  pub was : t ≡ branch old inside
  pub is : u ≡ branch new within
  pub is_sort : sort_of (branch old inside) ≡ Some sort
  pub same : SameTrees (moved_if shift inside) within
  pub become : AllZip (Becomes (shift_of shift)) items now
