-- What the lists that were added gave when they were added.
use Rattle.std.specs.Prelude.{ℕ, suc, List, [], ◌∷◌, None, Some, Ok}
use Rattle.sexpr_read.specs.Tree.{Tree}
use Rattle.one_item.specs.declared.item.Item.{Item}
use Rattle.board_items.specs.Boards.{PlainBoard}
use Rattle.pcb_read.specs.ItemText.{SaysList}
use Rattle.roundtrip_boards.specs.Roots.{SameLayersAndNets}
use Rattle.roundtrip_boards.specs.WrittenBoard.{Added}
use Rattle.roundtrip_boards.specs.Ledger.{Entry}

-- the board on which a list was read had the same layers and nets
pub record WasRead (ground : PlainBoard) (tree : Tree) (items : List Item) : Type 0 where
  pub board : PlainBoard
  pub same : SameLayersAndNets ground board
  pub says : SaysList board board.next_unit tree (Ok items)

-- the entries of the units that were added, from this number on
pub data AddedRead (ground : PlainBoard) : ℕ → List Added → List Entry → Type 0 where
  ends : {k : ℕ} → AddedRead ground k [] []
  nothing : {k : ℕ} {more : List Added} {es : List Entry} (tree : Tree) → WasRead ground tree [] → AddedRead ground k more es → AddedRead ground k (record { unit = None; tree = tree } ∷ more) es
  unit : {k : ℕ} {more : List Added} {es : List Entry} (tree : Tree) (e : Entry) → WasRead ground tree e.read → AddedRead ground (suc k) more es
      → AddedRead ground k (record { unit = Some k; tree = tree } ∷ more) (e ∷ es)
