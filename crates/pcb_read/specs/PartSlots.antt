-- Parts of the root that are read in blocks.
use Rattle.std.specs.Prelude.{◌≡◌, ◌<◌, ℕ, List, [], ◌++◌, length, map, slice_index_or}
use Rattle.sexpr_read.specs.Tree.{Tree}
use Rattle.sexpr_read.specs.TreeViews.{tree_of, trees_left}
use Rattle.pcb_read.specs.BoardOf.{Reading}
use Rattle.pcb_read.specs.declared.slot.Slot.{Slot}
use Rattle.pcb_read.specs.declared.slot.Ahead.{Ahead}
use Rattle.pcb_read.specs.declared.slot.Read.{Read}

-- the tree of the part
abbrev pub tree_in : Slot → Tree
tree_in slot = tree_of slot.node

-- the trees of the parts that are still to be read
abbrev pub trees_ahead : Ahead → List Tree
trees_ahead ahead = map tree_in ahead.block.items ++ trees_left ahead.left

-- as many parts as before, each the same, whatever was drafted of it
pub record AreSame (old new : List Slot) : Type 0 where
  pub long : length new ≡ length old
  pub each : (place : ℕ) (d : Slot) → place < length old → tree_in (slice_index_or new place d) ≡ tree_in (slice_index_or old place d)

-- these parts are ahead, and the block has none only where there is none
abbrev pub IsNext : List Tree → Ahead → Type 0
IsNext trees ahead = (trees_ahead ahead ≡ trees) × (ahead.block.items ≡ [] → trees ≡ [])

-- what was read so far
abbrev pub reading_of : Read → Reading
reading_of read = record { board = read.board; layered = read.layered }
