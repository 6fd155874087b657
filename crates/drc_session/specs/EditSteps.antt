-- The steps of an edit.
use Rattle.std.specs.Prelude.{◌≡◌, ◌++◌, ℕ, ℤ, false, List, [], All}
use Rattle.geo_seg.specs.declared.boxes.Bounds.{Bounds}
use Rattle.geo_seg.specs.Boxes.{FitsIndex}
use Rattle.board_items.specs.Boards.{PlainBoard}
use Rattle.box_index.specs.Tiles.{PlainIndex, dirty_of}
use Rattle.kept_facts.specs.FactUpdates.{AreMarksBefore}
use Rattle.board_edits.specs.TouchedItems.{AreEdited}
use Rattle.drc_session.specs.declared.editing.Look.{Look}
use Rattle.drc_session.specs.declared.parts.Parts.{Parts}
use Rattle.drc_session.specs.SessionContents.{IsKeptOf}
use Rattle.drc_session.specs.Looks.{AreBoxesIn, HasNetsOf, AsksNone}

-- what is looked up of the items of the ids before an edit
pub record IsLook (board : PlainBoard) (ids : List ℕ) (reach : ℤ) (look : Look) : Type 0 where
  pub boxes : AreBoxesIn board ids look.boxes.items
  pub fit : All FitsIndex look.boxes.items
  pub nets : HasNetsOf board ids look.nets.items
  pub marks : AreMarksBefore board ids look.marks.items
  pub none : ids ≡ [] → look.marks.items ≡ []
  pub asks : look.asked ≡ false → AsksNone board ids reach

-- an edit of these ids was done to the board, and this was looked up before it; what else is held is still that of the board before it
pub record IsEditedFrom (old : PlainBoard) (parts : Parts) (ids : List ℕ) (look : Look) : Type 0 where
  pub edited : AreEdited old parts.board ids
  pub kept : IsKeptOf old parts
  pub looked : IsLook old ids parts.reach look

-- the tiles that meet these boxes, or those of the items of the ids as they are
pub record AreTilesNear (board : PlainBoard) (index : PlainIndex) (ids : List ℕ) (before : List Bounds) (tiles : List ℕ) : Type 0 where
  pub now : List Bounds
  pub boxes : AreBoxesIn board ids now
  pub tiles_are : tiles ≡ dirty_of index (before ++ now) false
