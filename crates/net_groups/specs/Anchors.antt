-- The anchors of a net: the places of its items where links may end. A track has two, at both of its ends; any other item has
-- one. They are nanometres, and shapes count half nanometres.
use Rattle.std.specs.Prelude.{◌≡◌, ℕ, ℤ, pos, ◌*ℤ◌, ◌⊎◌, List, [], ◌∷◌, Option, None, Some, Contains, slice_index_or}
use Rattle.geo_seg.specs.declared.points.Point.{Point}
use Rattle.geo_seg.specs.declared.shapes.Core.{Core}
use Rattle.geo_seg.specs.declared.shapes.Core.TheVariants.{Line, Area}
use Rattle.one_item.specs.declared.parts.Part.{Part}
use Rattle.one_item.specs.declared.item.What.{What}
use Rattle.one_item.specs.declared.item.What.TheVariants.{Track}
use Rattle.one_item.specs.declared.item.Item.{Item}
use Rattle.board_items.specs.Boards.{PlainBoard}
use Rattle.net_groups.specs.NetGroups.{items_of, HasCopper}
use Rattle.ratsnest.specs.declared.anchor.Anchor.{Anchor}
use Rattle.ratsnest.specs.NestOf.{AnchorsRise}

-- where a line ends
abbrev pub core_end : Core → Option Point
core_end (Line s) = Some s.b
core_end (Area corners) = None

-- where the copper of a track ends: it is one line, from the track's position to its other end
abbrev pub copper_end : List Part → Option Point
copper_end [] = None
copper_end (part ∷ parts) = core_end part.shape.core

-- the other end of a track
abbrev pub track_end : What → List Part → Option Point
track_end (Track width) copper = copper_end copper
track_end _ copper = None

-- the point in nanometres, so twice these are its coordinates
abbrev pub IsAnchorPoint : Option Point → ℤ → ℤ → Type 0
IsAnchorPoint None x y = ⊥
IsAnchorPoint (Some p) x y = (pos 2 *ℤ x ≡ p.x) × (pos 2 *ℤ y ≡ p.y)

-- the item has an anchor of this number there: number 0 at its position, and number 1 at the other end of a track
abbrev pub HasAnchor : Item → ℕ → ℤ → ℤ → Type 0
HasAnchor item number x y =
    ((number ≡ 0) × (x ≡ item.x) × (y ≡ item.y))
    ⊎ ((number ≡ 1) × IsAnchorPoint (track_end item.what item.copper) x y)

-- an anchor of a member of a group, which is an item with copper
pub record IsAnchor (items : List (ℕ × Item)) (groups : List (List ℕ)) (anchor : Anchor) : Type 0 where
  pub own : HasCopper items anchor.id
  pub member : Contains (slice_index_or groups anchor.group []) anchor.id
  pub place : HasAnchor own.item anchor.number anchor.x anchor.y

-- all anchors of the members of the groups, by rising id and number
pub record AreAnchorsOf (items : List (ℕ × Item)) (groups : List (List ℕ)) (anchors : List Anchor) : Type 0 where
  pub rise : AnchorsRise anchors
  pub only : (anchor : Anchor) → Contains anchors anchor → IsAnchor items groups anchor
  pub every : (anchor : Anchor) → IsAnchor items groups anchor → Contains anchors anchor

-- those of the groups of a net of a board: all is said of the items of the net alone, as for groups
abbrev pub AreAnchors : PlainBoard → ℕ → List (List ℕ) → List Anchor → Type 0
AreAnchors board net groups anchors = AreAnchorsOf (items_of net board.items) groups anchors
